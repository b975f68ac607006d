-- Each call of a framer reads on in its run.
use Rattle.std.specs.List.{flat_map}
use Rattle.osdp_frame_laws.proofs.Common.{All, IsTrue, if◌then◌else◌, ◌≡◌, ℕ, zero, suc, ◌+◌, ◌<◌, ◌≤◌, Bool, true, false, not, ◌&&◌, eqb, List, [], ◌∷◌, ◌++◌, length, take, drop, Option, Some, None, option_to_list, refl, sym, ap, subst, ◌∙◌, append_assoc, arith, false≢true, eqb-true, eq-eqb, length-append, length-drop, append-nil, drop-append-le, drop-drop, length-take-le, AreBytes, largest, RunItem, item_size, total_size, Stands, IsReading, IsFirst, reading, Held, after_gap, after_push, after_first, decided, new_run, taken_count, AreBytes-append, AreBytes-drop, AreBytes-nil, AreBytes-take, first_decided, stands_first, undecided_none, AreBytes-front, undecided_ended}
use Rattle.std.proofs.lemmas.Bool.Decides.{nat_tests}
use Rattle.std.proofs.lemmas.List.Elements.{All-nil, All-cons, All-head, All-tail}
use Rattle.osdp_frame_laws.specs.Calls.{Call, Push, Gap, Advance, IsAfter, IsOfBytes, IsRead, ReadsEachRun, ReadsOn, Run, after_call, after_calls, bytes_taken, empty_run, is_over, items_taken, last_run, run_after, runs_over}
use Rattle.osdp_frame_laws.proofs.LeftOver.{total_size-append}
use Rattle.osdp_frame_laws.proofs.Readings.{is_reading, one_reading, item_size-Stands, sizes_reading, undecided_small}

pub new_after : IsAfter new_run empty_run
new_after = record { ended = refl; not_over = refl; left = refl; reads = λ more others none r. r }

AreBytes-held : (held : Held) (run : Run) → IsAfter held run → AreBytes run.bytes → AreBytes held.bytes
AreBytes-held held run b fits = subst (λ l. AreBytes l) (sym b.left) (AreBytes-drop (total_size run.parts) run.bytes fits)

-- no more is taken off than has come
within : (held : Held) (run : Run) → IsAfter held run → AreBytes run.bytes → total_size run.parts ≤ length run.bytes
within held run b fits =
    let others = reading (held.bytes ++ []) in
    let bytes : AreBytes (held.bytes ++ []) =
    subst (λ l. AreBytes l) (sym (append-nil held.bytes)) (AreBytes-held held run b fits) in
    let whole = b.reads [] others (λ _. refl) (is_reading (held.bytes ++ []) bytes) in
    let all = sizes_reading (run.bytes ++ []) (run.parts ++ others) whole in
    omega (arith, total_size-append run.parts others, length-append {A = ℕ} run.bytes [])

length-held : (held : Held) (run : Run) → IsAfter held run → AreBytes run.bytes
    → total_size run.parts + length held.bytes ≡ length run.bytes
length-held held run b fits =
    omega (arith, within held run b fits, ap length b.left, length-drop (total_size run.parts) run.bytes)

both_true : (a b : Bool) → (a && b) ≡ true → (a ≡ true) × (b ≡ true)
both_true true b e = (refl, e)
both_true false b e = absurd (false≢true e)

-- what a run that is over says of its sizes
over_sizes : (run : Run) → is_over run ≡ true → (run.ended ≡ true) × (total_size run.parts ≡ length run.bytes)
over_sizes run is =
    let both = both_true run.ended (eqb (total_size run.parts) (length run.bytes)) is in
    (both.0, eqb-true _ _ both.1)

is_over-sizes : (run : Run) → run.ended ≡ true → total_size run.parts ≡ length run.bytes → is_over run ≡ true
is_over-sizes run ended sizes = ap (λ e. e && eqb (total_size run.parts) (length run.bytes)) ended ∙ eq-eqb _ _ sizes

-- a run that has ended and is not over has bytes left
some_left : (run : Run) (left : ℕ) → run.ended ≡ true → is_over run ≡ false → total_size run.parts + left ≡ length run.bytes
    → 0 < left
some_left run zero ended not_over size =
    let all : total_size run.parts ≡ length run.bytes = omega arith in
    absurd (false≢true (sym not_over ∙ is_over-sizes run ended all))
some_left run (suc left) ended not_over size = omega arith

nil_of : (l : List ℕ) → length l ≤ 0 → l ≡ []
nil_of [] h = refl
nil_of (x ∷ l) h = absurd (omega arith)

-- ---- a push

nothing_taken : (held : Held) (given : List ℕ) → held.ended ≡ true → take (taken_count held given) given ≡ []
nothing_taken held given is = ap (λ e. take (taken_count (record held { ended = e }) given) given) is

-- it leaves a run that is not over so
push_never_ends : (given : List ℕ) (held : Held) (run : Run) → IsAfter held run
    → is_over (run_after (Push given) held run) ≡ true → ⊥
push_never_ends given held run b is =
    let sizes = over_sizes (run_after (Push given) held run) is in
    let same : run.bytes ++ take (taken_count held given) given ≡ run.bytes =
    ap (λ l. run.bytes ++ l) (nothing_taken held given (b.ended ∙ sizes.0)) ∙ append-nil run.bytes in
    false≢true (sym b.not_over ∙ is_over-sizes run sizes.0 (sizes.1 ∙ ap length same))

push_reads : (given : List ℕ) (held : Held) (run : Run) → IsAfter held run → AreBytes run.bytes → ReadsOn (Push given) held run
push_reads given held run b fits =
    let taken = take (taken_count held given) given in
    let none_taken : run.ended ≡ true → taken ≡ [] = λ h. nothing_taken held given (b.ended ∙ h) in
    record {
      on = λ not_over. record {
        ended = b.ended;
        not_over = not_over;
        left = ap (λ l. l ++ taken) b.left ∙ sym (drop-append-le (total_size run.parts) run.bytes taken (within held run b fits));
        reads = λ more others none r.
            let whole : IsReading (held.bytes ++ (taken ++ more)) others =
            subst (λ l. IsReading l others) (append_assoc held.bytes taken more) r in
            let nothing : IsTrue run.ended → taken ++ more ≡ [] = λ h. ap (λ l. l ++ more) (none_taken h) ∙ none h in
            subst (λ l. IsReading l (run.parts ++ others)) (sym (append_assoc run.bytes taken more))
            (b.reads (taken ++ more) others nothing whole);
      };
      over = λ is. absurd (push_never_ends given held run b is);
      new = λ is. absurd (push_never_ends given held run b is);
    }

-- ---- a gap

not_zero : (n : ℕ) → 0 < n → not (eqb n 0) ≡ true
not_zero n h = grind (arith, nat_tests)

-- at the end of what is held the reading is over
read_whole : (held : Held) (run : Run) (others : List RunItem) → IsAfter held run → IsReading held.bytes others
    → IsReading run.bytes (run.parts ++ others)
read_whole held run others b r =
    subst (λ l. IsReading l (run.parts ++ others)) (append-nil run.bytes)
    (b.reads [] others (λ _. refl) (subst (λ l. IsReading l others) (sym (append-nil held.bytes)) r))

gap_reads : (held : Held) (run : Run) → IsAfter held run → AreBytes run.bytes → ReadsOn Gap held run
gap_reads held run b fits =
    let size = length-held held run b fits in
    let next = run_after Gap held run in
    let none : is_over next ≡ true → held.bytes ≡ [] = λ is. nil_of held.bytes (omega (arith, (over_sizes next is).1)) in
    record {
      on = λ not_over. record {
        ended = not_zero (length held.bytes) (some_left next (length held.bytes) refl not_over size);
        not_over = not_over;
        left = b.left;
        reads = λ more others nothing r. b.reads more others (λ _. nothing refl) r;
      };
      over = λ is. subst (λ xs. IsReading run.bytes xs) (append-nil run.parts) (read_whole held run [] b (none is));
      new = λ is. ap (λ l. after_gap (record held { bytes = l })) (none is);
    }

-- ---- an advance

stays_ended : (ended : Bool) (left : ℕ) → (ended ≡ true → 0 < left) → (ended && not (eqb left 0)) ≡ ended
stays_ended true left some = not_zero left (some refl)
stays_ended false left some = refl

advance_reads : (held : Held) (run : Run) → IsAfter held run → AreBytes run.bytes → ReadsOn Advance held run
advance_reads held run b fits =
    let r = by_item (decided held.ended held.bytes) refl in
    record { on = r.0; over = r.1; new = r.2 }
  where
    next : Option RunItem → Run
    next o = record run { parts = run.parts ++ option_to_list o }

    -- a run's end, or its next item
    Reads : Option RunItem → Type 0
    Reads o =
        (is_over (next o) ≡ false → IsAfter (after_first held o) (next o))
        × (is_over (next o) ≡ true → IsReading run.bytes (next o).parts)
        × (is_over (next o) ≡ true → after_first held o ≡ new_run)

    by_item : (o : Option RunItem) → decided held.ended held.bytes ≡ o → Reads o
    by_item None is =
        let same : run.parts ++ [] ≡ run.parts = append-nil run.parts in
        let never : is_over (next None) ≡ true → ⊥ =
        λ over. false≢true (sym b.not_over ∙ sym (ap (λ xs. is_over (record run { parts = xs })) same) ∙ over) in (
          λ not_over. subst (λ xs. IsAfter held (record run { parts = xs })) (sym same) b,
          λ over. absurd (never over),
          λ over. absurd (never over),
        )
    by_item (Some part) is =
        let k = item_size part in
        let rest = drop k held.bytes in
        let first : IsFirst held.ended held.bytes part =
        first_decided held.ended held.bytes part (AreBytes-held held run b fits) is in
        let stands : Stands held.bytes part = stands_first held.ended held.bytes part first in
        let short : k ≤ length held.bytes = item_size-Stands held.bytes part stands in
        let total : total_size run.parts + k ≡ total_size (run.parts ++ part ∷ []) =
        omega (arith, total_size-append run.parts (part ∷ [])) in
        let size : total_size (run.parts ++ part ∷ []) + length rest ≡ length run.bytes =
        omega (arith, length-held held run b fits, length-drop k held.bytes) in
        let none : is_over (next (Some part)) ≡ true → rest ≡ [] =
        λ over. nil_of rest (omega (arith, (over_sizes (next (Some part)) over).1)) in (
          λ not_over. record {
            ended =
                stays_ended held.ended (length rest) (λ e. some_left (next (Some part)) (length rest) (sym b.ended ∙ e) not_over size)
                ∙ b.ended;
            not_over = not_over;
            left = ap (drop k) b.left ∙ drop-drop k (total_size run.parts) run.bytes ∙ ap (λ n. drop n run.bytes) total;
            reads = λ more others nothing r.
                let there : IsReading (drop k (held.bytes ++ more)) others =
                subst (λ l. IsReading l others) (sym (drop-append-le k held.bytes more short)) r in
                subst (λ xs. IsReading (run.bytes ++ more) xs) (sym (append_assoc run.parts (part ∷ []) others))
                (b.reads more (part ∷ others) nothing (first more (λ e. nothing (sym b.ended ∙ e)), there));
          },
          λ over. read_whole held run (part ∷ []) b (stands, none over),
          λ over.
              let ended : held.ended ≡ true = b.ended ∙ (over_sizes (next (Some part)) over).0 in
              λ i. record { bytes = none over i; ended = ended i && not (eqb (length (none over i)) 0) },
        )

pub reads_on : (call : Call) (held : Held) (run : Run) → IsAfter held run → AreBytes run.bytes → ReadsOn call held run
reads_on (Push given) held run b fits = push_reads given held run b fits
reads_on Gap held run b fits = gap_reads held run b fits
reads_on Advance held run b fits = advance_reads held run b fits

-- ---- one call after the other

AreBytes-taken : (call : Call) (held : Held) (run : Run) → IsOfBytes call → AreBytes run.bytes
    → AreBytes (run_after call held run).bytes
AreBytes-taken (Push given) held run given_fit fits =
    AreBytes-append run.bytes (take (taken_count held given) given) fits (AreBytes-take (taken_count held given) given given_fit)
AreBytes-taken Gap held run given_fit fits = fits
AreBytes-taken Advance held run given_fit fits = fits

-- the same from each place
record ReadsFrom (calls : List Call) (held : Held) (run : Run) : Type 0 where
  over : All IsRead (runs_over calls held run)
  last : IsAfter (after_calls calls held) (last_run calls held run)

-- after the first call the run is over, or goes on
reads_first : (call : Call) (calls : List Call) (held : Held) (run : Run) → ReadsOn call held run
    → AreBytes (run_after call held run).bytes
    → ((later : Held) (next : Run) → IsAfter later next → AreBytes next.bytes → ReadsFrom calls later next)
    → ReadsFrom (call ∷ calls) held run
reads_first call calls held run here fits from =
    let both = by_end (is_over (run_after call held run)) refl in
    record { over = both.0; last = both.1 }
  where
    next : Run
    next = run_after call held run

    later : Held
    later = after_call call held

    Reads : Bool → Type 0
    Reads t =
        All IsRead ((if t then next ∷ [] else []) ++ runs_over calls later (if t then empty_run else next))
        × IsAfter (after_calls calls later) (last_run calls later (if t then empty_run else next))

    by_end : (t : Bool) → is_over next ≡ t → Reads t
    by_end true is =
        let tail : ReadsFrom calls later empty_run =
        subst (λ h. ReadsFrom calls h empty_run) (sym (here.new is)) (from new_run empty_run new_after AreBytes-nil) in
        (All-cons IsRead next (runs_over calls later empty_run) (here.over is) tail.over, tail.last)
    by_end false is =
        let tail = from later next (here.on is) fits in
        (tail.over, tail.last)

reads_from : (calls : List Call) (held : Held) (run : Run) → All IsOfBytes calls → IsAfter held run → AreBytes run.bytes
    → ReadsFrom calls held run
reads_from [] held run of_bytes b fits = record { over = All-nil _; last = b }
reads_from (call ∷ calls) held run of_bytes b fits =
    reads_first call calls held run (reads_on call held run b fits)
    (AreBytes-taken call held run (All-head IsOfBytes call calls of_bytes) fits)
    (λ later next is fit. reads_from calls later next (All-tail IsOfBytes call calls of_bytes) is fit)

-- what each call adds to its run is what all of them add to their runs
parts_of_runs : {X : Type 0} (of : Run → List X) (by : Call → Held → List X) (by_calls : List Call → Held → List X)
    → of empty_run ≡ [] → ((call : Call) (held : Held) (run : Run) → of (run_after call held run) ≡ of run ++ by call held)
    → ((held : Held) → by_calls [] held ≡ [])
    → ((call : Call) (calls : List Call) (held : Held)
    → by_calls (call ∷ calls) held ≡ by call held ++ by_calls calls (after_call call held))
    → (calls : List Call) (held : Held) (run : Run)
    → flat_map of (runs_over calls held run) ++ of (last_run calls held run) ≡ of run ++ by_calls calls held
parts_of_runs of by by_calls empty step none some [] held run = sym (ap (λ l. of run ++ l) (none held) ∙ append-nil (of run))
parts_of_runs of by by_calls empty step none some (call ∷ calls) held run =
    by_end (is_over (run_after call held run))
    (λ next. parts_of_runs of by by_calls empty step none some calls (after_call call held) next)
    ∙ ap (λ l. l ++ by_calls calls (after_call call held)) (step call held run)
    ∙ append_assoc (of run) (by call held) (by_calls calls (after_call call held))
    ∙ ap (λ l. of run ++ l) (sym (some call calls held))
  where
    next : Run
    next = run_after call held run

    later : Held
    later = after_call call held

    by_end : (t : Bool)
        → ((next : Run)
        → flat_map of (runs_over calls later next) ++ of (last_run calls later next) ≡ of next ++ by_calls calls later)
        → flat_map of ((if t then next ∷ [] else []) ++ runs_over calls later (if t then empty_run else next))
        ++ of (last_run calls later (if t then empty_run else next))
        ≡ of next ++ by_calls calls later
    by_end true tail =
        append_assoc (of next) (flat_map of (runs_over calls later empty_run)) (of (last_run calls later empty_run))
        ∙ ap (λ l. of next ++ l) (tail empty_run ∙ ap (λ l. l ++ by_calls calls later) empty)
    by_end false tail = tail next

taken_in : Call → Held → List ℕ
taken_in (Push given) held = take (taken_count held given) given
taken_in _ held = []

taken_in-run : (call : Call) (held : Held) (run : Run) → (run_after call held run).bytes ≡ run.bytes ++ taken_in call held
unfolding taken_in
taken_in-run (Push given) held run = refl
taken_in-run _ held run = sym (append-nil run.bytes)

taken_in-calls : (call : Call) (calls : List Call) (held : Held)
    → bytes_taken (call ∷ calls) held ≡ taken_in call held ++ bytes_taken calls (after_call call held)
unfolding taken_in
taken_in-calls (Push given) calls held = refl
taken_in-calls _ calls held = refl

taken_off : Call → Held → List RunItem
taken_off Advance held = option_to_list (decided held.ended held.bytes)
taken_off _ held = []

taken_off-run : (call : Call) (held : Held) (run : Run) → (run_after call held run).parts ≡ run.parts ++ taken_off call held
unfolding taken_off
taken_off-run Advance held run = refl
taken_off-run _ held run = sym (append-nil run.parts)

taken_off-calls : (call : Call) (calls : List Call) (held : Held)
    → items_taken (call ∷ calls) held ≡ taken_off call held ++ items_taken calls (after_call call held)
unfolding taken_off
taken_off-calls Advance calls held = refl
taken_off-calls _ calls held = refl

pub reads_each_run : (calls : List Call) → All IsOfBytes calls → ReadsEachRun calls
reads_each_run calls of_bytes =
    let from = reads_from calls new_run empty_run of_bytes new_after AreBytes-nil in record {
      bytes =
          parts_of_runs (λ run. run.bytes) taken_in bytes_taken refl taken_in-run (λ held. refl) taken_in-calls calls new_run empty_run;
      items =
          parts_of_runs (λ run. run.parts) taken_off items_taken refl taken_off-run (λ held. refl) taken_off-calls calls new_run empty_run;
      over = from.over;
      last = from.last;
    }

-- ---- what a run may become

pub items_begin : (held : Held) (run : Run) (more : List ℕ) (all : List RunItem) → IsAfter held run → AreBytes (run.bytes ++ more)
    → (IsTrue run.ended → more ≡ []) → IsReading (run.bytes ++ more) all
    → (others : List RunItem) × (all ≡ run.parts ++ others) × IsReading (held.bytes ++ more) others
items_begin held run more all b fits nothing r =
    let front = AreBytes-front run.bytes more fits in
    let left : drop (total_size run.parts) (run.bytes ++ more) ≡ held.bytes ++ more =
    drop-append-le (total_size run.parts) run.bytes more (within held run b front) ∙ ap (λ l. l ++ more) (sym b.left) in
    let bytes : AreBytes (held.bytes ++ more) =
    subst (λ l. AreBytes l) left (AreBytes-drop (total_size run.parts) (run.bytes ++ more) fits) in
    let others = reading (held.bytes ++ more) in
    let there : IsReading (held.bytes ++ more) others = is_reading (held.bytes ++ more) bytes in
    (others, one_reading (run.bytes ++ more) all (run.parts ++ others) r (b.reads more others nothing there), there)

-- ---- how many bytes are taken

pub count_within : (held : Held) (given : List ℕ) → taken_count held given ≤ length given
count_within held given = by_end held.ended
  where
    by_end : (e : Bool) → taken_count (record held { ended = e }) given ≤ length given
    by_end true = omega arith
    by_end false = omega arith

length-pushed : (held : Held) (given : List ℕ)
    → length (after_push held given).bytes ≡ length held.bytes + taken_count held given
length-pushed held given =
    let count = taken_count held given in
    omega (arith, length-append held.bytes (take count given), length-take-le count given (count_within held given))

count_fits : (held : Held) (given : List ℕ) → length held.bytes ≤ largest → length held.bytes + taken_count held given ≤ largest
count_fits held given room = by_end held.ended
  where
    by_end : (e : Bool) → length held.bytes + taken_count (record held { ended = e }) given ≤ largest
    by_end true = omega arith
    by_end false = omega arith

pub keeps_room : (call : Call) (held : Held) → length held.bytes ≤ largest → length (after_call call held).bytes ≤ largest
keeps_room (Push given) held room = omega (arith, length-pushed held given, count_fits held given room)
keeps_room Gap held room = room
keeps_room Advance held room = by_item (decided held.ended held.bytes)
  where
    by_item : (o : Option RunItem) → length (after_first held o).bytes ≤ largest
    by_item None = room
    by_item (Some part) = omega (arith, length-drop (item_size part) held.bytes)

pub takes_all : (held : Held) (given : List ℕ) → held.ended ≡ false → length held.bytes ≤ largest
    → taken_count held given < length given → length (after_push held given).bytes ≡ largest
takes_all held given on room fewer =
    let count : taken_count held given ≡ taken_count (record held {
      ended =
          false;
    }) given = ap (λ e. taken_count (record held { ended = e }) given) on in
    omega (arith, length-pushed held given)

pub takes_some : (held : Held) (run : Run) (b : ℕ) (given : List ℕ) → IsAfter held run → AreBytes run.bytes
    → decided held.ended held.bytes ≡ None → 0 < taken_count held (b ∷ given)
takes_some held run b given is fits none = by_end held.ended refl
  where
    by_end : (e : Bool) → held.ended ≡ e → 0 < taken_count (record held { ended = e }) (b ∷ given)
    by_end true ended =
        let undecided : decided true held.bytes ≡ None = sym (ap (λ e. decided e held.bytes) ended) ∙ none in
        let nil = undecided_ended held.bytes (undecided_none true held.bytes undecided) in
        let some = some_left run (length held.bytes) (sym is.ended ∙ ended) is.not_over (length-held held run is fits) in
        absurd (omega (arith, ap length nil))
    by_end false on =
        let small = undecided_small held.bytes (sym (ap (λ e. decided e held.bytes) on) ∙ none) in
        omega arith
