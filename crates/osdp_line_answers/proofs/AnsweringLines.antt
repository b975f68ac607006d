-- An input that is read piece by piece, to its end.
use Rattle.osdp_line_answers.proofs.Common.{◌≡◌, ◌≢◌, ℕ, ◌+◌, ◌≤◌, Bool, false, List, [], ◌∷◌, ◌++◌, length, length-append, Option, Result, Ok, Err, IsErrAnd, refl, sym, subst, ap, ◌∙◌, arith, append-nil, Appends-nil, Appends-trans, Consumes-nil, Consumes-kept, Consumes-trans, Consumes, Keeps, ToolFault, TooLong, ReadFailed, WriteFailed, NoMemory, Answering, Speaks, heard, AllAnswered, Ends, SomeAnswered, EndsLine, CarriesOn, HasAnswered, ReadAll, ReadSome, Reads, Step, StopsIn, on_err}
use Rattle.osdp_tool_streams.specs.Cut.{ended_after, unended_after, ended_lines, last_line, lines_of, unended_line}
use Rattle.osdp_line_answers.proofs.Speaking.{spoke_more}
use Rattle.osdp_line_answers.proofs.Stopping.{all_written, follows_none, goes_both, more_lines, part_written, stops_further, stops_kept}

-- ---- pieces

pub read_more : {M : Type 0} (answers : Answering M) (old mid new : M) (line middle next piece : List ℕ) (ib i1 i2 before between after : Option (List ℕ)) (count : ℕ)
    → (so_far : ReadAll answers old line mid middle ib i1 before between) → count ≤ length so_far.read
    → Consumes i1 i2 piece → 1 ≤ length piece → CarriesOn answers piece mid middle between new next after
    → (all : ReadAll answers old line new next ib i2 before after) × (count + 1 ≤ length all.read)
read_more answers old mid new line middle next piece ib i1 i2 before between after count so_far counted taken some goes = (
  record {
    read = so_far.read ++ piece;
    taken = Consumes-trans ib i1 i2 so_far.read piece so_far.taken taken;
    goes = goes_both answers so_far.read piece old mid new line middle next before between after so_far.goes goes;
  },
  omega (arith, length-append so_far.read piece),
)

pub read_kept : {M : Type 0} (answers : Answering M) (old mid : M) (line middle : List ℕ) (ib i1 i2 before between : Option (List ℕ))
    → ReadAll answers old line mid middle ib i1 before between → Keeps i1 i2 → ReadAll answers old line mid middle ib i2 before between
read_kept answers old mid line middle ib i1 i2 before between so_far kept =
    record { read = so_far.read; taken = Consumes-kept ib i1 i2 so_far.read so_far.taken kept; goes = so_far.goes }

read_some : {M : Type 0} (answers : Answering M) (old mid : M) (line middle piece : List ℕ) (ib i1 i2 before between after : Option (List ℕ)) (fault : ToolFault)
    → ReadAll answers old line mid middle ib i1 before between → Consumes i1 i2 piece → StopsIn answers piece mid middle between after fault
    → ReadSome answers old line ib i2 before after fault
read_some answers old mid line middle piece ib i1 i2 before between after fault so_far taken stops = record {
  read = so_far.read ++ piece;
  taken = Consumes-trans ib i1 i2 so_far.read piece so_far.taken taken;
  stops = stops_further answers so_far.read piece old mid line middle before between after fault so_far.goes stops;
}

pub reads_stop : {M : Type 0} (answers : Answering M) (old mid new : M) (line middle next piece : List ℕ) (ib i1 i2 before between after : Option (List ℕ))
    (was input_failed failed : Bool) (result : Result (Unit {0}) ToolFault) (fault : ToolFault) → IsErrAnd result (λ x. x ≡ fault)
    → ReadAll answers old line mid middle ib i1 before between → Consumes i1 i2 piece → StopsIn answers piece mid middle between after fault
    → Step was failed (Err fault) → was ≡ false → input_failed ≡ false
    → Reads answers old line new next ib i2 input_failed before after failed result
reads_stop answers old mid new line middle next piece ib i1 i2 before between after was input_failed failed result fault is so_far taken stops step well input =
    on_err (λ r. Reads answers old line new next ib i2 input_failed before after failed r) result fault is (by_fault fault stops step)
  where
    by_fault : (x : ToolFault) → StopsIn answers piece mid middle between after x → Step was failed (Err x)
        → Reads answers old line new next ib i2 input_failed before after failed (Err x)
    by_fault NoMemory stops step = (read_some answers old mid line middle piece ib i1 i2 before between after NoMemory so_far taken stops, input, step ∙ well)
    by_fault WriteFailed stops step = (read_some answers old mid line middle piece ib i1 i2 before between after WriteFailed so_far taken stops, input, step)
    by_fault x stops step = absurd step

-- ---- before any

pub all_none : {M : Type 0} (answers : Answering M) (machine : M) (ib before : Option (List ℕ)) → AllAnswered answers ended_lines machine machine ib ib before before
unfolding ended_after unended_after
all_none answers machine ib before = record { read = []; taken = Consumes-nil ib; text = []; speaks = (refl, refl); written = Appends-nil before }

pub some_none : {M : Type 0} (answers : Answering M) (machine : M) (ib before : Option (List ℕ)) (fault : ToolFault) → SomeAnswered answers machine ib ib before before fault
unfolding ended_after unended_after
some_none answers machine ib before fault = record {
  read = [];
  taken = Consumes-nil ib;
  stops = all_written answers machine machine [] [] before before fault (refl, refl) (Appends-nil before);
}

-- ---- after the last piece

ended : {M : Type 0} (answers : Answering M) (old new : M) (next : List ℕ) (ib ia before after : Option (List ℕ))
    → ReadAll answers old [] new next ib ia before after → AllAnswered answers ended_lines old new ib ia before after
ended answers old new next ib ia before after all =
    let f = all.goes old before [] (follows_none answers old before) in
    record { read = all.read; taken = all.taken; text = f.text; speaks = f.speaks; written = f.written }

some : {M : Type 0} (answers : Answering M) (old : M) (ib ia before after : Option (List ℕ)) (fault : ToolFault)
    → ReadSome answers old [] ib ia before after fault → SomeAnswered answers old ib ia before after fault
some answers old ib ia before after fault r =
    let lines = ended_lines r.read in
    let rest = last_line (unended_line r.read) in
    record {
      read = r.read;
      taken = r.taken;
      stops = more_lines answers old lines rest (lines ++ rest) before after fault refl (r.stops old before [] (follows_none answers old before));
    }

pub ends_stopped : {M : Type 0} (answers : Answering M) (old new : M) (next : List ℕ) (ib ia before after : Option (List ℕ)) (input_failed failed : Bool) (fault : ToolFault)
    → Reads answers old [] new next ib ia input_failed before after failed (Err fault) → Ends answers old new ib ia input_failed before after failed (Err fault)
unfolding ended
ends_stopped answers old new next ib ia before after input_failed failed ReadFailed r = (ended answers old new next ib ia before after r.0, r.1)
ends_stopped answers old new next ib ia before after input_failed failed TooLong r = (ended answers old new next ib ia before after r.0, r.1, r.2, r.3)
ends_stopped answers old new next ib ia before after input_failed failed NoMemory r = (some answers old ib ia before after NoMemory r.0, r.1, r.2)
ends_stopped answers old new next ib ia before after input_failed failed WriteFailed r = (some answers old ib ia before after WriteFailed r.0, r.1, r.2)
ends_stopped answers old new next ib ia before after input_failed failed fault r = absurd r

-- nothing stands after the last line feed
heard_none : (line : List ℕ) → [] ≡ heard line → last_line line ≡ []
heard_none [] none = refl
heard_none (b ∷ line) none = absurd (omega (arith, ap length none))

pub nothing : (xs : List ℕ) → length xs ≡ 0 → xs ≡ []
nothing [] none = refl
nothing (x ∷ xs) none = absurd (omega (arith, none))

pub ends_empty : {M : Type 0} (answers : Answering M) (old new : M) (next : List ℕ) (ib ia before after : Option (List ℕ)) (input_failed failed : Bool)
    → Reads answers old [] new next ib ia input_failed before after failed (Ok tt) → next ≡ []
    → Ends answers old new ib ia input_failed before after failed (Ok tt)
ends_empty answers old new next ib ia before after input_failed failed r none =
    let f = r.0.goes old before [] (follows_none answers old before) in (
      record {
        read = r.0.read;
        taken = r.0.taken;
        text = f.text;
        speaks = subst (λ l. Speaks answers old l f.text new)
            (sym (append-nil (ended_lines r.0.read)) ∙ ap (λ l. ended_lines r.0.read ++ l) (sym (heard_none (unended_line r.0.read) (sym none ∙ f.held)))) f.speaks;
        written = f.written;
      },
      r.1,
      r.2,
      r.3,
    )

-- the last line ends with the input
heard_some : (line next : List ℕ) → next ≡ heard line → next ≢ [] → last_line line ≡ line ∷ []
heard_some [] next held other = absurd (other held)
heard_some (b ∷ line) next held other = refl

pub ends_last : {M : Type 0} (answers : Answering M) (old mid new : M) (next : List ℕ) (ib ia before between after : Option (List ℕ)) (input_failed was failed : Bool)
    (result : Result (Unit {0}) ToolFault)
    → Reads answers old [] mid next ib ia input_failed before between was (Ok tt) → next ≢ [] → EndsLine answers mid next new between after was failed result
    → Ends answers old new ib ia input_failed before after failed result
ends_last {M} answers old mid new next ib ia before between after input_failed was failed result r other e = by_result result e
  where
    f : HasAnswered answers old before r.0.read mid next between
    f = r.0.goes old before [] (follows_none answers old before)

    line : List ℕ
    line = unended_line r.0.read

    lines_are : lines_of r.0.read ≡ ended_lines r.0.read ++ line ∷ []
    lines_are = ap (λ l. ended_lines r.0.read ++ l) (heard_some line next f.held other)

    spoken : (answer : List ℕ) (last : M) → answers mid next answer last → Speaks answers old (lines_of r.0.read) (f.text ++ answer) last
    spoken answer last is = subst (λ l. Speaks answers old l (f.text ++ answer) last) (sym lines_are)
        (spoke_more answers old mid last (ended_lines r.0.read) line f.text answer f.speaks (subst (λ l. answers mid l answer last) f.held is))

    by_result : (x : Result (Unit {0}) ToolFault) → EndsLine answers mid next new between after was failed x
        → Ends answers old new ib ia input_failed before after failed x
    by_result (Ok done) (w, well) = (
      record {
        read = r.0.read;
        taken = r.0.taken;
        text = f.text ++ w.answer;
        speaks = spoken w.answer new w.is;
        written = Appends-trans before between after f.text w.answer f.written w.written;
      },
      r.1,
      r.2,
      well ∙ r.3,
    )
    by_result (Err NoMemory) (kept, well) = (
      some answers old ib ia before after NoMemory (record {
        read = r.0.read;
        taken = r.0.taken;
        stops = stops_kept answers r.0.read old mid [] next before between after NoMemory r.0.goes kept;
      }),
      r.2,
      well ∙ r.3,
    )
    by_result (Err WriteFailed) (p, ill) = (
      record {
        read = r.0.read;
        taken = r.0.taken;
        stops = part_written answers old p.next (lines_of r.0.read) f.text p.answer p.count before between after (spoken p.answer p.next p.is) f.written p.written;
      },
      r.2,
      ill,
    )
    by_result (Err fault) e = absurd e
