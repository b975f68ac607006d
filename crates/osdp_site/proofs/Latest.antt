-- What is wanted is the latest that was said of each.
use Rattle.osdp_site.proofs.Common.{◌≡◌, ◌∙◌, ap, sym, subst, inl, inr, ℕ, zero, suc, ◌+◌, ◌≤◌, arith, Bool, true, false, ◌||◌, List, [], ◌∷◌, ◌++◌, length, drop, Option, Some, None, refl, Result, Ok, Err, if◌then◌else◌, list_any, Command, BusState, Report, SiteFault, Acted, begins_anew, begins_due, submits, submitted, Acts, Heeds, Move, Wants, after_move, after_moves, PlaceState, after_wants_of, changed_unless, due_of, heeds, is_due, is_online, new_place, wants_over, wants_refusal_of, without, first_about, subject_of}
use Rattle.std.specs.Prelude.{◌-◌, ◌==◌, ◌&&◌, nat_lt, option_map}
use Rattle.std.proofs.Common.{append_assoc, append-nil}
use Rattle.std.proofs.lemmas.Bool.{eq-eqb, eqb-true, ltb-false, ltb-true}
use Rattle.osdp_controller.specs.declared.report.Report.TheVariants as report
use Rattle.osdp_site.specs.declared.subject.Subject.{Subject}
use Rattle.osdp_site.specs.declared.subject.Subject.TheVariants as subject
use Rattle.osdp_site.specs.Latest.{IsPartOf, SaysOfOne, WantsTheLatest, accepted, accepted_if, accepted_in, is_replaced_by, latest}
use Rattle.osdp_site.specs.Places.{done_without}
use Rattle.osdp_site.specs.States.{is_about, is_same, is_subject}

-- ---- either way

when : {A : Type 0} (b : Bool) (x y : A) → b ≡ true → (if b then x else y) ≡ x
when true x y is = refl
when false x y is = absurd cc

unless : {A : Type 0} (b : Bool) (x y : A) → b ≡ false → (if b then x else y) ≡ y
unless true x y is = absurd cc
unless false x y is = refl

or_false : (a b : Bool) → a ≡ false → b ≡ false → (a || b) ≡ false
or_false true b is also = absurd cc
or_false false b is also = also

first_false : (a b : Bool) → (a || b) ≡ false → a ≡ false
first_false true b is = absurd cc
first_false false b is = refl

second_false : (a b : Bool) → (a || b) ≡ false → b ≡ false
second_false true b is = absurd cc
second_false false b is = is

-- ---- of the same

same_self : (s : Subject) → is_same s s ≡ true
same_self (subject.Output a) = eq-eqb a a refl
same_self (subject.Led a b) = ap (λ t. t && b == b) (eq-eqb a a refl) ∙ eq-eqb b b refl
same_self (subject.Buzzer a) = eq-eqb a a refl
same_self (subject.Text a b c) = ap (λ t. t && b == b && c == c) (eq-eqb a a refl) ∙ ap (λ t. t && c == c) (eq-eqb b b refl) ∙ eq-eqb c c refl

both : (a b : Bool) → (a && b) ≡ true → (a ≡ true) × (b ≡ true)
both true b is = (refl, is)
both false b is = absurd cc

is_the_same : (s t : Subject) → is_same s t ≡ true → s ≡ t
is_the_same (subject.Output a) (subject.Output b) is = ap subject.Output (eqb-true a b is)
is_the_same (subject.Led a b) (subject.Led c d) is =
    let h = both (a == c) (b == d) is in
    ap (λ x. subject.Led x b) (eqb-true a c h.0) ∙ ap (subject.Led c) (eqb-true b d h.1)
is_the_same (subject.Buzzer a) (subject.Buzzer b) is = ap subject.Buzzer (eqb-true a b is)
is_the_same (subject.Text a b c) (subject.Text d e f) is =
    let h = both (a == d && b == e) (c == f) is in
    let k = both (a == d) (b == e) h.0 in
    ap (λ x. subject.Text x b c) (eqb-true a d k.0) ∙ ap (λ x. subject.Text d x c) (eqb-true b e k.1) ∙ ap (subject.Text d e) (eqb-true c f h.1)
is_the_same _ _ is = absurd cc

of_one : (s : Subject) (r : Result Subject SiteFault) → is_subject s r ≡ true → r ≡ Ok s
of_one s (Ok t) is = ap Ok (sym (is_the_same s t is))
of_one s (Err fault) is = absurd cc

says_it : (s : Subject) (r : Result Subject SiteFault) → r ≡ Ok s → is_subject s r ≡ true
says_it s r is = ap (is_subject s) is ∙ same_self s

pub says_of_one : (s : Subject) (c : Command) → SaysOfOne s c
says_of_one s c = record { is = of_one s (subject_of c); says = says_it s (subject_of c) }

-- two subjects aren't the same either way
not_back : (s t : Subject) (b : Bool) → is_same t s ≡ b → is_same s t ≡ false → b ≡ false
not_back s t true is unlike = let h : is_same s t ≡ true = subst (λ u. is_same s u ≡ true) (sym (is_the_same t s is)) (same_self s) in absurd cc
not_back s t false is unlike = refl

-- ---- all that isn't of one

abbrev pub others : Subject → List Command → List Command
others s [] = []
others s (c ∷ cs) = if is_about s c then others s cs else c ∷ others s cs

none_of : (s : Subject) (cs : List Command) → list_any (is_about s) cs ≡ false → others s cs ≡ cs
none_of s [] none = refl
none_of s (c ∷ cs) none =
    unless (is_about s c) (others s cs) (c ∷ others s cs) (first_false (is_about s c) (list_any (is_about s) cs) none)
    ∙ ap (λ ds. c ∷ ds) (none_of s cs (second_false (is_about s c) (list_any (is_about s) cs) none))

others_append : (s : Subject) (cs ds : List Command) → others s (cs ++ ds) ≡ others s cs ++ others s ds
others_append s [] ds = refl
others_append s (c ∷ cs) ds = by (is_about s c) (others_append s cs ds)
  where
    by : (b : Bool) → others s (cs ++ ds) ≡ others s cs ++ others s ds
        → (if b then others s (cs ++ ds) else c ∷ others s (cs ++ ds)) ≡ (if b then others s cs else c ∷ others s cs) ++ others s ds
    by true rest = rest
    by false rest = ap (λ es. c ∷ es) rest

others_twice : (s : Subject) (cs : List Command) → others s (others s cs) ≡ others s cs
others_twice s [] = refl
others_twice s (c ∷ cs) = by (is_about s c) refl (others_twice s cs)
  where
    by : (b : Bool) → is_about s c ≡ b → others s (others s cs) ≡ others s cs
        → others s (if b then others s cs else c ∷ others s cs) ≡ (if b then others s cs else c ∷ others s cs)
    by true is rest = rest
    by false is rest = unless (is_about s c) (others s (others s cs)) (c ∷ others s (others s cs)) is ∙ ap (λ es. c ∷ es) rest

-- what says the state of one doesn't say that of another
apart_from : (s t : Subject) (c : Command) → is_same s t ≡ false → is_about s c ≡ true → is_about t c ≡ false
apart_from s t c unlike is = ap (is_subject t) (of_one s (subject_of c) is) ∙ not_back s t (is_same t s) refl unlike

any_of_others : (s t : Subject) (cs : List Command) → is_same s t ≡ false → list_any (is_about t) (others s cs) ≡ list_any (is_about t) cs
any_of_others s t [] unlike = refl
any_of_others s t (c ∷ cs) unlike = by (is_about s c) refl (any_of_others s t cs unlike)
  where
    by : (b : Bool) → is_about s c ≡ b → list_any (is_about t) (others s cs) ≡ list_any (is_about t) cs
        → list_any (is_about t) (if b then others s cs else c ∷ others s cs) ≡ (is_about t c || list_any (is_about t) cs)
    by true is rest = rest ∙ sym (ap (λ x. x || list_any (is_about t) cs) (apart_from s t c unlike is))
    by false is rest = ap (λ x. is_about t c || x) rest

any_append : (f : Command → Bool) (cs ds : List Command) → list_any f (cs ++ ds) ≡ (list_any f cs || list_any f ds)
any_append f [] ds = refl
any_append f (c ∷ cs) ds = by (f c) (list_any f (cs ++ ds)) (list_any f cs) (list_any f ds) (any_append f cs ds)
  where
    by : (a b c d : Bool) → b ≡ (c || d) → (a || b) ≡ ((a || c) || d)
    by true b c d is = refl
    by false b c d is = is

-- ---- the latest of each

-- of a command that isn't about this, nothing changes where what is about this goes
replaced_of_others : (s : Subject) (r : Result Subject SiteFault) (cs : List Command) → is_subject s r ≡ false → is_replaced_by r (others s cs) ≡ is_replaced_by r cs
replaced_of_others s (Ok t) cs unlike = any_of_others s t cs unlike
replaced_of_others s (Err fault) cs unlike = refl

-- .. or another one comes after
replaced_or : (s : Subject) (r : Result Subject SiteFault) (cs : List Command) (c : Command) → subject_of c ≡ Ok s → is_subject s r ≡ false
    → is_replaced_by r (cs ++ c ∷ []) ≡ is_replaced_by r cs
replaced_or s (Ok t) cs c is unlike =
    any_append (is_about t) cs (c ∷ []) ∙ or_nothing (list_any (is_about t) cs) (is_about t c) (apart_from s t c unlike (says_it s (subject_of c) is))
  where
    or_nothing : (a b : Bool) → b ≡ false → (a || (b || false)) ≡ a
    or_nothing true b none = refl
    or_nothing false true none = absurd cc
    or_nothing false false none = refl
replaced_or s (Err fault) cs c is unlike = refl

-- a command about the same comes after
replaced_at : (s : Subject) (r : Result Subject SiteFault) (cs : List Command) (c : Command) → subject_of c ≡ Ok s → is_subject s r ≡ true
    → is_replaced_by r (cs ++ c ∷ []) ≡ true
replaced_at s (Ok t) cs c is same =
    any_append (is_about t) cs (c ∷ []) ∙ last_true (list_any (is_about t) cs) (is_about t c)
    (ap (is_subject t) (is ∙ ap Ok (is_the_same s t same)) ∙ same_self t)
  where
    last_true : (a b : Bool) → b ≡ true → (a || (b || false)) ≡ true
    last_true true b one = refl
    last_true false true one = refl
    last_true false false one = absurd cc
replaced_at s (Err fault) cs c is same = absurd cc

latest_others : (s : Subject) (cs : List Command) → others s (latest cs) ≡ latest (others s cs)
latest_others s [] = refl
latest_others s (c ∷ cs) = by (is_about s c) (is_replaced_by (subject_of c) cs) refl refl (latest_others s cs)
  where
    by : (b r : Bool) → is_about s c ≡ b → is_replaced_by (subject_of c) cs ≡ r → others s (latest cs) ≡ latest (others s cs)
        → others s (if r then latest cs else c ∷ latest cs) ≡ latest (if b then others s cs else c ∷ others s cs)
    by true true is replaced rest = rest
    by true false is replaced rest = when (is_about s c) (others s (latest cs)) (c ∷ others s (latest cs)) is ∙ rest
    by false true is replaced rest =
        rest
        ∙ sym (when (is_replaced_by (subject_of c) (others s cs)) (latest (others s cs)) (c ∷ latest (others s cs)) (replaced_of_others s (subject_of c) cs is ∙ replaced))
    by false false is replaced rest =
        unless (is_about s c) (others s (latest cs)) (c ∷ others s (latest cs)) is
        ∙ ap (λ es. c ∷ es) rest
        ∙ sym (unless (is_replaced_by (subject_of c) (others s cs)) (latest (others s cs)) (c ∷ latest (others s cs)) (replaced_of_others s (subject_of c) cs is ∙ replaced))

never_replaced : (r : Result Subject SiteFault) → is_replaced_by r [] ≡ false
never_replaced (Ok t) = refl
never_replaced (Err fault) = refl

-- one more is the latest of its own
latest_with : (s : Subject) (cs : List Command) (c : Command) → subject_of c ≡ Ok s → latest (cs ++ c ∷ []) ≡ others s (latest cs) ++ c ∷ []
latest_with s [] c is = unless (is_replaced_by (subject_of c) []) [] (c ∷ []) (never_replaced (subject_of c))
latest_with s (d ∷ ds) c is = by (is_about s d) (is_replaced_by (subject_of d) ds) refl refl (latest_with s ds c is)
  where
    by : (b r : Bool) → is_about s d ≡ b → is_replaced_by (subject_of d) ds ≡ r → latest (ds ++ c ∷ []) ≡ others s (latest ds) ++ c ∷ []
        → (if is_replaced_by (subject_of d) (ds ++ c ∷ []) then latest (ds ++ c ∷ []) else d ∷ latest (ds ++ c ∷ [])) ≡ others s (if r then latest ds else d ∷ latest ds) ++ c ∷ []
    by true true about replaced rest =
        when (is_replaced_by (subject_of d) (ds ++ c ∷ [])) (latest (ds ++ c ∷ [])) (d ∷ latest (ds ++ c ∷ [])) (replaced_at s (subject_of d) ds c is about) ∙ rest
    by true false about replaced rest =
        when (is_replaced_by (subject_of d) (ds ++ c ∷ [])) (latest (ds ++ c ∷ [])) (d ∷ latest (ds ++ c ∷ [])) (replaced_at s (subject_of d) ds c is about)
        ∙ rest
        ∙ sym (ap (λ es. es ++ c ∷ []) (when (is_about s d) (others s (latest ds)) (d ∷ others s (latest ds)) about))
    by false true about replaced rest =
        when (is_replaced_by (subject_of d) (ds ++ c ∷ [])) (latest (ds ++ c ∷ [])) (d ∷ latest (ds ++ c ∷ [])) (replaced_or s (subject_of d) ds c is about ∙ replaced) ∙ rest
    by false false about replaced rest =
        unless (is_replaced_by (subject_of d) (ds ++ c ∷ [])) (latest (ds ++ c ∷ [])) (d ∷ latest (ds ++ c ∷ [])) (replaced_or s (subject_of d) ds c is about ∙ replaced)
        ∙ ap (λ es. d ∷ es) (rest)
        ∙ sym (ap (λ es. es ++ c ∷ []) (unless (is_about s d) (others s (latest ds)) (d ∷ others s (latest ds)) about))

-- what goes before one more of the same changes nothing
pub latest_over : (s : Subject) (cs ds : List Command) (c : Command) → subject_of c ≡ Ok s → latest ((cs ++ others s ds) ++ c ∷ []) ≡ others s (latest (cs ++ ds)) ++ c ∷ []
latest_over s cs ds c is =
    latest_with s (cs ++ others s ds) c is
    ∙ ap (λ es. es ++ c ∷ []) (
    latest_others s (cs ++ others s ds)
    ∙ ap latest (others_append s cs (others s ds) ∙ ap (λ es. others s cs ++ es) (others_twice s ds) ∙ sym (others_append s cs ds))
    ∙ sym (latest_others s (cs ++ ds)))

-- ---- no two of the same

abbrev pub Apart : List Command → Type 0
Apart [] = Unit {0}
Apart (c ∷ cs) = (is_replaced_by (subject_of c) cs ≡ false) × Apart cs

still_none : (f : Command → Bool) (cs : List Command) → list_any f cs ≡ false → list_any f (latest cs) ≡ false
still_none f [] none = refl
still_none f (c ∷ cs) none = by (is_replaced_by (subject_of c) cs) (still_none f cs (second_false (f c) (list_any f cs) none))
  where
    by : (r : Bool) → list_any f (latest cs) ≡ false → list_any f (if r then latest cs else c ∷ latest cs) ≡ false
    by true rest = rest
    by false rest = or_false (f c) (list_any f (latest cs)) (first_false (f c) (list_any f cs) none) rest

not_replaced_later : (r : Result Subject SiteFault) (cs : List Command) → is_replaced_by r cs ≡ false → is_replaced_by r (latest cs) ≡ false
not_replaced_later (Ok s) cs none = still_none (is_about s) cs none
not_replaced_later (Err fault) cs none = refl

pub latest_apart : (cs : List Command) → Apart (latest cs)
latest_apart [] = tt
latest_apart (c ∷ cs) = by (is_replaced_by (subject_of c) cs) refl (latest_apart cs)
  where
    by : (r : Bool) → is_replaced_by (subject_of c) cs ≡ r → Apart (latest cs) → Apart (if r then latest cs else c ∷ latest cs)
    by true is rest = rest
    by false is rest = (not_replaced_later (subject_of c) cs is, rest)

pub latest_of_apart : (cs : List Command) → Apart cs → latest cs ≡ cs
latest_of_apart [] apart = refl
latest_of_apart (c ∷ cs) apart =
    unless (is_replaced_by (subject_of c) cs) (latest cs) (c ∷ latest cs) apart.0 ∙ ap (λ ds. c ∷ ds) (latest_of_apart cs apart.1)

-- ---- one is taken out

next_first : (s : Subject) (cs : List Command) (n : ℕ) → first_about (n + 1) s cs ≡ option_map suc (first_about n s cs)
next_first s [] n = refl
next_first s (c ∷ cs) n = by (is_about s c) (next_first s cs (n + 1))
  where
    by : (b : Bool) → first_about ((n + 1) + 1) s cs ≡ option_map suc (first_about (n + 1) s cs)
        → (if b then Some (n + 1) else first_about ((n + 1) + 1) s cs) ≡ option_map suc (if b then Some n else first_about (n + 1) s cs)
    by true rest = ap Some (let e : n + 1 ≡ suc n = omega arith in e)
    by false rest = rest

none_else : (s : Subject) (c : Command) (cs : List Command) → is_about s c ≡ true → is_replaced_by (subject_of c) cs ≡ false → list_any (is_about s) cs ≡ false
none_else s c cs is apart = sym (ap (λ r. is_replaced_by r cs) (of_one s (subject_of c) is)) ∙ apart

without_next : (o : Option ℕ) (c : Command) (cs : List Command) → without (option_map suc o) (c ∷ cs) ≡ c ∷ without o cs
without_next None c cs = refl
without_next (Some i) c cs = refl

pub without_first : (s : Subject) (cs : List Command) → Apart cs → without (first_about 0 s cs) cs ≡ others s cs
without_first s [] apart = refl
without_first s (c ∷ cs) apart = by (is_about s c) refl (without_first s cs apart.1)
  where
    by : (b : Bool) → is_about s c ≡ b → without (first_about 0 s cs) cs ≡ others s cs → without (if b then Some 0 else first_about 1 s cs) (c ∷ cs) ≡ (if b then others s cs else c ∷ others s cs)
    by true is rest = sym (none_of s cs (none_else s c cs is apart.0))
    by false is rest = ap (λ o. without o (c ∷ cs)) (next_first s cs 0) ∙ without_next (first_about 0 s cs) c cs ∙ ap (λ ds. c ∷ ds) rest

done_next : (o : Option ℕ) (n : ℕ) → done_without (option_map suc o) (suc n) ≡ suc (done_without o n)
done_next None n = refl
done_next (Some i) n = by (nat_lt (suc i) (suc n)) (nat_lt i n) refl refl
  where
    by : (p q : Bool) → nat_lt (suc i) (suc n) ≡ p → nat_lt i n ≡ q → (if p then suc n - 1 else suc n) ≡ suc (if q then n - 1 else n)
    by true true p_is q_is = let h = ltb-true i n q_is in omega (arith, h)
    by true false p_is q_is = absurd (let h = ltb-true (suc i) (suc n) p_is in let g = ltb-false i n q_is in omega (arith, h, g))
    by false true p_is q_is = absurd (let h = ltb-false (suc i) (suc n) p_is in let g = ltb-true i n q_is in omega (arith, h, g))
    by false false p_is q_is = refl

done_first : (n : ℕ) → done_without (Some 0) (suc n) ≡ n
done_first n = by (nat_lt 0 (suc n)) refl
  where
    by : (b : Bool) → nat_lt 0 (suc n) ≡ b → (if b then suc n - 1 else suc n) ≡ n
    by true is = omega arith
    by false is = absurd (let h = ltb-false 0 (suc n) is in omega (arith, h))

drop_append : (n : ℕ) (cs ds : List Command) → n ≤ length cs → drop n (cs ++ ds) ≡ drop n cs ++ ds
drop_append zero cs ds within = refl
drop_append (suc n) [] ds within = absurd (omega arith)
drop_append (suc n) (c ∷ cs) ds within = drop_append n cs ds (omega arith)

nothing_done : (o : Option ℕ) → done_without o 0 ≡ 0
nothing_done None = refl
nothing_done (Some i) = by (nat_lt i 0)
  where
    by : (b : Bool) → (if b then 0 - 1 else 0) ≡ 0
    by true = refl
    by false = refl

none_dropped : (f : Command → Bool) (n : ℕ) (cs : List Command) → list_any f cs ≡ false → list_any f (drop n cs) ≡ false
none_dropped f zero cs none = none
none_dropped f (suc n) [] none = refl
none_dropped f (suc n) (c ∷ cs) none = none_dropped f n cs (second_false (f c) (list_any f cs) none)

-- what is due then: all that was, but what is replaced, and the new one
pub due_then : (s : Subject) (c : Command) (n : ℕ) (cs : List Command) → Apart cs → n ≤ length cs
    → drop (done_without (first_about 0 s cs) n) (others s cs ++ c ∷ []) ≡ others s (drop n cs) ++ c ∷ []
due_then s c zero cs apart within = ap (λ k. drop k (others s cs ++ c ∷ [])) (nothing_done (first_about 0 s cs))
due_then s c (suc n) [] apart within = absurd (omega arith)
due_then s c (suc n) (d ∷ ds) apart within = by (is_about s d) refl (due_then s c n ds apart.1 (omega arith))
  where
    by : (b : Bool) → is_about s d ≡ b → drop (done_without (first_about 0 s ds) n) (others s ds ++ c ∷ []) ≡ others s (drop n ds) ++ c ∷ []
        → drop (done_without (if b then Some 0 else first_about 1 s ds) (suc n)) ((if b then others s ds else d ∷ others s ds) ++ c ∷ []) ≡ others s (drop n ds) ++ c ∷ []
    by true is rest =
        let none = none_else s d ds is apart.0 in
        ap (λ k. drop k (others s ds ++ c ∷ [])) (done_first n)
        ∙ ap (λ es. drop n (es ++ c ∷ [])) (none_of s ds none)
        ∙ drop_append n ds (c ∷ []) (omega arith)
        ∙ sym (ap (λ es. es ++ c ∷ []) (none_of s (drop n ds) (none_dropped (is_about s) n ds none)))
    by false is rest =
        ap (λ o. drop (done_without o (suc n)) ((d ∷ others s ds) ++ c ∷ [])) (next_first s ds 0)
        ∙ ap (λ k. drop k ((d ∷ others s ds) ++ c ∷ [])) (done_next (first_about 0 s ds) n)
        ∙ rest

-- ---- parts of lists

pub part_of_self : (cs : List Command) → IsPartOf cs cs
part_of_self [] = tt
part_of_self (c ∷ cs) = inl (refl, part_of_self cs)

pub part_of_part : (ks bs cs : List Command) → IsPartOf ks bs → IsPartOf bs cs → IsPartOf ks cs
part_of_part [] bs cs ab bc = tt
part_of_part (a ∷ ks) [] cs ab bc = absurd ab
part_of_part (a ∷ ks) (b ∷ bs) [] ab bc = absurd bc
part_of_part (a ∷ ks) (b ∷ bs) (c ∷ cs) ab (inr skip) = inr (part_of_part (a ∷ ks) (b ∷ bs) cs ab skip)
part_of_part (a ∷ ks) (b ∷ bs) (c ∷ cs) (inl (same, rest)) (inl (also, more)) = inl (same ∙ also, part_of_part ks bs cs rest more)
part_of_part (a ∷ ks) (b ∷ bs) (c ∷ cs) (inr skip) (inl (also, more)) = inr (part_of_part (a ∷ ks) bs cs skip more)

pub part_with : (es bs : List Command) (c : Command) → IsPartOf es bs → IsPartOf (es ++ c ∷ []) (bs ++ c ∷ [])
part_with [] [] c part = inl (refl, tt)
part_with [] (b ∷ bs) c part = inr (part_with [] bs c tt)
part_with (a ∷ es) [] c part = absurd part
part_with (a ∷ es) (b ∷ bs) c (inl (same, rest)) = inl (same, part_with es bs c rest)
part_with (a ∷ es) (b ∷ bs) c (inr skip) = inr (part_with (a ∷ es) bs c skip)

skipped : (es bs : List Command) (c : Command) → IsPartOf es bs → IsPartOf es (c ∷ bs)
skipped [] bs c part = tt
skipped (a ∷ es) bs c part = inr part

pub others_are_part : (s : Subject) (cs : List Command) → IsPartOf (others s cs) cs
others_are_part s [] = tt
others_are_part s (c ∷ cs) = by (is_about s c) (others_are_part s cs)
  where
    by : (b : Bool) → IsPartOf (others s cs) cs → IsPartOf (if b then others s cs else c ∷ others s cs) (c ∷ cs)
    by true rest = skipped (others s cs) cs c rest
    by false rest = inl (refl, rest)

pub part_before : (gs es bs : List Command) → IsPartOf es bs → IsPartOf (gs ++ es) (gs ++ bs)
part_before [] es bs part = part
part_before (g ∷ gs) es bs part = inl (refl, part_before gs es bs part)

-- ---- what is wanted

-- whatever was asked for so far: its latest are wanted
wanted_then : (s : Subject) (c : Command) (xs ws : List Command) → subject_of c ≡ Ok s → ws ≡ latest xs
    → without (first_about 0 s ws) ws ++ c ∷ [] ≡ latest (xs ++ c ∷ [])
wanted_then s c xs ws is latest_is =
    let apart : Apart ws = subst Apart (sym latest_is) (latest_apart xs) in
    ap (λ es. es ++ c ∷ []) (without_first s ws apart ∙ ap (others s) latest_is) ∙ sym (latest_with s xs c is)

-- where nothing is asked for
nothing_more : (xs ws : List Command) → ws ≡ latest xs → ws ≡ latest (xs ++ [])
nothing_more xs ws is = is ∙ ap latest (sym (append-nil xs))

wants_unless : (r : Option SiteFault) (s : Subject) (c : Command) (xs : List Command) (p : PlaceState) → subject_of c ≡ Ok s → p.wanted ≡ latest xs
    → (changed_unless r p (wants_over (first_about 0 s p.wanted) c p)).wanted ≡ latest (xs ++ accepted_if r c)
wants_unless (Some fault) s c xs p is latest_is = nothing_more xs p.wanted latest_is
wants_unless None s c xs p is latest_is = wanted_then s c xs p.wanted is latest_is

wants_of : (r : Result Subject SiteFault) (c : Command) (xs : List Command) (p : PlaceState) → subject_of c ≡ r → p.wanted ≡ latest xs
    → (changed_unless (wants_refusal_of r c p) p (after_wants_of r c p)).wanted ≡ latest (xs ++ accepted_if (wants_refusal_of r c p) c)
wants_of (Err fault) c xs p is latest_is = nothing_more xs p.wanted latest_is
wants_of (Ok s) c xs p is latest_is = wants_unless (wants_refusal_of (Ok s) c p) s c xs p is latest_is

heeded : (pause now : ℕ) (r : Report) (p : PlaceState) → (heeds pause now r p).wanted ≡ p.wanted
heeded pause now (report.Opened id) p = refl
heeded pause now (report.Moved command answered) p = refl
heeded pause now (report.Lost cause command) p = refl
heeded pause now _ p = refl

-- what of the entry stays as a session begins
abbrev begun_if : Bool → ℕ → ℕ → Acted → Acted
begun_if due entry now x = if due then record { place = record x.place { begins = None }; panel = begins_anew entry now x.panel } else x

pub wanted_begun : (due : Bool) (entry now : ℕ) (x : Acted) → (begun_if due entry now x).place.wanted ≡ x.place.wanted
wanted_begun true entry now x = refl
wanted_begun false entry now x = refl

pub due_begun : (due : Bool) (entry now : ℕ) (x : Acted) → due_of (begun_if due entry now x).place ≡ due_of x.place
due_begun true entry now x = refl
due_begun false entry now x = refl

pub done_begun : (due : Bool) (entry now : ℕ) (x : Acted) → (begun_if due entry now x).place.done ≡ x.place.done
done_begun true entry now x = refl
done_begun false entry now x = refl

wanted_if : (online : Bool) (entry : ℕ) (x : Acted) → (if online then submitted x.place (submits entry (due_of x.place) x.panel) else x).place.wanted ≡ x.place.wanted
wanted_if true entry x = refl
wanted_if false entry x = refl

pub acted : (entry pause now : ℕ) (b : BusState) (p : PlaceState) → (after_move entry pause (Acts b now) p).wanted ≡ p.wanted
acted entry pause now b p =
    let x : Acted = record { place = p; panel = b } in
    let y = begins_due entry now x in
    wanted_if (is_online y.place.presence) entry y ∙ wanted_begun (is_due now p) entry now x

latest_move : (entry pause : ℕ) (m : Move) (xs : List Command) (p : PlaceState) → p.wanted ≡ latest xs
    → (after_move entry pause m p).wanted ≡ latest (xs ++ accepted_in m p)
latest_move entry pause (Wants c) xs p is = wants_of (subject_of c) c xs p refl is
latest_move entry pause (Heeds r now) xs p is = heeded pause now r p ∙ nothing_more xs p.wanted is
latest_move entry pause (Acts b now) xs p is = acted entry pause now b p ∙ nothing_more xs p.wanted is

latest_moves : (entry pause : ℕ) (ms : List Move) (xs : List Command) (p : PlaceState) → p.wanted ≡ latest xs
    → (after_moves entry pause ms p).wanted ≡ latest (xs ++ accepted entry pause ms p)
latest_moves entry pause [] xs p is = nothing_more xs p.wanted is
latest_moves entry pause (m ∷ ms) xs p is =
    latest_moves entry pause ms (xs ++ accepted_in m p) (after_move entry pause m p) (latest_move entry pause m xs p is)
    ∙ ap latest (append_assoc xs (accepted_in m p) (accepted entry pause ms (after_move entry pause m p)))

pub wants_the_latest : WantsTheLatest
wants_the_latest entry pause room bytes now ms = latest_moves entry pause ms [] (new_place room bytes now) refl
