-- Places in a capture, one run after the other.
use Rattle.osdp_tool_inputs.proofs.Common.{◌≡◌, ℕ, ◌+◌, ◌-◌, ◌≤◌, ◌<◌, ◌^◌, ◌==◌, ◌&&◌, Bool, true, false, cond, inl, inr, List, [], ◌∷◌, ◌++◌, codes, flat_map, get_or, length, drop, nat_lt, refl, sym, ap, ◌∙◌, arith, length-drop, cases_Bool, eqb-true, ltb-false, ltb-true, ne_eqb, drop-drop, drop_all, drop_more, get_or_past, length-append, starts_with, bytes_eq, all_echoes, echoes_below, echoes_in, heard_part, is_echo, left_in, left_of, next_stamp, next_went, went_after, went_by, Capture, Heard, after_line, after_lines, heard_of, line_told, nothing_heard, Option, None, Some}
use Rattle.osdp_tool_streams.specs.Cut.{ended_after, last_line, line_feed, lines_of, unended_after}
use Rattle.osdp_tool_inputs.specs.Heard.{line_late, printed_of, retold_line, retold_times, tells_at, tells_below}
use Rattle.osdp_tool_inputs.specs.Places.{FindsLate, HasFollowed, IsAt, IsHeard, first_told, late_from, late_in, stamps_left, tells_left}
use Rattle.osdp_tool_inputs.specs.Times.{ends_so, has_digits, is_stamp, no_stamp, stamp_at, stamps_below}
use Rattle.osdp_tool_inputs.specs.declared.capture.LateAnswer.{LateAnswer}
use Rattle.osdp_tool_inputs.specs.declared.capture.LateTimes.{LateTimes}
use Rattle.osdp_tool_inputs.specs.declared.places.Found.{Found}
use Rattle.osdp_tool_inputs.specs.declared.places.Place.{Place}
use Rattle.osdp_tool_inputs.specs.declared.places.Source.{Source}
use Rattle.osdp_tool_inputs.proofs.Echoing.{heard_lines, sorted_size, sorts_all}
use Rattle.osdp_tool_inputs.proofs.Stamps.{a_run, a_stamp, at_run, beyond, no_digits}

-- ---- how many there are

-- a line that has not ended is one where bytes stand in it
abbrev one_if : List ℕ → ℕ
one_if [] = 0
one_if (b ∷ line) = 1

last_size : (line : List ℕ) → length (last_line line) ≡ one_if line
last_size [] = refl
last_size (b ∷ line) = refl

more_size : (line : List ℕ) (b : ℕ) → one_if (line ++ b ∷ []) ≡ 1
more_size [] b = refl
more_size (a ∷ line) b = refl

one_at_most : (line : List ℕ) → one_if line ≤ 1
one_at_most [] = omega arith
one_at_most (b ∷ line) = omega arith

lines_short : (line bytes : List ℕ) → length (ended_after line bytes) + one_if (unended_after line bytes) ≤ length bytes + one_if line
unfolding ended_after unended_after
lines_short line [] = omega arith
lines_short line (b ∷ bytes) =
    let ended : length (ended_after [] bytes) + one_if (unended_after [] bytes) ≤ length bytes + 0 = lines_short [] bytes in
    let going = lines_short (line ++ b ∷ []) bytes in
    let more = more_size line b in
    elim (b == line_feed) as
    (λ t. length (cond t (line ∷ ended_after [] bytes) (ended_after (line ++ b ∷ []) bytes)) + one_if (cond t (unended_after [] bytes) (unended_after (line ++ b ∷ []) bytes))
    ≤ length (b ∷ bytes) + one_if line)
    [ true ↦ omega (arith, ended) | false ↦ omega (arith, going, more) ]

pub text_lines : (text : List ℕ) → length (lines_of text) ≤ length text
text_lines text =
    let size = length-append (ended_after [] text) (last_line (unended_after [] text)) in
    let short : length (ended_after [] text) + one_if (unended_after [] text) ≤ length text + 0 = lines_short [] text in
    omega (arith, size, last_size (unended_after [] text), short)

pub left_size : (text : List ℕ) → length (left_of text) ≤ length text
left_size text =
    let sorted = sorted_size (lines_of text) (left_of text) (echoes_below no_stamp [] (lines_of text)) (sorts_all no_stamp [] (lines_of text)) in
    omega (arith, sorted.0, text_lines text)

pub echoes_size : (text : List ℕ) → echoes_in text ≤ length text
echoes_size text =
    let sorted = sorted_size (lines_of text) (left_of text) (echoes_below no_stamp [] (lines_of text)) (sorts_all no_stamp [] (lines_of text)) in
    omega (arith, sorted.1, text_lines text)

-- a stamp is no line of digits
both_first : (a b : Bool) → (a && b) ≡ true → a ≡ true
both_first true b e = refl
both_first false b e = absurd cc

begins_with : (a : ℕ) (line : List ℕ) → starts_with (λ x y. x == y) (a ∷ line) (codes "# ") ≡ true → a ≡ 35
begins_with a line e = sym (eqb-true 35 a (both_first (35 == a) _ e))

pub stamp_only : (line : List ℕ) → is_stamp line ≡ true → has_digits line ≡ false
stamp_only [] e = absurd cc
stamp_only (a ∷ line) e = ap (λ x. has_digits (x ∷ line)) (begins_with a line (both_first (starts_with (λ x y. x == y) (a ∷ line) (codes "# ")) _ e))

-- what stands before the next line, by whether this is one of digits
pub after_digits : (stamp line : List ℕ) → has_digits line ≡ true → no_stamp ≡ next_stamp stamp line
after_digits stamp line some = elim (cases_Bool (is_stamp line)) [
  | inl is ↦ absurd (both_ways (has_digits line) some (stamp_only line is))
  | inr other ↦ sym (ap (λ t. cond t (drop 2 line) (cond (has_digits line) no_stamp stamp)) other ∙ ap (λ t. cond t no_stamp stamp) some)
]
  where
    both_ways : (b : Bool) → b ≡ true → b ≡ false → ⊥
    both_ways b is other = absurd cc

pub went_digits : (stamp went line : List ℕ) (echo : Bool) → has_digits line ≡ true → echo ≡ is_echo stamp went line → went_after echo stamp line ≡ next_went stamp went line
went_digits stamp went line echo some is = ap (λ e. went_after e stamp line) is ∙ sym (ap (λ t. cond t (went_by stamp went line) went) some)

pub went_other : (stamp went line : List ℕ) → has_digits line ≡ false → went ≡ next_went stamp went line
went_other stamp went line none = sym (ap (λ t. cond t (went_by stamp went line) went) none)

pub no_echo_other : (stamp went line : List ℕ) → has_digits line ≡ false → is_echo stamp went line ≡ false
no_echo_other stamp went line none = ap (λ t. t && (ends_so stamp (codes " in") && bytes_eq went line)) none

-- each run has a stamp, and tells something
tells_some : (h : Heard) (line : List ℕ) (lines : List (List ℕ)) → has_digits line ≡ true
    → tells_below h (line ∷ lines) ≡ line_late h line ∷ tells_below (after_line h line) lines
unfolding tells_below
tells_some h line lines some = ap (λ t. cond t (line_late h line ∷ tells_below (after_line h line) lines) (tells_below (after_line h line) lines)) some

tells_none : (h : Heard) (line : List ℕ) (lines : List (List ℕ)) → has_digits line ≡ false → tells_below h (line ∷ lines) ≡ tells_below (after_line h line) lines
unfolding tells_below
tells_none h line lines none = ap (λ t. cond t (line_late h line ∷ tells_below (after_line h line) lines) (tells_below (after_line h line) lines)) none

one_longer : {X Y : Type 0} (x : X) (y : Y) (xs : List X) (ys : List Y) → length xs ≡ length ys → length (x ∷ xs) ≡ length (y ∷ ys)
one_longer x y xs ys e = omega (arith, e)

pub as_many : (h : Heard) (stamp : List ℕ) (lines : List (List ℕ)) → length (tells_below h lines) ≡ length (stamps_below stamp lines)
unfolding tells_below stamps_below
as_many h stamp [] = refl
as_many h stamp (line ∷ lines) =
    let next = after_line h line in
    elim (cases_Bool (is_stamp line)) [
      | inl stamped ↦ ap length (tells_none h line lines (stamp_only line stamped)) ∙ as_many next (drop 2 line) lines ∙ sym (ap length (a_stamp stamp line lines stamped))
      | inr other ↦ elim (cases_Bool (has_digits line)) [
        | inl some ↦ ap length (tells_some h line lines some) ∙ one_longer (line_late h line) stamp (tells_below next lines) (stamps_below no_stamp lines) (as_many next no_stamp lines) ∙ sym (ap length (a_run stamp line lines other some))
        | inr none ↦ ap length (tells_none h line lines none) ∙ as_many next stamp lines ∙ sym (ap length (no_digits stamp line lines other none))
      ]
    ]

pub stamps_short : (stamp : List ℕ) (lines : List (List ℕ)) → length (stamps_below stamp lines) ≤ length lines
unfolding stamps_below
stamps_short stamp [] = omega arith
stamps_short stamp (line ∷ lines) =
    let stamped = stamps_short (drop 2 line) lines in
    let digits = stamps_short no_stamp lines in
    let other = stamps_short stamp lines in
    elim (is_stamp line) as
    (λ s. length (cond s (stamps_below (drop 2 line) lines) (cond (has_digits line) (stamp ∷ stamps_below no_stamp lines) (stamps_below stamp lines))) ≤ length (line ∷ lines)) [
      | true ↦ omega (arith, stamped)
      | false ↦ elim (has_digits line) as
          (λ d. length (cond d (stamp ∷ stamps_below no_stamp lines) (stamps_below stamp lines)) ≤ length (line ∷ lines))
          [ true ↦ omega (arith, digits) | false ↦ omega (arith, other) ]
    ]

-- ---- late answers

late_cons : (run : ℕ) (told : Option LateTimes) (tells : List (Option LateTimes)) → late_from run (told ∷ tells) ≡ late_in run told ++ late_from (run + 1) tells
unfolding late_from
late_cons run told tells = refl

-- those to come have greater numbers
late_greater : (run : ℕ) (tells : List (Option LateTimes)) (answer : LateAnswer) (rest : List LateAnswer) → answer ∷ rest ≡ late_from run tells → run ≤ answer.run
unfolding late_from
late_greater run [] answer rest e = absurd cc
late_greater run (None ∷ tells) answer rest e = let more = late_greater (run + 1) tells answer rest e in omega arith
late_greater run (Some times ∷ tells) answer rest e =
    let is : answer.run ≡ run = ap (λ (l : List LateAnswer). (get_or l 0 (record { run = run; times = times })).run) e in
    omega (arith, is)

abbrev Follows : List LateAnswer → List LateAnswer → ℕ → Option LateTimes → List (Option LateTimes) → Type 0
Follows late rest run told tells = (told ≡ first_told tells) × (rest ≡ late_from (run + 1) (drop 1 tells))

-- none is to come, or one of a later run
find_none : (late : List LateAnswer) (run : ℕ) (tells : List (Option LateTimes)) → ((answer : LateAnswer) (rest : List LateAnswer) → late ≡ answer ∷ rest → answer.run ≡ run → ⊥)
    → late ≡ late_from run tells → Follows late late run None tells
unfolding late_from
find_none late run [] other e = (refl, e)
find_none late run (None ∷ tells) other e = (refl, e)
find_none late run (Some times ∷ tells) other e = absurd (other (record { run = run; times = times }) (late_from (run + 1) tells) e refl)

find_one : (answer : LateAnswer) (rest : List LateAnswer) (run : ℕ) (tells : List (Option LateTimes)) → answer.run ≡ run → answer ∷ rest ≡ late_from run tells
    → Follows (answer ∷ rest) rest run (Some answer.times) tells
unfolding late_from
find_one answer rest run [] is e = absurd cc
find_one answer rest run (None ∷ tells) is e = let more = late_greater (run + 1) tells answer rest e in absurd (omega (arith, is))
find_one answer rest run (Some times ∷ tells) is e =
    let same = ap (λ (l : List LateAnswer). get_or l 0 answer) e in
    (ap (λ (a : LateAnswer). Some a.times) same, ap (drop 1) e)

module _ (late : List LateAnswer) (at run : ℕ) where
  pub finds_past : (found : Found) → length late ≤ at → found.told ≡ None → found.at ≡ at → FindsLate late at run found
  finds_past found past told place = λ tells e.
      let none = drop_all at late past in
      let follows = find_none (drop at late) run tells (λ answer rest is same. absurd (no_cons answer rest (sym none ∙ is))) e in
      (told ∙ follows.0, ap (λ n. drop n late) place ∙ follows.1)
    where
      no_cons : (answer : LateAnswer) (rest : List LateAnswer) → [] ≡ answer ∷ rest → ⊥
      no_cons answer rest e = absurd cc

  module _ (answer : LateAnswer) (below : at < length late) (is : answer ≡ get_or late at answer) where
    stands : drop at late ≡ answer ∷ drop (at + 1) late
    stands = drop_more late at answer below ∙ ap (λ a. a ∷ drop (at + 1) late) (sym is)

    pub finds_other : (found : Found) → (answer.run ≡ run → ⊥) → found.told ≡ None → found.at ≡ at → FindsLate late at run found
    finds_other found other told place = λ tells e.
        let follows = find_none (drop at late) run tells (λ next rest at_next same. other (ap (λ (a : LateAnswer). a.run) (head answer next (drop (at + 1) late) rest (sym stands ∙ at_next)) ∙ same)) e in
        (told ∙ follows.0, ap (λ n. drop n late) place ∙ follows.1)
      where
        head : (a b : LateAnswer) (xs ys : List LateAnswer) → a ∷ xs ≡ b ∷ ys → a ≡ b
        head a b xs ys e = ap (λ l. get_or l 0 a) e

    pub finds_it : (found : Found) → answer.run ≡ run → found.told ≡ Some answer.times → found.at ≡ at + 1 → FindsLate late at run found
    finds_it found same told place = λ tells e.
        let follows = find_one answer (drop (at + 1) late) run tells same (sym stands ∙ e) in
        (told ∙ follows.0, ap (λ n. drop n late) place ∙ follows.1)

-- ---- a place

-- what stands first below a place, and the rest
first_below : {X : Type 0} (x d : X) (xs ys : List X) (n : ℕ) → x ∷ xs ≡ drop n ys → (n < length ys) × (get_or ys n d ≡ x) × (xs ≡ drop (n + 1) ys)
first_below x d xs ys n e =
    let size = length-drop n ys in
    let same : length (x ∷ xs) ≡ length (drop n ys) = ap length e in
    let below : n < length ys = omega (arith, size, same) in
    let split = drop_more ys n d below in
    (below, sym (ap (λ l. get_or l 0 d) (e ∙ split)), ap (drop 1) (e ∙ split))

first_of_rest : (n : ℕ) (tells : List (Option LateTimes)) → first_told (drop n tells) ≡ get_or tells n None
first_of_rest n tells = elim (cases_Bool (nat_lt n (length tells))) [
  | inl below ↦ ap first_told (drop_more tells n None (ltb-true n (length tells) below))
  | inr past ↦ let past_all : length tells ≤ n = ltb-false n (length tells) past in
      ap first_told (drop_all n tells past_all) ∙ sym (get_or_past tells n None past_all)
]

pub tells_run : (run : ℕ) (tells : List (Option LateTimes)) → tells_at (run + 1) tells ≡ get_or tells run None
tells_run run tells =
    let some : (run + 1 == 0) ≡ false = ne_eqb (run + 1) 0 (λ e. omega arith) in
    let place : run + 1 - 1 ≡ run = omega arith in
    ap (λ t. cond t None (get_or tells (run + 1 - 1) None)) some ∙ ap (λ n. get_or tells n None) place

pub tells_beyond : (run : ℕ) (tells : List (Option LateTimes)) → length tells < run → tells_at run tells ≡ None
tells_beyond run tells h =
    elim (run == 0) as (λ t. cond t None (get_or tells (run - 1) None) ≡ None)
    [ true ↦ refl | false ↦ get_or_past tells (run - 1) None (omega arith) ]

pub none_past : (text : List ℕ) (run : ℕ) → length (stamps_left text) < run → (stamp_at run (stamps_left text) ≡ no_stamp) × (tells_at run (tells_left text) ≡ None)
none_past text run past =
    let same = as_many nothing_heard no_stamp (left_of text) in
    (beyond run (stamps_left text) past, tells_beyond run (tells_left text) (omega (arith, same, past)))

pub runs_short : (text : List ℕ) → length (stamps_left text) ≤ length text
runs_short text = omega (arith, stamps_short no_stamp (left_of text), left_size text)

pub at_first : (s : Source) (p : Place) → IsHeard s → p.run ≡ 0 → p.held.now ≡ no_stamp → left_in p.rest ≡ left_of s.text.now → all_echoes p.rest ≡ echoes_in s.text.now
    → p.mark.stamp.now ≡ no_stamp → p.mark.told ≡ None → p.at ≡ 0 → length s.text.now < 2 ^ 64 → IsAt s.text.now s.late.now p
at_first s p heard run held left echoes stamp told place short = record {
  within = omega (arith, run);
  stamps = ap (λ h. stamps_below h (left_in p.rest)) held ∙ ap (stamps_below no_stamp) left ∙ sym (ap (λ n. drop n (stamps_left s.text.now)) run);
  late_answers = ap (λ n. drop n s.late.now) place ∙ heard.late ∙ sym (ap (λ n. late_from (n + 1) (drop n (tells_left s.text.now))) run);
  stamp = stamp ∙ sym (ap (λ n. stamp_at n (stamps_left s.text.now)) run);
  told = told ∙ sym (ap (λ n. tells_at n (tells_left s.text.now)) run);
  room = omega (arith, echoes, echoes_size s.text.now, short);
}

module _ (text : List ℕ) (late : List LateAnswer) (line : List ℕ) (old new : Place) (was : IsAt text late old)
    (taken : left_in old.rest ≡ line ∷ left_in new.rest) (echoes : all_echoes new.rest ≡ all_echoes old.rest) where
  -- nothing of it but the stamp to come is another
  passed : new.run ≡ old.run → new.at ≡ old.at → new.mark.stamp.now ≡ old.mark.stamp.now → new.mark.told ≡ old.mark.told
      → stamps_below new.held.now (left_in new.rest) ≡ stamps_below old.held.now (left_in old.rest) → IsAt text late new
  passed run place stamp told stamps = record {
    within = omega (arith, run, was.within);
    stamps = stamps ∙ was.stamps ∙ sym (ap (λ n. drop n (stamps_left text)) run);
    late_answers = ap (λ n. drop n late) place ∙ was.late_answers ∙ sym (ap (λ n. late_from (n + 1) (drop n (tells_left text))) run);
    stamp = stamp ∙ was.stamp ∙ sym (ap (λ n. stamp_at n (stamps_left text)) run);
    told = told ∙ was.told ∙ sym (ap (λ n. tells_at n (tells_left text)) run);
    room = omega (arith, echoes, was.room);
  }

  pub past_stamp : is_stamp line ≡ true → new.held.now ≡ drop 2 line → new.run ≡ old.run → new.at ≡ old.at → new.mark.stamp.now ≡ old.mark.stamp.now
      → new.mark.told ≡ old.mark.told → IsAt text late new
  past_stamp is held run place stamp told =
      passed run place stamp told
      (ap (λ h. stamps_below h (left_in new.rest)) held ∙ sym (ap (stamps_below old.held.now) taken ∙ a_stamp old.held.now line (left_in new.rest) is))

  pub past_other : is_stamp line ≡ false → has_digits line ≡ false → new.held.now ≡ old.held.now → new.run ≡ old.run → new.at ≡ old.at
      → new.mark.stamp.now ≡ old.mark.stamp.now → new.mark.told ≡ old.mark.told → IsAt text late new
  past_other other none held run place stamp told =
      passed run place stamp told
      (ap (λ h. stamps_below h (left_in new.rest)) held ∙ sym (ap (stamps_below old.held.now) taken ∙ no_digits old.held.now line (left_in new.rest) other none))

  below_run : is_stamp line ≡ false → has_digits line ≡ true → old.held.now ∷ stamps_below no_stamp (left_in new.rest) ≡ drop old.run (stamps_left text)
  below_run other some = sym (ap (stamps_below old.held.now) taken ∙ a_run old.held.now line (left_in new.rest) other some) ∙ was.stamps

  pub run_fits : is_stamp line ≡ false → has_digits line ≡ true → old.run < length (stamps_left text)
  run_fits other some = (first_below old.held.now no_stamp (stamps_below no_stamp (left_in new.rest)) (stamps_left text) old.run (below_run other some)).0

  pub at_run_next : is_stamp line ≡ false → has_digits line ≡ true → (found : Found) → FindsLate late old.at (old.run + 1) found → new.run ≡ old.run + 1 → new.at ≡ found.at
      → new.held.now ≡ no_stamp → new.mark.stamp.now ≡ old.held.now → new.mark.told ≡ found.told → IsAt text late new
  at_run_next other some found finds run place held stamp told =
      let below = first_below old.held.now no_stamp (stamps_below no_stamp (left_in new.rest)) (stamps_left text) old.run (below_run other some) in
      let tells = tells_left text in
      let found_is = finds (drop old.run tells) was.late_answers in
      record {
        within = omega (arith, run, below.0);
        stamps = ap (λ h. stamps_below h (left_in new.rest)) held ∙ below.2 ∙ sym (ap (λ n. drop n (stamps_left text)) run);
        late_answers = ap (λ n. drop n late) place ∙ found_is.1 ∙ ap (late_from (old.run + 1 + 1)) (drop-drop 1 old.run tells)
            ∙ sym (ap (λ n. late_from (n + 1) (drop n tells)) run);
        stamp = stamp ∙ sym below.1 ∙ sym (at_run old.run (stamps_left text)) ∙ sym (ap (λ n. stamp_at n (stamps_left text)) run);
        told = told ∙ found_is.0 ∙ (first_of_rest old.run tells ∙ sym (tells_run old.run tells)) ∙ sym (ap (λ n. tells_at n tells) run);
        room = omega (arith, echoes, was.room);
      }

-- no line is left
pub past_last : (text : List ℕ) (late : List LateAnswer) (p : Place) → IsAt text late p → left_in p.rest ≡ [] → length (stamps_left text) ≤ p.run
unfolding stamps_below
past_last text late p was none =
    let stamps : [] ≡ drop p.run (stamps_left text) = sym (ap (stamps_below p.held.now) none) ∙ was.stamps in
    let size = length-drop p.run (stamps_left text) in
    let nothing : 0 ≡ length (drop p.run (stamps_left text)) = ap length stamps in
    omega (arith, size, nothing)

pub at_end : (text : List ℕ) (late : List LateAnswer) (old new : Place) → IsAt text late old → left_in old.rest ≡ [] → left_in new.rest ≡ [] → all_echoes new.rest ≡ all_echoes old.rest
    → new.run ≡ old.run → new.at ≡ old.at → new.held.now ≡ old.held.now → new.mark.stamp.now ≡ old.mark.stamp.now → new.mark.told ≡ old.mark.told → IsAt text late new
at_end text late old new was none none_new echoes run place held stamp told = record {
  within = omega (arith, run, was.within);
  stamps = ap (λ h. stamps_below h (left_in new.rest)) held ∙ ap (stamps_below old.held.now) (none_new ∙ sym none) ∙ was.stamps
      ∙ sym (ap (λ n. drop n (stamps_left text)) run);
  late_answers = ap (λ n. drop n late) place ∙ was.late_answers ∙ sym (ap (λ n. late_from (n + 1) (drop n (tells_left text))) run);
  stamp = stamp ∙ was.stamp ∙ sym (ap (λ n. stamp_at n (stamps_left text)) run);
  told = told ∙ was.told ∙ sym (ap (λ n. tells_at n (tells_left text)) run);
  room = omega (arith, echoes, was.room);
}

-- ---- what is printed

-- what is printed of a line with the stamp of its run, and its late answer
pub marked_is : (marked : Bool → List ℕ → Option LateTimes → List ℕ → List ℕ) (clock : Bool) (s stamp : List ℕ) (t told : Option LateTimes) (line : List ℕ)
    → s ≡ stamp → t ≡ told → marked clock s t line ≡ marked clock stamp told line
marked_is marked clock s stamp t told line a b = ap (λ x. marked clock x t line) a ∙ ap (λ x. marked clock stamp x line) b

pub printed_is : (json clock : Bool) (text shown told times : List ℕ) (c : Capture) → HasFollowed (left_of text) c
    → told ≡ flat_map (retold_line json clock (stamps_left text) (tells_left text)) (lines_of shown) → times ≡ retold_times json (heard_of c.timed).times
    → told ++ times ≡ printed_of json clock (heard_part text) shown
printed_is json clock text shown told times c followed told_is times_is =
    ap (λ t. t ++ times) told_is
    ∙ ap (λ t. flat_map (retold_line json clock (stamps_left text) (tells_left text)) (lines_of shown) ++ t) (times_is ∙ ap (λ (h : Heard). retold_times json h.times) followed.heard)
    ∙ ap (λ l. flat_map (retold_line json clock (stamps_below no_stamp l) (tells_below nothing_heard l)) (lines_of shown) ++ retold_times json (after_lines nothing_heard l).times)
    (sym (heard_lines text))
