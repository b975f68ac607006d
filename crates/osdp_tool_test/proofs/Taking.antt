-- How the lines of an input are taken, one after the other.
use Rattle.osdp_tool_test.proofs.Common.{◌≡◌, ℕ, ◌+◌, ◌-◌, ◌<◌, ◌≤◌, Bool, true, false, List, [], ◌∷◌, length, take, drop, refl, sym, ap, subst, ◌∙◌, arith, inl, inr, length-drop, drop_all, take_rest, drop-drop, HasLine, IsLine, last_line, lines_of, Told, RefusesLine, StopsAt, TakesAll, TakesLine, TakesOr}
use Rattle.osdp_tool_captures.proofs.Cutting.{line_cut, lines_of-feed, lines_of-line}

module _ {T : Type 0} (takes : T → List (List ℕ) → T → Type 0) (refuses : List (List ℕ) → Type 0) (found : T → List Told) (start : T) (bytes : List ℕ) where
  abbrev pub All : T → List (List ℕ) → T → Type 0
  All = TakesAll takes refuses found

  abbrev pub Stops : ℕ → T → List (List ℕ) → ℕ → T → Type 0
  Stops = StopsAt takes refuses found

  -- what follows after the lines so far follows after all
  pub record Going (at number : ℕ) (now : T) : Type 0 where
    pub within : at ≤ length bytes
    pub counts : number ≤ at + 1
    pub taken : (last : T) → All now (lines_of (drop at bytes)) last → All start (lines_of bytes) last
    pub stopped : (n : ℕ) (last : T) → Stops number now (lines_of (drop at bytes)) n last → Stops 1 start (lines_of bytes) n last

  lines_are : (at count : ℕ) → HasLine (drop at bytes) count → lines_of (drop at bytes) ≡ take count (drop at bytes) ∷ lines_of (drop (at + (count + 1)) bytes)
  lines_are at count stands =
      ap lines_of (line_cut (drop at bytes) count stands) ∙ lines_of-feed (take count (drop at bytes)) (drop (count + 1) (drop at bytes)) stands.line
      ∙ ap (λ l. take count (drop at bytes) ∷ lines_of l) (drop-drop (count + 1) at bytes)

  -- the rest of an input, as the code takes it
  rest_is : (at : ℕ) → take (length bytes - at) (drop at bytes) ≡ drop at bytes
  rest_is at = take_rest bytes at

  whole_line : (at count n : ℕ) → n ≡ count → take n (drop at bytes) ≡ take count (drop at bytes)
  whole_line at count n is = ap (λ k. take k (drop at bytes)) is

  pub step_on : (at number count n : ℕ) (now next : T) (good : Bool) → Going at number now → HasLine (take (length bytes - at) (drop at bytes)) count → n ≡ count → good ≡ true
      → TakesOr (TakesLine takes refuses found now (take n (drop at bytes)) next) (RefusesLine takes refuses found (take n (drop at bytes))) (next ≡ now) good
      → Going (at + (count + 1)) (number + 1) next
  step_on at number count n now next false going has is good took = cc
  step_on at number count n now next true going has is good took =
      let stands = subst (λ l. HasLine l count) (rest_is at) has in
      let line = subst (λ l. TakesLine takes refuses found now l next) (whole_line at count n is) took in
      let below = stands.below in
      let left = length-drop at bytes in
      let lines = lines_are at count stands in
      record {
        within = omega (arith, below, left, going.within);
        counts = omega (arith, going.counts);
        taken = λ last h. going.taken last (subst (λ l. All now l last) (sym lines) (next, line, h));
        stopped = λ m last h. going.stopped m last (subst (λ l. Stops number now l m last) (sym lines) (inr (next, line, h)));
      }

  pub step_bad : (at number count n : ℕ) (now new : T) (good : Bool) → Going at number now → HasLine (take (length bytes - at) (drop at bytes)) count → n ≡ count → good ≡ false
      → TakesOr (TakesLine takes refuses found now (take n (drop at bytes)) new) (RefusesLine takes refuses found (take n (drop at bytes))) (new ≡ now) good
      → Stops 1 start (lines_of bytes) number new
  step_bad at number count n now new true going has is good took = cc
  step_bad at number count n now new false going has is good took =
      let stands = subst (λ l. HasLine l count) (rest_is at) has in
      let line = subst (RefusesLine takes refuses found) (whole_line at count n is) took.0 in
      going.stopped number new (subst (λ l. Stops number now l number new) (sym (lines_are at count stands)) (inl (line, refl, took.1)))

  last_is : (rest : List ℕ) → 0 < length rest → last_line rest ≡ rest ∷ []
  last_is [] some = absurd (omega (arith, some))
  last_is (b ∷ rest) some = refl

  last_lines : (at : ℕ) → at < length bytes → IsLine (drop at bytes) → lines_of (drop at bytes) ≡ drop at bytes ∷ []
  last_lines at more h = lines_of-line (drop at bytes) h ∙ last_is (drop at bytes) (omega (arith, more, length-drop at bytes))

  pub last_on : (at number : ℕ) (now next : T) (good : Bool) → Going at number now → at < length bytes → IsLine (take (length bytes - at) (drop at bytes)) → good ≡ true
      → TakesOr (TakesLine takes refuses found now (take (length bytes - at) (drop at bytes)) next) (RefusesLine takes refuses found (take (length bytes - at) (drop at bytes))) (next ≡ now) good
      → All start (lines_of bytes) next
  last_on at number now next false going more h good took = cc
  last_on at number now next true going more h good took =
      let line = subst IsLine (rest_is at) h in
      going.taken next (subst (λ l. All now l next) (sym (last_lines at more line)) (next, subst (λ l. TakesLine takes refuses found now l next) (rest_is at) took, refl))

  pub last_bad : (at number : ℕ) (now new : T) (good : Bool) → Going at number now → at < length bytes → IsLine (take (length bytes - at) (drop at bytes)) → good ≡ false
      → TakesOr (TakesLine takes refuses found now (take (length bytes - at) (drop at bytes)) new) (RefusesLine takes refuses found (take (length bytes - at) (drop at bytes))) (new ≡ now) good
      → Stops 1 start (lines_of bytes) number new
  last_bad at number now new true going more h good took = cc
  last_bad at number now new false going more h good took =
      let line = subst IsLine (rest_is at) h in
      going.stopped number new (subst (λ l. Stops number now l number new) (sym (last_lines at more line))
      (inl (subst (RefusesLine takes refuses found) (rest_is at) took.0, refl, took.1)))

  pub ended : (at number : ℕ) (now : T) → Going at number now → length bytes ≤ at → All start (lines_of bytes) now
  ended at number now going past = going.taken now (subst (λ l. All now l now) (sym (ap lines_of (drop_all at bytes past) ∙ lines_of-line [] tt)) refl)
