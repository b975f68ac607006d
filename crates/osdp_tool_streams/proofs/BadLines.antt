-- The first bad line.
use Rattle.osdp_tool_streams.proofs.Common.{◌≡◌, ℕ, ◌+◌, List, [], ◌∷◌, ◌++◌, length, Option, Some, None, refl, ap, ◌∙◌, arith, AllByRecursion, option_map_or, line_bytes, IsGood, IsFirstBad}
use Rattle.osdp_tool_streams.specs.Runs.{bad_line}
use Rattle.osdp_tool_streams.proofs.RunsLemmas.{bad_line-append}

-- where all are good none is bad
pub none_bad : (number : ℕ) (lines : List (List ℕ)) → AllByRecursion IsGood lines → bad_line number lines ≡ None
unfolding bad_line
none_bad number [] h = refl
none_bad number (line ∷ lines) h = go (line_bytes line) h.0 (none_bad (number + 1) lines h.1)
  where
    go : (o : Option (List ℕ)) → (o ≡ None → ⊥) → bad_line (number + 1) lines ≡ None
        → option_map_or (λ bytes. bad_line (number + 1) lines) o (Some number) ≡ None
    go None good below = absurd (good refl)
    go (Some bytes) good below = below

pub all_good : (number : ℕ) (lines : List (List ℕ)) → bad_line number lines ≡ None → AllByRecursion IsGood lines
unfolding bad_line
all_good number [] h = tt
all_good number (line ∷ lines) h = go (all_good (number + 1) lines) (line_bytes line) refl h
  where
    go : (bad_line (number + 1) lines ≡ None → AllByRecursion IsGood lines) → (o : Option (List ℕ)) → line_bytes line ≡ o
        → option_map_or (λ bytes. bad_line (number + 1) lines) o (Some number) ≡ None
        → IsGood line × AllByRecursion IsGood lines
    go ih None e h = cc
    go ih (Some bytes) e h = ((λ bad. cc), ih h)

-- the first bad one
pub first_bad_told : (number : ℕ) (above : List (List ℕ)) (line : List ℕ) (below : List (List ℕ)) → AllByRecursion IsGood above
    → line_bytes line ≡ None → bad_line number (above ++ line ∷ below) ≡ Some (number + length above)
unfolding bad_line
first_bad_told number above line below good bad =
    bad_line-append number above (line ∷ below) (none_bad number above good)
    ∙ ap (λ o. option_map_or (λ bytes. bad_line (number + length above + 1) below) o (Some (number + length above))) bad

abbrev FoundFrom : ℕ → List (List ℕ) → ℕ → Type 0
FoundFrom start lines number =
    (above : List (List ℕ)) × (line : List ℕ) × (below : List (List ℕ)) × (lines ≡ above ++ line ∷ below)
    × AllByRecursion IsGood above × (line_bytes line ≡ None) × (number ≡ start + length above)

pub told_first_bad : (start : ℕ) (lines : List (List ℕ)) (number : ℕ) → bad_line start lines ≡ Some number → FoundFrom start lines number
unfolding bad_line
told_first_bad start [] number h = cc
told_first_bad start (line ∷ lines) number h = go (told_first_bad (start + 1) lines number) (line_bytes line) refl h
  where
    go : (bad_line (start + 1) lines ≡ Some number → FoundFrom (start + 1) lines number) → (o : Option (List ℕ)) → line_bytes line ≡ o
        → option_map_or (λ bytes. bad_line (start + 1) lines) o (Some start) ≡ Some number
        → FoundFrom start (line ∷ lines) number
    go ih None e h =
        let same : start ≡ number = cc in
        ([], line, lines, refl, tt, e, omega (arith, same))
    go ih (Some bytes) e h =
        let found = ih h in (
          line ∷ found.0,
          found.1,
          found.2,
          ap (λ l. line ∷ l) found.3,
          ((λ bad. cc), found.4),
          found.5,
          omega (found.6, arith),
        )

pub told_is : (lines : List (List ℕ)) (number : ℕ) → bad_line 1 lines ≡ Some number → IsFirstBad lines number
told_is lines number h =
    let found = told_first_bad 1 lines number h in
    record {
      above = found.0;
      line = found.1;
      below = found.2;
      whole = found.3;
      good = found.4;
      bad = found.5;
      place = omega (found.6, arith);
    }

pub is_told : (lines : List (List ℕ)) (number : ℕ) → IsFirstBad lines number → bad_line 1 lines ≡ Some number
is_told lines number first =
    ap (bad_line 1) first.whole ∙ first_bad_told 1 first.above first.line first.below first.good first.bad
    ∙ ap Some (omega (first.place, arith))
