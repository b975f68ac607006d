-- Skipped bytes one after the other.
use Rattle.osdp_tool_show.proofs.Common.{◌≡◌, ℕ, ◌+◌, List, [], ◌∷◌, length, map, refl, ◌∙◌, arith, SkippedItem, Refusals, Tally}
use Rattle.osdp_tool_show.specs.Tally.{tally_after, tally_after_all}
use Rattle.osdp_tool_show.specs.ToldItems.{shown_lines}

-- they are counted
pub after_passed : (tally : Tally) (bytes : List ℕ)
    → tally_after_all tally (map SkippedItem bytes) ≡ record tally { place = tally.place + length bytes; skipped = tally.skipped + length bytes }
unfolding tally_after_all
after_passed tally [] =
    let p : tally.place ≡ tally.place + 0 = omega arith in
    let s : tally.skipped ≡ tally.skipped + 0 = omega arith in
    λ i. record tally { place = p i; skipped = s i }
after_passed tally (b ∷ bytes) =
    let p : tally.place + 1 + length bytes ≡ tally.place + length (b ∷ bytes) = omega arith in
    let s : tally.skipped + 1 + length bytes ≡ tally.skipped + length (b ∷ bytes) = omega arith in
    after_passed (tally_after tally (SkippedItem b)) bytes ∙ (λ i. record tally { place = p i; skipped = s i })

-- and where refusals alone have lines they have none
pub lines_passed : (tally : Tally) (bytes : List ℕ) → shown_lines Refusals tally (map SkippedItem bytes) ≡ []
unfolding shown_lines
lines_passed tally [] = refl
lines_passed tally (b ∷ bytes) = lines_passed (tally_after tally (SkippedItem b)) bytes
