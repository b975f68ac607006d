-- Lines that have the same characters that count.
use Rattle.osdp_tool_monitor.proofs.Common.{◌≡◌, ℕ, ◌+◌, ◌==◌, cond, true, false, List, [], ◌∷◌, ◌++◌, length, map, Some, refl, sym, ap, ◌∙◌, length-map, option_map_or, kept, said, kept-append}
use Rattle.osdp_tool_streams.specs.Cut.{ended_after, line_feed, unended_after}
use Rattle.osdp_tool_streams.specs.Runs.{bad_line, good_front}

-- .. one by one
abbrev pub AreAlike : List (List ℕ) → List (List ℕ) → Type 0
AreAlike lines others = map kept lines ≡ map kept others

pub good_alike : (lines others : List (List ℕ)) → AreAlike lines others → good_front lines ≡ good_front others
unfolding good_front
good_alike [] [] same = refl
good_alike [] (m ∷ others) same = cc
good_alike (l ∷ lines) [] same = cc
good_alike (l ∷ lines) (m ∷ others) same =
    let head : kept l ≡ kept m = cc in
    let tail : map kept lines ≡ map kept others = cc in
    ap (λ k. option_map_or (λ bytes. bytes ∷ good_front lines) (said k) []) head
    ∙ ap (λ front. option_map_or (λ bytes. bytes ∷ front) (said (kept m)) []) (good_alike lines others tail)

pub bad_alike : (number : ℕ) (lines others : List (List ℕ)) → AreAlike lines others → bad_line number lines ≡ bad_line number others
unfolding bad_line
bad_alike number [] [] same = refl
bad_alike number [] (m ∷ others) same = cc
bad_alike number (l ∷ lines) [] same = cc
bad_alike number (l ∷ lines) (m ∷ others) same =
    let head : kept l ≡ kept m = cc in
    let tail : map kept lines ≡ map kept others = cc in
    ap (λ k. option_map_or (λ bytes. bad_line (number + 1) lines) (said k) (Some number)) head
    ∙ ap (λ below. option_map_or (λ bytes. below) (said (kept m)) (Some number)) (bad_alike (number + 1) lines others tail)

pub length_alike : (lines others : List (List ℕ)) → AreAlike lines others → length lines ≡ length others
length_alike lines others same = sym (length-map lines kept) ∙ ap length same ∙ length-map others kept

-- what ends after lines that are alike is alike
pub alike_after : (line other bytes : List ℕ) → kept line ≡ kept other
    → AreAlike (ended_after line bytes) (ended_after other bytes) × (kept (unended_after line bytes) ≡ kept (unended_after other bytes))
unfolding ended_after unended_after
alike_after line other [] same = (refl, same)
alike_after line other (b ∷ bytes) same =
    let longer = kept-append line (b ∷ []) ∙ ap (λ k. k ++ kept (b ∷ [])) same ∙ sym (kept-append other (b ∷ [])) in
    let going = alike_after (line ++ b ∷ []) (other ++ b ∷ []) bytes longer in
    elim (b == line_feed) as (λ t.
    AreAlike (cond t (line ∷ ended_after [] bytes) (ended_after (line ++ b ∷ []) bytes)) (cond t (other ∷ ended_after [] bytes) (ended_after (other ++ b ∷ []) bytes))
    × (kept (cond t (unended_after [] bytes) (unended_after (line ++ b ∷ []) bytes)) ≡ kept (cond t (unended_after [] bytes) (unended_after (other ++ b ∷ []) bytes))))
    [ true ↦ (ap (λ k. k ∷ map kept (ended_after [] bytes)) same, refl) | false ↦ going ]
