-- How cutting into lines goes on from piece to piece.
use Rattle.osdp_tool_streams.proofs.Common.{◌≡◌, ℕ, ◌==◌, cond, true, false, List, [], ◌∷◌, ◌++◌, refl, sym, ap, ◌∙◌, append_assoc, append-nil, ne_eqb, AllByRecursion, flat_map}
use Rattle.osdp_tool_streams.specs.Cut.{line_feed, ended_after, unended_after, ended_lines, unended_line, IsLine}

-- the lines of two pieces, one after the other
pub ended_after-append : (line xs ys : List ℕ)
    → ended_after line (xs ++ ys) ≡ ended_after line xs ++ ended_after (unended_after line xs) ys
unfolding ended_after unended_after
ended_after-append line [] ys = refl
ended_after-append line (b ∷ xs) ys =
    let ended = ended_after-append [] xs ys in
    let going = ended_after-append (line ++ b ∷ []) xs ys in
    elim (b == line_feed) as
    (λ t. cond t (line ∷ ended_after [] (xs ++ ys)) (ended_after (line ++ b ∷ []) (xs ++ ys))
    ≡ cond t (line ∷ ended_after [] xs) (ended_after (line ++ b ∷ []) xs)
    ++ ended_after (cond t (unended_after [] xs) (unended_after (line ++ b ∷ []) xs)) ys)
    [ true ↦ ap (λ l. line ∷ l) ended | false ↦ going ]

pub unended_after-append : (line xs ys : List ℕ)
    → unended_after line (xs ++ ys) ≡ unended_after (unended_after line xs) ys
unfolding unended_after
unended_after-append line [] ys = refl
unended_after-append line (b ∷ xs) ys =
    let ended = unended_after-append [] xs ys in
    let going = unended_after-append (line ++ b ∷ []) xs ys in
    elim (b == line_feed) as
    (λ t. cond t (unended_after [] (xs ++ ys)) (unended_after (line ++ b ∷ []) (xs ++ ys))
    ≡ unended_after (cond t (unended_after [] xs) (unended_after (line ++ b ∷ []) xs)) ys)
    [ true ↦ ended | false ↦ going ]

-- no line ends in a piece without a line feed
pub ended_after-line : (line xs : List ℕ) → IsLine xs → ended_after line xs ≡ []
unfolding ended_after
ended_after-line line [] h = refl
ended_after-line line (b ∷ xs) h =
    ap (λ t. cond t (line ∷ ended_after [] xs) (ended_after (line ++ b ∷ []) xs)) (ne_eqb b line_feed h.0)
    ∙ ended_after-line (line ++ b ∷ []) xs h.1

pub unended_after-line : (line xs : List ℕ) → IsLine xs → unended_after line xs ≡ line ++ xs
unfolding unended_after
unended_after-line line [] h = sym (append-nil line)
unended_after-line line (b ∷ xs) h =
    ap (λ t. cond t (unended_after [] xs) (unended_after (line ++ b ∷ []) xs)) (ne_eqb b line_feed h.0)
    ∙ unended_after-line (line ++ b ∷ []) xs h.1 ∙ append_assoc line (b ∷ []) xs

-- a line feed ends the line before it
pub ended_after-feed : (line xs ys : List ℕ) → IsLine xs
    → ended_after line (xs ++ line_feed ∷ ys) ≡ (line ++ xs) ∷ ended_after [] ys
unfolding ended_after
ended_after-feed line xs ys h =
    ended_after-append line xs (line_feed ∷ ys)
    ∙ ap (λ l. l ++ ended_after (unended_after line xs) (line_feed ∷ ys)) (ended_after-line line xs h)
    ∙ ap (λ l. l ∷ ended_after [] ys) (unended_after-line line xs h)

pub unended_after-feed : (line xs ys : List ℕ) → unended_after line (xs ++ line_feed ∷ ys) ≡ unended_after [] ys
unfolding unended_after
unended_after-feed line xs ys = unended_after-append line xs (line_feed ∷ ys)

-- a cut is the one cut
pub ended_lines-cut : (bytes : List ℕ) (lines : List (List ℕ)) (rest : List ℕ) → AllByRecursion IsLine lines → IsLine rest
    → bytes ≡ flat_map (λ line. line ++ line_feed ∷ []) lines ++ rest
    → (ended_lines bytes ≡ lines) × (unended_line bytes ≡ rest)
ended_lines-cut bytes [] rest each last whole =
    (ap ended_lines whole ∙ ended_after-line [] rest last, ap unended_line whole ∙ unended_after-line [] rest last)
ended_lines-cut bytes (line ∷ lines) rest each last whole =
    let more = flat_map (λ line. line ++ line_feed ∷ []) lines ++ rest in
    let parts : bytes ≡ line ++ line_feed ∷ more =
    whole ∙ append_assoc (line ++ line_feed ∷ []) (flat_map (λ line. line ++ line_feed ∷ []) lines) rest ∙ append_assoc line (line_feed ∷ []) more in
    let below = ended_lines-cut more lines rest each.1 last refl in (
      ap ended_lines parts ∙ ended_after-feed [] line more each.0 ∙ ap (λ l. line ∷ l) below.0,
      ap unended_line parts ∙ unended_after-feed [] line more ∙ below.1,
    )
