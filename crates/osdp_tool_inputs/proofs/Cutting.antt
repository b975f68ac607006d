-- How a text is cut, line by line.
use Rattle.osdp_tool_inputs.proofs.Common.{◌≡◌, ℕ, ◌+◌, ◌-◌, ◌≤◌, ◌<◌, List, [], ◌∷◌, ◌++◌, Bor, length, take, drop, refl, sym, subst, ap, ◌∙◌, arith, append_assoc, append-nil, length-drop, map-append, take_rest, drop-drop, HasLine, IsLine, last_line, lines_of, parts}
use Rattle.osdp_tool_captures.proofs.Cutting.{line_cut, lines_of-feed, lines_of-line}

-- these are the lines that end in the bytes so far
pub record AreCut (text : List ℕ) (at : ℕ) (lines : List (Bor (List ℕ))) : Type 0 where
  pub within : at ≤ length text
  pub whole : parts lines ++ lines_of (drop at text) ≡ lines_of text

parts_more : (lines new : List (Bor (List ℕ))) (line : Bor (List ℕ)) → new ≡ lines ++ line ∷ [] → parts new ≡ parts lines ++ line.now ∷ []
parts_more lines new line e = ap parts e ∙ map-append (λ (part : Bor (List ℕ)). part.now) lines (line ∷ [])

part_of_slice : (text : List ℕ) (at count : ℕ) → take (at + count - at) (drop at text) ≡ take count (drop at text)
part_of_slice text at count = ap (λ n. take n (drop at text)) (omega arith)

module _ (text : List ℕ) (at : ℕ) (lines new : List (Bor (List ℕ))) (line : Bor (List ℕ)) (cut : AreCut text at lines) (added : new ≡ lines ++ line ∷ []) where
  pub one_more : (count : ℕ) → HasLine (take (length text - at) (drop at text)) count → line.now ≡ take (at + count - at) (drop at text)
      → AreCut text (at + (count + 1)) new
  one_more count has is =
      let stands = subst (λ l. HasLine l count) (take_rest text at) has in
      let rest = drop (at + (count + 1)) text in
      record {
        within = let b = stands.below in let w = cut.within in let l = length-drop at text in omega arith;
        whole =
            ap (λ l. l ++ lines_of rest) (parts_more lines new line added) ∙ append_assoc (parts lines) (line.now ∷ []) (lines_of rest)
            ∙ ap (λ l. parts lines ++ l ∷ lines_of rest) (is ∙ part_of_slice text at count)
            ∙ ap (λ l. parts lines ++ l)
            (sym (ap lines_of (line_cut (drop at text) count stands) ∙ lines_of-feed (take count (drop at text)) (drop (count + 1) (drop at text)) stands.line
            ∙ ap (λ l. take count (drop at text) ∷ lines_of l) (drop-drop (count + 1) at text)))
            ∙ cut.whole;
      }

  some_line : (l : List ℕ) → 0 < length l → last_line l ≡ l ∷ []
  some_line [] h = absurd (omega arith)
  some_line (b ∷ l) h = refl

  some_left : (at ≡ length text → ⊥) → 0 < length (drop at text)
  some_left more =
      let l = length-drop at text in
      let within = cut.within in
      omega arith

  pub last_one : (at ≡ length text → ⊥) → IsLine (take (length text - at) (drop at text)) → line.now ≡ take (length text - at) (drop at text)
      → parts new ≡ lines_of text
  last_one more is_line is =
      let l = length-drop at text in
      let is_rest : IsLine (drop at text) = subst IsLine (take_rest text at) is_line in
      let within = cut.within in
      let some : 0 < length (drop at text) = some_left more in
      parts_more lines new line added ∙ ap (λ l. parts lines ++ l ∷ []) (is ∙ take_rest text at)
      ∙ ap (λ l. parts lines ++ l) (sym (lines_of-line (drop at text) is_rest ∙ some_line (drop at text) some)) ∙ cut.whole

-- nothing stands after the last line feed
pub no_more : (text : List ℕ) (at : ℕ) (lines : List (Bor (List ℕ))) → AreCut text at lines → at ≡ length text → parts lines ≡ lines_of text
no_more text at lines cut none =
    let l = length-drop at text in
    let w = cut.within in
    let none_left = nothing (drop at text) (omega arith) in
    sym (append-nil (parts lines)) ∙ ap (λ l. parts lines ++ l) (sym (lines_of-line [] tt)) ∙ ap (λ l. parts lines ++ lines_of l) (sym none_left) ∙ cut.whole
  where
    nothing : (l : List ℕ) → length l ≡ 0 → l ≡ []
    nothing [] e = refl
    nothing (b ∷ l) e = absurd (omega arith)

-- ---- the next line

pub next_line : (rest : List ℕ) (count : ℕ) → HasLine rest count → lines_of rest ≡ take count rest ∷ lines_of (drop (count + 1) rest)
next_line rest count has = ap lines_of (line_cut rest count has) ∙ lines_of-feed (take count rest) (drop (count + 1) rest) has.line

pub no_line : (rest : List ℕ) → length rest ≡ 0 → lines_of rest ≡ []
no_line [] none = lines_of-line [] tt
no_line (b ∷ rest) none = absurd (omega arith)

pub last_next : (rest : List ℕ) → IsLine rest → (length rest ≡ 0 → ⊥) → lines_of rest ≡ rest ∷ lines_of []
last_next [] is some = absurd (some refl)
last_next (b ∷ rest) is some = lines_of-line (b ∷ rest) is ∙ ap (λ l. (b ∷ rest) ∷ l) (sym (lines_of-line [] tt))
