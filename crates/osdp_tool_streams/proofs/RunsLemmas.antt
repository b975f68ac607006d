-- The lines above the first bad one, from piece to piece.
use Rattle.osdp_tool_streams.proofs.Common.{◌≡◌, ℕ, ◌+◌, List, [], ◌∷◌, ◌++◌, length, Option, Some, None, refl, ap, ◌∙◌, arith, option_map_or, line_bytes}
use Rattle.osdp_tool_streams.specs.Runs.{good_front, bad_line}

-- after lines that are all good the next ones count
pub good_front-append : (number : ℕ) (xs ys : List (List ℕ)) → bad_line number xs ≡ None
    → good_front (xs ++ ys) ≡ good_front xs ++ good_front ys
unfolding good_front bad_line
good_front-append number [] ys h = refl
good_front-append number (line ∷ xs) ys h = go (good_front-append (number + 1) xs ys) (line_bytes line) h
  where
    go : (bad_line (number + 1) xs ≡ None → good_front (xs ++ ys) ≡ good_front xs ++ good_front ys) → (o : Option (List ℕ)) → option_map_or (λ bytes. bad_line (number + 1) xs) o (Some number) ≡ None
        → option_map_or (λ bytes. bytes ∷ good_front (xs ++ ys)) o [] ≡ option_map_or (λ bytes. bytes ∷ good_front xs) o [] ++ good_front ys
    go ih None e = cc
    go ih (Some bytes) e = ap (λ l. bytes ∷ l) (ih e)

pub bad_line-append : (number : ℕ) (xs ys : List (List ℕ)) → bad_line number xs ≡ None
    → bad_line number (xs ++ ys) ≡ bad_line (number + length xs) ys
unfolding bad_line
bad_line-append number [] ys h = ap (λ n. bad_line n ys) (omega arith)
bad_line-append number (line ∷ xs) ys h = go (bad_line-append (number + 1) xs ys) (line_bytes line) h
  where
    go : (bad_line (number + 1) xs ≡ None → bad_line (number + 1) (xs ++ ys) ≡ bad_line (number + 1 + length xs) ys) → (o : Option (List ℕ)) → option_map_or (λ bytes. bad_line (number + 1) xs) o (Some number) ≡ None
        → option_map_or (λ bytes. bad_line (number + 1) (xs ++ ys)) o (Some number) ≡ bad_line (number + length (line ∷ xs)) ys
    go ih None e = cc
    go ih (Some bytes) e = ih e ∙ ap (λ n. bad_line n ys) (omega arith)

-- after a bad line nothing counts
pub good_front-stays : (number bad : ℕ) (xs ys : List (List ℕ)) → bad_line number xs ≡ Some bad
    → good_front (xs ++ ys) ≡ good_front xs
unfolding good_front bad_line
good_front-stays number bad [] ys h = cc
good_front-stays number bad (line ∷ xs) ys h = go (good_front-stays (number + 1) bad xs ys) (line_bytes line) h
  where
    go : (bad_line (number + 1) xs ≡ Some bad → good_front (xs ++ ys) ≡ good_front xs) → (o : Option (List ℕ)) → option_map_or (λ bytes. bad_line (number + 1) xs) o (Some number) ≡ Some bad
        → option_map_or (λ bytes. bytes ∷ good_front (xs ++ ys)) o [] ≡ option_map_or (λ bytes. bytes ∷ good_front xs) o []
    go ih None e = refl
    go ih (Some bytes) e = ap (λ l. bytes ∷ l) (ih e)

pub bad_line-stays : (number bad : ℕ) (xs ys : List (List ℕ)) → bad_line number xs ≡ Some bad
    → bad_line number (xs ++ ys) ≡ Some bad
unfolding bad_line
bad_line-stays number bad [] ys h = cc
bad_line-stays number bad (line ∷ xs) ys h = go (bad_line-stays (number + 1) bad xs ys) (line_bytes line) h
  where
    go : (bad_line (number + 1) xs ≡ Some bad → bad_line (number + 1) (xs ++ ys) ≡ Some bad) → (o : Option (List ℕ)) → option_map_or (λ bytes. bad_line (number + 1) xs) o (Some number) ≡ Some bad
        → option_map_or (λ bytes. bad_line (number + 1) (xs ++ ys)) o (Some number) ≡ Some bad
    go ih None e = e
    go ih (Some bytes) e = ih e
