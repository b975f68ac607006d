-- The word at a place of a line.
use Rattle.osdp_test_script.proofs.Common.{◌≡◌, ℕ, zero, suc, ◌<◌, ◌≤◌, List, [], ◌∷◌, length, get_or, Option, Some, None, refl, sym, ap, arith, option_copied, Bor, length-append, StopsAt, texts, text_in}
use Rattle.std.specs.Prelude.{MatchOption, slice_get}
use Rattle.std.specs.List.{HoldsAt}

pub word_there : (words : List (Bor (List ℕ))) (i : ℕ) (w : Bor (List ℕ)) → i < length words → w ≡ get_or words i w → slice_get (texts words) i ≡ Some w.now
word_there [] i w h e = absurd (omega (arith, h))
word_there (x ∷ words) zero w h e = ap (λ (y : Bor (List ℕ)). Some y.now) (sym e)
word_there (x ∷ words) (suc i) w h e = word_there words i w (omega (arith, h)) e

pub word_missing : (words : List (Bor (List ℕ))) (i : ℕ) → length words ≤ i → slice_get (texts words) i ≡ None
word_missing [] i h = refl
word_missing (x ∷ words) zero h = absurd (omega (arith, h))
word_missing (x ∷ words) (suc i) h = word_missing words i (omega (arith, h))

-- .. as a call gives it
pub word_at : (words : List (Bor (List ℕ))) (i : ℕ) (r : Option (Bor (Bor (List ℕ)))) → MatchOption r (length words ≤ i) (λ w. (i < length words) × HoldsAt (λ y. w.now ≡ y) words i)
    → text_in (option_copied r) ≡ slice_get (texts words) i
word_at words i None h = sym (word_missing words i h)
word_at words i (Some w) h = sym (word_there words i w.now h.0 (h.1 w.now))

pub within : (Says : List (List ℕ) → Type 0) (given : List (List ℕ)) (place : ℕ) → StopsAt Says given place → place ≤ length given
within Says given place h = omega (arith, h.place_is, ap (λ (l : List (List ℕ)). length l) h.whole, length-append h.front h.back)
