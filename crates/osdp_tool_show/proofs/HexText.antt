-- Bytes as hexadecimal digits, byte by byte.
use Rattle.osdp_tool_show.proofs.Common.{◌≡◌, ℕ, ◌+◌, ◌/◌, ◌%◌, ◌<◌, ◌≤◌, List, [], ◌∷◌, ◌++◌, length, drop, get_or, slice_index, refl, ◌∙◌, append_assoc, add-one, drop-cons, drop_all}
use Rattle.hex.specs.Hex.{encode_upper, encode_with, upper_digits}

-- the digits from a place on are the two of the byte there and those after it
pub encode_upper-drop : (bytes : List ℕ) (i : ℕ) → i < length bytes
    → encode_upper (drop i bytes) ≡ (slice_index upper_digits (get_or bytes i 0 / 16) ∷ slice_index upper_digits (get_or bytes i 0 % 16) ∷ []) ++ encode_upper (drop (i + 1) bytes)
unfolding encode_with
encode_upper-drop bytes i below = rw (add-one, drop-cons bytes i 0) refl

-- one more byte is written
pub encode_upper-more : (start text high new bytes : List ℕ) (i : ℕ) → i < length bytes
    → text ++ encode_upper (drop i bytes) ≡ start ++ encode_upper bytes
    → high ≡ text ++ slice_index upper_digits (get_or bytes i 0 / 16) ∷ []
    → new ≡ high ++ slice_index upper_digits (get_or bytes i 0 % 16) ∷ []
    → new ++ encode_upper (drop (i + 1) bytes) ≡ start ++ encode_upper bytes
encode_upper-more start text high new bytes i below before first second =
    let step = encode_upper-drop bytes i below in
    let whole : new ++ encode_upper (drop (i + 1) bytes) ≡ text ++ encode_upper (drop i bytes) =
    rw (second, first, step) (simp append_assoc) in
    whole ∙ before

pub encode_upper-done : (bytes : List ℕ) (i : ℕ) → length bytes ≤ i → encode_upper (drop i bytes) ≡ []
unfolding encode_with
encode_upper-done bytes i past = rw (drop_all i bytes past) refl
