-- What a packet is once its last bytes are written over.
use Rattle.std.proofs.Common.{◌≡◌, ℕ, ◌+◌, ◌-◌, ◌<◌, ◌≤◌, List, [], ◌∷◌, ◌++◌, length, take, get_or, sym, ap, ◌∙◌, arith}
use Rattle.std.proofs.Math.ListN.{set}
use Rattle.std.proofs.lemmas.List.{take_all, take_more_set, length-set, append_assoc}
use Rattle.osdp_check.specs.Crc.{crc_bytes}
use Rattle.osdp_test_packets.specs.Checked.{divided}

last_written : (bytes : List ℕ) (i last : ℕ) → length bytes ≡ i + 1 → set bytes i last ≡ take i bytes ++ last ∷ []
last_written bytes i last n = sym (take_all (i + 1) (set bytes i last) (omega (arith, length-set bytes i last))) ∙ take_more_set bytes i last (omega arith)

last_two_written : (bytes : List ℕ) (i j first last : ℕ) → length bytes ≡ i + 2 → j ≡ i + 1
    → set (set bytes i first) j last ≡ take i bytes ++ first ∷ last ∷ []
last_two_written bytes i j first last n next =
    let within : i < length bytes = omega arith in
    last_written (set bytes i first) j last (omega (arith, length-set bytes i first))
    ∙ rw (next, take_more_set bytes i first within) (append_assoc (take i bytes) (first ∷ []) (last ∷ []))

two_bytes : (pair : List ℕ) (x y : ℕ) → take 2 pair ≡ x ∷ y ∷ [] → get_or pair 0 0 ∷ get_or pair 1 0 ∷ [] ≡ x ∷ y ∷ []
two_bytes (a ∷ b ∷ rest) x y e = e
two_bytes (a ∷ []) x y e = cc
two_bytes [] x y e = cc

pub written_crc : (bytes pair : List ℕ) → 2 ≤ length bytes → take 2 pair ≡ crc_bytes (take (length bytes - 2) bytes)
    → set (set bytes (length bytes - 2) (get_or pair 0 0)) (length bytes - 1) (get_or pair 1 0) ≡ divided bytes
written_crc bytes pair many e =
    last_two_written bytes (length bytes - 2) (length bytes - 1) (get_or pair 0 0) (get_or pair 1 0) (omega arith) (omega arith)
    ∙ ap (λ (ending : List ℕ). take (length bytes - 2) bytes ++ ending) (two_bytes pair _ _ e)
