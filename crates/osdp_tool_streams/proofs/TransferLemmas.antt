-- What reads and writes in turn do to known bytes.
use Rattle.osdp_tool_streams.proofs.Common.{◌≡◌, ◌+◌, ◌-◌, ◌<◌, ◌≤◌, ◌↔◌, ℕ, List, [], ◌++◌, length, take, drop, Option, None, Some, IfSome, sym, ap, ◌∙◌, arith, length-append, length-drop, length-take, take_all, Appends, Consumes, IsAtEnd}
use Rattle.std.proofs.Math.Seq.{take-add}
use Rattle.std.proofs.KnownBytes.{Appends-trans}

-- a write of what is left of the bytes goes on where the writes before it stopped
pub Appends-take-add : (a b c : Option (List ℕ)) (bytes : List ℕ) (done taken : ℕ) → Appends a b (take done bytes)
    → Appends b c (take taken (take (length bytes - done) (drop done bytes))) → Appends a c (take (done + taken) bytes)
Appends-take-add a b c bytes done taken before now =
    let rest : take (length bytes - done) (drop done bytes) ≡ drop done bytes =
    take_all (length bytes - done) (drop done bytes) (omega (arith, length-drop done bytes)) in
    let taken_now : Appends b c (take taken (drop done bytes)) = rw rest at now in
    rw (take-add done taken bytes) (Appends-trans a b c _ _ before taken_now)

-- a read into some room gives no byte exactly where none is left
pub reads_none_at_end : (old new : Option (List ℕ)) (room : ℕ) (buffer : List ℕ) (count : ℕ) → length buffer ≡ room → count ≤ length buffer
    → Consumes old new (take count buffer) → (count ≡ 0 → 0 < length buffer → IsAtEnd new)
    → IfSome old (λ left. 0 < room → ((count ≡ 0) ↔ (left ≡ [])))
reads_none_at_end None new room buffer count same fits front end = tt
reads_none_at_end (Some left) None room buffer count same fits front end = absurd front
reads_none_at_end (Some left) (Some rest) room buffer count same fits front end =
    λ some. (λ none. front ∙ ap (λ n. take n buffer ++ rest) none ∙ end none (omega arith), none_given)
  where
    none_given : left ≡ [] → count ≡ 0
    none_given none =
        let lengths : 0 ≡ length (take count buffer ++ rest) = ap length (sym none ∙ front) in
        omega (arith, length-append (take count buffer) rest, length-take count buffer)
