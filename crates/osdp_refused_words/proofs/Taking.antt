-- Whether a word may stand in a slot.
use Rattle.osdp_refused_words.proofs.Common.{◌≡◌, ◌↔◌, ℕ, ◌≤◌, Bool, false, IsTrue, List, length, Option, Some, None, is_some, refl, sym, subst, arith, IsBytes, StandsFor, Word, bytes, IsSlot, SlotTakes, Slot, Bytes}
use Rattle.arrayvec.specs.ArrayVec.{ArrayVec, array_vec_len}
use Rattle.osdp_words.specs.Reading.{Reads}

pub same_slot : (s t : Slot) (given : List ℕ) (b : Bool) → s ≡ t → (IsTrue b ↔ SlotTakes t given) → (IsTrue b ↔ SlotTakes s given)
same_slot s t given b e h = subst (λ (x : Slot). IsTrue b ↔ SlotTakes x given) (sym e) h

-- a word is read exactly where it stands for a value
pub read_one : {A : Type 0} (word : A → Word) (Allowed : A → Type 0) (given : List ℕ) (r : Option A) → Reads word Allowed given r
    → (IsTrue (is_some r) ↔ ((a : A) × StandsFor (word a) given × Allowed a))
read_one word Allowed given (Some a) h = (λ t. (a, h.value.0, h.value.1), λ x. refl)
read_one word Allowed given None h = (λ t. cc t, λ x. let none = h.only x.0 x.2 x.1 in cc none)

abbrev pub IsHexList : ArrayVec ℕ → Type 0
IsHexList list = (array_vec_len list ≤ 4096) × IsBytes list.items

pub no_list : (least most : ℕ) (given : List ℕ) → IsSlot (Bytes least most) → Reads (λ (list : ArrayVec ℕ). bytes list.items) IsHexList given None → SlotTakes (Bytes least most) given → ⊥
no_list least most given is h x =
    let made : ArrayVec ℕ = record { items = x.0 } in
    let none = h.only made (omega (arith, x.2.1, is.1), x.2.2) x.1 in cc none

-- the list that was read is the one that may stand there
pub one_list : (least most : ℕ) (given : List ℕ) (list : ArrayVec ℕ) → IsSlot (Bytes least most) → Reads (λ (list : ArrayVec ℕ). bytes list.items) IsHexList given (Some list)
    → SlotTakes (Bytes least most) given → (least ≤ length list.items) × (length list.items ≤ most)
one_list least most given list is h x =
    let made : ArrayVec ℕ = record { items = x.0 } in
    let same : Some list ≡ Some made = h.only made (omega (arith, x.2.1, is.1), x.2.2) x.1 in
    let one : list ≡ made = cc same in
    subst (λ (l : ArrayVec ℕ). (least ≤ length l.items) × (length l.items ≤ most)) (sym one) (x.2.0, x.2.1)

-- the same of what a call tells
pub list_missing : (least most : ℕ) (given : List ℕ) (r : Option (ArrayVec ℕ)) → IsSlot (Bytes least most) → Reads (λ (list : ArrayVec ℕ). bytes list.items) IsHexList given r → r ≡ None
    → (IsTrue false ↔ SlotTakes (Bytes least most) given)
list_missing least most given r is h e =
    let none = subst (λ (o : Option (ArrayVec ℕ)). Reads (λ (list : ArrayVec ℕ). bytes list.items) IsHexList given o) e h in
    (λ t. cc t, λ x. absurd (no_list least most given is none x))

pub list_there : (least most count : ℕ) (given : List ℕ) (list : ArrayVec ℕ) (r : Option (ArrayVec ℕ)) (b : Bool) → IsSlot (Bytes least most)
    → Reads (λ (list : ArrayVec ℕ). bytes list.items) IsHexList given r → r ≡ Some list → count ≡ length list.items → (IsTrue b ↔ ((least ≤ count) × (count ≤ most)))
    → (IsTrue b ↔ SlotTakes (Bytes least most) given)
list_there least most count given list r b is h e n within =
    let some = subst (λ (o : Option (ArrayVec ℕ)). Reads (λ (list : ArrayVec ℕ). bytes list.items) IsHexList given o) e h in (
      λ t. let bounds = within.0 t in (list.items, some.value.0, (omega (arith, n, bounds.0), omega (arith, n, bounds.1), some.value.1.1)),
      λ x. let bounds = one_list least most given list is some x in within.1 (omega (arith, n, bounds.0), omega (arith, n, bounds.1)),
    )
