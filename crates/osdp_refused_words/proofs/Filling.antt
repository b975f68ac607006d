-- Words for slots.
use Rattle.osdp_refused_words.proofs.Common.{◌≡◌, ℕ, zero, suc, ◌+◌, ◌<◌, ◌≤◌, List, [], ◌∷◌, length, drop, get_or, replicate, refl, sym, ap, subst, arith, decimal, AllByRecursion, length-replicate, IsBytes, IsBytes-cons, IsBytes-nil, bytes, printed, Fills, IsSlot, SlotTakes, slot_word, GoesOn, StopsAt, Slot, Text, Number, Bytes, Output, Led, Capability}
use Rattle.osdp_msg.specs.declared.capability.Capability.{Capability as CapabilityRecord}
use Rattle.osdp_msg.specs.declared.leds.LedRecord.{LedRecord}
use Rattle.osdp_msg.specs.declared.outputs.OutputRecord.{OutputRecord}
use Rattle.osdp_words.proofs.WordLaws.{stands_for_itself}
use Rattle.osdp_refused_words.proofs.Stopping.{SameFronts, after, ended, first_refused}

-- ---- a word for each slot

abbrev output_record : OutputRecord
output_record = record { output = 0; control = 0; timer = 0 }

abbrev led_record : LedRecord
led_record = record {
  reader = 0;
  led = 0;
  temporary_control = 0;
  temporary_on_time = 0;
  temporary_off_time = 0;
  temporary_on_color = 0;
  temporary_off_color = 0;
  timer = 0;
  permanent_control = 0;
  permanent_on_time = 0;
  permanent_off_time = 0;
  permanent_on_color = 0;
  permanent_off_color = 0;
}

abbrev capability_record : CapabilityRecord
capability_record = record { function = 0; level = 0; count = 0 }

zeros_are_bytes : (n : ℕ) → IsBytes (replicate n 0)
zeros_are_bytes zero = IsBytes-nil
zeros_are_bytes (suc n) = IsBytes-cons 0 (replicate n 0) (omega arith) (zeros_are_bytes n)

pub some_word : (slot : Slot) → IsSlot slot → (given : List ℕ) × SlotTakes slot given
some_word (Text text) is = (text.now, (tt, refl, tt))
some_word (Number least most) is = (decimal least, (least, refl, (omega arith, is.0)))
some_word (Bytes least most) is =
    let zeros : List ℕ = replicate least 0 in
    let long : length zeros ≡ least = length-replicate {A = ℕ} least 0 in
    (printed (bytes zeros), (zeros, stands_for_itself (bytes zeros) (zeros_are_bytes least), (omega (arith, long), omega (arith, long, is.0), zeros_are_bytes least)))
some_word Output is = (printed (slot_word Output output_record), (output_record, refl, record { output = omega arith; control = omega arith; timer = omega arith }))
some_word Led is = (printed (slot_word Led led_record), (led_record, refl, record { front = zeros_are_bytes 7; timer = omega arith; later = zeros_are_bytes 5 }))
some_word Capability is = (printed (slot_word Capability capability_record), (capability_record, refl, (omega arith, omega arith, omega arith)))

pub filled : (slots : List Slot) → AllByRecursion IsSlot slots → (given : List (List ℕ)) × Fills slots given
filled [] are = ([], (tt, tt, tt))
filled (slot ∷ slots) are =
    let word = some_word slot are.0 in
    let rest = filled slots are.1 in
    (word.0 ∷ rest.0, ((word.1.0, rest.1.0), (word.1.1, rest.1.1), (word.1.2, rest.1.2)))

-- ---- the first word

pub goes_on : (slots : List Slot) → AllByRecursion IsSlot slots → GoesOn (Fills slots) []
goes_on slots are = filled slots are

-- a word stands for each slot, and one more is there
pub too_many : (word : List ℕ) (rest : List (List ℕ)) → StopsAt (Fills []) (word ∷ rest) 0
too_many word rest = first_refused (Fills []) word rest ([], (tt, tt, tt)) (λ goes. absurd goes.1.1)

-- the first word cannot stand there
pub not_taken : (slot : Slot) (slots : List Slot) (word : List ℕ) (rest : List (List ℕ)) → AllByRecursion IsSlot (slot ∷ slots) → (SlotTakes slot word → ⊥)
    → StopsAt (Fills (slot ∷ slots)) (word ∷ rest) 0
not_taken slot slots word rest are none =
    first_refused (Fills (slot ∷ slots)) word rest (goes_on (slot ∷ slots) are) (λ goes. none (goes.1.0.0, goes.1.1.0, goes.1.2.0))

-- .. or it can
pub taken : (slot : Slot) (slots : List Slot) (word : List ℕ) (rest : List (List ℕ)) (place : ℕ) → SlotTakes slot word → StopsAt (Fills slots) rest place
    → StopsAt (Fills (slot ∷ slots)) (word ∷ rest) (suc place)
taken slot slots word rest place takes h = after (Fills (slot ∷ slots)) (Fills slots) word rest place same h
  where
    same : SameFronts (λ more. Fills (slot ∷ slots) (word ∷ more)) (Fills slots)
    same = record {
      to = λ front goes. (goes.0, (goes.1.0.1, goes.1.1.1, goes.1.2.1));
      from = λ front goes. (goes.0, ((takes.0, goes.1.0), (takes.1, goes.1.1), (takes.2, goes.1.2)));
    }

-- ---- the words that are left

drop_one : (slots : List Slot) (i : ℕ) (slot : Slot) → i < length slots → slot ≡ get_or slots i slot → drop i slots ≡ slot ∷ drop (suc i) slots
drop_one [] i slot h e = absurd (omega (arith, h))
drop_one (s ∷ slots) zero slot h e = ap (λ (x : Slot). x ∷ slots) (sym e)
drop_one (s ∷ slots) (suc i) slot h e = drop_one slots i slot (omega (arith, h)) e

drop_none : (slots : List Slot) (i : ℕ) → length slots ≤ i → drop i slots ≡ []
drop_none [] zero h = refl
drop_none [] (suc i) h = refl
drop_none (s ∷ slots) zero h = absurd (omega (arith, h))
drop_none (s ∷ slots) (suc i) h = drop_none slots i (omega (arith, h))

module _ (slots : List Slot) (words : List (List ℕ)) where
  -- the word that is found among those that are left is the one that is found among all
  pub record IsLeft (place : ℕ) (left : List (List ℕ)) : Type 0 where
    pub are : AllByRecursion IsSlot (drop place slots)
    pub count : place + length left ≡ length words
    pub stops : (more : ℕ) → StopsAt (Fills (drop place slots)) left more → StopsAt (Fills slots) words (place + more)

  at_place : (place : ℕ) → StopsAt (Fills slots) words (place + 0) → StopsAt (Fills slots) words place
  at_place place h = subst (StopsAt (Fills slots) words) (let e : place + 0 ≡ place = omega arith in e) h

  pub at_end : (place : ℕ) (left : List (List ℕ)) → left ≡ [] → IsLeft place left → StopsAt (Fills slots) words place
  at_end place left e h =
      at_place place (h.stops 0 (subst (λ (l : List (List ℕ)). StopsAt (Fills (drop place slots)) l 0) (sym e) (ended (Fills (drop place slots)) (goes_on (drop place slots) h.are))))

  pub at_more : (place : ℕ) (left rest : List (List ℕ)) (word : List ℕ) → left ≡ word ∷ rest → length slots ≤ place → IsLeft place left → StopsAt (Fills slots) words place
  at_more place left rest word e none h =
      at_place place (h.stops 0 (subst (λ (l : List (List ℕ)). StopsAt (Fills (drop place slots)) l 0) (sym e)
      (subst (λ (l : List Slot). StopsAt (Fills l) (word ∷ rest) 0) (sym (drop_none slots place none)) (too_many word rest))))

  pub at_refused : (place : ℕ) (left rest : List (List ℕ)) (word : List ℕ) (slot : Slot) → left ≡ word ∷ rest → place < length slots → slot ≡ get_or slots place slot → (SlotTakes slot word → ⊥)
      → IsLeft place left → StopsAt (Fills slots) words place
  at_refused place left rest word slot e lt is none h =
      let cut = drop_one slots place slot lt is in
      at_place place (h.stops 0 (subst (λ (l : List (List ℕ)). StopsAt (Fills (drop place slots)) l 0) (sym e)
      (subst (λ (l : List Slot). StopsAt (Fills l) (word ∷ rest) 0) (sym cut) (not_taken slot (drop (suc place) slots) word rest (subst (AllByRecursion IsSlot) cut h.are) none))))

  pub at_next : (place : ℕ) (left rest : List (List ℕ)) (word : List ℕ) (slot : Slot) → left ≡ word ∷ rest → place < length slots → slot ≡ get_or slots place slot → SlotTakes slot word
      → IsLeft place left → IsLeft (suc place) rest
  at_next place left rest word slot e lt is takes h =
      let cut = drop_one slots place slot lt is in
      record {
        are = (subst (AllByRecursion IsSlot) cut h.are).1;
        count = omega (arith, h.count, ap (λ (l : List (List ℕ)). length l) e);
        stops = λ more stop.
            subst (StopsAt (Fills slots) words) (let n : place + suc more ≡ suc place + more = omega arith in n)
            (h.stops (suc more) (subst (λ (l : List (List ℕ)). StopsAt (Fills (drop place slots)) l (suc more)) (sym e)
            (subst (λ (l : List Slot). StopsAt (Fills l) (word ∷ rest) (suc more)) (sym cut) (taken slot (drop (suc place) slots) word rest more takes stop))));
      }

  pub at_next_place : (place next : ℕ) (rest : List (List ℕ)) → next ≡ place + 1 → IsLeft (suc place) rest → IsLeft next rest
  at_next_place place next rest e h = subst (λ (n : ℕ). IsLeft n rest) (let n : suc place ≡ next = omega (arith, e) in n) h
