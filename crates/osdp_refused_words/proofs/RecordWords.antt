-- Words of one sort, and at most so many.
use Rattle.osdp_refused_words.proofs.Common.{◌≡◌, ℕ, suc, ◌+◌, ◌-◌, ◌<◌, ◌≤◌, List, [], ◌∷◌, ◌++◌, length, map, sym, ap, subst, arith, AllByRecursion, AllStandFor, SaysRecords, SlotFits, SlotTakes, SlotValue, slot_word, GoesOn, StopsAt, Slot}
use Rattle.osdp_refused_words.proofs.Stopping.{SameFronts, after, ended, first_refused}

module _ (slot : Slot) where
  no_records : (most : ℕ) → GoesOn (SaysRecords slot most) []
  no_records most = ([], ([], tt, (omega arith, tt)))

  -- the first word, and those after it
  parts : (most : ℕ) (word : List ℕ) (more : List (List ℕ)) (rs : List (SlotValue slot)) → AllStandFor (map (slot_word slot) rs) (word ∷ more) → length rs ≤ most
      → AllByRecursion (SlotFits slot) rs → SlotTakes slot word × (0 < most) × SaysRecords slot (most - 1) more
  parts most word more [] stands few fit = absurd stands
  parts most word more (r ∷ rs) stands few fit = ((r, stands.0, fit.0), omega (arith, few), (rs, stands.1, (omega (arith, few), fit.1)))

  front_parts : (most : ℕ) (word : List ℕ) (more : List (List ℕ)) → SaysRecords slot most (word ∷ more) → SlotTakes slot word × (0 < most) × SaysRecords slot (most - 1) more
  front_parts most word more says = parts most word more says.0 says.1 says.2.0 says.2.1

  with_first : (room : ℕ) (word : List ℕ) (more : List (List ℕ)) → 0 < room → SlotTakes slot word → SaysRecords slot (room - 1) more → SaysRecords slot room (word ∷ more)
  with_first room word more some takes says = (takes.0 ∷ says.0, (takes.1, says.1), (omega (arith, some, says.2.0), (takes.2, says.2.1)))

  taken_first : (room : ℕ) (word : List ℕ) → 0 < room → SlotTakes slot word → SameFronts (λ more. SaysRecords slot room (word ∷ more)) (SaysRecords slot (room - 1))
  taken_first room word some takes = record {
    to = λ front goes. (goes.0, (front_parts room word (front ++ goes.0) goes.1).2);
    from = λ front goes. (goes.0, with_first room word (front ++ goes.0) some takes goes.1);
  }

  module _ (most : ℕ) (words : List (List ℕ)) where
    -- the word that is found among those that are left is the one that is found among all
    pub record IsLeft (room place : ℕ) (left : List (List ℕ)) : Type 0 where
      pub count : place + length left ≡ length words
      pub stops : (more : ℕ) → StopsAt (SaysRecords slot room) left more → StopsAt (SaysRecords slot most) words (place + more)

    at_place : (place : ℕ) → StopsAt (SaysRecords slot most) words (place + 0) → StopsAt (SaysRecords slot most) words place
    at_place place h = subst (StopsAt (SaysRecords slot most) words) (let e : place + 0 ≡ place = omega arith in e) h

    pub at_end : (room place : ℕ) (left : List (List ℕ)) → left ≡ [] → IsLeft room place left → StopsAt (SaysRecords slot most) words place
    at_end room place left e h =
        at_place place (h.stops 0 (subst (λ (l : List (List ℕ)). StopsAt (SaysRecords slot room) l 0) (sym e) (ended (SaysRecords slot room) (no_records room))))

    stopped : (room place : ℕ) (left rest : List (List ℕ)) (word : List ℕ) → left ≡ word ∷ rest → (GoesOn (SaysRecords slot room) (word ∷ []) → ⊥) → IsLeft room place left
        → StopsAt (SaysRecords slot most) words place
    stopped room place left rest word e none h =
        at_place place (h.stops 0 (subst (λ (l : List (List ℕ)). StopsAt (SaysRecords slot room) l 0) (sym e)
        (first_refused (SaysRecords slot room) word rest (no_records room) none)))

    pub at_full : (room place : ℕ) (left rest : List (List ℕ)) (word : List ℕ) → left ≡ word ∷ rest → room ≡ 0 → IsLeft room place left → StopsAt (SaysRecords slot most) words place
    at_full room place left rest word e full h =
        stopped room place left rest word e (λ goes. let some = (front_parts room word goes.0 goes.1).1 in absurd (omega (arith, some, full))) h

    pub at_refused : (room place : ℕ) (left rest : List (List ℕ)) (word : List ℕ) → left ≡ word ∷ rest → (SlotTakes slot word → ⊥) → IsLeft room place left
        → StopsAt (SaysRecords slot most) words place
    at_refused room place left rest word e none h = stopped room place left rest word e (λ goes. none (front_parts room word goes.0 goes.1).0) h

    pub at_next : (room place next_room next : ℕ) (left rest : List (List ℕ)) (word : List ℕ) → left ≡ word ∷ rest → 0 < room → SlotTakes slot word
        → next_room ≡ room - 1 → next ≡ place + 1 → IsLeft room place left → IsLeft next_room next rest
    at_next room place next_room next left rest word e some takes is next_is h = record {
      count = omega (arith, next_is, h.count, ap (λ (l : List (List ℕ)). length l) e);
      stops = λ more stop.
          subst (StopsAt (SaysRecords slot most) words) (let n : place + suc more ≡ next + more = omega (arith, next_is) in n)
          (h.stops (suc more) (subst (λ (l : List (List ℕ)). StopsAt (SaysRecords slot room) l (suc more)) (sym e)
          (after (SaysRecords slot room) (SaysRecords slot (room - 1)) word rest more (taken_first room word some takes)
          (subst (λ (n : ℕ). StopsAt (SaysRecords slot n) rest more) is stop))));
    }
