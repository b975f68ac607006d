-- Items that are taken off a framer one by one.
use Rattle.osdp_tool_show.proofs.Common.{◌≡◌, ℕ, ◌<◌, ◌==◌, ◌&&◌, not, Bool, true, false, List, [], ◌∷◌, ◌++◌, length, drop, Some, None, refl, sym, subst, ap, ◌∙◌, arith, append_assoc, append-nil, drop-drop, ne_eqb, AreBytes, RunItem, item_size, total_size, Held, decided, after_advance, after_first, later, items, AreBytes-drop, undecided_none, undecided_ended, decided_nothing, items_undecided, items_decided}

-- these of the items that the held bytes decide have been taken off
pub record Taking (start now : Held) (parts : List RunItem) : Type 0 where
  pub whole : items start.ended start.bytes ≡ parts ++ items now.ended now.bytes
  pub rest : drop (total_size (items now.ended now.bytes)) now.bytes ≡ drop (total_size (items start.ended start.bytes)) start.bytes
  pub bytes : AreBytes now.bytes
  pub some : now.ended ≡ true → 0 < length now.bytes

pub taking_start : (start : Held) → AreBytes start.bytes → (start.ended ≡ true → 0 < length start.bytes) → Taking start start []
taking_start start fits some = record { whole = refl; rest = refl; bytes = fits; some = some }

-- the bytes after the next item
pub next_bytes : (now next : Held) (part : RunItem) → decided now.ended now.bytes ≡ Some part → next ≡ after_advance now
    → next.bytes ≡ drop (item_size part) now.bytes
next_bytes now next part is advanced = ap (λ (h : Held). h.bytes) (advanced ∙ ap (after_first now) is)

-- of a run that has ended nothing but its end is left where no byte is
still_ended : (ended : Bool) (rest : List ℕ) → items (ended && not (length rest == 0)) rest ≡ items ended rest
still_ended ended [] = items_undecided (ended && false) [] (decided_nothing (ended && false)) ∙ sym (items_undecided ended [] (decided_nothing ended))
still_ended true (b ∷ rest) = ap (λ t. items (true && not t) (b ∷ rest)) (ne_eqb (length (b ∷ rest)) 0 (λ h. omega arith))
still_ended false (b ∷ rest) = refl

ended_some : (ended : Bool) (rest : List ℕ) → (ended && not (length rest == 0)) ≡ true → 0 < length rest
ended_some true [] h = cc
ended_some false [] h = cc
ended_some ended (b ∷ rest) h = omega arith

pub taking_step : (start now next : Held) (parts : List RunItem) (part : RunItem) → Taking start now parts → decided now.ended now.bytes ≡ Some part
    → next ≡ after_advance now → Taking start next (parts ++ part ∷ [])
taking_step start now next parts part t is advanced =
    let left = drop (item_size part) now.bytes in
    let here : next ≡ later now part = advanced ∙ ap (after_first now) is in
    let first : items now.ended now.bytes ≡ part ∷ items now.ended left = items_decided now.ended now.bytes part t.bytes is in
    let same : items next.ended next.bytes ≡ items now.ended left =
    ap (λ (h : Held). items h.ended h.bytes) here ∙ still_ended now.ended left in
    let bytes_are : next.bytes ≡ left = next_bytes now next part is advanced in
    record {
      whole = t.whole ∙ ap (λ l. parts ++ l) (first ∙ ap (λ l. part ∷ l) (sym same)) ∙ sym (append_assoc parts (part ∷ []) (items next.ended next.bytes));
      rest = ap (λ l. drop (total_size l) next.bytes) same ∙ ap (λ l. drop (total_size (items now.ended left)) l) bytes_are
          ∙ drop-drop (total_size (items now.ended left)) (item_size part) now.bytes ∙ sym (ap (λ l. drop (total_size l) now.bytes) first) ∙ t.rest;
      bytes = subst AreBytes (sym bytes_are) (AreBytes-drop (item_size part) now.bytes t.bytes);
      some = λ e. subst (λ (l : List ℕ). 0 < length l) (sym bytes_are) (ended_some now.ended left (sym (ap (λ (h : Held). h.ended) here) ∙ e));
    }

-- they are all that the held bytes decide
pub record Taken (start now : Held) (parts : List RunItem) : Type 0 where
  pub whole : items start.ended start.bytes ≡ parts
  pub left : now.bytes ≡ drop (total_size (items start.ended start.bytes)) start.bytes
  pub goes_on : now.ended ≡ false
  pub none : decided false now.bytes ≡ None

pub taken_all : (start now : Held) (parts : List RunItem) → Taking start now parts → decided now.ended now.bytes ≡ None → Taken start now parts
taken_all start now parts t is =
    let none : items now.ended now.bytes ≡ [] = items_undecided now.ended now.bytes is in
    let open_ended : now.ended ≡ false = goes_on now.ended refl in
    record {
      whole = t.whole ∙ ap (λ l. parts ++ l) none ∙ append-nil parts;
      left = sym (ap (λ l. drop (total_size l) now.bytes) none) ∙ t.rest;
      goes_on = open_ended;
      none = ap (λ e. decided e now.bytes) (sym open_ended) ∙ is;
    }
  where
    goes_on : (e : Bool) → now.ended ≡ e → now.ended ≡ false
    goes_on false h = h
    goes_on true h =
        let bytes_none : now.bytes ≡ [] = undecided_ended now.bytes (undecided_none true now.bytes (ap (λ e. decided e now.bytes) (sym h) ∙ is)) in
        let some = t.some h in
        let none : length now.bytes ≡ 0 = ap length bytes_none in
        absurd (omega arith)
