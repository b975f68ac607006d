-- A loop that changes each rule of a list, and one that makes them.
use Rattle.osdp_tool_test_panel.proofs.Common.{◌≡◌, ℕ, ◌+◌, ◌<◌, ◌≤◌, List, [], ◌∷◌, ◌++◌, length, get_or, map, take, drop, set, refl, sym, subst, ap, ◌∙◌, append_assoc, append-nil, arith, Told, new_entry, told, fresh_from, PanelRule}
use Rattle.std.proofs.lemmas.List.{drop-set-lt, drop_all, drop_more, map-append, take_all, take_more_set}
use Rattle.osdp_tool_test.specs.declared.entry.Entry.{Entry}

-- those before a place were changed so, and the others not
pub record Changed (f : Told → Told) (old : List Entry) (k : ℕ) (now : List Entry) : Type 0 where
  pub so_far : map told (take k now) ++ map f (map told (drop k now)) ≡ map f (map told old)

pub changed_none : (f : Told → Told) (old : List Entry) → Changed f old 0 old
changed_none f old = record { so_far = refl }

pub changed_more : (f : Told → Told) (old : List Entry) (k : ℕ) (now next : List Entry) (d new : Entry) → k < length now → next ≡ set now k new
    → told new ≡ f (told (get_or now k d)) → Changed f old k now → Changed f old (k + 1) next
changed_more f old k now next d new within wrote changed h =
    let split : drop k now ≡ get_or now k d ∷ drop (k + 1) now = drop_more now k d within in
    let front : map told (take (k + 1) next) ≡ map told (take k now) ++ told new ∷ [] =
    ap (λ (l : List Entry). map told (take (k + 1) l)) wrote ∙ ap (map told) (take_more_set now k new within) ∙ map-append told (take k now) (new ∷ []) in
    let back : drop (k + 1) next ≡ drop (k + 1) now = ap (λ (l : List Entry). drop (k + 1) l) wrote ∙ drop-set-lt (k + 1) now k new (omega arith) in
    let rest : map f (map told (drop k now)) ≡ f (told (get_or now k d)) ∷ map f (map told (drop (k + 1) now)) = ap (λ (l : List Entry). map f (map told l)) split in
    record {
      so_far = ap (λ l. l ++ map f (map told (drop (k + 1) next))) front
          ∙ append_assoc (map told (take k now)) (told new ∷ []) (map f (map told (drop (k + 1) next)))
          ∙ ap (λ (l : List Entry). map told (take k now) ++ told new ∷ map f (map told l)) back
          ∙ ap (λ t. map told (take k now) ++ t ∷ map f (map told (drop (k + 1) now))) changed
          ∙ ap (λ l. map told (take k now) ++ l) (sym rest) ∙ h.so_far;
    }

pub changed_all : (f : Told → Told) (old : List Entry) (k : ℕ) (now : List Entry) → length now ≤ k → Changed f old k now → map told now ≡ map f (map told old)
changed_all f old k now past h =
    ap (map told) (sym (take_all k now past)) ∙ sym (append-nil (map told (take k now)))
    ∙ ap (λ (l : List Entry). map told (take k now) ++ map f (map told l)) (sym (drop_all k now past)) ∙ h.so_far

-- the rules before a place were made
abbrev pub Made : List PanelRule → ℕ → List Entry → Type 0
Made rules k made = map told made ++ fresh_from (k + 1) (drop k rules) ≡ fresh_from 1 rules

made_there : (rules : List PanelRule) (k : ℕ) (made next : List Entry) (d : PanelRule) (new : Entry) → k < length rules
    → next ≡ made ++ new ∷ [] → told new ≡ new_entry (k + 1) (get_or rules k d).says.now (get_or rules k d).ground → Made rules k made → Made rules (k + 1) next
made_there rules k made next d new within pushed new_is h =
    let split : drop k rules ≡ get_or rules k d ∷ drop (k + 1) rules = drop_more rules k d within in
    let front : map told next ≡ map told made ++ told new ∷ [] = ap (map told) pushed ∙ map-append told made (new ∷ []) in
    ap (λ l. l ++ fresh_from (k + 1 + 1) (drop (k + 1) rules)) front
    ∙ append_assoc (map told made) (told new ∷ []) (fresh_from (k + 1 + 1) (drop (k + 1) rules))
    ∙ ap (λ t. map told made ++ t ∷ fresh_from (k + 1 + 1) (drop (k + 1) rules)) new_is
    ∙ ap (λ (l : List PanelRule). map told made ++ fresh_from (k + 1) l) (sym split) ∙ h

pub made_more : (rules : List PanelRule) (k i : ℕ) (made next : List Entry) (d : PanelRule) (new : Entry) → k ≡ i → i < length rules
    → next ≡ made ++ new ∷ [] → told new ≡ new_entry (k + 1) (get_or rules i d).says.now (get_or rules i d).ground → Made rules k made → Made rules (k + 1) next
made_more rules k i made next d new same within pushed new_is h =
    made_there rules k made next d new (omega (arith, same, within)) pushed
    (subst (λ (at : ℕ). told new ≡ new_entry (k + 1) (get_or rules at d).says.now (get_or rules at d).ground) (sym same) new_is) h

pub made_all : (rules : List PanelRule) (k : ℕ) (made : List Entry) → length rules ≤ k → Made rules k made → map told made ≡ fresh_from 1 rules
made_all rules k made past h =
    sym (append-nil (map told made)) ∙ ap (λ (l : List PanelRule). map told made ++ fresh_from (k + 1) l) (sym (drop_all k rules past)) ∙ h
