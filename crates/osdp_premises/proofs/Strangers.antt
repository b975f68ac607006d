-- Order where others speak, too.
use Rattle.osdp_premises.proofs.Common.{ℕ, List, [], ◌∷◌, Option, Some, None, inl, inr, Packet, items_of, Each, site_at, Call, Next, OfPanel, read_by, read_up_to, Burst, InUse, Station, AreInOrder, InOrder, IsOfOthers, NextInOrder}
use Rattle.osdp_link_laws.proofs.Lines.{each_of}
use Rattle.osdp_premises.specs.Strangers.{AllIsSaid, AreSaid, NextIsSaid, SparesOthers, read_in, read_next}

module _ (Others : Packet → Type 0) (said : List Burst) where
  said_order : (ps : List Packet) (places : List ℕ) (before : ℕ) → AreSaid said ps places before → AreInOrder Others said ps places before
  said_order [] [] before all = tt
  said_order [] (i ∷ places) before all = absurd all
  said_order (p ∷ ps) [] before all = absurd all
  said_order (p ∷ ps) (i ∷ places) before all = inl (all.0, all.1, all.2, all.3, said_order ps places i all.4)

  order_said : (ps : List Packet) (places : List ℕ) (before : ℕ) → Each (λ p. Others p → ⊥) ps → AreInOrder Others said ps places before
      → AreSaid said ps places before
  order_said [] [] before none order = tt
  order_said [] (i ∷ places) before none order = absurd order
  order_said (p ∷ ps) [] before none order = absurd (none.0 order.0)
  order_said (p ∷ ps) (i ∷ places) before none (inl ours) = (ours.0, ours.1, ours.2, ours.3, order_said ps places i none.1 ours.4)
  order_said (p ∷ ps) (i ∷ places) before none (inr others) = absurd (none.0 others.0)

  others_order : (ps : List Packet) (before : ℕ) → Each Others ps → AreInOrder Others said ps [] before
  others_order [] before all = tt
  others_order (p ∷ ps) before all = (all.0, others_order ps before all.1)

module _ {H : Type 0} where
  next_said : (places : List ℕ) (l : InUse H) (o : Option (Station H)) → NextIsSaid l.said places o → NextInOrder l places o
  next_said places l None all = tt
  next_said places l (Some t) all = said_order (IsOfOthers l) l.said (read_up_to t.reader (items_of t.line.held)) places t.place all

  next_ours : (places : List ℕ) (l : InUse H) (o : Option (Station H)) → Each (λ p. IsOfOthers l p → ⊥) (read_next o) → NextInOrder l places o
      → NextIsSaid l.said places o
  next_ours places l None none order = tt
  next_ours places l (Some t) none order = order_said (IsOfOthers l) l.said (read_up_to t.reader (items_of t.line.held)) places t.place none order

  next_others : (l : InUse H) (o : Option (Station H)) → Each (IsOfOthers l) (read_next o) → NextInOrder l [] o
  next_others l None all = tt
  next_others l (Some t) all = others_order (IsOfOthers l) l.said (read_up_to t.reader (items_of t.line.held)) t.place all

  all_said : (call : Call H) (places : List ℕ) (l : InUse H) → AllIsSaid call places l → InOrder call places l
  all_said (OfPanel call) places l all = said_order (IsOfOthers l) l.said (read_by call l.bus) places l.place all
  all_said (Next k) places l all = next_said places l (site_at k l.stations) all
  all_said _ places l all = tt

  all_ours : (call : Call H) (places : List ℕ) (l : InUse H) → Each (λ p. IsOfOthers l p → ⊥) (read_in call l) → InOrder call places l
      → AllIsSaid call places l
  all_ours (OfPanel call) places l none order = order_said (IsOfOthers l) l.said (read_by call l.bus) places l.place none order
  all_ours (Next k) places l none order = next_ours places l (site_at k l.stations) none order
  all_ours _ places l none order = tt

  all_others : (call : Call H) (l : InUse H) → Each (IsOfOthers l) (read_in call l) → InOrder call [] l
  all_others (OfPanel call) l all = others_order (IsOfOthers l) l.said (read_by call l.bus) l.place all
  all_others (Next k) l all = next_others l (site_at k l.stations) all
  all_others _ l all = tt

  pub spares_others : SparesOthers H
  spares_others = record {
    all_said = all_said;
    none_of_others = λ (call : Call H) (places : List ℕ) (l : InUse H) none order. all_ours call places l (each_of (λ p. IsOfOthers l p → ⊥) (read_in call l) none) order;
    others_alone = λ (call : Call H) (l : InUse H) all. all_others call l (each_of (IsOfOthers l) (read_in call l) all);
  }
