-- What the panel reads, before one of its controllers ticks.
use Rattle.osdp_calls_time_laws.proofs.Common.{ℕ, List, [], ◌∷◌, arith, inl, inr, Packet, Command, Each, Answer, Net, InUse, reads_those, then_refines, hears_one, panel_on, reads_here, NotPast, unheard, IsNetOf, Refines, by_none, Ordered, ordered_heard, at_length}

module _ {H : Type 0} (answer_of : H → Command → Answer) (after : H → Command → H) where
  pub reads_net : (ps : List Packet) (places : List ℕ) (l : InUse H) (n : Net H) → IsNetOf l n → Ordered l ps places → Each (NotPast l) places
      → Refines answer_of after n (reads_those answer_of after ps places l)
  reads_net [] [] l n h all past = by_none answer_of after l n h
  reads_net [] (i ∷ places) l n h all past = absurd all
  reads_net (p ∷ ps) [] l n h all past =
      reads_net ps [] (hears_one answer_of after p l) n (unheard answer_of after p l n h all.0) (ordered_heard p l ps [] l.place all.1) past
  reads_net (p ∷ ps) (i ∷ places) l n h (inr others) past =
      reads_net ps (i ∷ places) (hears_one answer_of after p l) n (unheard answer_of after p l n h others.0) (ordered_heard p l ps (i ∷ places) l.place others.1) past
  reads_net (p ∷ ps) (i ∷ places) l n h (inl all) past =
      let inside = at_length i all.0 l.said all.1 in
      let l1 = record l { place = i } in
      let l2 = hears_one answer_of after p l1 in
      let first = (panel_on answer_of after i l n h all.3 (omega (arith, inside))).refines in
      let second = then_refines answer_of after n l1 l2 first (λ m h1. (reads_here answer_of after p all.0 l1 m h1 all.1 all.2 (past.0 all.0 all.1)).refines) in
      then_refines answer_of after n l2 (reads_those answer_of after ps places l2) second (λ m h2. reads_net ps places l2 m h2 (ordered_heard p l ps places i all.4) past.1)
