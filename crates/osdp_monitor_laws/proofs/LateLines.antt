-- A reader that answers late, and its listener: what holds of them, whatever is sent.
use Rattle.osdp_monitor_laws.proofs.Common.{◌≡◌, ◌⊎◌, inl, inr, ℕ, Bool, true, false, eqb, List, [], ◌++◌, Option, Some, None, refl, sym, subst, ap, ◌∙◌, append_assoc, cases_Bool, eqb-false, eqb-true, false≢true, Packet, Known, nothing_known, Knowledge, after_packet, found_in, no_knowledge, after_sent, after_reply, reader_accused, AnyReader, Way}
use Rattle.osdp_monitor_laws.proofs.Agreeing.{TakesZero, none_some, same_some, zero_untaken}
use Rattle.osdp_monitor_laws.proofs.AnyReaders.{Stores, same_stores, stores_none}
use Rattle.osdp_monitor_laws.proofs.Hearing.{IsSaid}
use Rattle.osdp_monitor_laws.proofs.Knowing.{all_in_order, at_address, at_all, reply_in_order}
use Rattle.osdp_monitor_laws.proofs.Numbers.{next_differs}
use Rattle.osdp_monitor_laws.proofs.ReaderLines.{zero_after}
use Rattle.osdp_monitor_laws.specs.LateReader.{Hears, IsNext, LateLine, MaySend, Owed, known_if, owed_of}
use Rattle.osdp_monitor_laws.proofs.LateKnown.{AreApart, AreInOrder, AreNumbered, AreTo, Came, Chain, HoldsAt, Steps, again_holds, apart_numbered, apart_zero, chain_heard, nothing_holds, numbered_more, numbered_to, order_more, order_numbered, sent_holds, to_more}

-- ---- the line

pub record Holds (a : ℕ) (l : LateLine) : Type 0 where
  pub zero : (b : ℕ) → TakesZero (l.known.devices b)
  pub place : l.reader.address ≡ a
  pub from : AnyReader
  pub there : from.address ≡ a
  pub stores : Stores from
  pub chain : Chain from (l.older ++ l.owed) l.reader
  pub owed_to : (x : Packet) → l.last ≡ Some x → AreTo l.owed x
  pub none_owed : l.last ≡ None → l.owed ≡ []
  pub none_older : l.last ≡ None → l.older ≡ []
  pub order : AreInOrder l.older
  pub zeros : l.answered ≡ true → (x : Packet) → l.last ≡ Some x → x.sequence ≡ 0 → AreNumbered 0 l.older
  pub apart : (x : Packet) → l.last ≡ Some x → AreApart l.older x
  pub at : HoldsAt a (l.known.devices a) from l.last l.answered l.older l.owed

-- what stands on its way, with something else known
pub known_holds : (a : ℕ) (l : LateLine) (known : Knowledge) → (holds : Holds a l) → ((b : ℕ) → TakesZero (known.devices b))
    → HoldsAt a (known.devices a) holds.from l.last l.answered l.older l.owed → Holds a (record l { known = known })
known_holds a l known holds zero at = record {
  zero = zero;
  place = holds.place;
  from = holds.from;
  there = holds.there;
  stores = holds.stores;
  chain = holds.chain;
  owed_to = holds.owed_to;
  none_owed = holds.none_owed;
  none_older = holds.none_older;
  order = holds.order;
  zeros = holds.zeros;
  apart = holds.apart;
  at = at;
}

pub forgotten : (a : ℕ) (l : LateLine) → Holds a l → Holds a (record l { known = no_knowledge })
forgotten a l holds =
    known_holds a l no_knowledge holds (λ b. zero_untaken nothing_known refl) (nothing_holds a holds.from l.last l.answered l.older l.owed)

pub zero_if : (read : Bool) (p : Packet) (known : Knowledge) → ((b : ℕ) → TakesZero (known.devices b)) → (b : ℕ) → TakesZero ((known_if read p known).devices b)
zero_if true p known zero = zero_after known p zero
zero_if false p known zero = λ b. zero_untaken nothing_known refl

-- .. of a packet to the device
pub to_holds : (P : Known → Type 0) (a : ℕ) (read : Bool) (p : Packet) (known : Knowledge) → p.reply ≡ false → p.address ≡ a → P nothing_known
    → P (after_sent (known.devices a).last (known.devices a) p) → P ((known_if read p known).devices a)
to_holds P a false p known command here nothing sent = nothing
to_holds P a true p known command here nothing sent =
    at_address P known p a nothing (λ other. absurd (other here)) (λ _ reply. absurd (false≢true (sym command ∙ reply))) (λ _ _ _. sent)
    (λ _ reply. absurd (false≢true (sym command ∙ reply)))

-- ---- the panel sends

module _ (a : ℕ) (l : LateLine) (p : Packet) (read : Bool) (way : Way) (o : Option Packet) (s : AnyReader) (holds : Holds a l) where
  abbrev older : List Owed
  older = l.older ++ l.owed

  -- what is owed then, where the packet before is known, and what was owed to packets before it has its number
  numbered : (x : Packet) → l.last ≡ Some x → AreNumbered x.sequence l.older → AreNumbered x.sequence older
  numbered x is are = numbered_more x.sequence l.older l.owed are (numbered_to l.owed x (holds.owed_to x is))

  next_differs_from : (x : Packet) → l.last ≡ Some x → IsNext l p → x.sequence ≡ p.sequence → p.sequence ≡ 0
  next_differs_from x is (inl zero) same = zero
  next_differs_from x is (inr (answered, y, last, next)) same =
      let mine : y ≡ x = same_some y x (sym last ∙ is) in
      absurd (next_differs y.sequence (sym next ∙ sym same ∙ ap (λ (z : Packet). z.sequence) (sym mine)))

  order_by : (x : Packet) → l.last ≡ Some x → Came x p l.older → AreInOrder older
  order_by x is (inl row) =
      order_more l.older l.owed holds.order (subst (λ n. AreNumbered n l.owed) row.0 (numbered_to l.owed x (holds.owed_to x is)))
  order_by x is (inr are) = order_numbered x.sequence older (numbered x is are)

  apart_by : (x : Packet) → l.last ≡ Some x → IsNext l p → Came x p l.older → AreApart older p
  apart_by x is next (inl row) = apart_zero older p row.1
  apart_by x is next (inr are) = apart_numbered x.sequence older p (numbered x is are) (next_differs_from x is next)

  -- where none was sent nothing is owed
  none_then : l.last ≡ None → older ≡ []
  none_then none = ap (λ ws. ws ++ l.owed) (holds.none_older none) ∙ holds.none_owed none

  came_at : (x : Packet) → l.last ≡ Some x → MaySend p way o s l → Came x p l.older
  came_at x is may = by_zero (cases_Bool (eqb x.sequence 0)) may.next
    where
      by_zero : (eqb x.sequence 0 ≡ true) ⊎ (eqb x.sequence 0 ≡ false) → IsNext l p → Came x p l.older
      by_zero (inr some) next = inr (subst (λ ws. AreNumbered x.sequence ws) (sym (may.came x is (eqb-false x.sequence 0 some))) tt)
      by_zero (inl zero) (inl begins) = inl (eqb-true x.sequence 0 zero, begins)
      by_zero (inl zero) (inr next) =
          let none = eqb-true x.sequence 0 zero in
          inr (subst (λ n. AreNumbered n l.older) (sym none) (holds.zeros next.0 x is none))

  both : (x : Option Packet) → l.last ≡ x → MaySend p way o s l → AreInOrder older × AreApart older p
  both None is may =
      let none = none_then is in
      (subst AreInOrder (sym none) tt, subst (λ ws. AreApart ws p) (sym none) tt)
  both (Some x) is may =
      let came = came_at x is may in
      (order_by x is came, apart_by x is may.next came)

  answered_next : IsNext l p → (p.sequence ≡ 0) ⊎ (l.answered ≡ true)
  answered_next (inl zero) = inl zero
  answered_next (inr next) = inr next.0

  pub sends : MaySend p way o s l
      → Holds a (record { reader = s; last = Some p; answered = false; older = l.older ++ l.owed; owed = owed_of p o; known = known_if read p l.known })
  sends may =
      let hears = may.hears in
      let is = both l.last refl may in
      record {
        zero = zero_if read p l.known holds.zero;
        place = hears.stays ∙ holds.place;
        from = holds.from;
        there = holds.there;
        stores = holds.stores;
        chain = chain_heard older holds.from l.reader s p o way hears.goes hears.stays holds.chain;
        owed_to = λ x last. subst (λ y. AreTo (owed_of p o) y) (same_some p x last) (to_more [] p o tt);
        none_owed = λ none. absurd (none_some p (sym none));
        none_older = λ none. absurd (none_some p (sym none));
        order = is.0;
        zeros = λ now. absurd (false≢true now);
        apart = λ x last. subst (λ y. AreApart older y) (same_some p x last) is.1;
        at = to_holds (λ k. HoldsAt a k holds.from (Some p) false older (owed_of p o)) a read p l.known hears.to.0 (hears.to.1 ∙ holds.place)
            (nothing_holds a holds.from (Some p) false older (owed_of p o))
            (sent_holds a (l.known.devices a) p l.last l.answered l.older l.owed holds.from o may.another (answered_next may.next) holds.owed_to
            (λ x last. came_at x last may) holds.at);
      }

  pub repeats : Hears p way o s l → l.last ≡ Some p → Holds a (record l { reader = s; owed = l.owed ++ owed_of p o; known = known_if read p l.known })
  repeats hears last =
      let at : HoldsAt a (l.known.devices a) holds.from (Some p) l.answered l.older l.owed =
      subst (λ x. HoldsAt a (l.known.devices a) holds.from x l.answered l.older l.owed) last holds.at in
      record {
        zero = zero_if read p l.known holds.zero;
        place = hears.stays ∙ holds.place;
        from = holds.from;
        there = holds.there;
        stores = holds.stores;
        chain = subst (λ ws. Chain holds.from ws s) (append_assoc l.older l.owed (owed_of p o))
            (chain_heard (l.older ++ l.owed) holds.from l.reader s p o way hears.goes hears.stays holds.chain);
        owed_to = λ x is. let mine : p ≡ x = same_some p x (sym last ∙ is) in
            subst (λ y. AreTo (l.owed ++ owed_of p o) y) mine (to_more l.owed p o (holds.owed_to p last));
        none_owed = λ none. absurd (none_some p (sym none ∙ last));
        none_older = holds.none_older;
        order = holds.order;
        zeros = holds.zeros;
        apart = holds.apart;
        at = subst (λ x. HoldsAt a ((known_if read p l.known).devices a) holds.from x l.answered l.older (l.owed ++ owed_of p o)) (sym last)
            (to_holds (λ k. HoldsAt a k holds.from (Some p) l.answered l.older (l.owed ++ owed_of p o)) a read p l.known hears.to.0 (hears.to.1 ∙ holds.place)
            (nothing_holds a holds.from (Some p) l.answered l.older (l.owed ++ owed_of p o))
            (again_holds (l.known.devices a) p l.answered l.older l.owed holds.from o a at));
      }

-- ---- an answer comes

pub steps_stores : (u next : AnyReader) (w : Owed) (steps : Steps u w next) → Stores u → Stores steps.start
steps_stores u next w steps stores = elim steps.begins [ inl same ↦ same_stores u steps.start same stores | inr none ↦ stores_none steps.start none ]

-- it is heard at the address of the device, or at that of all
pub came_holds : (P : Known → Type 0) (a : ℕ) (known : Knowledge) (q : Packet) → IsSaid a q → P nothing_known → ((known.devices a).last ≡ None → P (known.devices a))
    → ((l : Packet) → (known.devices a).last ≡ Some l → P (after_reply (known.devices a) l q)) → P ((after_packet known q).devices a)
came_holds P a known q said_there nothing unknown replied = elim said_there.address [
  | inl here ↦
      at_address P known q a nothing (λ other. absurd (other here)) (λ _ _ none. unknown none)
      (λ _ command. absurd (false≢true (sym command ∙ said_there.reply))) (λ _ _ l is. replied l is)
  | inr all ↦ subst (λ (d : ℕ → Known). P (d a)) (sym (at_all known q all)) nothing
]

pub came_fine : (a : ℕ) (known : Knowledge) (q : Packet) → IsSaid a q → ((l : Packet) → (known.devices a).last ≡ Some l → reader_accused (known.devices a) l q ≡ None)
    → (found_in known q).accusation ≡ None
came_fine a known q said_there fine = elim said_there.address [
  | inl here ↦ reply_in_order known q said_there.reply
      (subst (λ b. (l : Packet) → (known.devices b).last ≡ Some l → reader_accused (known.devices b) l q ≡ None) (sym here) fine)
  | inr all ↦ all_in_order known q all
]
