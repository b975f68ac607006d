-- The replies of commands that are acted on: never BUSY, NAK 1 or NAK 4.
use Rattle.osdp_reader_laws.proofs.Common.{◌≡◌, ◌⊎◌, ℕ, true, Some, Result, Ok, Err, refl, sym, subst, inl, inr, false≢true, Packet, Command, MsgFault, Reply, Answer, Zero, Taken, IsPlain, event_for, released, refused, reply_packet, unread_reason, ReaderState, Outcome, answer_to, begun, command_in, kind_of, outcome, taken, event_or_answer}
use Rattle.osdp_msg.specs.declared.fault.MsgFault.TheVariants.{UnknownCode}
use Rattle.osdp_msg.specs.declared.reply.Reply.TheVariants as reply
use Rattle.osdp_reader_laws.proofs.FittingReplies.{answer_suits, event_or_answer_suits, plainly}
use Rattle.osdp_reader_laws.proofs.Meeting.{zero_number}

plain : (r : Reply) → plainly r ≡ true → IsPlain r
plain reply.Busy e = absurd (false≢true e)
plain (reply.Nak n) e = ((λ is. false≢true (rw is at e)), (λ is. false≢true (rw is at e)))
plain r e = tt

pub unread_plain : (fault : MsgFault) → plainly (refused (unread_reason fault)) ≡ true
unread_plain UnknownCode = refl
unread_plain fault = refl

module _ {H : Type 0} (answer_of : H → Command → Answer) (after : H → Command → H) where
  -- the reply said, which is sent with this number, is plain
  abbrev SaysPlainly : Outcome H → Packet → ℕ → Type 0
  SaysPlainly o p number =
      (x : Reply) × (o.said ≡ Some x) × (o.reply ≡ Some (reply_packet p number x)) × IsPlain x

  begun_plain : (read : Result Command MsgFault) (r : ReaderState H) (p : Packet)
      → SaysPlainly (begun answer_of after read r p) p 0
  begun_plain (Err fault) r p = (refused (unread_reason fault), refl, refl, plain (refused (unread_reason fault)) (unread_plain fault))
  begun_plain (Ok c) r p =
      let x = (answer_to answer_of after r.config r.handler c).reply in (x, refl, refl, plain x (answer_suits answer_of after r.config r.handler c).1)

  taken_plain : (read : Result Command MsgFault) (r : ReaderState H) (p : Packet)
      → SaysPlainly (taken answer_of after read r p) p p.sequence
  taken_plain (Err fault) r p = (refused (unread_reason fault), refl, refl, plain (refused (unread_reason fault)) (unread_plain fault))
  taken_plain (Ok c) r p =
      let events = (released r.queue).events in
      let x = (event_or_answer answer_of after (event_for c events) r.config r.handler c).reply in
      (x, refl, refl, plain x (event_or_answer_suits answer_of after r.config r.handler c events).1)

  pub acted_plain : (r : ReaderState H) (p : Packet) → (kind_of r p ≡ Zero) ⊎ (kind_of r p ≡ Taken)
      → SaysPlainly (outcome answer_of after (kind_of r p) r p) p p.sequence
  acted_plain r p (inl zero) =
      subst (λ k. SaysPlainly (outcome answer_of after k r p) p p.sequence) (sym zero)
      (subst (λ (n : ℕ). SaysPlainly (begun answer_of after (command_in p) r p) p n)
      (sym (zero_number r p zero)) (begun_plain (command_in p) r p))
  acted_plain r p (inr next) =
      subst (λ k. SaysPlainly (outcome answer_of after k r p) p p.sequence) (sym next)
      (taken_plain (command_in p) r p)
