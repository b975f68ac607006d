-- What a reader sends is a NAK where its reply is one.
use Rattle.osdp_device.proofs.Common.{◌≡◌, ◌↔◌, ℕ, Bool, true, false, Option, None, Some, Result, Ok, Err, refl, ap, sym, ◌∙◌, again_by, bytes_of, said_to, taken_by, Packet, spelling, Command, MsgFault, Reply, Answer, Kind, event_for, released, refused, reply_packet, unread_reason, ReaderState, answer_to, begun, command_in, event_or_answer, kind_of, outcome, taken, either, is_nak, is_refusal, order_by, Refused}
use Rattle.osdp_msg.specs.declared.nak.NakReason.TheVariants.{SecurityBlock, UnexpectedSequence}
use Rattle.osdp_msg.specs.declared.reply.Reply.TheVariants.{Ack, Busy}
use Rattle.osdp_reader.specs.declared.kind.Kind.TheVariants as kind
use Rattle.osdp_device.proofs.laws.refusals_are_naks.Goals as goal

-- the code of a reply is the sixth byte of its packet
by_code : (p : Packet) (sequence : ℕ) (reply : Reply) → is_nak (spelling (reply_packet p sequence reply)) ≡ is_refusal reply
by_code p sequence Ack = refl
by_code p sequence _ = refl

said_so : (p : Packet) (sequence : ℕ) (said reply : Reply) → Some said ≡ Some reply
    → is_nak (bytes_of (Some (reply_packet p sequence said))) ≡ is_refusal reply
said_so p sequence said reply e =
    let same : said ≡ reply = cc in
    by_code p sequence said ∙ ap is_refusal same

module _ {H : Type 0} (answer_of : H → Command → Answer) (after : H → Command → H) where
  by_zero : (read : Result Command MsgFault) (r : ReaderState H) (p : Packet) (reply : Reply)
      → (begun answer_of after read r p).said ≡ Some reply → is_nak (bytes_of (begun answer_of after read r p).reply) ≡ is_refusal reply
  by_zero (Err fault) r p reply e = said_so p 0 (refused (unread_reason fault)) reply e
  by_zero (Ok command) r p reply e = said_so p 0 (answer_to answer_of after r.config r.handler command).reply reply e

  by_next : (read : Result Command MsgFault) (r : ReaderState H) (p : Packet) (reply : Reply)
      → (taken answer_of after read r p).said ≡ Some reply → is_nak (bytes_of (taken answer_of after read r p).reply) ≡ is_refusal reply
  by_next (Err fault) r p reply e = said_so p p.sequence (refused (unread_reason fault)) reply e
  by_next (Ok command) r p reply e =
      let queue = released r.queue in
      said_so p p.sequence (event_or_answer answer_of after (event_for command queue.events) r.config r.handler command).reply reply e

  by_kind : (k : Kind) (r : ReaderState H) (p : Packet) (reply : Reply)
      → (outcome answer_of after k r p).said ≡ Some reply → is_nak (bytes_of (outcome answer_of after k r p).reply) ≡ is_refusal reply
  by_kind kind.Silent r p reply e = absurd cc
  by_kind kind.Secured r p reply e = said_so p p.sequence (refused SecurityBlock) reply e
  by_kind kind.Zero r p reply e = by_zero (command_in p) r p reply e
  by_kind kind.Repeat r p reply e = absurd cc
  by_kind kind.Taken r p reply e = by_next (command_in p) r p reply e
  by_kind kind.Busy r p reply e = said_so p 0 Busy reply e
  by_kind kind.Wrong r p reply e = said_so p p.sequence (refused UnexpectedSequence) reply e

-- where there is a command, it is told as refused where it is
told_so : (refused : Bool) (one other : Option Command) (command : Command) → either one other ≡ Some command
    → (order_by refused one other ≡ Refused) ↔ (refused ≡ true)
told_so true (Some it) other command e = ((λ same. refl), (λ same. refl))
told_so false (Some it) other command e = ((λ same. absurd cc), (λ same. absurd cc))
told_so true None (Some it) command e = ((λ same. refl), (λ same. refl))
told_so false None (Some it) command e = ((λ same. absurd cc), (λ same. absurd cc))
told_so refused None None command e = absurd cc

pub returns-clause-code : goal.returns-clause-code
returns-clause-code g c = λ r p reply e. by_kind g.H.Handler.answer_of g.H.Handler.after (kind_of r p) r p reply e

pub returns-clause-told : goal.returns-clause-told
returns-clause-told g c = λ r p reply command e ordered.
    let said = said_to g.H.Handler.answer_of g.H.Handler.after r p in
    let same : is_nak said.bytes ≡ is_refusal reply = by_kind g.H.Handler.answer_of g.H.Handler.after (kind_of r p) r p reply e in
    let told = told_so (is_nak said.bytes) (taken_by said.kind said.command) (again_by said.kind said.command) command ordered in
    ((λ refused. sym same ∙ told.0 refused), (λ naks. told.1 (same ∙ naks)))
