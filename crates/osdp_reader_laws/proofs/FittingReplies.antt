-- The replies to commands that are acted on fit them, and are plain.
use Rattle.osdp_reader_laws.proofs.Common.{◌≡◌, ◌⊎◌, subst, sym, refl, ℕ, Bool, true, false, not, ◌&&◌, eqb, cond, nat_le, List, Some, Result, Ok, inl, inr, Packet, Command, Event, MsgFault, Reply, event_reply, ReaderConfig, Answer, Kind, Zero, Taken, event_for, released, done_reply, list_reply, local_reply, maker_reply, not_processed, own_reply, refusal_reply, reply_for, ReaderState, Outcome, answer_to, begun, command_in, event_or_answer, kind_of, outcome, taken}
use Rattle.osdp_msg.specs.declared.command_fields.MakerMessage.{MakerMessage}
use Rattle.osdp_msg.specs.declared.command.Command.TheVariants as command
use Rattle.osdp_msg.specs.declared.command_fields.Communication.{Communication}
use Rattle.osdp_msg.specs.declared.event.Event.TheVariants as event
use Rattle.osdp_msg.specs.declared.nak.NakReason.{NakReason}
use Rattle.osdp_msg.specs.declared.nak.NakReason.TheVariants.{CommandLength}
use Rattle.osdp_msg.specs.declared.reply.Reply.TheVariants as reply
use Rattle.osdp_msg.specs.Fitting.{reply_fits}
use Rattle.osdp_msg.specs.NakReasons.{reason_number}
use Rattle.osdp_reader.specs.declared.handler.Answer.TheVariants as answer
use Rattle.osdp_reader.proofs.Answering.{OfReply, of_answer, of_event_or_answer}

-- whether a reply is plain: neither BUSY nor NAK 1 or 4
abbrev pub plainly : Reply → Bool
plainly reply.Busy = false
plainly (reply.Nak n) = not (eqb (reason_number n.reason) 1) && not (eqb (reason_number n.reason) 4)
plainly r = true

abbrev pub Suits : Command → Reply → Type 0
Suits c r = (reply_fits c r ≡ true) × (plainly r ≡ true)

-- ---- what the handler answers

done_suits : (c : Command) → Suits c (done_reply c)
done_suits command.Poll = (refl, refl)
done_suits c = (refl, refl)

local_suits : (c : Command) (tamper power : ℕ) → Suits c (local_reply c tamper power)
local_suits command.Poll tamper power = (refl, refl)
local_suits c tamper power = (refl, refl)

list_suits : (c : Command) (states : List ℕ) → Suits c (list_reply c states)
list_suits command.Poll states = (refl, refl)
list_suits c states = (refl, refl)

maker_suits : (c : Command) (own : MakerMessage) → Suits c (maker_reply c own)
maker_suits command.Poll own = (refl, refl)
maker_suits c own = (refl, refl)

refusal_suits : (c : Command) (reason : NakReason) → Suits c (refusal_reply reason)
refusal_suits c CommandLength = (refl, refl)
refusal_suits c reason = (refl, refl)

for_suits : (a : Answer) (c : Command) → Suits c (reply_for a c)
for_suits answer.Done c = done_suits c
for_suits (answer.Local tamper power) c = local_suits c tamper power
for_suits (answer.List states) c = list_suits c states.items
for_suits (answer.Refuse reason) c = refusal_suits c reason
for_suits (answer.Maker own) c = maker_suits c own

-- ---- what the reader answers by itself

comset_suits : (asked : Communication) (within : Bool) → Suits (command.Comset asked) (cond within (reply.Com asked) not_processed)
comset_suits asked true = (refl, refl)
comset_suits asked false = (refl, refl)

own_suits : (config : ReaderConfig) (c : Command) → OfReply (Suits c) (own_reply config c)
own_suits config command.Poll = (refl, refl)
own_suits config (command.Id kept) = (refl, refl)
own_suits config (command.Cap kept) = (refl, refl)
own_suits config (command.Comset asked) = comset_suits asked (nat_le asked.address 126)
own_suits config c = tt

event_suits : (e : Event) → Suits command.Poll (event_reply e)
event_suits (event.LocalState s) = (refl, refl)
event_suits e = (refl, refl)

-- ---- what is said

module _ {H : Type 0} (answer_of : H → Command → Answer) (after : H → Command → H) where
  pub answer_suits : (config : ReaderConfig) (handler : H) (c : Command) → Suits c (answer_to answer_of after config handler c).reply
  answer_suits = of_answer Suits event_suits own_suits for_suits answer_of after

  pub event_or_answer_suits : (config : ReaderConfig) (handler : H) (c : Command) (events : List Event)
      → Suits c (event_or_answer answer_of after (event_for c events) config handler c).reply
  event_or_answer_suits = of_event_or_answer Suits event_suits own_suits for_suits answer_of after

  pub answer_fits : (config : ReaderConfig) (handler : H) (c : Command) → reply_fits c (answer_to answer_of after config handler c).reply ≡ true
  answer_fits config handler c = (answer_suits config handler c).0

  -- the reply that is said fits the command
  abbrev SaysFitting : Command → Outcome H → Type 0
  SaysFitting c o = (said : Reply) × (o.said ≡ Some said) × (reply_fits c said ≡ true)

  pub says_what_fits : (r : ReaderState H) (p : Packet) (c : Command) → (kind_of r p ≡ Zero) ⊎ (kind_of r p ≡ Taken) → command_in p ≡ Ok c
      → SaysFitting c (outcome answer_of after (kind_of r p) r p)
  says_what_fits r p c (inl zero) is =
      subst (λ (k : Kind). SaysFitting c (outcome answer_of after k r p)) (sym zero)
      (subst (λ (read : Result Command MsgFault). SaysFitting c (begun answer_of after read r p)) (sym is)
      ((answer_to answer_of after r.config r.handler c).reply, refl, answer_fits r.config r.handler c))
  says_what_fits r p c (inr next) is =
      let told = event_for c (released r.queue).events in
      subst (λ (k : Kind). SaysFitting c (outcome answer_of after k r p)) (sym next)
      (subst (λ (read : Result Command MsgFault). SaysFitting c (taken answer_of after read r p)) (sym is) (
        (event_or_answer answer_of after told r.config r.handler c).reply,
        refl,
        (event_or_answer_suits r.config r.handler c (released r.queue).events).0,
      ))
