-- What a reader says anew keeps the rules, whatever its handler answers.
use Rattle.osdp_rules_laws.proofs.Common.{◌≡◌, ℕ, Bool, true, false, cond, eqb, not, ◌&&◌, nat_le, List, Option, Some, None, Ok, refl, and_right, false≢true, slice_get, Packet, Command, Event, MsgFault, UnknownCode, NakReason, CommandLength, Reply, reply_code, ReaderConfig, Answer, event_for, done_reply, list_reply, local_reply, maker_reply, not_processed, own_reply, refusal_reply, refused, reply_for, reply_packet, unread_reason, answer_to, event_or_answer, fit_finding, must_have, has_reason, is_busy, takes_nothing}
use Rattle.std.specs.Option.{option_map}
use Rattle.osdp_msg.specs.declared.command.Command.TheVariants as command
use Rattle.osdp_msg.specs.declared.command_fields.Communication.{Communication}
use Rattle.osdp_msg.specs.declared.command_fields.MakerMessage.{MakerMessage}
use Rattle.osdp_msg.specs.declared.event.Event.TheVariants as event
use Rattle.osdp_msg.specs.declared.reply.Reply.TheVariants as reply
use Rattle.osdp_msg.specs.Events.{event_reply}
use Rattle.osdp_msg.specs.NakReasons.{reason_number}
use Rattle.osdp_reader.specs.declared.handler.Answer.TheVariants as answer
use Rattle.osdp_reader.proofs.Answering.{OfReply, of_answer, of_event_or_answer}
use Rattle.osdp_rules_laws.proofs.Fine.{IsFine}

-- neither BUSY nor NAK 1 or 4
abbrev pub is_plain : Reply → Bool
is_plain reply.Busy = false
is_plain (reply.Nak n) = not (eqb (reason_number n.reason) 1) && not (eqb (reason_number n.reason) 4)
is_plain x = true

abbrev pub Suits : Command → Reply → Type 0
Suits c x = IsFine (fit_finding c (reply_code x)) × (is_plain x ≡ true)

pub unread_plain : (fault : MsgFault) → is_plain (refused (unread_reason fault)) ≡ true
unread_plain UnknownCode = refl
unread_plain fault = refl

done_suits : (c : Command) → Suits c (done_reply c)
done_suits command.Poll = (tt, refl)
done_suits c = (tt, refl)

local_suits : (c : Command) (tamper power : ℕ) → Suits c (local_reply c tamper power)
local_suits command.Poll tamper power = (tt, refl)
local_suits c tamper power = (tt, refl)

list_suits : (c : Command) (states : List ℕ) → Suits c (list_reply c states)
list_suits command.Poll states = (tt, refl)
list_suits c states = (tt, refl)

maker_suits : (c : Command) (own : MakerMessage) → Suits c (maker_reply c own)
maker_suits command.Poll own = (tt, refl)
maker_suits c own = (tt, refl)

pub nak_fits : (c : Command) → IsFine (fit_finding c 0x41)
nak_fits command.Poll = tt
nak_fits c = tt

refusal_suits : (c : Command) (reason : NakReason) → Suits c (refusal_reply reason)
refusal_suits c CommandLength = (nak_fits c, refl)
refusal_suits c reason = (nak_fits c, refl)

for_suits : (a : Answer) (c : Command) → Suits c (reply_for a c)
for_suits answer.Done c = done_suits c
for_suits (answer.Local tamper power) c = local_suits c tamper power
for_suits (answer.List states) c = list_suits c states.items
for_suits (answer.Refuse reason) c = refusal_suits c reason
for_suits (answer.Maker own) c = maker_suits c own

comset_suits : (asked : Communication) (within : Bool) → Suits (command.Comset asked) (cond within (reply.Com asked) not_processed)
comset_suits asked true = (tt, refl)
comset_suits asked false = (tt, refl)

own_suits : (config : ReaderConfig) (c : Command) → OfReply (Suits c) (own_reply config c)
own_suits config command.Poll = (tt, refl)
own_suits config (command.Id kept) = (tt, refl)
own_suits config (command.Cap kept) = (tt, refl)
own_suits config (command.Comset asked) = comset_suits asked (nat_le asked.address 126)
own_suits config c = tt

event_suits : (e : Event) → Suits command.Poll (event_reply e)
event_suits (event.LocalState s) = (tt, refl)
event_suits e = (tt, refl)

-- POLL, ID and CAP are not refused
abbrev pub IsServed : Command → Reply → Type 0
IsServed c x = must_have (Ok c) ≡ true → eqb (reply_code x) 0x41 ≡ false

event_served : (e : Event) → eqb (reply_code (event_reply e)) 0x41 ≡ false
event_served (event.LocalState s) = refl
event_served e = refl

module _ {H : Type 0} (answer_of : H → Command → Answer) (after : H → Command → H) where
  pub answer_suits : (config : ReaderConfig) (handler : H) (c : Command) → Suits c (answer_to answer_of after config handler c).reply
  answer_suits = of_answer Suits event_suits own_suits for_suits answer_of after

  pub told_suits : (config : ReaderConfig) (handler : H) (c : Command) (events : List Event)
      → Suits c (event_or_answer answer_of after (event_for c events) config handler c).reply
  told_suits = of_event_or_answer Suits event_suits own_suits for_suits answer_of after

  pub answer_served : (config : ReaderConfig) (handler : H) (c : Command) → IsServed c (answer_to answer_of after config handler c).reply
  answer_served config handler command.Poll must = refl
  answer_served config handler (command.Id kept) must = refl
  answer_served config handler (command.Cap kept) must = refl
  answer_served config handler c must = absurd (false≢true must)

  poll_served : (o : Option Event) (config : ReaderConfig) (handler : H)
      → eqb (reply_code (event_or_answer answer_of after (option_map event_reply o) config handler command.Poll).reply) 0x41 ≡ false
  poll_served None config handler = refl
  poll_served (Some e) config handler = event_served e

  pub told_served : (config : ReaderConfig) (handler : H) (c : Command) (events : List Event)
      → IsServed c (event_or_answer answer_of after (event_for c events) config handler c).reply
  told_served config handler command.Poll events must = poll_served (slice_get events 0) config handler
  told_served config handler (command.Id kept) events must = refl
  told_served config handler (command.Cap kept) events must = refl
  told_served config handler c events must = absurd (false≢true must)

-- what a plain reply's packet says
pub record SaysPlainly (a : Packet) : Type 0 where
  pub damage : has_reason 1 a ≡ false
  pub turned : has_reason 4 a ≡ false
  pub busy : is_busy a ≡ false
  pub takes : takes_nothing a ≡ false

reasons : (one four : Bool) → (not one && not four) ≡ true → (one ≡ false) × (four ≡ false)
reasons false false e = (refl, refl)
reasons true four e = absurd (false≢true e)
reasons false true e = absurd (false≢true e)

nothing_of : (a : Packet) → has_reason 1 a ≡ false → has_reason 4 a ≡ false → is_busy a ≡ false → takes_nothing a ≡ false
nothing_of a one four busy = rw (busy, one, four) refl

pub plain_says : (x : Reply) → is_plain x ≡ true → (p : Packet) (number : ℕ) → SaysPlainly (reply_packet p number x)
plain_says reply.Busy plain p number = absurd (false≢true plain)
plain_says (reply.Nak n) plain p number =
    let no = reasons (eqb (reason_number n.reason) 1) (eqb (reason_number n.reason) 4) plain in
    let a = reply_packet p number (reply.Nak n) in
    let one : has_reason 1 a ≡ false = and_right _ _ no.0 in
    let four : has_reason 4 a ≡ false = and_right _ _ no.1 in
    record { damage = one; turned = four; busy = refl; takes = nothing_of a one four refl }
plain_says x plain p number = record { damage = refl; turned = refl; busy = refl; takes = refl }
