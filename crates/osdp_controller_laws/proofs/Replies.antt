-- What the answer to an exchange brings about, of each kind by itself.
use Rattle.osdp_controller_laws.proofs.Common.{◌≡◌, ◌≢◌, ◌≤◌, ◌<◌, ◌∙◌, ap, arith, ℕ, Bool, true, false, ◌&&◌, Option, Some, None, refl, nat_lt, ◌==◌, eq-eqb, lt-ltb, Packet, Command, Communication, EventOfReader, Reply, PdId, event_in, event_reply, Opening, Polling, Asking, Report, PollAnswered, Session, answered, com_of, command_answered, comset_of, is_ack, moved_by, opening_answered, pd_id_of, poll_told, rests, seen}
use Rattle.osdp_msg.specs.declared.event.Event.TheVariants as events
use Rattle.osdp_msg.specs.declared.reply.Reply.TheVariants as replies
use Rattle.osdp_controller_laws.specs.Replies.{AnswersBring, Confirms}
use Rattle.osdp_controller_laws.proofs.Causes.{event_is, hears_answers, moved_parts}
use Rattle.osdp_controller_laws.proofs.Stepwise.{frames_in_steps}

-- no PDID
no_id : (reply : Reply) → ((id : PdId) → reply ≢ replies.PdId id) → pd_id_of reply ≡ None
no_id (replies.PdId id) h = absurd (h id refl)
no_id reply h = refl

-- no event, and no ACK
no_event_if : (reply : Reply) (event : Option EventOfReader) → event_in reply ≡ event → ((e : EventOfReader) → reply ≢ event_reply e) → event ≡ None
no_event_if reply None e h = refl
no_event_if reply (Some event) e h = absurd (h event (event_is reply event e))

no_ack : (reply : Reply) → reply ≢ replies.Ack → is_ack reply ≡ false
no_ack replies.Ack h = absurd (h refl)
no_ack reply h = refl

event_again : (e : EventOfReader) → event_in (event_reply e) ≡ Some e
event_again (events.LocalState s) = refl
event_again (events.Inputs states) = refl
event_again (events.Outputs states) = refl
event_again (events.Readers states) = refl
event_again (events.Raw r) = refl
event_again (events.Formatted f) = refl
event_again (events.Keypad k) = refl

told_other : (reply : Reply) → is_ack reply ≡ false → poll_told reply None ≡ Some (PollAnswered reply)
told_other reply h = rw h refl

-- the COM that moves the reader
both : (a b : Bool) → a ≡ true → b ≡ true → (a && b) ≡ true
both true b h k = k
both false b h k = cc

moves_if : (asked answered : Communication) → answered.address ≡ asked.address → asked.address ≤ 126 → moved_by (Some asked) (Some answered) ≡ Some answered
moves_if asked answered same device =
    let below : answered.address < 127 = omega (arith, same, device) in
    let yes = both (nat_lt answered.address 127) (answered.address == asked.address) (lt-ltb answered.address 127 below) (eq-eqb answered.address asked.address same) in
    rw yes refl

moved_so : (command : Command) (reply : Reply) (answered : Communication) → Confirms command reply answered → moved_by (comset_of command) (com_of reply) ≡ Some answered
moved_so command reply answered (replied, (asked, set, same, device)) =
    ap (λ (r : Reply). moved_by (comset_of command) (com_of r)) replied
    ∙ (ap (λ (c : Command). moved_by (comset_of c) (Some answered)) set ∙ moves_if asked answered same device)

stays_if : (command : Command) (reply : Reply) (moved : Option Communication) → moved_by (comset_of command) (com_of reply) ≡ moved
    → ((answered : Communication) → Confirms command reply answered → ⊥) → moved ≡ None
stays_if command reply None e h = refl
stays_if command reply (Some d) e h = absurd (h d (moved_parts command reply d e))

pub answers_bring : (p : Packet) (now : ℕ) (s : Session) → AnswersBring p now s
answers_bring p now s =
    let t : Session = seen now s in
    let steps = frames_in_steps p now s in record {
      opens = λ id is. hears_answers p now s Opening (replies.PdId id) is;
      passed = λ reply is h. hears_answers p now s Opening reply is ∙ ap (λ (o : Option PdId). opening_answered o t) (no_id reply h);
      passed_unread = λ code is. steps.unread Opening code is;
      nothing = λ is. hears_answers p now s Polling replies.Ack is;
      event = λ e is. hears_answers p now s Polling (event_reply e) is ∙ ap (λ (o : Option EventOfReader). rests (poll_told (event_reply e) o) t) (event_again e);
      no_event = λ reply is ack h.
          hears_answers p now s Polling reply is
          ∙ (ap (λ (o : Option EventOfReader). rests (poll_told reply o) t) (no_event_if reply (event_in reply) refl h)
          ∙ ap (λ (o : Option Report). rests o t) (told_other reply (no_ack reply ack)));
      unread_poll = λ code is. steps.unread Polling code is;
      moves = λ command reply d is confirms.
          hears_answers p now s (Asking command) reply is
          ∙ ap (λ (o : Option Communication). command_answered o command reply t) (moved_so command reply d confirms);
      settles = λ command reply is h.
          hears_answers p now s (Asking command) reply is
          ∙ ap (λ (o : Option Communication). command_answered o command reply t) (stays_if command reply (moved_by (comset_of command) (com_of reply)) refl h);
      unread_command = λ command code is. steps.unread (Asking command) code is;
    }
