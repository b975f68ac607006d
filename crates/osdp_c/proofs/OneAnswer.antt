-- What is written, read and sent is one thing.
use Rattle.osdp_c.proofs.Common.{◌≡◌, ◌∙◌, ℕ, Bool, true, false, List, [], Option, Some, None, Result, Ok, Err, refl, sym, ap, subst, arith, inl, inr, CommandsAreReadOnce, CommandsHaveOneAnswer, DeadlinesAreTold, EventsAreReadOnce, GivesOneBurst, OneBurstGoesOut, RepliesHaveOneAnswer, RepliesTellOneEvent, moment_in, Status, Done, TooSmall, number, MsgFault}
use Rattle.std.proofs.lemmas.Bool.{le-ltb, lt-ltb}
use Rattle.std.specs.Prelude.{◌≤◌, ◌<◌, if◌then◌else◌, is_some, max}
use Rattle.osdp_c_values.specs.declared.machine.PanelMachine.{PanelMachine}
use Rattle.osdp_c_values.specs.Panels.{ticked, turn_with, writes_burst}
use Rattle.osdp_panel.specs.Deadlines.{IsDeadline}
use Rattle.osdp_panel.specs.Orders.{PanelState, brings}
use Rattle.osdp_panel.specs.Sending.{holds_back, rests, sends, sends_of, sent_at, written_by}
use Rattle.osdp_bus.specs.Ticking.{bus_ticks}
use Rattle.osdp_c_values.specs.declared.arrays.BurstStruct.{BurstStruct}
use Rattle.osdp_c_values.specs.Moments.{moment_struct}
use Rattle.osdp_c_values.specs.Structs.{burst_of, flag}
use Rattle.osdp_c_values.specs.Texts.{IsTold, TextEnds}
use Rattle.osdp_frame.specs.Packet.{Packet}
use Rattle.osdp_frame.specs.Spelling.{spelling}
use Rattle.osdp_msg.specs.CommandTable.{command_of}
use Rattle.osdp_msg.specs.CommandText.{command_text}
use Rattle.osdp_msg.specs.declared.command.Command.{Command}
use Rattle.osdp_msg.specs.declared.event.Event.{Event}
use Rattle.osdp_msg.specs.Events.{event_reply}
use Rattle.osdp_msg.specs.ReplyTable.{reply_of}
use Rattle.osdp_msg.specs.ReplyText.{reply_text}
use Rattle.osdp_msg_laws.proofs.CommandTexts.{command_texts}
use Rattle.osdp_msg_laws.proofs.EventReplies.{same_event}
use Rattle.osdp_msg_laws.proofs.ReplyTexts.{reply_texts}
use Rattle.osdp_words.specs.Word.{words_in}

-- ---- texts

told_once : (text : List ℕ) (s t : Status) (room r q : List ℕ) (c d : ℕ) → IsTold text s room r c → IsTold text t room q d → (s ≡ t) × (r ≡ q) × (c ≡ d)
told_once text Done Done room r q c d h g = (refl, h.1 ∙ sym g.1, h.2 ∙ sym g.2)
told_once text TooSmall TooSmall room r q c d h g = (refl, h.1 ∙ sym g.1, h.2 ∙ sym g.2)
told_once text Done TooSmall room r q c d h g = absurd (omega (arith, h.0, g.0))
told_once text TooSmall Done room r q c d h g = absurd (omega (arith, h.0, g.0))
told_once text Done t room r q c d h g = absurd g
told_once text TooSmall t room r q c d h g = absurd g
told_once text s t room r q c d h g = absurd h

ends_once : {M : Type 0} (text_of : M → List ℕ) (read : Result M MsgFault) (s t : Status) (room r q : List ℕ) (count c d : ℕ)
    → TextEnds text_of read s room r count c → TextEnds text_of read t room q count d → (s ≡ t) × (r ≡ q) × (c ≡ d)
ends_once text_of (Ok m) s t room r q count c d h g = told_once (text_of m) s t room r q c d h g
ends_once text_of (Err fault) s t room r q count c d h g = (h.0 ∙ sym g.0, h.1 ∙ sym g.1, h.2 ∙ sym g.2)

pub one_command_text : CommandsHaveOneAnswer
one_command_text code body room count a b r q c d h g =
    let same = ends_once command_text (command_of code body) h.0 g.0 room r q count c d h.1 g.1 in
    (h.2 ∙ ap number same.0 ∙ sym g.2, same.1, same.2)

pub one_reply_text : RepliesHaveOneAnswer
one_reply_text code body room count a b r q c d h g =
    let same = ends_once reply_text (reply_of code body) h.0 g.0 room r q count c d h.1 g.1 in
    (h.2 ∙ ap number same.0 ∙ sym g.2, same.1, same.2)

-- ---- what is read

pub one_command : CommandsAreReadOnce
one_command text None None h g = refl
one_command text None (Some b) h g = absurd (h b g)
one_command text (Some a) None h g = absurd (g a h)
one_command text (Some a) (Some b) h g =
    ap (λ (c : Command). Some c) (command_texts.one_meaning (words_in text) a b h.fits g.fits h.words g.words)

pub one_event : EventsAreReadOnce
one_event text None None h g = refl
one_event text None (Some b) h g = absurd (h b g)
one_event text (Some a) None h g = absurd (g a h)
one_event text (Some a) (Some b) h g =
    ap (λ (e : Event). Some e)
    (same_event a b (reply_texts.one_meaning (words_in text) (event_reply a) (event_reply b) h.fits g.fits h.words g.words))

pub one_event_told : RepliesTellOneEvent
one_event_told (Err fault) a b h g = h ∙ sym g
one_event_told (Ok reply) (Ok a) (Ok b) h g = ap (λ (e : Event). Ok e) (same_event a b (sym h ∙ g))
one_event_told (Ok reply) (Ok a) (Err t) h g = absurd (g.1 a h)
one_event_told (Ok reply) (Err s) (Ok b) h g = absurd (h.1 b g)
one_event_told (Ok reply) (Err s) (Err t) h g = ap (λ (x : Status). Err x) (h.0 ∙ sym g.0)

-- ---- what goes out

abbrev IsSent : Option Packet → Type 0
IsSent sent = (packet : Packet) × (sent ≡ Some packet)

sent_of : (sent : Option Packet) (q : PanelState) (until : ℕ) → (sends (is_some sent) q).last ≡ Some until → IsSent sent
sent_of (Some packet) q until is = (packet, refl)
sent_of None q until is = absurd cc

-- a panel that has a burst to give has sent a packet
sent_unless : (held : Bool) (now until : ℕ) (p : PanelState)
    → (if held then rests now p else sends_of (bus_ticks now p.bus) p).last ≡ Some until → IsSent (if held then None else (bus_ticks now p.bus).sent)
sent_unless true now until p is = absurd cc
sent_unless false now until p is = sent_of (bus_ticks now p.bus).sent (record (brings (bus_ticks now p.bus).bus p) { brought = false }) until is

module _ (now later : ℕ) (m : PanelMachine) (sends : ℕ) (out : BurstStruct) where
  abbrev at : ℕ
  at = max (ticked now m).panel.bus.greatest later

  abbrev given : Bool → BurstStruct
  given late = burst_of (if late then [] else (ticked now m).turn) out

  in_time : (packet : Packet) (until : ℕ) → sent_at now m.panel ≡ Some packet → (ticked now m).panel.last ≡ Some until → at ≤ until
      → writes_burst later (ticked now m) out ≡ burst_of (spelling packet) out
  in_time packet until sent last before =
      ap (λ l. burst_of (written_by l at (ticked now m).turn) out) last
      ∙ ap given (le-ltb until at before)
      ∙ ap (λ s. burst_of (turn_with s m.turn) out) sent

  too_late : (until : ℕ) → (ticked now m).panel.last ≡ Some until → until < at → writes_burst later (ticked now m) out ≡ burst_of [] out
  too_late until last after =
      ap (λ l. burst_of (written_by l at (ticked now m).turn) out) last ∙ ap given (lt-ltb until at after)

  by_last : (last : Option ℕ) → (ticked now m).panel.last ≡ last → GivesOneBurst now later m sends out
  by_last None is = record {
    none = λ zero. ap (λ l. burst_of (written_by l at (ticked now m).turn) out) is;
    one = λ told. absurd (let e : 0 ≡ 1 = sym (ap (λ l. flag (is_some l)) is) ∙ told in omega (arith, e));
    either = inl (ap (λ l. flag (is_some l)) is);
  }
  by_last (Some until) is =
      let sent = sent_unless (holds_back now m.panel) now until m.panel is in
      record {
        none = λ told. absurd (let e : 1 ≡ 0 = sym (ap (λ l. flag (is_some l)) is) ∙ told in omega (arith, e));
        one = λ told. (sent.0, until, sent.1, is, (λ before. in_time sent.0 until sent.1 is before), (λ after. too_late until is after));
        either = inr (ap (λ l. flag (is_some l)) is);
      }

pub one_burst : OneBurstGoesOut
one_burst now later m sends out = by_last now later m sends out (ticked now m).panel.last refl

-- ---- deadlines

pub deadlines_are_told : DeadlinesAreTold
deadlines_are_told None before after h = h
deadlines_are_told (Some m) before after h = subst (λ s. IsDeadline m.panel (moment_in s)) (sym h.2) (again h.0 h.1)
  where
    again : (due : Option ℕ) → IsDeadline m.panel due → IsDeadline m.panel (moment_in (moment_struct due))
    again None is = is
    again (Some moment) is = is
