-- What functions inside the crate say of themselves. No row of a table and no law speaks of these.
use Rattle.std.specs.Prelude.{◌≡◌, Bool, true, false, not, ◌&&◌, nat_le, nat_lt, if◌then◌else◌, List, slice_get, Option, Some, None, is_none}
use Rattle.std.specs.Option.{option_map_or}
use Rattle.osdp_frame.specs.Packet.{Packet}
use Rattle.osdp_msg.specs.declared.command.Command.{Command}
use Rattle.osdp_ring.specs.Ring.{Strings, popped}
use Rattle.osdp_controller.specs.declared.meaning.ReplyMeaning.{ReplyMeaning}
use Rattle.osdp_controller.specs.declared.meaning.ReplyMeaning.TheVariants.{Plain, Unreadable}
use Rattle.osdp_controller.specs.declared.exchange.Exchange.{Exchange}
use Rattle.osdp_controller.specs.declared.exchange.Exchange.TheVariants.{Opening}
use Rattle.osdp_controller.specs.declared.report.Report.{Report}
use Rattle.osdp_controller.specs.declared.session.Session.{Session}
use Rattle.osdp_controller.specs.declared.state.State.{State}
use Rattle.osdp_controller.specs.declared.state.State.TheVariants.{Closed, Quiet, Idle, Waiting, Pausing}
use Rattle.osdp_controller.specs.Answers.{meaning_of}
use Rattle.osdp_controller.specs.Held.{outstanding_in}
use Rattle.osdp_controller.specs.Hearing.{Heard, hears_in, ignores, pausing_hears, pd_id_of, waiting_hears}
use Rattle.osdp_controller.specs.Machine.{IsSession, Machine, after_submit, is_outstanding}
use Rattle.osdp_controller.specs.Sessions.{frame_of}
use Rattle.osdp_controller.specs.States.{is_idle, moment_of}
use Rattle.osdp_controller.specs.Ticking.{ticks_in}

-- the moment that the state waits for is reached
abbrev pub is_reached : Session → Bool
is_reached s = option_map_or (λ moment. nat_le moment s.greatest) (moment_of s.state) false

-- no answer came in time to the last of the sends
abbrev pub is_over : State → Session → Bool
is_over (Waiting until sends o) s = nat_le until s.greatest && not (nat_lt sends s.config.sends)
is_over _ s = false

-- what a tick in a state takes from what waits, unless a POLL comes next: the command, or its bytes
abbrev pub next_in : {A : Type 0} → State → Bool → List A → Option A
next_in state poll_next waiting = if is_idle state && not poll_next then slice_get waiting 0 else None

-- the first string leaves, where that is asked
abbrev pub popped_if : Bool → Strings → Strings
popped_if true q = popped q
popped_if false q = q

-- an answer is none to the exchange: the opening ID is answered by a PDID alone
abbrev pub is_no_answer : Exchange → ReplyMeaning → Bool
is_no_answer Opening (Plain reply) = is_none (pd_id_of reply)
is_no_answer Opening (Unreadable code) = true
is_no_answer _ _ = false

-- nor to one that is outstanding in a state
abbrev pub is_no_answer_in : State → ReplyMeaning → Bool
is_no_answer_in state answer = is_outstanding state && is_no_answer (outstanding_in state).exchange answer

-- an answer with the number of the exchange, by the state; where none is outstanding it is ignored
abbrev pub numbered_in : State → ReplyMeaning → Session → Heard
numbered_in Closed answer s = ignores s
numbered_in (Quiet until) answer s = ignores s
numbered_in (Idle due) answer s = ignores s
numbered_in (Waiting until sends o) answer s = waiting_hears answer sends o s
numbered_in (Pausing until o) answer s = pausing_hears answer o s

-- a tick at the greatest moment seen
abbrev pub after_act : Machine → Machine
after_act m =
    let ticked = ticks_in m.session.state m.session m.waiting in
    record m { session = ticked.session; waiting = ticked.waiting }

-- a command after the others, where it has room
abbrev pub submitted_if : Bool → Command → Machine → Machine
submitted_if true command m = after_submit command m
submitted_if false command m = m

-- the frame of the outstanding exchange, and of the one that has just been sent where one was
abbrev pub frame_in : Session → Packet
frame_in s = frame_of (outstanding_in s.state).exchange s

abbrev pub frame_if : Bool → Session → Option Packet
frame_if sends s = if sends then Some (frame_in s) else None

-- a reply of the own reader is heard: what is told, and the session after it
pub record HearsReply (p : Packet) (s : Session) (told : Option Report) (after : Session) : Type 0 where
  pub report : told ≡ (hears_in s.state p.sequence (meaning_of p) s).report
  pub session : after ≡ (hears_in s.state p.sequence (meaning_of p) s).session
  pub kept : IsSession after
