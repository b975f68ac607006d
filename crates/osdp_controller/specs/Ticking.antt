-- The table of ticks: what a moment brings about by itself.
use Rattle.std.specs.Prelude.{ℕ, ◌+◌, nat_le, nat_lt, if◌then◌else◌, List, [], ◌∷◌, Option, Some, None}
use Rattle.osdp_frame.specs.Packet.{Packet, next_sequence}
use Rattle.osdp_msg.specs.declared.command.Command.{Command}
use Rattle.osdp_controller.specs.declared.exchange.Exchange.{Exchange}
use Rattle.osdp_controller.specs.declared.exchange.Exchange.TheVariants.{Opening, Polling, Asking}
use Rattle.osdp_controller.specs.declared.exchange.Outstanding.{Outstanding}
use Rattle.osdp_controller.specs.declared.report.LostCause.TheVariants.{NoReply}
use Rattle.osdp_controller.specs.declared.report.Report.{Report}
use Rattle.osdp_controller.specs.declared.session.Session.{Session}
use Rattle.osdp_controller.specs.declared.state.State.{State}
use Rattle.osdp_controller.specs.declared.state.State.TheVariants.{Closed, Quiet, Idle, Waiting, Pausing}
use Rattle.osdp_controller.specs.Exchanges.{is_order}
use Rattle.osdp_controller.specs.Sessions.{after_send, closed, frame_of, is_poll_next, lost, seen}

-- what is sent now, and what is told now: by a tick only that the session has ended; it never does both
pub record Step : Type 0 where
  pub frame : Option Packet
  pub report : Option Report

-- what comes of a tick: the session and the waiting commands after it, and what is sent and told
pub record Ticked : Type 0 where
  pub session : Session
  pub waiting : List Command
  pub step : Step

-- nothing is due
abbrev pub stays : Session → List Command → Ticked
stays s waiting = record { session = s; waiting = waiting; step = record { frame = None; report = None } }

-- the frame of the exchange goes out
abbrev pub sends_frame : ℕ → Outstanding → Session → List Command → Ticked
sends_frame sends o s waiting = record {
  session = after_send sends o s;
  waiting = waiting;
  step = record { frame = Some (frame_of o.exchange s); report = None };
}

-- a new exchange begins, with this number
abbrev pub begins : Exchange → ℕ → Session → List Command → Ticked
begins x number s waiting =
    sends_frame 1 (record { exchange = x; busies = 0; sent = 0 }) (record s { number = number; asked = is_order x }) waiting

-- the session ends; its command is told, and the waiting ones stay
abbrev pub gives_up : Outstanding → Session → List Command → Ticked
gives_up o s waiting = record {
  session = closed s;
  waiting = waiting;
  step = record { frame = None; report = Some (lost NoReply o) };
}

-- a POLL, once it is due; what waits stays
abbrev pub polls : ℕ → Session → List Command → Ticked
polls due s waiting =
    if nat_le due s.greatest then begins Polling (next_sequence s.number) s waiting else stays s waiting

-- .. or the front of the waiting commands, where there is one
abbrev pub asks_or_polls : List Command → ℕ → Session → Ticked
asks_or_polls (command ∷ rest) due s = begins (Asking command) (next_sequence s.number) s rest
asks_or_polls [] due s = polls due s []

-- no exchange is outstanding: a command that waits goes before a POLL, unless a POLL has to come first
abbrev pub idle_ticks : List Command → ℕ → Session → Ticked
idle_ticks waiting due s = if is_poll_next s then polls due s waiting else asks_or_polls waiting due s

-- the wait for an answer is over: the same frame again, or the end
abbrev pub tries_again : ℕ → Outstanding → Session → List Command → Ticked
tries_again sends o s waiting =
    if nat_lt sends s.config.sends then sends_frame (sends + 1) o s waiting else gives_up o s waiting

-- by the state; a moment is reached where the greatest seen equals or passes it
abbrev pub ticks_in : State → Session → List Command → Ticked
ticks_in Closed s waiting = stays s waiting
ticks_in (Quiet until) s waiting =
    if nat_le until s.greatest then begins Opening 0 s waiting else stays s waiting
ticks_in (Idle due) s waiting = idle_ticks waiting due s
ticks_in (Waiting until sends o) s waiting =
    if nat_le until s.greatest then tries_again sends o s waiting else stays s waiting
ticks_in (Pausing until o) s waiting =
    if nat_le until s.greatest then sends_frame 1 o s waiting else stays s waiting

-- a tick at a moment
abbrev pub ticks : ℕ → Session → List Command → Ticked
ticks now s waiting = ticks_in s.state (seen now s) waiting
