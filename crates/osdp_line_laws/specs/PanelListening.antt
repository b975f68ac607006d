-- What a panel by lines hears beside its bus: when it takes a session for open, and by which moments it hears.
use Rattle.std.specs.Prelude.{◌≡◌, ◌↔◌, ℕ, true, false, List, IsSome, Some, None}
use Rattle.osdp_bus.specs.declared.config.BusConfig.{BusConfig}
use Rattle.osdp_bus.specs.declared.entry.Entry.{Entry}
use Rattle.osdp_bus.specs.Buses.{device_of}
use Rattle.osdp_bus.specs.Settings.{IsBusConfig}
use Rattle.osdp_controller.specs.Hearing.{hears, ignores}
use Rattle.osdp_controller.specs.Sessions.{seen}
use Rattle.osdp_frame.specs.Packet.{Packet}
use Rattle.osdp_line_answers.specs.Answers.{Speaks}
use Rattle.osdp_line_calls.specs.PanelLines.{Answers}
use Rattle.osdp_line_calls.specs.Passing.{is_open, passed_text}
use Rattle.osdp_line_calls.specs.PassingLaws.{IsNotOpen}
use Rattle.osdp_line_calls.specs.PanelSessions.{Session, new_session}

pub record ListensBesideItsBus (s : Session) : Type 0 where
  -- a session is told open exactly where it is open: else it is closed, waits for quiet, or opens with number 0
  pub opened : (entry : ℕ) (d : Entry) → device_of entry s.panel.bus ≡ Some d
      → (is_open entry s.listening.opened ≡ false) ↔ IsNotOpen d.controller.session
  -- and none is where there is no device
  pub absent : (entry : ℕ) → device_of entry s.panel.bus ≡ None → is_open entry s.listening.opened ≡ false
  -- what would be told as passed over does nothing to its device but bring the moment
  pub passed : (p : Packet) (now entry : ℕ) (d : Entry) → device_of entry s.panel.bus ≡ Some d → is_open entry s.listening.opened ≡ false
      → p.reply ≡ true → IsSome (passed_text p) → hears p now d.controller.session ≡ ignores (seen now d.controller.session)
  -- the gap, the moment of the last bytes and the greatest moment seen are those of the bus
  pub gap : s.listening.gap ≡ s.panel.bus.config.gap
  pub last : s.listening.last ≡ s.panel.bus.last
  pub greatest : s.listening.greatest ≡ s.panel.bus.greatest

-- so it is after all lines to a new panel
abbrev pub ListensAlways : Type 0
ListensAlways = (config : BusConfig) (lines : List (List ℕ)) (text : List ℕ) (last : Session) → IsBusConfig config
    → Speaks Answers (new_session config) lines text last → ListensBesideItsBus last
