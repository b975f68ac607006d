-- What was heard of a capture whose lines come one after the other.
use Rattle.std.specs.Prelude.{◌≡◌, ℕ, Bool, List, [], ◌++◌, Option, None, Some, Result, Ok, Err, string_bytes}
use Rattle.osdp_tool_monitor.specs.Events.{run_events}
use Rattle.osdp_tool_monitor.specs.Hearing.{IsOpen, after_events, events_report, hearing_of, line_detail, nothing_yet}
use Rattle.osdp_tool_monitor.specs.Listening.{is_wrong, listening_of, table}
use Rattle.osdp_tool_monitor.specs.declared.mode.MonitorMode.{MonitorMode}
use Rattle.osdp_tool_monitor.specs.declared.open_line.OpenLine.{OpenLine}
use Rattle.osdp_tool_streams.specs.Runs.{bad_line}
use Rattle.osdp_tool_streams.specs.declared.fault.ToolFault.{ToolFault}
use Rattle.osdp_tool_streams.specs.declared.fault.ToolFault.TheVariants.{NotHex}
use Rattle.osdp_tool_inputs.specs.declared.ears.Ears.{Ears}

-- a line went on by these lines of digits, each of them a run; a bad one ends them
pub record HeardLines (mode : MonitorMode) (lines : List (List ℕ)) (l : OpenLine) (text : List ℕ) (bad : Option ℕ) : Type 0 where
  pub prints : line_detail l ≡ mode.detail
  pub heard : hearing_of l ≡ after_events (nothing_yet mode.standard) (run_events lines)
  pub told : text ≡ events_report mode.detail (nothing_yet mode.standard) (run_events lines)
  pub is_open : IsOpen l
  pub bad_is : bad ≡ bad_line 1 lines

abbrev pub HasHeard : MonitorMode → List (List ℕ) → Ears → Type 0
HasHeard mode lines e = HeardLines mode lines e.line (string_bytes e.shown) e.bad

-- and then the table was told
abbrev pub HasEnded : MonitorMode → List (List ℕ) → Ears → Type 0
HasEnded mode lines e =
    (told : List ℕ) × HeardLines mode lines e.line told e.bad × (string_bytes e.shown ≡ told ++ table (listening_of e.line.listener))

-- no byte of a run is held
abbrev pub HoldsNone : OpenLine → Type 0
HoldsNone l = l.framer.bytes ≡ []

-- how the command ends: at a bad line its number, else whether somebody was accused, or something refused
abbrev pub answer_by : Option ℕ → Bool → Result Bool ToolFault
answer_by None wrong = Ok wrong
answer_by (Some number) wrong = Err (NotHex number)

abbrev pub ears_answer : Ears → Result Bool ToolFault
ears_answer e = answer_by e.bad (is_wrong (listening_of e.line.listener))
