-- What `osdp monitor` tells of a capture in lines of digits, whatever pieces its bytes come in.
use Rattle.std.specs.Prelude.{◌≡◌, ◌<◌, ◌^◌, ◌⊎◌, ℕ, Bool, true, false, List, [], ◌∷◌, ◌++◌, length, map, take, Option, None, Some, Result, Ok, Err}
use Rattle.std.specs.Option.{option_map_or}
use Rattle.osdp_tool_streams.specs.Cut.{ended_lines, unended_line}
use Rattle.osdp_tool_streams.specs.Runs.{bad_line, good_front}
use Rattle.osdp_tool_streams.specs.declared.fault.ToolFault.{ToolFault}
use Rattle.osdp_tool_streams.specs.declared.fault.ToolFault.TheVariants.{NotHex, TooLong, ReadFailed, WriteFailed, NoMemory}
use Rattle.osdp_tool_monitor.specs.Ending.{Ends, IsTold}
use Rattle.osdp_tool_monitor.specs.Events.{Broken, End, Following, More, Piece}
use Rattle.osdp_tool_monitor.specs.Hearing.{LineEvent, RunEnds, TableDue, after_events, events_report, nothing_yet}
use Rattle.osdp_tool_monitor.specs.Listening.{is_wrong}
use Rattle.osdp_tool_monitor.specs.declared.mode.MonitorMode.{MonitorMode}

-- the lines of a capture; the last one, which may be empty, ends with it
abbrev pub capture_lines : List ℕ → List (List ℕ)
capture_lines bytes = ended_lines bytes ++ unended_line bytes ∷ []

-- each line above the first bad one is a run, and then comes the table
abbrev pub capture_events : List ℕ → List LineEvent
capture_events bytes = map RunEnds (good_front (capture_lines bytes)) ++ TableDue ∷ []

abbrev pub capture_report : MonitorMode → List ℕ → List ℕ
capture_report mode bytes = events_report mode.detail (nothing_yet mode.standard) (capture_events bytes)

-- the first bad line, or whether somebody is accused or something refused
abbrev pub capture_answer : MonitorMode → List ℕ → Result Bool ToolFault
capture_answer mode bytes =
    option_map_or (λ number. Err (NotHex number)) (bad_line 1 (capture_lines bytes)) (Ok (is_wrong (after_events (nothing_yet mode.standard) (capture_events bytes)).heard))

-- Where no table is told in between, no stream fails, and memory suffices, what is told of a capture and the answer are those of its bytes.
abbrev pub TellsCaptures : {M : Type 0} → (M → ℕ → M → Type 0) → Type 0
TellsCaptures {M} tells =
    (mode : MonitorMode) (clock_before clock_after : M) (bytes start now : List ℕ) (input_after : Option (List ℕ)) (result : Result Bool ToolFault)
    → mode.hex ≡ true → mode.every ≡ None → length bytes < 2 ^ 57 → (result ≡ Err NoMemory → ⊥)
    → Ends tells mode clock_before clock_after (Some bytes) input_after false (Some start) (Some now) false result
    → (now ≡ start ++ capture_report mode bytes) × (result ≡ capture_answer mode bytes)

-- what may come after the lines that have ended: nothing yet, the last line and the table at the end of the input, or the table where nothing more is read
abbrev pub last_events_of : Following → List ℕ → List LineEvent
last_events_of More read = []
last_events_of End read = map RunEnds (good_front (unended_line read ∷ [])) ++ TableDue ∷ []
last_events_of Broken read = TableDue ∷ []

-- A front of the capture was read, and the rest is left. What was written is a beginning of what is told of the lines above the first bad one that ended in that front, and of what may
-- come after them.
pub record IsToldSoFar (mode : MonitorMode) (bytes : List ℕ) (input_after : Option (List ℕ)) (start now : List ℕ) : Type 0 where
  pub read : List ℕ
  pub rest : List ℕ
  pub whole : bytes ≡ read ++ rest
  pub left : input_after ≡ Some rest
  pub following : Following
  pub count : ℕ
  pub written : now ≡ start
      ++ take count (events_report mode.detail (nothing_yet mode.standard) (map RunEnds (good_front (ended_lines read)) ++ last_events_of following read))

-- A failed read is told, unless memory ran out too or too much was read, and a failed write, unless a read failed before; and none is told where there was none.
pub record TellsFailures (input_failed failed : Bool) (result : Result Bool ToolFault) : Type 0 where
  pub read : input_failed ≡ true → (result ≡ Err ReadFailed) ⊎ ((result ≡ Err NoMemory) ⊎ (result ≡ Err TooLong))
  pub write : failed ≡ true → (result ≡ Err WriteFailed) ⊎ (result ≡ Err ReadFailed)
  pub read_told : result ≡ Err ReadFailed → input_failed ≡ true
  pub write_told : result ≡ Err WriteFailed → (input_failed ≡ false) × (failed ≡ true)

-- However it ends, where no table is told in between.
abbrev pub TellsInTurn : {M : Type 0} → (M → ℕ → M → Type 0) → Type 0
TellsInTurn {M} tells =
    (mode : MonitorMode) (clock_before clock_after : M) (bytes start now : List ℕ) (input_after : Option (List ℕ)) (input_failed failed : Bool) (result : Result Bool ToolFault)
    → mode.hex ≡ true → mode.every ≡ None
    → Ends tells mode clock_before clock_after (Some bytes) input_after input_failed (Some start) (Some now) failed result
    → IsToldSoFar mode bytes input_after start now × TellsFailures input_failed failed result

-- a clock that tells one moment, and then stands in one way
abbrev pub IsSteady : {M : Type 0} → (M → ℕ → M → Type 0) → Type 0
IsSteady {M} tells = (clock one other : M) (moment another : ℕ) → tells clock moment one → tells clock another other → (moment ≡ another) × (one ≡ other)

-- By a clock like that, what is told of an input is one thing, where it came in the same pieces and is followed by the same: the moments are those of the clock.
abbrev pub TellsByTheClock : {M : Type 0} → (M → ℕ → M → Type 0) → Type 0
TellsByTheClock {M} tells =
    (mode : MonitorMode) (clock_before one_clock other_clock : M) (input_before one_after other_after : Option (List ℕ)) (start one other : List ℕ) (following : Following)
    (a : IsTold tells mode clock_before one_clock input_before one_after (Some start) (Some one) following)
    (b : IsTold tells mode clock_before other_clock input_before other_after (Some start) (Some other) following)
    → IsSteady tells → map (λ (p : Piece). p.bytes) a.pieces ≡ map (λ (p : Piece). p.bytes) b.pieces → (one ≡ other) × (one_clock ≡ other_clock)
