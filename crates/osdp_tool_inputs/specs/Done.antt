-- What is done with an input.
use Rattle.std.specs.Prelude.{◌≡◌, ◌&&◌, not, ℕ, Bool, true, false, List, [], ◌++◌, codes, take, Option, None, Some, Result, Ok, Err}
use Rattle.std.specs.Io.KnownBytes.{Appends, Keeps}
use Rattle.osdp_tool_captures.specs.Captures.{capture_fault, capture_text}
use Rattle.osdp_tool_captures.specs.Whole.{ReadWhole}
use Rattle.osdp_tool_captures.specs.declared.fault.BadLine.{BadLine}
use Rattle.osdp_tool_captures.specs.declared.format.Format.{Format}
use Rattle.osdp_tool_captures.specs.declared.format.Format.TheVariants.{Bytes, Digits, Of}
use Rattle.osdp_tool_monitor.specs.Ending as monitor
use Rattle.osdp_tool_monitor.specs.declared.mode.MonitorMode.{MonitorMode}
use Rattle.osdp_tool_show.specs.Ending.{Ends, EndsWhole, Stream}
use Rattle.osdp_tool_objects.specs.Streams.{Writes}
use Rattle.osdp_tool_streams.specs.ToolFault.{status_of as fault_status}
use Rattle.osdp_tool_streams.specs.declared.fault.ToolFault.{ToolFault}
use Rattle.osdp_tool_streams.specs.declared.fault.ToolFault.TheVariants.{NoMemory, WriteFailed}
use Rattle.osdp_tool_show.specs.declared.detail.Detail.{Detail}
use Rattle.osdp_tool_streams.specs.declared.form.Form.{Form}
use Rattle.osdp_tool_inputs.specs.Asked.{form_of, has_lines}
use Rattle.osdp_tool_inputs.specs.Echoes.{echoes_in, heard_part, printed_by}
use Rattle.osdp_tool_inputs.specs.Moments.{Tells}
use Rattle.osdp_tool_inputs.specs.Times.{timed_text}
use Rattle.osdp_tool_inputs.specs.declared.asked.Asked.{Asked}
use Rattle.osdp_tool_inputs.specs.declared.asked.Task.{Task}
use Rattle.osdp_tool_inputs.specs.declared.asked.Task.TheVariants.{Listen, Print, Time}
use Rattle.osdp_tool_inputs.specs.declared.clock.Clock.{Clock}
use Rattle.osdp_tool_inputs.specs.declared.tasks.TheConstants.{LONGEST}
use Rattle.osdp_tool_inputs.specs.declared.told.Told.{Told}
use Rattle.osdp_tool_inputs.specs.declared.told.Told.TheVariants.{Bad, Failed, Refused}

-- ---- digits or bytes

-- a command ends so with an input and an output, and answers this
abbrev pub Ending : Type 1
Ending = Result Bool ToolFault → Stream → Stream → Type 0

-- as `show` and `check` do
abbrev pub Shows : Detail → Form → ℕ → Ending
Shows detail form limit result input output = Ends detail form limit input output result × EndsWhole detail form limit input output result

-- as the monitor does, at moments of a clock that begins now
pub record EndsHeard (mode : MonitorMode) (result : Result Bool ToolFault) (input output : Stream) : Type 0 where
  pub start : Clock
  pub end : Clock
  pub begins : start.last ≡ 0
  pub ends : monitor.Ends Tells mode start end input.before input.after input.failed output.before output.after output.failed result

-- ---- a text that is retold: with the moments in it

-- a command ends so with all of this text, and prints this
pub record InMemory (ends : Ending) (text shown : List ℕ) (result : Result Bool ToolFault) : Type 0 where
  pub input : Stream
  pub memory : Stream
  pub text_is : input.before ≡ Some text
  pub empty : memory.before ≡ Some []
  pub shown_is : memory.after ≡ Some shown
  pub done : ends result input memory

module _ (ends : Ending) (retold : List ℕ → List ℕ) (text : List ℕ) (output : Stream) where
  -- what is printed so is retold, and the answer stays
  pub record RetellsAll (result : Result Bool ToolFault) : Type 0 where
    pub shown : List ℕ
    pub heard : InMemory ends text shown result
    pub written : Appends output.before output.after (retold shown)
    pub output_well : output.failed ≡ false

  -- the output fails, and takes a beginning of it
  pub record RetellsPart : Type 0 where
    pub answer : Result Bool ToolFault
    pub shown : List ℕ
    pub heard : InMemory ends text shown answer
    pub count : ℕ
    pub written : Appends output.before output.after (take count (retold shown))
    pub output_failed : output.failed ≡ true

  -- by the answer; where memory runs out, nothing is printed
  abbrev pub Retells : Result Bool ToolFault → Type 0
  Retells (Err NoMemory) = Keeps output.before output.after × (output.failed ≡ false)
  Retells (Err WriteFailed) = RetellsPart
  Retells result = RetellsAll result

-- ---- what is asked

-- by whether moments are told: then the echoes of an adapter are left out, and told; else the lines are told, also where objects are made of them
abbrev pub Listens : Bool → MonitorMode → List ℕ → Ending
Listens true mode text result input output =
    Retells (EndsHeard mode) (printed_by mode.json mode.clock (echoes_in text) (heard_part text)) (heard_part text) output result
Listens false mode text result input output = EndsHeard mode result input output

-- what is asked is done with a stream of digits or bytes; these are all its bytes, where they were read before
abbrev pub Does : Task → Format → ℕ → List ℕ → Stream → Stream → Result Bool ToolFault → Type 0
Does (Print detail join) format limit bytes input output result = Shows detail (form_of format join) limit result input output
Does (Time detail join) format limit bytes input output result =
    Retells (Shows detail (form_of format join) LONGEST) (timed_text bytes) bytes output result
Does (Listen mode) format limit bytes input output result = Listens (mode.times && has_lines format) mode bytes result input output

-- ---- bytes of a file

-- they were recorded before: no silence ends a run of theirs
abbrev pub recorded_task : Task → Task
recorded_task (Print detail join) = Print detail join
recorded_task (Time detail join) = Time detail join
recorded_task (Listen mode) = Listen (record mode { recorded = true })

abbrev pub recorded_of : Asked → Asked
recorded_of asked = record asked { task = recorded_task asked.task }

-- ---- any form

-- the moments of runs are wanted, of lines of digits or of bytes: the latter have none that the monitor tells
abbrev pub is_timed : Task → Bool
is_timed (Print detail join) = false
is_timed (Time detail join) = true
is_timed (Listen mode) = mode.times

abbrev pub is_timed_raw : Task → Bool
is_timed_raw (Print detail join) = false
is_timed_raw (Time detail join) = true
is_timed_raw (Listen mode) = false

-- the lines of digits that a capture stands for, and its first bad line
abbrev pub text_of : Format → List ℕ → List ℕ
text_of Digits bytes = bytes
text_of Bytes bytes = bytes
text_of (Of tool) bytes = capture_text tool bytes

abbrev pub bad_of : Format → List ℕ → Option BadLine
bad_of Digits bytes = None
bad_of Bytes bytes = None
bad_of (Of tool) bytes = capture_fault tool bytes

-- where the output or memory fails, nothing more is done
abbrev pub told_of : Result Bool ToolFault → Result Told ToolFault
told_of (Ok wrong) = Ok (Refused wrong)
told_of (Err WriteFailed) = Err WriteFailed
told_of (Err NoMemory) = Err NoMemory
told_of (Err fault) = Ok (Failed fault)

-- else a failure of the input is told, or a bad line of it, before what came of what was read
abbrev pub instead : Option Told → Result Told ToolFault → Result Told ToolFault
instead None told = told
instead (Some other) (Ok told) = Ok other
instead (Some other) (Err fault) = Err fault

abbrev pub wrong_with : Option ToolFault → Option BadLine → Option Told
wrong_with (Some fault) bad = Some (Failed fault)
wrong_with None (Some bad) = Some (Bad bad)
wrong_with None None = None

-- what is asked is done with the text of an input that was read whole, or as far as it goes
pub record DoesWhole (asked : Asked) (limit : ℕ) (input output : Stream) (result : Result Told ToolFault) : Type 0 where
  pub bytes : List ℕ
  pub fault : Option ToolFault
  pub read : ReadWhole limit input.before input.after bytes fault
  pub text : Stream
  pub text_is : text.before ≡ Some (text_of asked.format bytes)
  pub answer : Result Bool ToolFault
  pub done : Does asked.task asked.format LONGEST (text_of asked.format bytes) text output answer
  pub told : result ≡ instead (wrong_with fault (bad_of asked.format bytes)) (told_of answer)

-- or memory ran out before anything was done with it
pub data EndsWholly (asked : Asked) (limit : ℕ) (input output : Stream) (result : Result Told ToolFault) : Type 0 where
  Read : DoesWhole asked limit input output result → EndsWholly asked limit input output result
  Unread : result ≡ Err NoMemory → Keeps output.before output.after → EndsWholly asked limit input output result

-- an input is read whole before anything is told of it where another tool wrote it, or the moments of runs are wanted
abbrev pub is_whole : Format → Task → Bool
is_whole (Of tool) task = true
is_whole Digits task = is_timed task
is_whole Bytes task = is_timed_raw task

-- what is asked is done with an input, as it comes where it isn't read whole
pub record DoesDirectly (asked : Asked) (limit : ℕ) (input output : Stream) (result : Result Told ToolFault) : Type 0 where
  pub answer : Result Bool ToolFault
  pub done : Does asked.task asked.format limit [] input output answer
  pub told : result ≡ told_of answer

abbrev pub DoesInput : Bool → Asked → ℕ → Stream → Stream → Result Told ToolFault → Type 0
DoesInput true asked limit input output result = EndsWholly asked limit input output result
DoesInput false asked limit input output result = DoesDirectly asked limit input output result

-- ---- objects of JSON

-- they are made of lines as these are told, where no moments are
abbrev pub has_objects : Task → Format → Bool
has_objects (Print detail join) format = false
has_objects (Time detail join) format = false
has_objects (Listen mode) format = mode.json && not (mode.times && has_lines format)

-- where the output of objects failed, that is told
abbrev pub unless_failed : Option ToolFault → Result Told ToolFault → Result Told ToolFault
unless_failed None told = told
unless_failed (Some fault) told = Err fault

-- The lines are told to an output that stands between: where it holds something, they come after that. Their objects are written, or as many as it says by what
-- failed.
pub record DoesObjects (asked : Asked) (limit : ℕ) (input output : Stream) (result : Result Told ToolFault) : Type 0 where
  pub between : Stream
  pub front : List ℕ
  pub lines : List ℕ
  pub before : between.before ≡ Some front
  pub after : between.after ≡ Some (front ++ lines)
  pub answer : Result Told ToolFault
  pub done : DoesInput (is_whole asked.format asked.task) asked limit input between answer
  pub fault : Option ToolFault
  pub written : Writes fault output.failed output.before output.after lines
  pub told : result ≡ unless_failed fault answer

-- ---- statuses

-- 1 where a refusal was met or an end accused, 2 at a bad line, and else that of the failure
abbrev pub status_of : Told → ℕ
status_of (Refused false) = 0
status_of (Refused true) = 1
status_of (Bad bad) = 2
status_of (Failed fault) = fault_status fault

-- what stands above the text of each of several inputs
abbrev pub heading : List ℕ → List ℕ
heading name = codes "# " ++ (name ++ codes "\n")
