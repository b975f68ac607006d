-- What the words after the name of a command that reads captures ask for.
use Rattle.std.specs.Prelude.{◌≡◌, ◌≤◌, ◌||◌, Bool, true, false, ◌++◌, length, Option, None, Some, is_some, option_map, IfSome, MatchOption, if◌then◌else◌}
use Rattle.std.specs.Option.{option_and_then}
use Rattle.osdp_tool.specs.CaptureOptions.{ReadsCaptureMode}
use Rattle.osdp_tool.specs.InputWords.{are_files}
use Rattle.osdp_tool.specs.Job.{Words, texts_of}
use Rattle.osdp_tool.specs.declared.capture_options.CaptureMode.{CaptureMode}
use Rattle.osdp_tool_captures.specs.declared.format.Format.{Format}
use Rattle.osdp_tool_captures.specs.declared.format.Format.TheVariants.{Bytes, Digits, Of}
use Rattle.osdp_tool_captures.specs.declared.format.Tool.TheVariants.{Osdpcap, Stamped, Xxd}
use Rattle.osdp_tool_monitor.specs.Options.{ReadsMode}
use Rattle.osdp_tool_monitor.specs.declared.mode.MonitorMode.{MonitorMode}
use Rattle.osdp_tool_show.specs.declared.detail.Detail.{Detail}
use Rattle.osdp_tool_show.specs.declared.detail.Detail.TheVariants.{Filtered, Full, Refusals}
use Rattle.osdp_tool_streams.specs.declared.form.Form.{Form}
use Rattle.osdp_tool_streams.specs.declared.form.Form.TheVariants.{Apart, Joined, Raw}
use Rattle.osdp_tool_inputs.specs.declared.asked.Asked.{Asked}
use Rattle.osdp_tool_inputs.specs.declared.asked.Reads.{Reads}
use Rattle.osdp_tool_inputs.specs.declared.asked.Reads.TheVariants.{Check, Monitor, Show}
use Rattle.osdp_tool_inputs.specs.declared.asked.Task.{Task}
use Rattle.osdp_tool_inputs.specs.declared.asked.Task.TheVariants.{Listen, Print, Time}

-- an address or a word that leaves polls out keeps some of the packets alone
abbrev pub detail_of : CaptureMode → Detail
detail_of mode = if is_some mode.address || mode.no_polls then Filtered (record { address = mode.address; no_polls = mode.no_polls }) else Full

abbrev pub show_task : CaptureMode → Task
show_task mode = if mode.times then Time (detail_of mode) mode.join else Print (detail_of mode) mode.join

-- `check` has one of the options of `show` alone, `--join`
abbrev pub check_task : CaptureMode → Option Task
check_task mode = if is_some mode.address || (mode.no_polls || mode.times) then None else Some (Print Refusals mode.join)

-- all forms but bytes are lines of digits, or become such lines
abbrev pub has_lines : Format → Bool
has_lines Digits = true
has_lines Bytes = false
has_lines (Of tool) = true

-- how the lines of a form stand in runs
abbrev pub form_of : Format → Bool → Form
form_of Digits join = if join then Joined else Apart
form_of Bytes join = Raw
form_of (Of Osdpcap) join = if join then Joined else Apart
form_of (Of Xxd) join = Joined
form_of (Of Stamped) join = if join then Joined else Apart

-- what the options of a command ask for; none where they are none of its options
abbrev pub TaskOf : Reads → Format → Words → Option Task → Type 0
TaskOf Show format options task = (mode : Option CaptureMode) × ReadsCaptureMode options mode × (task ≡ option_map show_task mode)
TaskOf Check format options task = (mode : Option CaptureMode) × ReadsCaptureMode options mode × (task ≡ option_and_then check_task mode)
TaskOf Monitor format options task = (mode : Option MonitorMode) × ReadsMode (has_lines format) options mode × (task ≡ option_map Listen mode)

-- the words are options that ask for this, and then files
pub record AreAsked (reads : Reads) (format : Format) (words options files : Words) (task : Task) : Type 0 where
  pub are : words ≡ options ++ files
  pub files_are : are_files files ≡ true
  pub task_is : TaskOf reads format options (Some task)

-- what the words ask for: options, as many words as are some, and then files
pub record ReadsWords (reads : Reads) (format : Format) (words : Words) (result : Option Asked) : Type 0 where
  pub value : IfSome result (λ asked. (options : Words) × AreAsked reads format words options (texts_of asked.files.now) asked.task × (asked.format ≡ format))
  pub only : (options files : Words) (task : Task) → AreAsked reads format words options files task
      → MatchOption result ⊥ (λ asked. length (texts_of asked.files.now) ≤ length files)
