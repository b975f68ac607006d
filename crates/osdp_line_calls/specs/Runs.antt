-- How the commands end.
use Rattle.std.specs.Prelude.{◌≡◌, ◌⊎◌, ℕ, false, List, Option, Result, Err}
use Rattle.std.specs.Io.KnownBytes.{Keeps}
use Rattle.osdp_line_answers.specs.Answers.{Answering}
use Rattle.osdp_line_answers.specs.Ending.{Ends}
use Rattle.osdp_line_calls.specs.PanelLines.{Answers as PanelAnswers}
use Rattle.osdp_line_calls.specs.PanelSessions.{Session as PanelSession, new_session}
use Rattle.osdp_line_calls.specs.ReaderLines.{Answers as ReaderAnswers}
use Rattle.osdp_line_calls.specs.ReaderSessions.{Session as ReaderSession, new_session as new_reader}
use Rattle.osdp_tool_streams.specs.declared.fault.ToolFault.{ToolFault}
use Rattle.osdp_tool_streams.specs.declared.fault.ToolFault.TheVariants.{BadWords, NoMemory}
use Rattle.osdp_tool_streams.specs.Watched.{inner_of, has_failed}
use Rattle.osdp_words.specs.Word.{texts}
use Rattle.osdp_line_calls.specs.declared.panel_command.PanelSettings.{PanelSettings}
use Rattle.osdp_line_calls.specs.declared.reader_command.ReaderSettings.{ReaderSettings}
use Rattle.osdp_line_calls.specs.declared.run.LineRun.{LineRun}
use Rattle.osdp_line_calls.specs.PanelSettings.{AreOfPanel}
use Rattle.osdp_line_calls.specs.ReaderSettings.{AreOfReader}

-- the words are settings, and the machine is that of these settings
abbrev pub SetBy : {C M : Type 0} → (List (List ℕ) → C → Type 0) → (C → M) → List (List ℕ) → M → Type 0
SetBy {C} AreSettings new given machine = (config : C) × AreSettings given config × (machine ≡ new config)

-- no call on its streams has failed yet
abbrev pub HasNotFailed : {I O : Type 0} → LineRun I O → Type 0
HasNotFailed run = (has_failed run.input ≡ false) × (has_failed run.output ≡ false)

-- what may be so of a run: what its streams know before and after it, and how it ends
abbrev pub OfRuns : Type 0 → Type 0 → Type 1
OfRuns I O = (I → Option (List ℕ)) → (O → Option (List ℕ)) → LineRun I O → LineRun I O → Result (Unit {0}) ToolFault → Type 0

module _ {M : Type 0} (IsSetBy : List (List ℕ) → M → Type 0) where
  -- why there is no machine: the words set none, or they set one and there is no memory for it
  abbrev pub SetsNone : List (List ℕ) → ToolFault → Type 0
  SetsNone given BadWords = (machine : M) → IsSetBy given machine → ⊥
  SetsNone given NoMemory = (machine : M) × IsSetBy given machine
  SetsNone given other = ⊥

  module _ {I O : Type 0} (remaining : I → Option (List ℕ)) (contents : O → Option (List ℕ)) (before after : LineRun I O)
      (result : Result (Unit {0}) ToolFault) where
    -- the words are no settings: nothing is read and nothing written
    pub record IsRefused : Type 0 where
      pub none : SetsNone (texts before.words.now) BadWords
      pub read : Keeps (remaining (inner_of before.input)) (remaining (inner_of after.input))
      pub written : Keeps (contents (inner_of before.output)) (contents (inner_of after.output))
      pub fault : result ≡ Err BadWords

    -- the words are settings, and each line that was read was answered, in order, by the machine of these settings
    pub record IsRun (answers : Answering M) : Type 0 where
      pub first : M
      pub set : IsSetBy (texts before.words.now) first
      pub last : M
      pub ends : Ends answers first last (remaining (inner_of before.input)) (remaining (inner_of after.input)) (has_failed after.input)
          (contents (inner_of before.output)) (contents (inner_of after.output)) (has_failed after.output) result

  abbrev pub Runs : {I O : Type 0} → Answering M → OfRuns I O
  Runs answers remaining contents before after result =
      IsRefused remaining contents before after result ⊎ IsRun remaining contents before after result answers

-- a panel without devices, and a reader's device
abbrev pub new_panel : PanelSettings → PanelSession
new_panel settings = new_session settings.config

abbrev pub IsPanelOf : List (List ℕ) → PanelSession → Type 0
IsPanelOf = SetBy AreOfPanel new_panel

abbrev pub RunsPanel : {I O : Type 0} → OfRuns I O
RunsPanel = Runs IsPanelOf PanelAnswers

abbrev pub new_device : ReaderSettings → ReaderSession
new_device settings = new_reader settings.config settings.room settings.gap settings.absence

abbrev pub IsDeviceOf : List (List ℕ) → ReaderSession → Type 0
IsDeviceOf = SetBy AreOfReader new_device

abbrev pub RunsReader : {I O : Type 0} → OfRuns I O
RunsReader = Runs IsDeviceOf ReaderAnswers
