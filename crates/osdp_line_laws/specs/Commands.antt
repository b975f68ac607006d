-- What the words of a command decide of its run.
use Rattle.std.specs.Prelude.{◌≡◌, ℕ, false, List, Option, Result, Ok, Err}
use Rattle.std.specs.Io.KnownBytes.{Appends, Consumes, IsAtEnd, Keeps}
use Rattle.osdp_line_answers.specs.Answers.{Answering, Speaks}
use Rattle.osdp_line_calls.specs.declared.run.LineRun.{LineRun}
use Rattle.osdp_line_calls.specs.PanelLines.{Answers as PanelAnswers}
use Rattle.osdp_line_calls.specs.PanelSettings.{AreOfPanel}
use Rattle.osdp_line_calls.specs.ReaderLines.{Answers as ReaderAnswers}
use Rattle.osdp_line_calls.specs.ReaderSettings.{AreOfReader}
use Rattle.osdp_line_calls.specs.Runs.{RunsPanel, RunsReader, new_device, new_panel}
use Rattle.osdp_tool_streams.specs.Cut.{lines_of}
use Rattle.osdp_tool_streams.specs.Watched.{has_failed, inner_of}
use Rattle.osdp_tool_streams.specs.declared.fault.ToolFault.{ToolFault}
use Rattle.osdp_tool_streams.specs.declared.fault.ToolFault.TheVariants.{BadWords}
use Rattle.osdp_words.specs.Word.{texts}

module _ {C M : Type 0} (AreSettings : List (List ℕ) → C → Type 0) (new : C → M) (answers : Answering M) where
  module _ {I O : Type 0} (remaining : I → Option (List ℕ)) (contents : O → Option (List ℕ)) (before after : LineRun I O) where
    -- the whole input was read, and each of its lines was answered in its turn, by a machine that began with these settings
    pub record AnswersItsInput (settings : C) : Type 0 where
      pub last : M
      pub read : List ℕ
      pub taken : Consumes (remaining (inner_of before.input)) (remaining (inner_of after.input)) read
      pub whole : IsAtEnd (remaining (inner_of after.input))
      pub text : List ℕ
      pub speaks : Speaks answers (new settings) (lines_of read) text last
      pub written : Appends (contents (inner_of before.output)) (contents (inner_of after.output)) text
      pub good_input : has_failed after.input ≡ false
      pub good_output : has_failed after.output ≡ false

    -- words that are no settings are told, and nothing is read or written
    pub record IsToldBadWords (result : Result (Unit {0}) ToolFault) : Type 0 where
      pub told : result ≡ Err BadWords
      pub unread : Keeps (remaining (inner_of before.input)) (remaining (inner_of after.input))
      pub unwritten : Keeps (contents (inner_of before.output)) (contents (inner_of after.output))

    -- bad words are told where the words are no settings, and only there; what ends well has answered its input by the settings
    pub record GoesByItsWords (result : Result (Unit {0}) ToolFault) : Type 0 where
      pub bad : ((settings : C) → AreSettings (texts before.words.now) settings → ⊥) → IsToldBadWords result
      pub good : (settings : C) → AreSettings (texts before.words.now) settings → result ≡ Err BadWords → ⊥
      pub done : result ≡ Ok tt → (settings : C) × AreSettings (texts before.words.now) settings × AnswersItsInput settings

-- so goes each run of a panel, and each of a reader's device
abbrev pub PanelsGoByWords : {I O : Type 0} → (I → Option (List ℕ)) → (O → Option (List ℕ)) → Type 0
PanelsGoByWords {I} {O} remaining contents = (before after : LineRun I O) (result : Result (Unit {0}) ToolFault)
    → RunsPanel remaining contents before after result
    → GoesByItsWords AreOfPanel new_panel PanelAnswers remaining contents before after result

abbrev pub DevicesGoByWords : {I O : Type 0} → (I → Option (List ℕ)) → (O → Option (List ℕ)) → Type 0
DevicesGoByWords {I} {O} remaining contents = (before after : LineRun I O) (result : Result (Unit {0}) ToolFault)
    → RunsReader remaining contents before after result
    → GoesByItsWords AreOfReader new_device ReaderAnswers remaining contents before after result
