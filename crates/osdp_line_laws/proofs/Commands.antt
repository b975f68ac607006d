-- What the words of a command decide of its run.
use Rattle.osdp_line_laws.proofs.Common.{◌≡◌, inl, inr, ℕ, List, Option, Result, Ok, Err, refl, subst, Answering, Speaks, ReaderAnswers}
use Rattle.osdp_line_answers.specs.Ending.{Ends}
use Rattle.osdp_line_calls.specs.declared.run.LineRun.{LineRun}
use Rattle.osdp_line_calls.specs.PanelSettings.{AreOfPanel}
use Rattle.osdp_line_calls.specs.ReaderSettings.{AreOfReader}
use Rattle.osdp_line_calls.specs.PanelLines.{Answers as PanelAnswers}
use Rattle.osdp_line_calls.specs.Runs.{Runs, SetBy, new_device, new_panel}
use Rattle.osdp_line_laws.specs.Commands.{AnswersItsInput, DevicesGoByWords, GoesByItsWords, PanelsGoByWords}
use Rattle.osdp_tool_streams.specs.Cut.{lines_of}
use Rattle.osdp_tool_streams.specs.Watched.{has_failed, inner_of}
use Rattle.osdp_tool_streams.specs.declared.fault.ToolFault.{ToolFault}
use Rattle.osdp_tool_streams.specs.declared.fault.ToolFault.TheVariants.{BadWords}

not_both : (result : Result (Unit {0}) ToolFault) → result ≡ Err BadWords → result ≡ Ok tt → ⊥
not_both result bad good = cc

module _ {C M : Type 0} (AreSettings : List (List ℕ) → C → Type 0) (new : C → M) (answers : Answering M) {I O : Type 0}
    (remaining : I → Option (List ℕ)) (contents : O → Option (List ℕ)) (before after : LineRun I O) where
  abbrev Goes : Result (Unit {0}) ToolFault → Type 0
  Goes result = GoesByItsWords AreSettings new answers remaining contents before after result

  -- an end that tells bad words is none of a run that began
  no_bad_words : (result : Result (Unit {0}) ToolFault) (first last : M)
      → Ends answers first last (remaining (inner_of before.input)) (remaining (inner_of after.input)) (has_failed after.input)
      (contents (inner_of before.output)) (contents (inner_of after.output)) (has_failed after.output) result
      → result ≡ Err BadWords → ⊥
  no_bad_words result first last ends is =
      subst
      (λ r. Ends answers first last (remaining (inner_of before.input)) (remaining (inner_of after.input)) (has_failed after.input)
      (contents (inner_of before.output)) (contents (inner_of after.output)) (has_failed after.output) r)
      is ends

  -- what ends well has answered each line of its input, by the machine that it began with
  well_ended : (result : Result (Unit {0}) ToolFault) (first last : M) (settings : C)
      → Ends answers first last (remaining (inner_of before.input)) (remaining (inner_of after.input)) (has_failed after.input)
      (contents (inner_of before.output)) (contents (inner_of after.output)) (has_failed after.output) result
      → first ≡ new settings → result ≡ Ok tt → AnswersItsInput AreSettings new answers remaining contents before after settings
  well_ended result first last settings ends is well =
      let done =
      subst
      (λ r. Ends answers first last (remaining (inner_of before.input)) (remaining (inner_of after.input)) (has_failed after.input)
      (contents (inner_of before.output)) (contents (inner_of after.output)) (has_failed after.output) r)
      well ends in
      record {
        last = last;
        read = done.0.read;
        taken = done.0.taken;
        whole = done.1;
        text = done.0.text;
        speaks = subst (λ m. Speaks answers m (lines_of done.0.read) done.0.text last) is done.0.speaks;
        written = done.0.written;
        good_input = done.2;
        good_output = done.3;
      }

  pub goes_by_words : (result : Result (Unit {0}) ToolFault) → Runs (SetBy AreSettings new) answers remaining contents before after result → Goes result
  goes_by_words result (inl refused) = record {
    bad = λ none. record { told = refused.fault; unread = refused.read; unwritten = refused.written };
    good = λ settings are is. refused.none (new settings) (settings, are, refl);
    done = λ well. absurd (not_both result refused.fault well);
  }
  goes_by_words result (inr ran) = record {
    bad = λ none. absurd (none ran.set.0 ran.set.1);
    good = λ settings are is. no_bad_words result ran.first ran.last ran.ends is;
    done = λ well. (ran.set.0, ran.set.1, well_ended result ran.first ran.last ran.set.0 ran.ends ran.set.2 well);
  }

pub panels_go_by_words : {I O : Type 0} (remaining : I → Option (List ℕ)) (contents : O → Option (List ℕ)) → PanelsGoByWords remaining contents
panels_go_by_words remaining contents before after result runs = goes_by_words AreOfPanel new_panel PanelAnswers remaining contents before after result runs

pub devices_go_by_words : {I O : Type 0} (remaining : I → Option (List ℕ)) (contents : O → Option (List ℕ)) → DevicesGoByWords remaining contents
devices_go_by_words remaining contents before after result runs = goes_by_words AreOfReader new_device ReaderAnswers remaining contents before after result runs
