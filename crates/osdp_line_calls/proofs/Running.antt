-- How the commands end, by what their words are.
use Rattle.osdp_line_calls.proofs.Common.{ℕ, List, Option, Some, None, Err, inl, inr, refl, texts, HasNotFailed, Runs, SetsNone}
use Rattle.std.specs.Io.KnownBytes.{Keeps}
use Rattle.osdp_line_answers.proofs.AnsweringLines.{some_none}
use Rattle.osdp_line_answers.specs.Answers.{Answering}
use Rattle.osdp_tool_streams.specs.Watched.{inner_of}
use Rattle.osdp_tool_streams.specs.declared.fault.ToolFault.{ToolFault}
use Rattle.osdp_tool_streams.specs.declared.fault.ToolFault.TheVariants.{BadWords, NoMemory}
use Rattle.osdp_line_calls.specs.declared.run.LineRun.{LineRun}

same_kept : (known : Option (List ℕ)) → Keeps known known
same_kept None = tt
same_kept (Some xs) = refl

-- no machine: the run ends as the words have it
module _ {M I O : Type 0} (IsSetBy : List (List ℕ) → M → Type 0) (answers : Answering M)
    (remaining : I → Option (List ℕ)) (contents : O → Option (List ℕ)) (run : LineRun I O) where
  pub unset : (fault : ToolFault) → SetsNone IsSetBy (texts run.words.now) fault → HasNotFailed run → Runs IsSetBy answers remaining contents run run (Err fault)
  unset BadWords none unfailed = inl (record {
    none = none;
    read = same_kept (remaining (inner_of run.input));
    written = same_kept (contents (inner_of run.output));
    fault = refl;
  })
  unset NoMemory none unfailed = inr (record {
    first = none.0;
    set = none.1;
    last = none.0;
    ends = (some_none answers none.0 (remaining (inner_of run.input)) (contents (inner_of run.output)) NoMemory, unfailed.0, unfailed.1);
  })
  unset other none unfailed = absurd none
