-- How a script ends, by how its lines and its counts do.
use Rattle.std.proofs.Common.{ℕ, ◌+◌, Bool, List, length, take, Option, Result, Ok, Err, sym, subst, ◌∙◌, inl, inr}
use Rattle.std.proofs.KnownBytes.{Appends-kept, Appends-trans}
use Rattle.std.proofs.Math.Seq.{take-append-add}
use Rattle.std.specs.Io.KnownBytes.{Appends}
use Rattle.osdp_line_answers.proofs.Stopping.{all_written}
use Rattle.osdp_line_answers.specs.Ending.{Ends as LinesEnd}
use Rattle.osdp_test_script.specs.Runs.{ends}
use Rattle.osdp_tool_script.specs.Answers.{Tells}
use Rattle.osdp_tool_script.specs.Ending.{Counts, Ends, new_script}
use Rattle.osdp_tool_script.specs.declared.telling.Script.{Script}
use Rattle.osdp_tool_streams.specs.Cut.{lines_of}
use Rattle.osdp_tool_streams.specs.declared.fault.ToolFault.{ToolFault}
use Rattle.osdp_tool_streams.specs.declared.fault.ToolFault.TheVariants.{NotHex, TooLong, BadWords, BadStep, HoldsPacket, NotQuiet, ReadFailed, WriteFailed, NoMemory}

module _ (last : Script) (ib ia before : Option (List ℕ)) (input_failed : Bool) where
  -- the lines were stopped
  pub stopped : (after : Option (List ℕ)) (failed : Bool) (fault : ToolFault) → LinesEnd Tells new_script last ib ia input_failed before after failed (Err fault)
      → Ends ib ia before after input_failed failed (Err fault)
  stopped after failed ReadFailed h = (record { last = last; all = h.0 }, h.1)
  stopped after failed TooLong h = (record { last = last; all = h.0 }, h.1, h.2, h.3)
  stopped after failed NoMemory h = h
  stopped after failed WriteFailed h = (inl h.0, h.1, h.2)
  stopped after failed BadWords h = absurd h
  stopped after failed (NotHex n) h = absurd h
  stopped after failed (BadStep n) h = absurd h
  stopped after failed (HoldsPacket n) h = absurd h
  stopped after failed (NotQuiet n) h = absurd h

  -- all lines were answered, and then the counts were written, or not
  pub counted : (mid after : Option (List ℕ)) (was failed : Bool) (r : Result ℕ ToolFault) → LinesEnd Tells new_script last ib ia input_failed before mid was (Ok tt)
      → Counts last mid after was failed r → Ends ib ia before after input_failed failed r
  counted mid after was failed (Ok status) h c = (
    record {
      read = h.0.read;
      taken = h.0.taken;
      at_end = h.1;
      text = h.0.text;
      last = last;
      speaks = h.0.speaks;
      written = Appends-trans before mid after h.0.text (ends last.run).text h.0.written c.0.written;
      is = c.1;
    },
    h.2,
    c.2 ∙ h.3,
  )
  counted mid after was failed (Err (BadStep line)) h c = (
    record {
      read = h.0.read;
      taken = h.0.taken;
      at_end = h.1;
      text = h.0.text;
      last = last;
      speaks = h.0.speaks;
      written = Appends-trans before mid after h.0.text (ends last.run).text h.0.written c.0.written;
      is = c.1;
    },
    h.2,
    c.2 ∙ h.3,
  )
  counted mid after was failed (Err NoMemory) h c = (
    record {
      read = h.0.read;
      taken = h.0.taken;
      stops = all_written Tells new_script last (lines_of h.0.read) h.0.text before after NoMemory h.0.speaks (Appends-kept before mid after h.0.text h.0.written c.0);
    },
    h.2,
    c.1 ∙ h.3,
  )
  counted mid after was failed (Err WriteFailed) h c = (
    inr (record {
      read = h.0.read;
      taken = h.0.taken;
      text = h.0.text;
      last = last;
      speaks = h.0.speaks;
      count = length h.0.text + c.0.count;
      written = subst (Appends before after) (sym (take-append-add h.0.text (ends last.run).text c.0.count))
          (Appends-trans before mid after h.0.text (take c.0.count (ends last.run).text) h.0.written c.0.written);
    }),
    h.2,
    c.1,
  )
  counted mid after was failed (Err TooLong) h c = absurd c
  counted mid after was failed (Err ReadFailed) h c = absurd c
  counted mid after was failed (Err BadWords) h c = absurd c
  counted mid after was failed (Err (NotHex n)) h c = absurd c
  counted mid after was failed (Err (HoldsPacket n)) h c = absurd c
  counted mid after was failed (Err (NotQuiet n)) h c = absurd c
