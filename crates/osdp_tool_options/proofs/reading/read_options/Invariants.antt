use Rattle.std.proofs.Common.{length}
use Rattle.osdp_words.specs.Word.{texts}
use Rattle.osdp_tool_options.proofs.Left.{Left}
use Rattle.osdp_tool_options.proofs.reading.read_options.Given as goal

-- what is set so far, and the words that are left
abbrev pub invariant-options : goal.invariant-options
invariant-options g l =
    Left g.O.CommandOption.name g.O.CommandOption.numbers g.O.CommandOption.Fits g.O.CommandOption.with l.fn.start (texts l.fn.words) l.fields l.mode

abbrev pub decreases-options : goal.decreases-options
decreases-options g l = length l.fields
