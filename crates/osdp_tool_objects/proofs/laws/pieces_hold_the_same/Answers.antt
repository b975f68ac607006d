use Rattle.osdp_tool_streams.proofs.CutLemmas.{unended_after-append}
use Rattle.osdp_tool_objects.proofs.laws.pieces_hold_the_same.Goals as goal

pub returns : goal.returns
returns c = unended_after-append
