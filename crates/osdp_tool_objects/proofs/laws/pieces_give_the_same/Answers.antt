use Rattle.osdp_tool_objects.proofs.Lines.{pieces_written}
use Rattle.osdp_tool_objects.proofs.laws.pieces_give_the_same.Goals as goal

pub returns : goal.returns
returns c = pieces_written
