use Rattle.osdp_tool_show.proofs.Whole.{ends_whole}
use Rattle.osdp_tool_show.proofs.laws.ends_by_its_bytes.Goals as goal

pub returns : goal.returns
returns c = ends_whole
