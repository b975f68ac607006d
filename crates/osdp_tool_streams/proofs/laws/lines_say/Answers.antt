use Rattle.osdp_tool_streams.specs.Line.{kept}
use Rattle.osdp_tool_streams.proofs.Spelled.{said_is, is_said}
use Rattle.osdp_tool_streams.proofs.laws.lines_say.Goals as goal

pub returns : goal.returns
returns c = λ line bytes. (said_is (kept line) bytes, is_said (kept line) bytes)
