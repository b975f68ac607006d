use Rattle.osdp_tool_times.proofs.Common.{is_byte, IsFirstByte-value}
use Rattle.osdp_tool_times.proofs.run.start_in.Goals as goal

pub returns-clause-value : goal.returns-clause-value
returns-clause-value c = IsFirstByte-value (is_byte 83) c.args.run.now c.memchr.result c.memchr.ensures
