use Rattle.memchr.specs.Find.{is_byte}
use Rattle.memchr.proofs.lemmas.ValueLemmas.{IsFirstByte-value}
use Rattle.osdp_tool_inputs.proofs.heard.colon_in.Goals as goal

pub returns-clause-value : goal.returns-clause-value
returns-clause-value c = IsFirstByte-value (is_byte 58) c.args.line.now c.memchr.result c.memchr.ensures
