use Rattle.memchr.specs.Find.{is_byte}
use Rattle.memchr.proofs.lemmas.ValueLemmas.{IsFirstByte-value}
use Rattle.osdp_tool_captures.proofs.line.first_colon.Goals as goal

pub returns-clause-value : goal.returns-clause-value
returns-clause-value c = IsFirstByte-value (is_byte 58) c.args.characters.now c.memchr.result c.memchr.ensures
