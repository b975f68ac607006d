use Rattle.std.proofs.Common.{ap, ◌∙◌}
use Rattle.std.specs.Prelude.{is_some}
use Rattle.memchr.specs.Find.{is_byte}
use Rattle.memchr.proofs.lemmas.ValueLemmas.{IsFirstByte-value}
use Rattle.osdp_tool_inputs.proofs.heard.has_colon.Goals as goal

pub returns : goal.returns
returns c = c.is_some.ensures ∙ ap is_some (IsFirstByte-value (is_byte 58) c.args.line.now c.memchr.result c.memchr.ensures)
