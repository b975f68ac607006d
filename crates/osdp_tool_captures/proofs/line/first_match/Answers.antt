use Rattle.memchr.proofs.lemmas.ValueLemmas.{FindsNeedle-value}
use Rattle.osdp_tool_captures.proofs.line.first_match.Goals as goal

pub returns-clause-value : goal.returns-clause-value
returns-clause-value c = FindsNeedle-value c.args.characters.now c.args.text.now c.find.result c.find.ensures
