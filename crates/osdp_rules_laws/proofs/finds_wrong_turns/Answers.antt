use Rattle.osdp_rules.specs.declared.aspect.Aspect.TheVariants as rule
use Rattle.osdp_rules_laws.proofs.Claiming.{judges}
use Rattle.osdp_rules_laws.proofs.finds_wrong_turns.Goals as goal

pub returns-clause-refused : goal.returns-clause-refused
returns-clause-refused c = judges rule.Turn

pub returns-clause-taken : goal.returns-clause-taken
returns-clause-taken c = judges rule.Wrong

pub returns-clause-again : goal.returns-clause-again
returns-clause-again c = judges rule.Repeat
