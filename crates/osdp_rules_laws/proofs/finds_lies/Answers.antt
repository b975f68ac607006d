use Rattle.osdp_rules.specs.declared.aspect.Aspect.TheVariants as rule
use Rattle.osdp_rules_laws.proofs.Claiming.{judges}
use Rattle.osdp_rules_laws.proofs.finds_lies.Goals as goal

pub returns-clause-lists : goal.returns-clause-lists
returns-clause-lists c = judges rule.Listed

pub returns-clause-beyond : goal.returns-clause-beyond
returns-clause-beyond c = judges rule.Beyond
