use Rattle.osdp_rules.specs.declared.aspect.Aspect.TheVariants as rule
use Rattle.osdp_rules_laws.proofs.Claiming.{judges}
use Rattle.osdp_rules_laws.proofs.finds_wrong_heads.Goals as goal

pub returns-clause-address : goal.returns-clause-address
returns-clause-address c = judges rule.Address

pub returns-clause-check : goal.returns-clause-check
returns-clause-check c = judges rule.Check

pub returns-clause-number : goal.returns-clause-number
returns-clause-number c = judges rule.Number

pub returns-clause-block : goal.returns-clause-block
returns-clause-block c = judges rule.Plain
