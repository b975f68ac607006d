use Rattle.osdp_rules.specs.declared.aspect.Aspect.TheVariants as rule
use Rattle.osdp_rules_laws.proofs.Claiming.{judges}
use Rattle.osdp_rules_laws.proofs.finds_taken_nonsense.Goals as goal

pub returns-clause-code : goal.returns-clause-code
returns-clause-code c = judges rule.Code

pub returns-clause-length : goal.returns-clause-length
returns-clause-length c = judges rule.Length

pub returns-clause-block : goal.returns-clause-block
returns-clause-block c = judges rule.Block
