use Rattle.osdp_rules.specs.declared.aspect.Aspect.TheVariants as rule
use Rattle.osdp_rules_laws.proofs.Claiming.{judges}
use Rattle.osdp_rules_laws.proofs.finds_talk.Goals as goal

pub returns-clause-others : goal.returns-clause-others
returns-clause-others c = judges rule.Quiet

pub returns-clause-noise : goal.returns-clause-noise
returns-clause-noise c = judges rule.Deaf

pub returns-clause-second : goal.returns-clause-second
returns-clause-second c = judges rule.Single

pub returns-clause-late : goal.returns-clause-late
returns-clause-late c = judges rule.Prompt
