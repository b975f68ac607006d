use Rattle.osdp_rules.specs.declared.aspect.Aspect.TheVariants as rule
use Rattle.osdp_rules_laws.proofs.Claiming.{judges}
use Rattle.osdp_rules_laws.proofs.finds_wrong_replies.Goals as goal

pub returns-clause-unfit : goal.returns-clause-unfit
returns-clause-unfit c = judges rule.Fit

pub returns-clause-unserved : goal.returns-clause-unserved
returns-clause-unserved c = judges rule.Served

pub returns-clause-unread : goal.returns-clause-unread
returns-clause-unread c = judges rule.Read

pub returns-clause-busy : goal.returns-clause-busy
returns-clause-busy c = judges rule.Busy
