use Rattle.osdp_rules_laws.proofs.Open.{any_refusal_is_one, devices_may_differ, may_be_busy, other_codes}
use Rattle.osdp_rules_laws.proofs.leaves_open.Goals as goal

pub returns-clause-refusals : goal.returns-clause-refusals
returns-clause-refusals c = any_refusal_is_one

pub returns-clause-busy : goal.returns-clause-busy
returns-clause-busy c = may_be_busy

pub returns-clause-codes : goal.returns-clause-codes
returns-clause-codes c = other_codes

pub returns-clause-devices : goal.returns-clause-devices
returns-clause-devices c = devices_may_differ
