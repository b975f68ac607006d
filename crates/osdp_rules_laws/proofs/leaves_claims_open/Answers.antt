use Rattle.osdp_rules_laws.proofs.Claims.{readers_are_open, refusal_is_no_lie}
use Rattle.osdp_rules_laws.proofs.leaves_claims_open.Goals as goal

pub returns-clause-refusals : goal.returns-clause-refusals
returns-clause-refusals c = refusal_is_no_lie

pub returns-clause-readers : goal.returns-clause-readers
returns-clause-readers c = readers_are_open
