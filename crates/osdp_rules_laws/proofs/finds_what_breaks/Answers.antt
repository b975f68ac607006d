use Rattle.osdp_rules_laws.proofs.Claiming.{accuses_no_other, finds_what_breaks}
use Rattle.osdp_rules_laws.proofs.finds_what_breaks.Goals as goal

pub returns-clause-finds : goal.returns-clause-finds
returns-clause-finds c = finds_what_breaks

pub returns-clause-accuses : goal.returns-clause-accuses
returns-clause-accuses c = accuses_no_other
