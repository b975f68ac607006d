use Rattle.osdp_panel_rules_laws.proofs.Instances.{can_be_broken, can_be_kept, can_be_open, opens_well}
use Rattle.osdp_panel_rules_laws.proofs.each_has_its_line.Goals as goal

pub returns-clause-broken : goal.returns-clause-broken
returns-clause-broken c = can_be_broken

pub returns-clause-open : goal.returns-clause-open
returns-clause-open c = can_be_open

pub returns-clause-kept : goal.returns-clause-kept
returns-clause-kept c = can_be_kept

pub returns-clause-runs : goal.returns-clause-runs
returns-clause-runs c = opens_well
