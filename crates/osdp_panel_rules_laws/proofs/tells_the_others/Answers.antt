use Rattle.osdp_panel_rules_laws.proofs.Telling.{tells_ok, tells_open, tells_unclear}
use Rattle.osdp_panel_rules_laws.proofs.tells_the_others.Goals as goal

pub returns-clause-open : goal.returns-clause-open
returns-clause-open c = tells_open

pub returns-clause-ok : goal.returns-clause-ok
returns-clause-ok c = tells_ok

pub returns-clause-unclear : goal.returns-clause-unclear
returns-clause-unclear c = tells_unclear
