use Rattle.osdp_site.proofs.Begins.{none_is_due}
use Rattle.osdp_site.proofs.laws.no_session_stays_due.Goals as goal

pub returns : goal.returns
returns c = none_is_due
