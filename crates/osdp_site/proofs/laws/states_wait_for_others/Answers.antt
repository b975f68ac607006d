use Rattle.osdp_site.proofs.Fitting.{waits_for_others}
use Rattle.osdp_site.proofs.laws.states_wait_for_others.Goals as goal

pub returns : goal.returns
returns c = waits_for_others
