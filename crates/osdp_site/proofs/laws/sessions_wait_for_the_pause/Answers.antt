use Rattle.osdp_site.proofs.Begins.{waits}
use Rattle.osdp_site.proofs.laws.sessions_wait_for_the_pause.Goals as goal

pub returns : goal.returns
returns c = waits
