use Rattle.osdp_shared_line.proofs.LeftAlone.{leaving_exact}
use Rattle.osdp_shared_line.proofs.leaving.leaving_is_exact.Goals as goal

pub returns : goal.returns
returns g c = leaving_exact
