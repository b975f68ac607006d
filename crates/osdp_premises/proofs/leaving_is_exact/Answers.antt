use Rattle.osdp_premises.proofs.Leaving.{leaving_exact}
use Rattle.osdp_premises.proofs.leaving_is_exact.Goals as goal

pub returns : goal.returns
returns g c = leaving_exact
