use Rattle.osdp_link_laws.proofs.AskedMoves.{leaving_exact}
use Rattle.osdp_link_laws.proofs.asked.leaving_is_exact.Goals as goal

pub returns : goal.returns
returns g c = leaving_exact
