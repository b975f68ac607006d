use Rattle.osdp_premises.proofs.Strangers.{spares_others}
use Rattle.osdp_premises.proofs.order_spares_others.Goals as goal

pub returns : goal.returns
returns g c = spares_others
