use Rattle.osdp_bus_laws.proofs.Retargeting.{retargets_set_the_address}
use Rattle.osdp_bus_laws.proofs.retargets_set_the_address.Goals as goal

pub returns : goal.returns
returns c = retargets_set_the_address
