use Rattle.osdp_calls.proofs.Sayings.{adds_make_the_bus}
use Rattle.osdp_calls.proofs.adds_make_the_bus.Goals as goal

pub returns : goal.returns
returns c = adds_make_the_bus
