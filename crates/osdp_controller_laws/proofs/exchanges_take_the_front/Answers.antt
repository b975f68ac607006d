use Rattle.osdp_controller_laws.proofs.Ticks.{takes_front}
use Rattle.osdp_controller_laws.proofs.exchanges_take_the_front.Goals as goal

pub returns : goal.returns
returns c = takes_front
