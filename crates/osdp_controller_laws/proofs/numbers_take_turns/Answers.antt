use Rattle.osdp_controller_laws.proofs.Ticks.{numbers_turn}
use Rattle.osdp_controller_laws.proofs.numbers_take_turns.Goals as goal

pub returns : goal.returns
returns c = numbers_turn
