use Rattle.osdp_bus_progress.proofs.RowsOfTurns.{one_of_two}
use Rattle.osdp_bus_progress.proofs.one_of_two_is_its_round.Goals as goal

pub returns : goal.returns
returns c = one_of_two c.each_round_brings_one_more.ensures.turn
