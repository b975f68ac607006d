use Rattle.osdp_bus_progress.proofs.RowsOfTurns.{second_round}
use Rattle.osdp_bus_progress.proofs.its_second_round_settles.Goals as goal

pub returns : goal.returns
returns c = second_round c.each_round_brings_one_more.ensures.idle c.each_round_brings_one_more.ensures.more
