use Rattle.osdp_bus_progress.proofs.RowsOfRounds.{three_rounds}
use Rattle.osdp_bus_progress.proofs.three_rounds_settle_two_and_report_one.Goals as goal

pub returns : goal.returns
returns c = three_rounds c.accepts_by_room.ensures c.schedule_goes_in_turn.ensures
