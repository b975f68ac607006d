use Rattle.osdp_bus_progress.proofs.RowsAfterLosses.{four_rounds}
use Rattle.osdp_bus_progress.proofs.four_rounds_bring_three.Goals as goal

pub returns : goal.returns
returns c = four_rounds c.accepts_by_room.ensures c.schedule_comes_through.ensures.answer
