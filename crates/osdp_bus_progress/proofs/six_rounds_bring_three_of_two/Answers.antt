use Rattle.osdp_bus_progress.proofs.RowsAfterLosses.{six_rounds}
use Rattle.osdp_bus_progress.proofs.six_rounds_bring_three_of_two.Goals as goal

pub returns : goal.returns
returns c = six_rounds c.each_accepts_by_room.ensures c.each_recovers.ensures.answer c.has_an_account_each.ensures
