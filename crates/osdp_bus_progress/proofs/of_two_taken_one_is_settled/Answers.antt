use Rattle.osdp_bus_progress.proofs.RowsOfTaken.{of_two_taken}
use Rattle.osdp_bus_progress.proofs.of_two_taken_one_is_settled.Goals as goal

pub returns : goal.returns
returns c = of_two_taken c.schedule_holds_once.ensures.once
