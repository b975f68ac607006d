use Rattle.osdp_bus_laws.proofs.Repeating.{marks_what_may_come_again}
use Rattle.osdp_bus_laws.proofs.repeats_are_marked.Goals as goal

pub returns : goal.returns
returns c = marks_what_may_come_again
