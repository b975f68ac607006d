use Rattle.osdp_monitor.proofs.Passing.{passes_over_lem}
use Rattle.osdp_monitor.proofs.laws.passes_over_what_it_cannot_read.Goals as goal

pub returns : goal.returns
returns c = passes_over_lem
