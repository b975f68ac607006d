use Rattle.osdp_time_laws.proofs.Instances.{bounds_reached}
use Rattle.osdp_time_laws.proofs.bounds_are_reached.Goals as goal

pub returns : goal.returns
returns c = bounds_reached
