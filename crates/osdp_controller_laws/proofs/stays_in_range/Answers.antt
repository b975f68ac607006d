use Rattle.osdp_controller_laws.proofs.InRange.{stays_near}
use Rattle.osdp_controller_laws.proofs.stays_in_range.Goals as goal

pub returns : goal.returns
returns c = stays_near
