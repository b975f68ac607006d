use Rattle.osdp_controller_laws.proofs.Making.{has_one_deadline}
use Rattle.osdp_controller_laws.proofs.OneCall.{waits_until_due}
use Rattle.osdp_controller_laws.proofs.ticks_wait_until_due.Goals as goal

pub returns : goal.returns
returns c = record { waits = waits_until_due; one = has_one_deadline }
