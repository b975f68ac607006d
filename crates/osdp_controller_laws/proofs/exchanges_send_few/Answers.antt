use Rattle.osdp_controller_laws.proofs.Bounded.{sends_few}
use Rattle.osdp_controller_laws.proofs.Ticks.{counts_sends}
use Rattle.osdp_controller_laws.proofs.exchanges_send_few.Goals as goal

pub returns : goal.returns
returns c = record { few = sends_few; counted = counts_sends }
