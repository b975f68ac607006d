use Rattle.osdp_controller_laws.proofs.InRange.{sends_packets}
use Rattle.osdp_controller_laws.proofs.sends_packets.Goals as goal

pub returns : goal.returns
returns c = sends_packets
