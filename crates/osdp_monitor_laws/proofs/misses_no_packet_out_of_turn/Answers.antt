use Rattle.osdp_monitor_laws.proofs.Naming.{misses_no_packet_out_of_turn}
use Rattle.osdp_monitor_laws.proofs.misses_no_packet_out_of_turn.Goals as goal

pub returns : goal.returns
returns c = misses_no_packet_out_of_turn
