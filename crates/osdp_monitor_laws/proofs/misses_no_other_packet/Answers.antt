use Rattle.osdp_monitor_laws.proofs.Missing.{misses_no_other_packet}
use Rattle.osdp_monitor_laws.proofs.misses_no_other_packet.Goals as goal

pub returns : goal.returns
returns c = misses_no_other_packet
