use Rattle.osdp_monitor.proofs.Turns.{plain_is_fine_lem}
use Rattle.osdp_monitor.proofs.laws.finds_nothing_in_plain_packets.Goals as goal

pub returns : goal.returns
returns c = plain_is_fine_lem
