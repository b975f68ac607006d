use Rattle.osdp_rules.proofs.Comparing.{compares_packets_lem}
use Rattle.osdp_rules.proofs.laws.compares_packets.Goals as goal

pub returns : goal.returns
returns c = compares_packets_lem
