use Rattle.std.proofs.Common.{arith}
use Rattle.std.proofs.lemmas.Grind.{common_steps}
use Rattle.osdp_test_packets.proofs.Ending.{written_crc}
use Rattle.osdp_test_packets.proofs.check_anew.Goals as goal

pub returns-else-packet-eq0 : goal.returns-else-packet-eq0
returns-else-packet-eq0 c =
    let written = written_crc c.args.packet.now c.check_of-check.result (omega arith) c.check_of-check.ensures in
    grind (arith, common_steps)
