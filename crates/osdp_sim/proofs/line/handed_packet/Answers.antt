use Rattle.osdp_sim.proofs.Bursts.{lost}
use Rattle.osdp_sim.proofs.line.handed_packet.Goals as goal

pub returns-in-Drop : goal.returns-in-Drop
returns-in-Drop c = lost c.args.way.now c.args.line.now.items c.in-Drop.is c.requires.well
