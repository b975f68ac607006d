use Rattle.osdp_monitor.proofs.Passing.{moves_by_com_lem}
use Rattle.osdp_monitor.proofs.laws.moves_by_com.Goals as goal

pub returns : goal.returns
returns c = moves_by_com_lem
