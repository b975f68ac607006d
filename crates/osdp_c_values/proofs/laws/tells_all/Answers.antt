use Rattle.osdp_c_values.proofs.AllTold.{tells_all_lem}
use Rattle.osdp_c_values.proofs.laws.tells_all.Goals as goal

pub returns : goal.returns
returns c = tells_all_lem
