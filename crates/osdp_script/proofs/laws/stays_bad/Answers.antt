use Rattle.osdp_script.proofs.InTurn.{bad_stays}
use Rattle.osdp_script.proofs.laws.stays_bad.Goals as goal

pub returns : goal.returns
returns c = bad_stays
