use Rattle.osdp_script.proofs.OneScript.{one_meaning}
use Rattle.osdp_script.proofs.meaning.scripts_have_one_meaning.Goals as goal

pub returns : goal.returns
returns c = one_meaning
