use Rattle.osdp_script.proofs.OneRest.{one_rest}
use Rattle.osdp_script.proofs.laws.one_rest_after_a_line.Goals as goal

pub returns : goal.returns
returns c = one_rest
