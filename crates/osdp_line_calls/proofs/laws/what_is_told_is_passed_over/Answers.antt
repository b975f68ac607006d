use Rattle.osdp_line_calls.proofs.PassedOver.{tells_all}
use Rattle.osdp_line_calls.proofs.laws.what_is_told_is_passed_over.Goals as goal

pub returns : goal.returns
returns c = tells_all
