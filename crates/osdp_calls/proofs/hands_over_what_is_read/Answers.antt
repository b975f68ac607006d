use Rattle.osdp_calls.proofs.Handing.{hands_over}
use Rattle.osdp_calls.proofs.hands_over_what_is_read.Goals as goal

pub returns : goal.returns
returns c = hands_over
