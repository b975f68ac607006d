use Rattle.osdp_test_script.proofs.Common.{stays_refused, SaysLine}
use Rattle.osdp_test_script.proofs.laws.stays_refused.Goals as goal

pub returns : goal.returns
returns c = stays_refused SaysLine
