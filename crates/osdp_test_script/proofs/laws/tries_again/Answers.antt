use Rattle.osdp_test_script.proofs.Trying.{tries_again}
use Rattle.osdp_test_script.proofs.laws.tries_again.Goals as goal

pub returns : goal.returns
returns c = tries_again
