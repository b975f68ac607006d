use Rattle.osdp_test_script.proofs.OneAnswer.{answers_itself}
use Rattle.osdp_test_script.proofs.laws.answers_itself.Goals as goal

pub returns : goal.returns
returns c = answers_itself
