use Rattle.osdp_test_script.proofs.OneAnswer.{one_answer}
use Rattle.osdp_test_script.proofs.laws.one_answer.Goals as goal

pub returns : goal.returns
returns c = one_answer
