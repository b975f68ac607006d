use Rattle.osdp_test_script.proofs.Trying.{counts_each_verdict}
use Rattle.osdp_test_script.proofs.laws.counts_each_verdict.Goals as goal

pub returns : goal.returns
returns c = counts_each_verdict
