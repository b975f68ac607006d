use Rattle.osdp_test_script.proofs.Common.{one_place, SaysLine}
use Rattle.osdp_test_script.proofs.laws.one_wrong_word.Goals as goal

pub returns : goal.returns
returns c = one_place SaysLine
