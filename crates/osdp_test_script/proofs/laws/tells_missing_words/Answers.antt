use Rattle.osdp_test_script.proofs.Common.{tells_missing_words, SaysLine}
use Rattle.osdp_test_script.proofs.laws.tells_missing_words.Goals as goal

pub returns : goal.returns
returns c = tells_missing_words SaysLine
