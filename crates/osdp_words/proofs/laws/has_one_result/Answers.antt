use Rattle.osdp_words.proofs.TextLaws.{has_one_result}
use Rattle.osdp_words.proofs.laws.has_one_result.Goals as goal

pub returns : goal.returns
returns c = has_one_result
