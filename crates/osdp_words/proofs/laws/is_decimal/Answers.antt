use Rattle.osdp_words.proofs.WordLaws.{is_decimal}
use Rattle.osdp_words.proofs.laws.is_decimal.Goals as goal

pub returns : goal.returns
returns c = is_decimal
