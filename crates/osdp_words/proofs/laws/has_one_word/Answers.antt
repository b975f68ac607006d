use Rattle.osdp_words.proofs.WordLaws.{has_one_word}
use Rattle.osdp_words.proofs.laws.has_one_word.Goals as goal

pub returns : goal.returns
returns c = has_one_word
