use Rattle.osdp_words.proofs.WordLaws.{are_all_words}
use Rattle.osdp_words.proofs.laws.are_all_words.Goals as goal

pub returns : goal.returns
returns c = are_all_words
