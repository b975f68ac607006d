use Rattle.osdp_words.proofs.WordLaws.{stands_for_itself}
use Rattle.osdp_words.proofs.laws.stands_for_itself.Goals as goal

pub returns : goal.returns
returns c = stands_for_itself
