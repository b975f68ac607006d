use Rattle.osdp_words.proofs.TextLaws.{joins_by_spaces}
use Rattle.osdp_words.proofs.laws.joins_by_spaces.Goals as goal

pub returns : goal.returns
returns c = joins_by_spaces
