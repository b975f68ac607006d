use Rattle.osdp_words.proofs.TextLaws.{parts_at_spaces}
use Rattle.osdp_words.proofs.laws.parts_at_spaces.Goals as goal

pub returns : goal.returns
returns c = parts_at_spaces
