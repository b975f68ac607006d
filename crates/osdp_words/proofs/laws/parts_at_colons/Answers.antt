use Rattle.osdp_words.proofs.WordLaws.{parts_at_colons}
use Rattle.osdp_words.proofs.laws.parts_at_colons.Goals as goal

pub returns : goal.returns
returns c = parts_at_colons
