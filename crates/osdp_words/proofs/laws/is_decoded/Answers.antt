use Rattle.osdp_words.proofs.WordLaws.{is_decoded}
use Rattle.osdp_words.proofs.laws.is_decoded.Goals as goal

pub returns : goal.returns
returns c = is_decoded
