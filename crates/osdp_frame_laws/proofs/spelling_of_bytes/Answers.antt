use Rattle.osdp_frame_laws.proofs.LawsOfSpellings.{AreBytes-Spells}
use Rattle.osdp_frame_laws.proofs.spelling_of_bytes.Goals as goal

pub returns : goal.returns
returns c = λ p bytes s. AreBytes-Spells p bytes s
