use Rattle.osdp_frame_laws.proofs.LawsOfSpellings.{IsReading-Spells}
use Rattle.osdp_frame_laws.proofs.reading_of_spelling.Goals as goal

pub returns : goal.returns
returns c = λ p bytes s. IsReading-Spells p bytes s
