use Rattle.osdp_reader_laws.proofs.Places.{refuses_for_its_place}
use Rattle.osdp_reader_laws.proofs.refuses_for_its_place.Goals as goal

pub returns : goal.returns
returns g c = refuses_for_its_place g.H.Handler.answer_of g.H.Handler.after
