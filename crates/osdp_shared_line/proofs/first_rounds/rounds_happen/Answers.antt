use Rattle.osdp_shared_line.proofs.FirstRounds.{first_rounds}
use Rattle.osdp_shared_line.proofs.TwoStations.{both_have}
use Rattle.osdp_shared_line.proofs.first_rounds.rounds_happen.Goals as goal

pub returns : goal.returns
returns g c = record {
  exact = first_rounds g.H.Handler.answer_of g.H.Handler.after;
  stations = both_have g.H.Handler.answer_of g.H.Handler.after;
}
