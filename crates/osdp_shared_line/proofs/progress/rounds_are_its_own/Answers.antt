use Rattle.osdp_shared_line.proofs.Rounds.{rounds_are_its_own}
use Rattle.osdp_shared_line.proofs.progress.rounds_are_its_own.Goals as goal

pub returns : goal.returns
returns g c = rounds_are_its_own g.H.Handler.answer_of g.H.Handler.after c.reads_what_is_asked.ensures
