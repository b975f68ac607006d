use Rattle.osdp_shared_line.proofs.Moving.{each_is_its_own}
use Rattle.osdp_shared_line.proofs.each_move_is_its_own.Goals as goal

pub returns : goal.returns
returns g c = each_is_its_own g.H.Handler.answer_of g.H.Handler.after
