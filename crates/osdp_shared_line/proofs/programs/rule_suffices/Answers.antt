use Rattle.osdp_shared_line.proofs.Ruled.{rule_suffices}
use Rattle.osdp_shared_line.proofs.programs.rule_suffices.Goals as goal

pub returns : goal.returns
returns g c = rule_suffices g.H.Handler.answer_of g.H.Handler.after c.reads_what_is_asked.ensures
