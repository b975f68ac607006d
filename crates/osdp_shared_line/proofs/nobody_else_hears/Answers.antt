use Rattle.osdp_shared_line.proofs.Running.{no_two, nobody_else}
use Rattle.osdp_shared_line.proofs.nobody_else_hears.Goals as goal

pub returns-clause-hears : goal.returns-clause-hears
returns-clause-hears g c = nobody_else g.H.Handler.answer_of g.H.Handler.after c.reads_what_is_asked.ensures

pub returns-clause-together : goal.returns-clause-together
returns-clause-together g c = no_two g.H.Handler.answer_of g.H.Handler.after c.reads_what_is_asked.ensures
