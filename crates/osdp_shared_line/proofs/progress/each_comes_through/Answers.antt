use Rattle.osdp_shared_line.proofs.Rounds.{each_comes_through, each_comes_through_in_time}
use Rattle.osdp_shared_line.proofs.progress.each_comes_through.Goals as goal

pub returns-clause-due : goal.returns-clause-due
returns-clause-due g c =
    each_comes_through g.H.Handler.answer_of g.H.Handler.after c.reads_what_is_asked.ensures c.comes_through.ensures.due

pub returns-clause-in_time : goal.returns-clause-in_time
returns-clause-in_time g c =
    each_comes_through_in_time g.H.Handler.answer_of g.H.Handler.after c.reads_what_is_asked.ensures c.comes_through.ensures.in_time
