use Rattle.std.proofs.Common.{rules}
use Rattle.osdp_reader_laws.proofs.Repeating.{the_same_again}
use Rattle.osdp_reader_laws.proofs.keeps_what_it_took.Goals as goal

pub returns-clause-kept : goal.returns-clause-kept
returns-clause-kept g c = search rules

pub returns-clause-again : goal.returns-clause-again
returns-clause-again g c =
    the_same_again g.H.Handler.answer_of g.H.Handler.after (returns-clause-kept g c)
