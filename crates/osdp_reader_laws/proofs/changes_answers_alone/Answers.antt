use Rattle.osdp_reader_laws.proofs.Common.{refl, rules, kind_of, KeepsWhatItTook}
use Rattle.osdp_reader_laws.proofs.Handlers.{outcome_alike}
use Rattle.osdp_reader_laws.proofs.Repeating.{the_same_still}
use Rattle.osdp_reader_laws.proofs.changes_answers_alone.Goals as goal

pub returns-clause-alone : goal.returns-clause-alone
returns-clause-alone g c = λ r p handler.
    let same = outcome_alike g.H.Handler.answer_of g.H.Handler.after (kind_of r p) r p handler in
    (refl, same.0, same.1)

pub returns-clause-again : goal.returns-clause-again
returns-clause-again g c =
    let kept : KeepsWhatItTook g.H.Handler.answer_of g.H.Handler.after = search rules in
    the_same_still g.H.Handler.answer_of g.H.Handler.after kept
