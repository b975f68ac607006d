use Rattle.osdp_reader_laws.proofs.FittingReplies.{answer_fits, says_what_fits}
use Rattle.osdp_reader_laws.proofs.replies_fit.Goals as goal

pub returns-clause-said : goal.returns-clause-said
returns-clause-said g c r p command acted is = says_what_fits g.H.Handler.answer_of g.H.Handler.after r p command acted is

pub returns-clause-anywhere : goal.returns-clause-anywhere
returns-clause-anywhere g c config handler command = answer_fits g.H.Handler.answer_of g.H.Handler.after config handler command
