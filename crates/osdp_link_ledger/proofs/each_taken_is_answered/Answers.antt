use Rattle.osdp_link_ledger.proofs.Taking.{each_taken}
use Rattle.osdp_link_ledger.proofs.each_taken_is_answered.Goals as goal

pub returns : goal.returns
returns g c = each_taken g.H.Handler.answer_of g.H.Handler.after
