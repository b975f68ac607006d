use Rattle.osdp_link_ledger.proofs.Instance.{act_and_offer}
use Rattle.osdp_link_ledger.proofs.devices_act_and_offer.Goals as goal

pub returns : goal.returns
returns g c = act_and_offer g.H.Handler.answer_of g.H.Handler.after c.link_keeps_ledger.ensures
