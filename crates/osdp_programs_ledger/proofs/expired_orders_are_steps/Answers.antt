use Rattle.osdp_programs_ledger.proofs.PanelWords.{expired_are}
use Rattle.osdp_programs_ledger.proofs.expired_orders_are_steps.Goals as goal

pub returns : goal.returns
returns g c = expired_are g.H.Handler.answer_of g.H.Handler.after
