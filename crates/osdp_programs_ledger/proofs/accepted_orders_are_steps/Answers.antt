use Rattle.osdp_programs_ledger.proofs.PanelWords.{accepted_are}
use Rattle.osdp_programs_ledger.proofs.accepted_orders_are_steps.Goals as goal

pub returns : goal.returns
returns g c = accepted_are g.H.Handler.answer_of g.H.Handler.after
