use Rattle.osdp_line_ledger.proofs.Devices.{each_ordinary}
use Rattle.osdp_line_ledger.proofs.each_ordinary_ends_told.Goals as goal

pub returns : goal.returns
returns g c = each_ordinary g.H.Handler.answer_of g.H.Handler.after c.ordinary_moves_end_told.ensures
