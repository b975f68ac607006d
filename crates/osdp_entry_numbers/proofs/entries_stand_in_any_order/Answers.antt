use Rattle.osdp_entry_numbers.proofs.Day.{any_order}
use Rattle.osdp_entry_numbers.proofs.entries_stand_in_any_order.Goals as goal

pub returns : goal.returns
returns g c = any_order g.H.Handler.answer_of g.H.Handler.after
