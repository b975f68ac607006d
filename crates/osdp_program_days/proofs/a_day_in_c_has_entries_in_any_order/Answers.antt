use Rattle.osdp_program_days.proofs.InAnyOrder.{day_in_any_order_keeps}
use Rattle.osdp_program_days.proofs.a_day_in_c_has_entries_in_any_order.Goals as goal

pub returns : goal.returns
returns c = day_in_any_order_keeps
