use Rattle.osdp_programs_ledger.proofs.Common.{c_device, c_panel, program_after, program_answer}
use Rattle.osdp_programs_ledger.proofs.OwnOrder.{any_programs_keep, own_programs_hold}
use Rattle.osdp_programs_ledger.proofs.c_programs_hold_once_in_any_order.Goals as goal

pub returns : goal.returns
returns c = record {
  calls = own_programs_hold program_answer program_after c.ends_go_by_their_own_calls.ensures.own c_panel c_device c.calls_for_c_are_calls.ensures.line
      c.own_order_holds_once.ensures.ledger;
  less = any_programs_keep program_answer program_after c_panel c_device c.own_order_holds_once.ensures.less;
}
