use Rattle.osdp_programs_ledger.proofs.Common.{line_device, line_panel, status_after, status_answer}
use Rattle.osdp_programs_ledger.proofs.OwnOrder.{any_programs_keep, own_programs_hold}
use Rattle.osdp_programs_ledger.proofs.line_programs_hold_once_in_any_order.Goals as goal

pub returns : goal.returns
returns c = record {
  calls = own_programs_hold status_answer status_after c.ends_go_by_their_own_calls.ensures.own line_panel line_device c.lines_are_calls.ensures.line
      c.own_order_holds_once.ensures.ledger;
  less = any_programs_keep status_answer status_after line_panel line_device c.own_order_holds_once.ensures.less;
}
