use Rattle.osdp_calls_instance.specs.Panels.{rattle_device, rattle_panel}
use Rattle.osdp_programs_ledger.proofs.OwnOrder.{any_programs_keep, own_programs_hold}
use Rattle.osdp_programs_ledger.proofs.panel_holds_once_in_any_order.Goals as goal

pub returns : goal.returns
returns g c =
    let answer_of = g.H.Handler.answer_of in
    let after = g.H.Handler.after in
    let device = rattle_device answer_of after in
    record {
      calls = own_programs_hold answer_of after c.ends_go_by_their_own_calls.ensures.own rattle_panel device c.panel_calls_are_calls.ensures.line
          c.own_order_holds_once.ensures.ledger;
      less = any_programs_keep answer_of after rattle_panel device c.own_order_holds_once.ensures.less;
    }
