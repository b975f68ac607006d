use Rattle.osdp_calls_ledger.proofs.Histories.{new_device_costs, new_device_reports_no_more, new_panel_costs}
use Rattle.osdp_calls_ledger.proofs.restarts_cost.Goals as goal

pub returns : goal.returns
returns g c =
    let answer_of = g.H.Handler.answer_of in
    let after = g.H.Handler.after in
    record {
      device = new_device_costs answer_of after c.restarts_cost.ensures.at_once;
      since = new_device_reports_no_more answer_of after c.each_keeps_ledger.ensures c.restarts_cost.ensures.since;
      panel = new_panel_costs answer_of after c.restarts_cost.ensures.at_once;
    }
