use Rattle.osdp_sim_bus_laws.proofs.OneSession.{all_end, all_once}
use Rattle.osdp_sim_bus_laws.proofs.Rows.{each_row}
use Rattle.osdp_sim_bus_laws.proofs.each_account_holds_once.Goals as goal

pub returns : goal.returns
returns g c =
    let rows = each_row g.H.Handler.answer_of g.H.Handler.after c.schedules_are_moves.ensures.schedules c.each_is_a_link.ensures c.keeps_ledger.ensures
    c.has_an_account_each.ensures in
    record { ends = all_end g.H.Handler.answer_of g.H.Handler.after rows; once = all_once g.H.Handler.answer_of g.H.Handler.after rows }
