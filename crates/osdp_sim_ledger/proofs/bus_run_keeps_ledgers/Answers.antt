use Rattle.osdp_sim_ledger.proofs.SeveralReaders.{bus_run_keeps_ledgers}
use Rattle.osdp_sim_ledger.proofs.bus_run_keeps_ledgers.Goals as goal

pub returns : goal.returns
returns g c =
    bus_run_keeps_ledgers g.H.Handler.answer_of g.H.Handler.after c.schedules_are_moves.ensures.schedules c.each_is_a_link.ensures c.keeps_ledger.ensures
    c.ordinary_moves_end_told.ensures c.tells_in_turn.ensures
