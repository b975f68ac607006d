use Rattle.osdp_sim_ledger.proofs.OneReader.{run_keeps_ledger}
use Rattle.osdp_sim_ledger.proofs.run_keeps_ledger.Goals as goal

pub returns : goal.returns
returns g c =
    run_keeps_ledger g.H.Handler.answer_of g.H.Handler.after c.schedule_is_moves.ensures c.keeps_ledger.ensures c.ordinary_moves_end_told.ensures
    c.tells_in_turn.ensures
