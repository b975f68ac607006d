use Rattle.osdp_sim.specs.Runs as simulation
use Rattle.osdp_sim_bus.specs.Runs as bus
use Rattle.osdp_sim_laws.specs.Accounts.{account_in}
use Rattle.osdp_sim_bus_laws.specs.Accounts.{accounts_in}
use Rattle.osdp_session.proofs.Telling.{each_tells, tells_sessions}
use Rattle.osdp_session.proofs.laws.holds_of_each_run.Goals as goal

pub returns-clause-link : goal.returns-clause-link
returns-clause-link g c config handler steps answer run = record {
  run = run;
  room = c.accepts_by_room.ensures config handler steps answer run;
  sessions = λ up.
      let kept = c.run_keeps_ledger.ensures config handler steps answer run up in
      tells_sessions g.H.Handler.answer_of g.H.Handler.after config handler (simulation.steps_done steps answer) (account_in answer) kept.whole kept.until
      (c.sessions_begin_by_reopens.ensures config handler steps answer run up) (c.schedule_holds_once.ensures.ends config handler steps answer run up);
  once = c.schedule_holds_once.ensures.once config handler steps answer run;
}

pub returns-clause-bus : goal.returns-clause-bus
returns-clause-bus g c config readers steps answer run = record {
  run = run;
  room = c.each_accepts_by_room.ensures config readers steps answer run;
  sessions = λ up.
      let kept = c.bus_run_keeps_ledgers.ensures config readers steps answer run up in
      each_tells g.H.Handler.answer_of g.H.Handler.after config readers (bus.steps_done steps answer) (accounts_in answer)
      (c.each_sessions_begin_by_reopens.ensures config readers steps answer run up) (c.each_account_holds_once.ensures.ends config readers steps answer run up)
      kept.whole kept.until;
  once = c.each_account_holds_once.ensures.once config readers steps answer run;
}
