use Rattle.osdp_tool_sim.proofs.Common.{Ok, Err, sym, subst, steps_left, lists_of, TellsOne}
use Rattle.osdp_sim.specs.declared.account.Account as declared
use Rattle.osdp_tool_sim.specs.declared.told.Told.{Told}
use Rattle.osdp_tool_sim.proofs.Running.{holds_as, told_ok, told_stopped}
use Rattle.osdp_tool_sim.proofs.one.tell_one.Goals as goal
use Rattle.osdp_tool_sim.proofs.one.tell_one.Goals.{in-Ok, in-Err+in_ok-told-in-Err}

pub returns-in-Ok-account_text-clause-told : goal.returns-in-Ok-account_text-clause-told
returns-in-Ok-account_text-clause-told c =
    let script = c.args.script.now in
    let address = c.args.address in
    let events = c.args.events in
    let config = c.settings-config in
    let joined = c.match-run_schedule in
    let told : TellsOne script (address, events) (lists_of joined.told.what) joined.told.end =
    elim joined.branch [
      | in-Ok w ↦
          subst (λ (t : Told declared.Account). TellsOne script (address, events) (lists_of t.what) t.end) (sym w.told-is)
          (told_ok script address events w.in-Ok.what
          (holds_as script address events config.result c.new.result (steps_left c.schedule.result) (Ok w.in-Ok.what)
          config.ensures c.new.ensures c.schedule.ensures w.in-Ok.ensures))
      | in-Err+in_ok-told-in-Err w ↦
          let fault = w.in-Err.fault in
          let told = w.in_ok-told-in-Err.told in
          let is = w.in_ok-told-in-Err.ensures.told in
          subst (λ (t : Told declared.Account). TellsOne script (address, events) (lists_of t.what) t.end) (sym w.told-is)
          (subst (λ (a : declared.Account). TellsOne script (address, events) (lists_of a) told.end) (sym is.0)
          (told_stopped script address events fault told.end
          (holds_as script address events config.result c.new.result (steps_left c.schedule.result) (Err fault)
          config.ensures c.new.ensures c.schedule.ensures w.in-Err.ensures)
          is.1))
    ] in
    record { lists = lists_of joined.told.what; told = told; is = c.in-Ok-account_text.ensures }
