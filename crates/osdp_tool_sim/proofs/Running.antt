-- What a run hands back is told.
use Rattle.osdp_tool_sim.proofs.Common.{◌≡◌, ◌≤◌, ℕ, zero, suc, List, Result, Ok, Err, IfOk, sym, subst, arith, Script, steps_of, handler_after, handler_answer, new_handler, ScriptReader, SimStep, Cause, Fault, Account, lists_of, after_step, fault_of, ToolFault, TellsOne, config_of, start_of, EndsBy}
use Rattle.osdp_session.specs.Runs.{HoldsOfRun, TellsSessions}
use Rattle.osdp_sim.specs.declared.account.Account as declared
use Rattle.osdp_sim.specs.declared.config.SimConfig.{SimConfig}
use Rattle.osdp_sim.specs.declared.fault.Cause.TheVariants as cause
use Rattle.osdp_sim.specs.Runs.{Stops, StopsAt}
use Rattle.osdp_sim_laws.specs.Accepted.{IsAcceptedByRoom}
use Rattle.osdp_tool_sim.proofs.Stopped.{stop_is_told}

abbrev pub Answer : Type 0
Answer = Result declared.Account (Fault declared.Account)

abbrev pub Holds : Script → ℕ → ℕ → Answer → Type 0
Holds script address events r = HoldsOfRun handler_answer handler_after (config_of script.check (address, events)) new_handler (steps_of script) r

-- the settings, the handler and the steps, as they are called here
pub holds_as : (script : Script) (address events : ℕ) (config : SimConfig) (h : ScriptReader) (steps : List SimStep) (r : Answer)
    → config ≡ config_of script.check (address, events) → h ≡ new_handler → steps ≡ steps_of script
    → HoldsOfRun handler_answer handler_after config h steps r → Holds script address events r
holds_as script address events config h steps r e f g holds =
    subst (λ (s : List SimStep). HoldsOfRun handler_answer handler_after (config_of script.check (address, events)) new_handler s r) g
    (subst (λ (k : ScriptReader). HoldsOfRun handler_answer handler_after (config_of script.check (address, events)) k steps r) f
    (subst (λ (c : SimConfig). HoldsOfRun handler_answer handler_after c h steps r) e holds))

pub told_ok : (script : Script) (address events : ℕ) (account : declared.Account) → Holds script address events (Ok account)
    → TellsOne script (address, events) (lists_of account) (Ok tt)
told_ok script address events account holds = record {
  run_is = (holds.run.ends.1, holds.run.ends.2);
  sessions = holds.sessions tt;
  accepted = holds.room;
}

-- a step was refused, and both ends were set up
stopped_at : (script : Script) (address events : ℕ) (why : Cause) (at : ℕ) (end : Result (Unit {0}) ToolFault) (lists : Account) → EndsBy why at end
    → Stops handler_answer handler_after at why lists (config_of script.check (address, events)) new_handler (steps_of script)
    → (1 ≤ at) × StopsAt handler_answer handler_after at why lists (steps_of script) (start_of script.check (address, events))
stopped_at script address events cause.HoldsPacket zero end lists is stops = absurd stops.0
stopped_at script address events cause.NotQuiet zero end lists is stops = absurd stops.0
stopped_at script address events cause.NoMemory zero end lists is stops = absurd is
stopped_at script address events cause.OutOfRange zero end lists is stops = absurd is
stopped_at script address events why (suc before) end lists is stops = (omega arith, stops.1)

pub told_stopped : (script : Script) (address events : ℕ) (fault : Fault declared.Account) (end : Result (Unit {0}) ToolFault)
    → Holds script address events (Err fault) → EndsBy fault.cause fault.step end → TellsOne script (address, events) (lists_of fault.account) end
told_stopped script address events fault end holds is =
    let config = config_of script.check (address, events) in
    let lists = lists_of fault.account in
    let stops = stopped_at script address events fault.cause fault.step end lists is holds.run.ends in
    let told = stop_is_told (after_step handler_answer handler_after) fault_of (λ s. s.account) fault.cause fault.step end lists (steps_of script)
    (start_of script.check (address, events)) is stops in
    record {
      run_is = told.0;
      sessions = subst (λ (taken : List SimStep). TellsSessions handler_answer handler_after config new_handler taken lists) (sym told.1) (holds.sessions stops.0);
      accepted = subst (λ (taken : List SimStep). IsAcceptedByRoom config taken lists) (sym told.1) holds.room;
    }

pub if_ok : {T E : Type 0} {P Q : T → Type 0} (r : Result T E) → ((x : T) → P x → Q x) → IfOk r P → IfOk r Q
if_ok (Ok x) f p = f x p
if_ok (Err e) f p = p
