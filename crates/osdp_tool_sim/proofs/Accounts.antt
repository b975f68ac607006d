-- What a run of several readers hands back is told.
use Rattle.osdp_tool_sim.proofs.Common.{◌≡◌, ◌≢◌, ◌+◌, ◌<◌, ◌≤◌, ℕ, zero, suc, arith, List, [], ◌∷◌, ◌++◌, length, map, drop, get_or, Result, Ok, Err, refl, sym, subst, ap, ◌∙◌, append_assoc, add-one, drop-cons, Vec, default_config, Script, steps_of, handler_after, handler_answer, ScriptReader, Cause, Fault, SimStep, Account, lists_of, room_for, RunEnds, Stops, StopsAt, lists_of_all, Given, BusAnswer, Given, accounts, ToolFault, account_text, texts_from, TellsEach, line_of, readers_from, EndsBy, OfEach, IsTextOfEach, TellsReaders}
use Rattle.osdp_bus.specs.declared.config.BusConfig.{BusConfig}
use Rattle.osdp_session.specs.SeveralReaders.{HoldsOfBusRun, TellsSessions}
use Rattle.osdp_sim.specs.declared.account.Account as declared
use Rattle.osdp_sim.specs.declared.fault.Cause.TheVariants as cause
use Rattle.osdp_sim_bus_laws.specs.Accepted.{AcceptsEach}
use Rattle.osdp_sim_bus.specs.Steps.{after_step, fault_of}
use Rattle.osdp_tool_sim.proofs.Stopped.{stop_is_told}

abbrev pub config_of : Script → BusConfig
config_of script = default_config script.check (room_for 64)

abbrev pub readers_of : Script → List (Given ScriptReader)
readers_of script = readers_from 1 script.readers.items

abbrev pub Ends : Script → BusAnswer → Type 0
Ends script r = RunEnds handler_answer handler_after (config_of script) (readers_of script) (steps_of script) r

abbrev pub Holds : Script → BusAnswer → Type 0
Holds script r = HoldsOfBusRun handler_answer handler_after (config_of script) (readers_of script) (steps_of script) r

-- the settings, the readers and the steps, as they are called here
pub holds_as : (script : Script) (config : BusConfig) (readers : List (Given ScriptReader)) (steps : List SimStep) (r : BusAnswer)
    → config ≡ config_of script → readers ≡ readers_of script → steps ≡ steps_of script
    → HoldsOfBusRun handler_answer handler_after config readers steps r → Holds script r
holds_as script config readers steps r e f g holds =
    subst (λ (s : List SimStep). HoldsOfBusRun handler_answer handler_after (config_of script) (readers_of script) s r) g
    (subst (λ (k : List (Given ScriptReader)). HoldsOfBusRun handler_answer handler_after (config_of script) k steps r) f
    (subst (λ (c : BusConfig). HoldsOfBusRun handler_answer handler_after c readers steps r) e holds))

pub each_ok : (script : Script) (told : Vec declared.Account) → Holds script (Ok told) → TellsEach script (lists_of_all told.items) (Ok tt)
each_ok script told holds = record {
  run_is = (holds.run.ends.1, holds.run.ends.2);
  sessions = holds.sessions tt;
  accepted = holds.room tt;
}

-- a step was refused, and the bus and the readers were set up
stopped_at : (script : Script) (why : Cause) (at : ℕ) (end : Result (Unit {0}) ToolFault) (told : List Account) → EndsBy why at end
    → Stops handler_answer handler_after at why told (default_config script.check (room_for 64)) (readers_from 1 script.readers.items) (steps_of script)
    → (1 ≤ at) × StopsAt handler_answer handler_after at why told (steps_of script) (line_of script)
stopped_at script cause.HoldsPacket zero end told is stops = absurd stops.0
stopped_at script cause.NotQuiet zero end told is stops = absurd stops.0
stopped_at script cause.NoMemory zero end told is stops = absurd is
stopped_at script cause.OutOfRange zero end told is stops = absurd is
stopped_at script why (suc before) end told is stops = (omega arith, stops.1)

pub each_stopped : (script : Script) (fault : Fault (Vec declared.Account)) (end : Result (Unit {0}) ToolFault) → Holds script (Err fault)
    → EndsBy fault.cause fault.step end → TellsEach script (lists_of_all fault.account.items) end
each_stopped script fault end holds is =
    let lists = lists_of_all fault.account.items in
    let stops = stopped_at script fault.cause fault.step end lists is holds.run.ends in
    let told = stop_is_told (after_step handler_answer handler_after) fault_of accounts fault.cause fault.step end lists (steps_of script) (line_of script) is stops in
    record {
      run_is = told.0;
      sessions = subst (λ (taken : List SimStep). OfEach (TellsSessions handler_answer handler_after (config_of script) (readers_of script) taken) (readers_of script) lists)
          (sym told.1) (holds.sessions stops.0);
      accepted = subst (λ (taken : List SimStep). AcceptsEach (config_of script) (readers_of script) taken lists) (sym told.1) (holds.room stops.0);
    }

-- a script that hasn't one reader
pub of_each : (readers : List (ℕ × ℕ)) (script : Script) (text : List ℕ) (end : Result (Unit {0}) ToolFault)
    → ((reader : ℕ × ℕ) → readers ≢ reader ∷ []) → IsTextOfEach script text end → TellsReaders readers script text end
of_each [] script text end not_one is = is
of_each (reader ∷ []) script text end not_one is = absurd (not_one reader refl)
of_each (reader ∷ other ∷ others) script text end not_one is = is

-- ---- the texts

-- one text more
pub texts_more : (accounts : List declared.Account) (i : ℕ) (account : declared.Account) (text one next whole : List ℕ) → i < length accounts
    → account ≡ get_or accounts i account → one ≡ account_text (i + 1) (lists_of account) → next ≡ text ++ one
    → text ++ texts_from (i + 1) (map lists_of (drop i accounts)) ≡ whole
    → next ++ texts_from (i + 1 + 1) (map lists_of (drop (i + 1) accounts)) ≡ whole
texts_more accounts i account text one next whole within is says written all =
    let left = texts_from (i + 1 + 1) (map lists_of (drop (i + 1) accounts)) in
    let cut : drop i accounts ≡ account ∷ drop (i + 1) accounts = split in
    ap (λ l. l ++ left) (written ∙ ap (λ l. text ++ l) says)
    ∙ append_assoc text (account_text (i + 1) (lists_of account)) left
    ∙ ap (λ l. text ++ texts_from (i + 1) (map lists_of l)) (sym cut)
    ∙ all
  where
    split : drop i accounts ≡ account ∷ drop (i + 1) accounts
    split = rw add-one (drop-cons accounts i account within ∙ ap (λ y. y ∷ drop (suc i) accounts) (sym is))
