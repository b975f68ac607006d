-- What is told of a script of several readers.
use Rattle.std.specs.Prelude.{ℕ, ◌+◌, List, [], ◌∷◌, Result}
use Rattle.osdp_bus.specs.Settings.{default_config}
use Rattle.osdp_script.specs.declared.script.Script.{Script}
use Rattle.osdp_script.specs.Script.{steps_of}
use Rattle.osdp_script.specs.Handler.{handler_after, handler_answer, new_handler}
use Rattle.osdp_script.specs.Identity.{script_config}
use Rattle.osdp_script.specs.declared.handler.ScriptReader.{ScriptReader}
use Rattle.osdp_session.specs.SeveralReaders.{TellsSessions}
use Rattle.osdp_sim_bus_laws.specs.Accounts.{OfEach}
use Rattle.osdp_sim.specs.Account.{Account}
use Rattle.osdp_sim.specs.State.{room_for}
use Rattle.osdp_sim_bus.specs.State.{Given, LineState, accounts, set_up}
use Rattle.osdp_sim_bus.specs.Steps.{after_step, fault_of}
use Rattle.osdp_sim_bus_laws.specs.Accepted.{AcceptsEach}
use Rattle.osdp_tool_streams.specs.declared.fault.ToolFault.{ToolFault}
use Rattle.osdp_tool_sim.specs.Steps.{RunTells, steps_taken}

-- the readers at these addresses, each with room for so many events; the first has this number
abbrev pub readers_from : ℕ → List (ℕ × ℕ) → List (Given ScriptReader)
readers_from number [] = []
readers_from number (reader ∷ readers) =
    (script_config number reader.0, reader.1, new_handler) ∷ readers_from (number + 1) readers

-- the bus and the readers at first
abbrev pub line_of : Script → LineState ScriptReader
line_of script = set_up (default_config script.check (room_for 64)) (readers_from 1 script.readers.items)

-- These accounts are told of a script, and this end: they are those of its run, in the order of the readers. Each tells what the ledger of its reader comes
-- to in the steps taken: each command was taken once and in order, with its answer, and each event was reported in turn. Where each session began is told too.
-- Of the steps taken the commands and events were accepted by the room that there is.
pub record TellsEach (script : Script) (told : List Account) (end : Result (Unit {0}) ToolFault) : Type 0 where
  pub run_is : RunTells (after_step handler_answer handler_after) fault_of accounts end told (steps_of script) (line_of script)
  pub sessions :
      let readers = readers_from 1 script.readers.items in
      OfEach (TellsSessions handler_answer handler_after (default_config script.check (room_for 64)) readers (steps_taken end (steps_of script))) readers told
  pub accepted : AcceptsEach (default_config script.check (room_for 64)) (readers_from 1 script.readers.items) (steps_taken end (steps_of script)) told
