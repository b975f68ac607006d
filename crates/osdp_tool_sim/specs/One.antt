-- What is told of a script of one reader.
use Rattle.std.specs.Prelude.{ℕ, Result}
use Rattle.osdp_controller.specs.Settings.{default_config}
use Rattle.osdp_frame.specs.declared.check_kind.CheckKind.{CheckKind}
use Rattle.osdp_script.specs.declared.script.Script.{Script}
use Rattle.osdp_script.specs.Script.{steps_of}
use Rattle.osdp_script.specs.Handler.{handler_after, handler_answer, new_handler}
use Rattle.osdp_script.specs.Identity.{script_config}
use Rattle.osdp_script.specs.declared.handler.ScriptReader.{ScriptReader}
use Rattle.osdp_session.specs.Runs.{TellsSessions}
use Rattle.osdp_sim.specs.declared.config.SimConfig.{SimConfig}
use Rattle.osdp_sim.specs.Account.{Account}
use Rattle.osdp_sim.specs.State.{SimState, set_up}
use Rattle.osdp_sim.specs.Steps.{after_step, fault_of}
use Rattle.osdp_sim_laws.specs.Accepted.{IsAcceptedByRoom}
use Rattle.osdp_tool_streams.specs.declared.fault.ToolFault.{ToolFault}
use Rattle.osdp_tool_sim.specs.Steps.{RunTells, steps_taken}

-- the settings of both ends, with a reader at this address and room for so many events
abbrev pub config_of : CheckKind → ℕ × ℕ → SimConfig
config_of check (address, events) = record {
  reader = script_config 1 address;
  events = events;
  controller = default_config address check;
  commands = 64;
}

-- both ends at first
abbrev pub start_of : CheckKind → ℕ × ℕ → SimState ScriptReader
start_of check reader = set_up (config_of check reader) new_handler

-- These lists are told of a script with this reader, and this end: they are those of its run. They tell what the reader's ledger comes to in the steps
-- taken: each command was taken once and in order, with its answer, and each event was reported in turn. Where each session began is told too. Of the steps
-- taken the commands and events were accepted by the room that there is.
pub record TellsOne (script : Script) (reader : ℕ × ℕ) (lists : Account) (end : Result (Unit {0}) ToolFault) : Type 0 where
  pub run_is : RunTells (after_step handler_answer handler_after) fault_of (λ s. s.account) end lists (steps_of script) (start_of script.check reader)
  pub sessions : TellsSessions handler_answer handler_after (config_of script.check reader) new_handler (steps_taken end (steps_of script)) lists
  pub accepted : IsAcceptedByRoom (config_of script.check reader) (steps_taken end (steps_of script)) lists
