-- One call of a bus after the other.
use Rattle.std.specs.Prelude.{ℕ, if◌then◌else◌, List, [], ◌∷◌, Option, Some, None}
use Rattle.osdp_controller.specs.declared.report.Report.{Report}
use Rattle.osdp_controller.specs.Hearing.{comset_of}
use Rattle.osdp_msg.specs.declared.command.Command.{Command}
use Rattle.osdp_bus.specs.declared.config.BusConfig.{BusConfig}
use Rattle.osdp_bus.specs.Buses.{BusState, new_bus}
use Rattle.osdp_bus.specs.Hearing.{after_bytes, after_silence}
use Rattle.osdp_bus.specs.Machine.{add_refusal, after_add, after_begin_at, after_next_report, after_retarget_at, after_submit_at, after_withdraw_at, begin_refusal_at, changed_unless, leads_nowhere, retarget_refusal_at, submit_refusal_at}
use Rattle.osdp_bus.specs.Settings.{IsBusConfig}
use Rattle.osdp_bus.specs.Ticking.{bus_ticks}

-- a call that may change a bus. An `add` for which there is no memory changes nothing, so it is left out. `Submit` takes a COMSET to whatever
-- address, as `submit_anywhere` does
pub data Call : Type 0 where
  Add : ℕ → Call
  Begin : ℕ → ℕ → Call
  Submit : ℕ → Command → Call
  Withdraw : ℕ → Call
  Retarget : ℕ → ℕ → Call
  OnBytes : List ℕ → ℕ → Call
  OnSilence : ℕ → Call
  Tick : ℕ → Call
  NextReport : Call

-- the bus after it: as before where it was refused
abbrev pub after_call : Call → BusState → BusState
after_call (Add address) b = changed_unless (add_refusal address b) b (after_add address b)
after_call (Begin entry now) b = changed_unless (begin_refusal_at entry b) b (after_begin_at entry now b)
after_call (Submit entry command) b = changed_unless (submit_refusal_at entry command b) b (after_submit_at entry command b)
after_call (Withdraw entry) b = after_withdraw_at entry b
after_call (Retarget entry address) b =
    changed_unless (retarget_refusal_at entry address b) b (after_retarget_at entry address b)
after_call (OnBytes bytes now) b = after_bytes bytes now b
after_call (OnSilence now) b = after_silence now b
after_call (Tick now) b = (bus_ticks now b).bus
after_call NextReport b = after_next_report b

-- the bus after a list of them
abbrev pub after_calls : List Call → BusState → BusState
after_calls [] b = b
after_calls (call ∷ calls) b = after_calls calls (after_call call b)

-- what holds after every list of calls of a new bus
abbrev pub Always : (BusState → Type 0) → Type 0
Always P = (config : BusConfig) (calls : List Call) → IsBusConfig config → P (after_calls calls (new_bus config))

-- what a call leaves to be taken that wasn't there before it. While a report waits nothing arises, and no call but
-- that which takes it changes it, as a law says
abbrev pub arisen : Option (ℕ × Report) → Option (ℕ × Report) → Option (ℕ × Report)
arisen None after = after
arisen (Some waiting) after = None

abbrev pub arises : Call → BusState → Option (ℕ × Report)
arises call b = arisen b.devices.report (after_call call b).devices.report

-- what `submit` is: that call, but none for a COMSET to an address that no device has, which it refuses by itself
abbrev pub orders : ℕ → Command → List Call
orders entry command = if leads_nowhere (comset_of command) then [] else Submit entry command ∷ []
