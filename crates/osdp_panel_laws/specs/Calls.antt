-- One call of a panel after the other, and the calls of its bus that each of them is.
use Rattle.std.specs.Prelude.{◌≡◌, ℕ, if◌then◌else◌, List, [], ◌∷◌, ◌++◌, Option, Some, None}
use Rattle.osdp_msg.specs.declared.command.Command.{Command}
use Rattle.osdp_bus.specs.declared.config.BusConfig.{BusConfig}
use Rattle.osdp_bus.specs.Buses.{has_report, new_bus}
use Rattle.osdp_bus.specs.Machine.{add_refusal, after_begin_at, after_retarget_at, begin_refusal_at, changed_unless, retarget_refusal_at}
use Rattle.osdp_bus_laws.specs.Calls as bus
use Rattle.osdp_panel.specs.declared.fault.PanelFault.{PanelFault}
use Rattle.osdp_panel.specs.Giving.{after_give, after_withdraw, give_refusal, late_at}
use Rattle.osdp_panel.specs.Orders.{PanelState}
use Rattle.osdp_panel.specs.Panels.{after_add_at, new_panel, panel_config}
use Rattle.osdp_panel.specs.Sending.{after_hear, after_seen_silent, after_tick, after_write, holds_back}
use Rattle.osdp_panel.specs.Telling.{after_settle}

-- a call that may change a panel. An `add` for which there is no memory changes nothing, so it is left out
pub data Call : Type 0 where
  Add : ℕ → ℕ → Call
  Retarget : ℕ → ℕ → Call
  Begin : ℕ → ℕ → Call
  Submit : ℕ → Command → ℕ → Call
  Withdraw : ℕ → Call
  Hear : List ℕ → ℕ → Call
  Silence : ℕ → Call
  NextReport : Call
  Tick : ℕ → Call
  Write : ℕ → Call

-- the panel after it: as before where it was refused
abbrev pub after_call : Call → PanelState → PanelState
after_call (Add address next) p = changed_unless (add_refusal address p.bus) p (after_add_at address next p)
after_call (Retarget entry address) p =
    record p { bus = changed_unless (retarget_refusal_at entry address p.bus) p.bus (after_retarget_at entry address p.bus) }
after_call (Begin entry now) p = record p { bus = changed_unless (begin_refusal_at entry p.bus) p.bus (after_begin_at entry now p.bus) }
after_call (Submit entry command until) p = changed_unless (give_refusal entry command p) p (after_give entry command until p)
after_call (Withdraw entry) p = after_withdraw entry p
after_call (Hear bytes now) p = after_hear bytes now p
after_call (Silence now) p = after_seen_silent now p
after_call NextReport p = after_settle p
after_call (Tick now) p = after_tick now p
after_call (Write now) p = after_write now p

-- the panel after a list of them
abbrev pub after_calls : List Call → PanelState → PanelState
after_calls [] p = p
after_calls (call ∷ calls) p = after_calls calls (after_call call p)

-- an order that is accepted is submitted to the bus
abbrev pub submits : Option PanelFault → ℕ → Command → List bus.Call
submits None entry command = bus.Submit entry command ∷ []
submits (Some fault) entry command = []

-- an order that has expired is withdrawn from it
abbrev pub withdraws : Option ℕ → List bus.Call
withdraws None = []
withdraws (Some entry) = bus.Withdraw entry ∷ []

-- the calls of the bus that a call is
abbrev pub bus_calls : Call → PanelState → List bus.Call
bus_calls (Add address next) p = bus.Add address ∷ []
bus_calls (Retarget entry address) p = bus.Retarget entry address ∷ []
bus_calls (Begin entry now) p = bus.Begin entry now ∷ []
bus_calls (Submit entry command until) p = submits (give_refusal entry command p) entry command
bus_calls (Withdraw entry) p = bus.Withdraw entry ∷ []
bus_calls (Hear bytes now) p = bus.OnBytes bytes now ∷ []
bus_calls (Silence now) p = bus.OnSilence now ∷ []
bus_calls NextReport p = if has_report p.bus then bus.NextReport ∷ [] else withdraws (late_at p.bus.greatest p)
bus_calls (Tick now) p = (if holds_back now p then bus.OnBytes [] now else bus.Tick now) ∷ []
bus_calls (Write now) p = bus.OnBytes [] now ∷ []

-- .. and that a list of them is
abbrev pub bus_calls_along : List Call → PanelState → List bus.Call
bus_calls_along [] p = []
bus_calls_along (call ∷ calls) p = bus_calls call p ++ bus_calls_along calls (after_call call p)

-- whatever is called, the bus of a panel is what these calls make of a new bus: so what holds of a bus after every list of calls holds of a panel's
abbrev pub AreCallsOfItsBus : Type 0
AreCallsOfItsBus = (config : BusConfig) (calls : List Call)
    → (after_calls calls (new_panel config)).bus ≡ bus.after_calls (bus_calls_along calls (new_panel config)) (new_bus (panel_config config))
