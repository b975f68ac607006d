-- Each end goes by its own calls: the bus of a line in use by those of the panel, and a device by those of its entry, whatever the others call.
use Rattle.std.specs.Prelude.{◌≡◌, ℕ, Bool, false, ◌==◌, if◌then◌else◌, All, List, [], ◌∷◌, ◌++◌, Some, Option, None}
use Rattle.osdp_msg.specs.declared.command.Command.{Command}
use Rattle.osdp_bus.specs.Buses.{BusState, new_bus}
use Rattle.osdp_bus.specs.Settings.{IsBusConfig}
use Rattle.osdp_bus.specs.declared.config.BusConfig.{BusConfig}
use Rattle.osdp_bus_laws.specs.Calls as bus
use Rattle.osdp_bus_laws.specs.Exchanges.{HasOneExchange}
use Rattle.osdp_reader.specs.declared.handler.Answer.{Answer}
use Rattle.osdp_shared_line.specs.Line.{site_at}
use Rattle.osdp_calls.specs.Calls.{Call, Held, NewPanel, OfPanel, Step, after_calls, device_after, device_called, held_by}
use Rattle.osdp_calls.specs.Lines.{InUse, Station, bus_with}
use Rattle.osdp_calls.specs.Sayings.{NoneRefused}

-- a bus that some list of calls makes of a new one
pub record IsThatOfABus (b : BusState) : Type 0 where
  pub config : BusConfig
  pub settings : IsBusConfig config
  pub calls : List bus.Call
  pub is : b ≡ bus.after_calls calls (new_bus config)

-- a call of a device, if it is of one, is of that of this entry
abbrev pub is_called : ℕ → Option ℕ → Bool
is_called k None = false
is_called k (Some i) = i == k

module _ {H : Type 0} where
  -- the panel's calls among these
  abbrev pub one_panel_call : Call H → List bus.Call
  one_panel_call (OfPanel call) = call ∷ []
  one_panel_call _ = []

  -- .. in their order
  abbrev pub panel_calls : List (Step H) → List bus.Call
  panel_calls [] = []
  panel_calls (step ∷ steps) = one_panel_call step.call ++ panel_calls steps

  -- the panel is not made anew
  abbrev pub KeepsPanel : Call H → Type 0
  KeepsPanel (NewPanel config addresses) = ⊥
  KeepsPanel _ = Unit {0}

  -- .. or with entries that could be added as they stand
  abbrev pub CanStand : Call H → Type 0
  CanStand (NewPanel config addresses) = IsBusConfig config × NoneRefused addresses (new_bus config)
  CanStand _ = Unit {0}

  -- whether it is a call of the device of this entry
  abbrev pub is_of_device : ℕ → Call H → Bool
  is_of_device k call = is_called k (device_called call)

  module _ (answer_of : H → Command → Answer) (after : H → Command → H) where
    -- what a list of calls makes of the device of this entry: what those of it make of it
    abbrev pub device_after_all : ℕ → List (Step H) → Held H → Held H
    device_after_all k [] d = d
    device_after_all k (step ∷ steps) d =
        device_after_all k steps (if is_of_device k step.call then device_after answer_of after step.call d else d)

    -- The bus is that of some list of calls of a new one, where its entries could be added as they stand. So what holds after every list of calls
    -- of a bus holds of it: no address of two entries, each report taken once, and others.
    abbrev pub BusIsReached : Type 0
    BusIsReached = (config : BusConfig) (addresses : List ℕ) (l : InUse H) (steps : List (Step H)) → IsBusConfig config
        → NoneRefused addresses (new_bus config) → l.bus ≡ bus_with config addresses → All (λ (step : Step H). CanStand step.call) steps
        → IsThatOfABus (after_calls answer_of after steps l).bus

    -- so no two controllers have an exchange outstanding at once
    abbrev pub OneExchange : Type 0
    OneExchange = (config : BusConfig) (addresses : List ℕ) (l : InUse H) (steps : List (Step H)) → IsBusConfig config
        → NoneRefused addresses (new_bus config) → l.bus ≡ bus_with config addresses → All (λ (step : Step H). CanStand step.call) steps
        → HasOneExchange (after_calls answer_of after steps l).bus

    -- As long as the panel is not made anew the bus is what its own calls make of it. A device is what the calls of its entry make of it, whatever else is
    -- called.
    pub record GoByTheirOwn (l : InUse H) : Type 0 where
      pub panel : (steps : List (Step H)) → All (λ (step : Step H). KeepsPanel step.call) steps
          → (after_calls answer_of after steps l).bus ≡ bus.after_calls (panel_calls steps) l.bus
      pub device : (steps : List (Step H)) (k : ℕ) (t : Station H) → site_at k l.stations ≡ Some t
          → (u : Station H) × (site_at k (after_calls answer_of after steps l).stations ≡ Some u)
          × (held_by u ≡ device_after_all k steps (held_by t))
