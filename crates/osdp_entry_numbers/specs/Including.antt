-- Calls that keep the premises of any calls keep these, where entries could be added as they stand.
use Rattle.std.specs.Prelude.{◌≡◌, ℕ, All, List, [], map}
use Rattle.osdp_msg.specs.declared.command.Command.{Command}
use Rattle.osdp_bus.specs.Buses.{new_bus}
use Rattle.osdp_bus.specs.Settings.{IsBusConfig}
use Rattle.osdp_bus.specs.declared.config.BusConfig.{BusConfig}
use Rattle.osdp_reader.specs.declared.handler.Answer.{Answer}
use Rattle.osdp_calls.specs.Calls.{Call, NewPanel, Step}
use Rattle.osdp_calls.specs.Ends.{CanStand}
use Rattle.osdp_calls.specs.Lines.{InUse, bus_with}
use Rattle.osdp_calls.specs.Premises.{AllKeep, IsSetUp}
use Rattle.osdp_calls.specs.Sayings.{NoneRefused}
use Rattle.osdp_entry_numbers.specs.Numbers.{Numbers}
use Rattle.osdp_entry_numbers.specs.OwnOrder.{AllOwnKeep, IsOwnSetUp, OwnLine, OwnStep}

-- the numbers of a panel whose entries stand in the order of our devices, and others' after ours
abbrev pub as_they_stand : Numbers
as_they_stand = record { ordered = λ i. i; own = λ k. k }

module _ {H : Type 0} where
  -- of a panel that is made anew the addresses of its entries
  abbrev pub addresses_of : Call H → List ℕ
  addresses_of (NewPanel config addresses) = addresses
  addresses_of _ = []

  -- the same call, and the same line
  abbrev pub same_step : Step H → OwnStep H
  same_step step = record { call = step.call; places = step.places; ordered = addresses_of step.call; numbers = as_they_stand }

  -- any line in use, as one whose entries have the numbers that they stand at
  abbrev pub same_line : InUse H → OwnLine H
  same_line l = record { bus = l.bus; numbers = as_they_stand; line = l }

  -- Calls that keep the premises of any calls keep those of this crate, where the entries of each panel could be added as they stand.
  abbrev pub AnyCallsKeep : (H → Command → Answer) → (H → Command → H) → Type 0
  AnyCallsKeep answer_of after = (l : InUse H) (steps : List (Step H)) (config : BusConfig) (addresses : List ℕ) → IsSetUp l → IsBusConfig config
      → l.bus ≡ bus_with config addresses → NoneRefused addresses (new_bus config) → All (λ (step : Step H). CanStand step.call) steps
      → AllKeep answer_of after steps l → IsOwnSetUp (same_line l) × AllOwnKeep answer_of after (map same_step steps) (same_line l)
