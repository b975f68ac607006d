-- A panel whose entries stand in an order of its own, with entries of others between ours, and some of ours left out, of which it may add one in use. It goes
-- by its own bus. Beside that stands the same line with our entries first, in the order of our devices. There an idle entry stands for each device that is
-- left out.
use Rattle.std.specs.Prelude.{◌≡◌, ℕ, if◌then◌else◌, List, [], ◌∷◌, length, Option, None, Some, option_map}
use Rattle.osdp_msg.specs.declared.command.Command.{Command}
use Rattle.osdp_bus.specs.Buses.{BusState, device_of}
use Rattle.osdp_bus.specs.Machine.{add_refusal, retarget_refusal_at, submit_refusal_at}
use Rattle.osdp_bus.specs.declared.config.BusConfig.{BusConfig}
use Rattle.osdp_bus.specs.declared.entry.Entry.{Entry}
use Rattle.osdp_bus_laws.specs.Calls as bus
use Rattle.osdp_reader.specs.declared.handler.Answer.{Answer}
use Rattle.osdp_calls.specs.Calls.{Call, NewPanel, OfPanel, Step, after_call, asked_at}
use Rattle.osdp_calls.specs.Lines.{InUse, bus_with}
use Rattle.osdp_calls.specs.Premises.{IsSetUp, Keeps}
use Rattle.osdp_entry_numbers.specs.Numbers.{IsNewPanel, IsUnused, Numbers, is_of_line, renumbered, turn_of}

-- the panel's own bus, the numbers of its entries, and the line with entries in the order of devices
pub record OwnLine (H : Type 0) : Type 0 where
  pub bus : BusState
  pub numbers : Numbers
  pub line : InUse H

-- a call by the panel's own numbers, with its places. For a panel that is made anew: the addresses of its entries in the order of devices, and its numbers
pub record OwnStep (H : Type 0) : Type 0 where
  pub call : Call H
  pub places : List ℕ
  pub ordered : List ℕ
  pub numbers : Numbers

-- the entry that the bus asks at a tick
abbrev pub asked_in : bus.Call → BusState → Option ℕ
asked_in (bus.Tick now) b = asked_at now b
asked_in _ b = None

module _ {H : Type 0} where
  -- the panel's own bus, beside the devices of the line
  abbrev pub own_view : OwnLine H → InUse H
  own_view a = record a.line { bus = a.bus }

  -- the call by the order of devices. One that names an entry that the panel doesn't have is refused: it brings nothing. Nor does one that adds an entry
  abbrev pub in_order : Call H → List ℕ → OwnLine H → Call H
  in_order (OfPanel call) ordered a = OfPanel (if is_of_line call a.bus then renumbered a.numbers.ordered call else bus.OnBytes [] 0)
  in_order (NewPanel config addresses) ordered a = NewPanel config ordered
  in_order call ordered a = call

  -- .. with the places of what it reads
  abbrev pub ordered_step : OwnStep H → OwnLine H → Step H
  ordered_step step a = record { call = in_order step.call step.ordered a; places = step.places }

  -- at a tick it is the turn of the entry that the panel's own bus asks
  abbrev pub asked_by : Call H → BusState → Option ℕ
  asked_by (OfPanel call) b = asked_in call b
  asked_by _ b = None

  -- .. so the line has that turn before the call
  abbrev pub turned : Call H → OwnLine H → InUse H
  turned call a = record a.line {
    bus = record a.line.bus { first = turn_of (option_map a.numbers.ordered (asked_by call a.bus)) a.line.bus.first };
  }

  -- what the call makes of the panel's own bus, and of its numbers
  abbrev pub own_after : Call H → BusState → BusState
  own_after (OfPanel call) b = bus.after_call call b
  own_after (NewPanel config addresses) b = bus_with config addresses
  own_after _ b = b

  -- a panel that is made anew has other numbers
  abbrev pub numbers_after : Call H → Numbers → Numbers → Numbers
  numbers_after (NewPanel config addresses) next n = next
  numbers_after _ next n = n

  -- the panel is made anew with entries that could be added as they stand
  abbrev pub Fits : Call H → List ℕ → Numbers → Type 0
  Fits (NewPanel config addresses) ordered n = IsNewPanel config addresses ordered n
  Fits _ ordered n = Unit {0}

  -- The panel accepts no COMSET and no `retarget` to the address of an entry that is left out. One that it adds is the next that is left out: it is at this
  -- address, and nobody has used it.
  abbrev pub LeavesAlone : Call H → OwnLine H → Type 0
  LeavesAlone (OfPanel (bus.Submit entry command)) a =
      submit_refusal_at entry command a.bus ≡ None → submit_refusal_at (a.numbers.ordered entry) command a.line.bus ≡ None
  LeavesAlone (OfPanel (bus.Retarget entry address)) a =
      retarget_refusal_at entry address a.bus ≡ None → retarget_refusal_at (a.numbers.ordered entry) address a.line.bus ≡ None
  LeavesAlone (OfPanel (bus.Add address)) a = add_refusal address a.bus ≡ None
      → (d : Entry) × (device_of (a.numbers.ordered (length a.bus.devices.entries)) a.line.bus ≡ Some d) × IsUnused address a.bus.config d
  LeavesAlone _ a = Unit {0}

  -- a line that is set up, with the panel's own bus
  pub record IsOwnSetUp (a : OwnLine H) : Type 0 where
    pub up : IsSetUp a.line
    pub config : BusConfig
    pub addresses : List ℕ
    pub ordered : List ℕ
    pub panel : IsNewPanel config addresses ordered a.numbers
    pub own : a.bus ≡ bus_with config addresses
    pub same : a.line.bus ≡ bus_with config ordered

  module _ (answer_of : H → Command → Answer) (after : H → Command → H) where
    -- the panel's own bus, its numbers and the line after a call
    abbrev pub after_own : OwnStep H → OwnLine H → OwnLine H
    after_own step a = record {
      bus = own_after step.call a.bus;
      numbers = numbers_after step.call step.numbers a.numbers;
      line = after_call answer_of after (ordered_step step a).call step.places (turned step.call a);
    }

    -- .. and after a list of calls
    abbrev pub after_all_own : List (OwnStep H) → OwnLine H → OwnLine H
    after_all_own [] a = a
    after_all_own (step ∷ steps) a = after_all_own steps (after_own step a)

    -- The premises are those of any calls, asked as if our entries came first, in the order of our devices, and none were left out. The panel is made anew
    -- with entries that could be added as they stand, with those that are left out.
    pub record OwnKeeps (step : OwnStep H) (a : OwnLine H) : Type 0 where
      pub keeps : Keeps answer_of after (ordered_step step a) (turned step.call a)
      pub fits : Fits step.call step.ordered step.numbers
      pub leaves : LeavesAlone step.call a

    -- .. and each call of a list keeps them where those before it have brought the line
    abbrev pub AllOwnKeep : List (OwnStep H) → OwnLine H → Type 0
    AllOwnKeep [] a = Unit {0}
    AllOwnKeep (step ∷ steps) a = OwnKeeps step a × AllOwnKeep steps (after_own step a)
