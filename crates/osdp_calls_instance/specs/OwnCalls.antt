-- Programs that call the machines by calls of their own, as those for C, or lines of text: which calls of a line in use theirs are.
use Rattle.std.specs.Prelude.{◌≡◌, ℕ, true, All, List, [], ◌∷◌, ◌++◌, map, Option, Some, None}
use Rattle.osdp_msg.specs.declared.command.Command.{Command}
use Rattle.osdp_bus.specs.Buses.{BusState}
use Rattle.osdp_bus_laws.specs.Calls as bus
use Rattle.osdp_reader.specs.declared.handler.Answer.{Answer}
use Rattle.osdp_shared_line.specs.Line.{changed, site_at}
use Rattle.osdp_calls.specs.Calls.{Call, NewPanel, OfPanel, Step, after_calls, Held, device_after, held_by}
use Rattle.osdp_calls.specs.Ends.{GoByTheirOwn, is_of_device}
use Rattle.osdp_calls.specs.Lines.{InUse, Station, bus_with}
use Rattle.osdp_calls.specs.Sayings.{AddsMakeTheBus}

-- what the laws of programs stand on: adding makes the bus, and each end goes by its own calls
pub record StandsOnCalls {H : Type 0} (answer_of : H → Command → Answer) (after : H → Command → H) : Type 0 where
  pub adds : AddsMakeTheBus
  pub own : (l : InUse H) → GoByTheirOwn answer_of after l

-- a kind of panel's program, beside devices with the handler H: what such a program is, and the bus in it; its own calls, what each makes of it,
-- when it is one, and which calls of a line in use it is
pub record PanelKind (H : Type 0) : Type 1 where
  pub Program : Type 0
  pub bus : Program → BusState
  pub Own : Type 0
  pub after : Own → Program → Program
  pub Fits : Own → Program → Type 0
  pub calls : Own → Program → List (Call H)

-- the same of a device's program, at the entry of its device; and what holds of such a program at all times
pub record DeviceKind (H : Type 0) : Type 1 where
  pub Program : Type 0
  pub held : Program → Held H
  pub Sound : Program → Type 0
  pub Own : Type 0
  pub after : Own → Program → Program
  pub Fits : Own → Program → Type 0
  pub calls : ℕ → Own → Program → List (Call H)

module _ {H : Type 0} where
  -- what such calls, one after the other, make of a bus, and of a device
  abbrev pub bus_after : Call H → BusState → BusState
  bus_after (OfPanel call) b = bus.after_call call b
  bus_after (NewPanel config addresses) b = bus_with config addresses
  bus_after _ b = b

  -- .. a list of calls, of a bus
  abbrev pub bus_after_each : List (Call H) → BusState → BusState
  bus_after_each [] b = b
  bus_after_each (call ∷ calls) b = bus_after_each calls (bus_after call b)

  -- .. a list of calls, of a device
  abbrev pub device_after_each : (H → Command → Answer) → (H → Command → H) → List (Call H) → Held H → Held H
  device_after_each answer_of after [] d = d
  device_after_each answer_of after (call ∷ calls) d = device_after_each answer_of after calls (device_after answer_of after call d)

  -- a call of the panel, or its restart
  abbrev pub IsOfPanel : Call H → Type 0
  IsOfPanel (OfPanel call) = Unit {0}
  IsOfPanel (NewPanel config addresses) = Unit {0}
  IsOfPanel _ = ⊥

  -- a call of the device of this entry, or its restart
  abbrev pub IsOfDevice : ℕ → Call H → Type 0
  IsOfDevice k call = is_of_device k call ≡ true

  -- the own calls of programs of a kind are calls of the panel, which do to its bus what they do
  pub record ArePanelCalls (P : PanelKind H) : Type 0 where
    pub end : (own : P.Own) (p : P.Program) → All IsOfPanel (P.calls own p)
    pub bus : (own : P.Own) (p : P.Program) → P.Fits own p → P.bus (P.after own p) ≡ bus_after_each (P.calls own p) (P.bus p)

  -- .. or calls of a device, which do to it what they do
  pub record AreDeviceCalls (answer_of : H → Command → Answer) (after : H → Command → H) (D : DeviceKind H) : Type 0 where
    pub end : (k : ℕ) (own : D.Own) (d : D.Program) → All (IsOfDevice k) (D.calls k own d)
    pub device : (k : ℕ) (own : D.Own) (d : D.Program) → D.Fits own d → D.Sound d
        → D.held (D.after own d) ≡ device_after_each answer_of after (D.calls k own d) (D.held d)
    pub sound : (own : D.Own) (d : D.Program) → D.Fits own d → D.Sound d → D.Sound (D.after own d)

module _ {H : Type 0} (P : PanelKind H) (D : DeviceKind H) where
  -- a panel's program, and the devices' programs in the order of their entries
  pub record Programs : Type 0 where
    pub panel : P.Program
    pub devices : List D.Program

  -- an own call of the panel's program, or of the program of the device of an entry
  pub data OwnCall : Type 0 where
    AtPanel : P.Own → OwnCall
    AtDevice : ℕ → D.Own → OwnCall

  -- what an own call of one of them makes of them, and when it is one
  abbrev pub devices_after : ℕ → D.Own → Option D.Program → List D.Program → List D.Program
  devices_after k own None ds = ds
  devices_after k own (Some d) ds = changed k (D.after own d) ds

  -- the programs after an own call
  abbrev pub after_own : OwnCall → Programs → Programs
  after_own (AtPanel own) w = record w { panel = P.after own w.panel }
  after_own (AtDevice k own) w = record w { devices = devices_after k own (site_at k w.devices) w.devices }

  -- .. and after a list of them
  abbrev pub after_each : List OwnCall → Programs → Programs
  after_each [] w = w
  after_each (own ∷ more) w = after_each more (after_own own w)

  -- an own call fits this program, if there is one
  abbrev pub FitsAt : D.Own → Option D.Program → Type 0
  FitsAt own None = Unit {0}
  FitsAt own (Some d) = D.Fits own d

  -- .. the program that makes it
  abbrev pub OwnFits : OwnCall → Programs → Type 0
  OwnFits (AtPanel own) w = P.Fits own w.panel
  OwnFits (AtDevice k own) w = FitsAt own (site_at k w.devices)

  -- each own call of a list fits where those before it have brought the programs
  abbrev pub AllFit : List OwnCall → Programs → Type 0
  AllFit [] w = Unit {0}
  AllFit (own ∷ more) w = OwnFits own w × AllFit more (after_own own w)

  -- which calls of the line that is
  abbrev pub calls_at : ℕ → D.Own → Option D.Program → List (Call H)
  calls_at k own None = []
  calls_at k own (Some d) = D.calls k own d

  -- .. of an own call of any of the programs
  abbrev pub calls_by : OwnCall → Programs → List (Call H)
  calls_by (AtPanel own) w = P.calls own w.panel
  calls_by (AtDevice k own) w = calls_at k own (site_at k w.devices)

  -- .. and of a list of them
  abbrev pub all_calls : List OwnCall → Programs → List (Call H)
  all_calls [] w = []
  all_calls (own ∷ more) w = calls_by own w ++ all_calls more (after_own own w)

  -- a line in use has the bus of these programs, and at its entries their devices
  pub record IsLineOf (w : Programs) (l : InUse H) : Type 0 where
    pub bus : l.bus ≡ P.bus w.panel
    pub devices : (k : ℕ) (d : D.Program) → site_at k w.devices ≡ Some d
        → D.Sound d × (t : Station H) × (site_at k l.stations ≡ Some t) × (held_by t ≡ D.held d)

  module _ (answer_of : H → Command → Answer) (after : H → Command → H) where
    -- Whatever such programs call: the steps that are these calls, whichever places they have, bring the line to where the programs' own calls
    -- bring the programs.
    abbrev pub CallTheLine : Type 0
    CallTheLine = (own : List OwnCall) (w : Programs) (l : InUse H) (steps : List (Step H)) → AllFit own w → IsLineOf w l
        → map (λ (step : Step H). step.call) steps ≡ all_calls own w
        → IsLineOf (after_each own w) (after_calls answer_of after steps l)
