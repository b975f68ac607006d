-- A rule for the programs of a panel and its devices. Until an entry's next session has opened, neither the address that a COMSET, a `retarget` or a
-- restart of the panel left nor the one that it set goes to another entry; and `retarget` and a restart of the panel set no other than these. A
-- device is made anew where it is. Calls that are refused count for nothing. Programs that keep to the rule give no address where another device
-- may come. They go by what they see: their calls and what these answer, reports, and restarts.
use Rattle.std.specs.Prelude.{◌≡◌, ◌≢◌, ◌&&◌, ℕ, true, false, ◌==◌, if◌then◌else◌, List, [], ◌∷◌, Option, Some, None}
use Rattle.osdp_msg.specs.declared.command.Command.{Command}
use Rattle.osdp_msg.specs.declared.command_fields.Communication.{Communication}
use Rattle.osdp_controller.specs.Hearing.{comset_of}
use Rattle.osdp_controller.specs.declared.report.Report.{Report}
use Rattle.osdp_bus.specs.Buses.{BusState, device_of}
use Rattle.osdp_bus.specs.Entries.{address_of}
use Rattle.osdp_bus.specs.Machine.{begin_refusal_at, changed_unless, retarget_refusal_at, submit_refusal_at}
use Rattle.osdp_bus.specs.declared.entry.Entry.{Entry}
use Rattle.osdp_bus_laws.specs.Calls as bus
use Rattle.osdp_bus_laws.specs.Reports.{told_in}
use Rattle.osdp_reader.specs.declared.handler.Answer.{Answer}
use Rattle.osdp_shared_line.specs.Addresses.{Somewhere}
use Rattle.osdp_shared_line.specs.Line.{site_at}
use Rattle.osdp_shared_line.specs.Programs.{Note, all_addresses, also_at, is_opened, two_addresses}
use Rattle.osdp_calls.specs.Calls.{Call, NewDevice, NewPanel, OfPanel, Step, after_call}
use Rattle.osdp_calls.specs.Lines.{InUse, Station}
use Rattle.osdp_calls.specs.Premises.{AllKeep, InOrder, InRange, IsSetUp, QuietOpening}

-- ---- what a program notes of an entry: whether a session was begun that has not opened yet, and the addresses at which its device may be

-- at first its address
abbrev pub first_note : Option Entry → Note
first_note None = record { begun = false; addresses = [] }
first_note (Some d) = record { begun = false; addresses = address_of d ∷ [] }

-- a session that was begun is told to have opened: all is forgotten but COMSETs that wait
abbrev pub noted_report : Entry → Report → Note → Note
noted_report d report note =
    if is_opened (Some report) && note.begun then record { begun = false; addresses = all_addresses (address_of d) d.controller.waiting } else note

-- of what controllers tell, with their entries: what that of this one tells
abbrev pub noted_reports : ℕ → Entry → List (ℕ × Report) → Note → Note
noted_reports k d [] note = note
noted_reports k d (told ∷ more) note = noted_reports k d more (if told.0 == k then noted_report d told.1 note else note)

-- after a call of the panel: of the entry at this place, with what it was before the call
abbrev pub noted_by_panel : ℕ → Entry → bus.Call → BusState → Note → Note
noted_by_panel k d (bus.Begin entry now) b note =
    if entry == k then changed_unless (begin_refusal_at entry b) note (record note { begun = true }) else note
noted_by_panel k d (bus.Submit entry command) b note =
    if entry == k then changed_unless (submit_refusal_at entry command b) note (also_at (two_addresses (address_of d) (comset_of command)) note) else note
noted_by_panel k d (bus.Retarget entry address) b note =
    if entry == k then changed_unless (retarget_refusal_at entry address b) note (also_at (address_of d ∷ []) note) else note
noted_by_panel k d call b note = noted_reports k d (told_in call b) note

-- an address of an entry, as its program knows it
abbrev pub IsKnown : ℕ → Entry → Note → Type 0
IsKnown address d note = Somewhere (λ a. a ≡ address) (address_of d ∷ note.addresses)

-- A COMSET that is accepted goes to no address of another entry. A `retarget` that is accepted sets none but one of the own.
abbrev pub PanelKeepsRule : bus.Call → BusState → (ℕ → Note) → Type 0
PanelKeepsRule (bus.Submit k command) b notes =
    submit_refusal_at k command b ≡ None → (asked : Communication) → comset_of command ≡ Some asked
    → (j : ℕ) (d : Entry) → j ≢ k → device_of j b ≡ Some d → IsKnown asked.address d (notes j) → ⊥
PanelKeepsRule (bus.Retarget k address) b notes =
    retarget_refusal_at k address b ≡ None → (d : Entry) → device_of k b ≡ Some d → IsKnown address d (notes k)
PanelKeepsRule _ b notes = Unit {0}

module _ {H : Type 0} where
  -- what is noted of each entry at first
  abbrev pub first_notes : InUse H → ℕ → Note
  first_notes l k = first_note (device_of k l.bus)

  -- after a call
  abbrev pub noted_of : ℕ → Option Entry → Call H → InUse H → Note → Note
  noted_of k None call l note = note
  noted_of k (Some d) (OfPanel call) l note = noted_by_panel k d call l.bus note
  noted_of k (Some d) (NewPanel config addresses) l note = also_at (address_of d ∷ []) note
  noted_of k (Some d) _ l note = note

  -- .. of each entry
  abbrev pub notes_after : Call H → InUse H → (ℕ → Note) → ℕ → Note
  notes_after call l notes k = noted_of k (device_of k l.bus) call l (notes k)

  -- .. and a panel that is made anew gives each entry one of its own. A device is made anew where it is.
  abbrev pub KeepsRule : Call H → InUse H → (ℕ → Note) → Type 0
  KeepsRule (OfPanel call) l notes = PanelKeepsRule call l.bus notes
  KeepsRule (NewDevice k config handler room gap) l notes = (t : Station H) → site_at k l.stations ≡ Some t → t.reader.config.address ≡ config.address
  KeepsRule (NewPanel config addresses) l notes =
      (k a : ℕ) (d : Entry) → site_at k addresses ≡ Some a → device_of k l.bus ≡ Some d → IsKnown a d (notes k)
  KeepsRule _ l notes = Unit {0}

  module _ (answer_of : H → Command → Answer) (after : H → Command → H) where
    -- the premises, with the rule in place of that on addresses
    pub record KeepsByRule (step : Step H) (l : InUse H) (notes : ℕ → Note) : Type 0 where
      pub in_order : InOrder step.call step.places l
      pub quiet_opening : QuietOpening step.call step.places l
      pub rule : KeepsRule step.call l notes
      pub in_range : InRange answer_of after step.call l

    -- .. each call of a list, with what was noted by the calls before it
    abbrev pub AllKeepRule : List (Step H) → InUse H → (ℕ → Note) → Type 0
    AllKeepRule [] l notes = Unit {0}
    AllKeepRule (step ∷ steps) l notes =
        KeepsByRule step l notes × AllKeepRule steps (after_call answer_of after step.call step.places l) (notes_after step.call l notes)

    -- programs that keep to the rule keep the premise on addresses
    abbrev pub CallsRuleSuffices : Type 0
    CallsRuleSuffices = (l : InUse H) (steps : List (Step H)) → IsSetUp l → AllKeepRule steps l (first_notes l) → AllKeep answer_of after steps l
