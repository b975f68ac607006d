-- The rule for programs that stands for the premise on addresses, as a test: of a call, of the line before it, and of what was noted.
use Rattle.std.specs.Prelude.{◌≡◌, ℕ, ◌==◌, ◌&&◌, not, Bool, true, List, [], ◌∷◌, length, Option, Some, None}
use Rattle.std.specs.Bool.{Decides}
use Rattle.osdp_msg.specs.declared.command.Command.{Command}
use Rattle.osdp_controller.specs.Hearing.{comset_of}
use Rattle.osdp_bus.specs.Buses.{BusState, device_of}
use Rattle.osdp_bus.specs.Entries.{address_of}
use Rattle.osdp_bus.specs.Machine.{retarget_refusal_at, submit_refusal_at}
use Rattle.osdp_bus.specs.declared.entry.Entry.{Entry}
use Rattle.osdp_bus.specs.declared.fault.BusFault.{BusFault}
use Rattle.osdp_bus_laws.specs.Calls as bus
use Rattle.osdp_reader.specs.declared.handler.Answer.{Answer}
use Rattle.osdp_shared_line.specs.Line.{site_at}
use Rattle.osdp_shared_line.specs.Programs.{Note}
use Rattle.osdp_calls.specs.Calls.{Call, NewDevice, NewPanel, OfPanel, Step, after_call}
use Rattle.osdp_calls.specs.Lines.{InUse}
use Rattle.osdp_calls.specs.Programs.{AllKeepRule, KeepsRule, notes_after}
use Rattle.osdp_premises.specs.Deciding.{address_asked, each_below, each_other, if_there, is_in_order, is_quiet, is_there_with, some_of, stands_at}
use Rattle.osdp_premises.specs.Exactly.{AllInRange}

-- an address of an entry, as its program knows it
abbrev pub is_known : ℕ → Entry → Note → Bool
is_known address d note = some_of (λ a. a == address) (address_of d ∷ note.addresses)

-- an address of no other entry
abbrev pub is_unknown_beside : ℕ → ℕ → BusState → (ℕ → Note) → Bool
is_unknown_beside k address b notes =
    each_other k (length b.devices.entries) (λ j. not (is_there_with (λ d. is_known address d (notes j)) (device_of j b)))

-- what is asked of a call that isn't refused
abbrev pub unless_refused : Option BusFault → Bool → Bool
unless_refused None asked = asked
unless_refused (Some fault) asked = true

-- what the rule asks of a call of the panel
abbrev pub panel_keeps_rule : bus.Call → BusState → (ℕ → Note) → Bool
panel_keeps_rule (bus.Submit k command) b notes =
    unless_refused (submit_refusal_at k command b) (if_there (λ address. is_unknown_beside k address b notes) (address_asked (comset_of command)))
panel_keeps_rule (bus.Retarget k address) b notes =
    unless_refused (retarget_refusal_at k address b) (if_there (λ d. is_known address d (notes k)) (device_of k b))
panel_keeps_rule _ b notes = true

module _ {H : Type 0} where
  -- .. of any call
  abbrev pub keeps_rule : Call H → InUse H → (ℕ → Note) → Bool
  keeps_rule (OfPanel call) l notes = panel_keeps_rule call l.bus notes
  keeps_rule (NewDevice k config handler room gap) l notes = if_there (stands_at config.address) (site_at k l.stations)
  keeps_rule (NewPanel config addresses) l notes =
      each_below (λ k. if_there (λ a. if_there (λ d. is_known a d (notes k)) (device_of k l.bus)) (site_at k addresses)) (length addresses)
  keeps_rule _ l notes = true

  module _ (answer_of : H → Command → Answer) (after : H → Command → H) where
    -- order, quiet openings and the rule, of each call of a list
    abbrev pub are_ruled : List (Step H) → InUse H → (ℕ → Note) → Bool
    are_ruled [] l notes = true
    are_ruled (step ∷ steps) l notes =
        is_in_order step.call step.places l
        && (is_quiet step.call step.places l
        && (keeps_rule step.call l notes && are_ruled steps (after_call answer_of after step.call step.places l) (notes_after step.call l notes)))

    -- So programs keep to the rule, and all other premises hold, where each call passes these tests, and has its values in their ranges.
    abbrev pub RuledCallsKeep : Type 0
    RuledCallsKeep = (steps : List (Step H)) (l : InUse H) (notes : ℕ → Note) → are_ruled steps l notes ≡ true → AllInRange answer_of after steps l
        → AllKeepRule answer_of after steps l notes

-- the test holds exactly where the rule does
abbrev pub RuleIsExact : Type 0 → Type 0
RuleIsExact H = (call : Call H) (l : InUse H) (notes : ℕ → Note) → Decides (keeps_rule call l notes) (KeepsRule call l notes)
