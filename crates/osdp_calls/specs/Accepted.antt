-- What the calls of the programs of an entry have accepted: commands by the panel's `submit`, and events by its device's `submit_event`.
use Rattle.std.specs.Prelude.{ℕ, ◌==◌, if◌then◌else◌, List, [], ◌∷◌, ◌++◌, Option, Some, None}
use Rattle.osdp_msg.specs.declared.command.Command.{Command}
use Rattle.osdp_msg.specs.declared.event.Event.{Event}
use Rattle.osdp_bus.specs.Buses.{BusState}
use Rattle.osdp_bus.specs.Machine.{changed_unless, submit_refusal_at}
use Rattle.osdp_bus_laws.specs.Calls as bus
use Rattle.osdp_link_laws.specs.Sessions.{unless_full}
use Rattle.osdp_reader.specs.declared.handler.Answer.{Answer}
use Rattle.osdp_reader.specs.Queue.{lacks_room}
use Rattle.osdp_shared_line.specs.Line.{site_at}
use Rattle.osdp_calls.specs.Calls.{Call, OfPanel, Step, SubmitEvent, after_call}
use Rattle.osdp_calls.specs.Lines.{InUse, Station}

-- the command that a call of the panel has accepted for the entry at this place
abbrev pub accepted_by_panel : ℕ → bus.Call → BusState → List Command
accepted_by_panel k (bus.Submit entry command) b = if entry == k then changed_unless (submit_refusal_at entry command b) [] (command ∷ []) else []
accepted_by_panel k _ b = []

module _ {H : Type 0} where
  -- the command that a call has accepted for the entry at this place
  abbrev pub accepted_by : ℕ → Call H → InUse H → List Command
  accepted_by k (OfPanel call) l = accepted_by_panel k call l.bus
  accepted_by k _ l = []

  -- the event that a device takes, unless its queue is full
  abbrev pub queued_at : Option (Station H) → Event → List Event
  queued_at None event = []
  queued_at (Some t) event = unless_full (lacks_room event t.reader.queue) event

  -- .. and that a call has accepted for the device of this entry
  abbrev pub queued_by : ℕ → Call H → InUse H → List Event
  queued_by k (SubmitEvent entry event) l = if entry == k then queued_at (site_at entry l.stations) event else []
  queued_by k _ l = []

  module _ (answer_of : H → Command → Answer) (after : H → Command → H) where
    -- by a list of calls, in their order
    abbrev pub all_accepted : ℕ → List (Step H) → InUse H → List Command
    all_accepted k [] l = []
    all_accepted k (step ∷ steps) l = accepted_by k step.call l ++ all_accepted k steps (after_call answer_of after step.call step.places l)

    -- .. and the events of a list of calls
    abbrev pub all_queued : ℕ → List (Step H) → InUse H → List Event
    all_queued k [] l = []
    all_queued k (step ∷ steps) l = queued_by k step.call l ++ all_queued k steps (after_call answer_of after step.call step.places l)
