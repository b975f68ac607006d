-- Events that are told again from one session of an entry to the next, and which of the reports that a panel's program takes are marked.
use Rattle.std.specs.Prelude.{◌≡◌, ◌≢◌, ◌⊎◌, true, ◌+◌, ◌&&◌, ℕ, Bool, false, not, ◌==◌, if◌then◌else◌, All, List, [], ◌∷◌, ◌++◌, Option, Some, None}
use Rattle.std.specs.Str.{bytes_eq}
use Rattle.osdp_msg.specs.declared.command.Command.{Command}
use Rattle.osdp_msg.specs.declared.event.Event.{Event}
use Rattle.osdp_controller.specs.declared.report.Report.{Report}
use Rattle.osdp_controller.specs.declared.report.Report.TheVariants as report
use Rattle.osdp_bus.specs.Buses.{BusState, device_of, is_maybe_again, new_bus}
use Rattle.osdp_bus.specs.Remembering.{event_bytes}
use Rattle.osdp_bus.specs.Settings.{IsBusConfig}
use Rattle.osdp_bus.specs.declared.config.BusConfig.{BusConfig}
use Rattle.osdp_bus.specs.declared.entry.Entry.{Entry}
use Rattle.osdp_bus_laws.specs.Calls as bus
use Rattle.osdp_reader.specs.declared.handler.Answer.{Answer}
use Rattle.osdp_shared_line.specs.Line.{site_at}
use Rattle.osdp_calls.specs.Calls.{Call, OfPanel, Step, after_call, after_calls}
use Rattle.osdp_calls.specs.Ends.{KeepsPanel}
use Rattle.osdp_calls.specs.Lines.{InUse, Opening, Station, bus_with}
use Rattle.osdp_calls.specs.Sayings.{NoneRefused}
use Rattle.osdp_calls.specs.Told.{reports_of, told_by}

-- ---- what is to be marked

-- an event equals another, and was told in another session: what was told last, with the number of its session
abbrev pub is_told_again : Option (ℕ × Event) → ℕ → Event → Bool
is_told_again None session event = false
is_told_again (Some (before, other)) session event = not (before == session) && bytes_eq (event_bytes event) (event_bytes other)

-- events that are told, each with the number of its session: one is marked where it is told again
abbrev pub marked : Option (ℕ × Event) → List (ℕ × Event) → List (Event × Bool)
marked last [] = []
marked last ((session, event) ∷ more) = (event, is_told_again last session event) ∷ marked (Some (session, event)) more

-- what is marked so: the first event of a session where it is the last one that was told before, and else none but one with the bytes of that
pub record MarksWhatIsToldAgain : Type 0 where
  pub again : (before session : ℕ) (event : Event) (more : List (ℕ × Event)) → before ≢ session
      → marked (Some (before, event)) ((session, event) ∷ more) ≡ (event, true) ∷ marked (Some (session, event)) more
  pub others : (last : Option (ℕ × Event)) (session : ℕ) (event : Event) (more : List (ℕ × Event))
      → ((before : ℕ) (other : Event) → last ≡ Some (before, other) → (before ≡ session) ⊎ (event_bytes event ≢ event_bytes other))
      → marked last ((session, event) ∷ more) ≡ (event, false) ∷ marked (Some (session, event)) more

-- ---- what calls tell

-- how many sessions of an entry have begun
abbrev pub sessions_of : ℕ → List Opening → ℕ
sessions_of k [] = 0
sessions_of k (o ∷ os) = (if o.entry == k then 1 else 0) + sessions_of k os

-- the events of reports, each with this session
abbrev pub events_of : ℕ → List Report → List (ℕ × Event)
events_of session [] = []
events_of session (report.Event event ∷ more) = (session, event) ∷ events_of session more
events_of session (said ∷ more) = events_of session more

-- ---- what the panel's program takes

-- a report of this entry that tells an event, with its mark
abbrev pub event_of : ℕ → Option (ℕ × Report) → Bool → List (Event × Bool)
event_of k (Some (entry, report.Event event)) mark = if entry == k then (event, mark) ∷ [] else []
event_of k _ mark = []

-- .. the one that waits
abbrev pub event_waiting : ℕ → BusState → List (Event × Bool)
event_waiting k b = event_of k b.devices.report (is_maybe_again b)

-- a call of the panel hands it over
abbrev pub handed_by_panel : ℕ → bus.Call → BusState → List (Event × Bool)
handed_by_panel k bus.NextReport b = event_waiting k b
handed_by_panel k _ b = []

module _ {H : Type 0} where
  -- .. a call of the line
  abbrev pub handed_in : ℕ → Call H → InUse H → List (Event × Bool)
  handed_in k (OfPanel call) l = handed_by_panel k call l.bus
  handed_in k _ l = []

  module _ (answer_of : H → Command → Answer) (after : H → Command → H) where
    -- .. and a list of calls hands over these, in their order
    abbrev pub all_handed : ℕ → List (Step H) → InUse H → List (Event × Bool)
    all_handed k [] l = []
    all_handed k (step ∷ steps) l = handed_in k step.call l ++ all_handed k steps (after_call answer_of after step.call step.places l)

    -- the events that calls tell of an entry
    abbrev pub events_told : ℕ → List (Step H) → InUse H → List (ℕ × Event)
    events_told k [] l = []
    events_told k (step ∷ steps) l =
        events_of (sessions_of k l.openings) (reports_of k (told_by step.call l)) ++ events_told k steps (after_call answer_of after step.call step.places l)

    -- In one life of the panel, from where it is made, at set-up or anew, until it is made anew: what its program takes of an entry's events, and the one
    -- that waits, are the events that were told of the entry in this life, in order, and of these those are marked that come as the first of
    -- their session and equal the last one that was told before. Whatever the calls are: nothing is asked of the line.
    abbrev pub CallsMarkRepeats : Type 0
    CallsMarkRepeats = (config : BusConfig) (addresses : List ℕ) (l : InUse H) (steps : List (Step H)) → IsBusConfig config
        → NoneRefused addresses (new_bus config) → l.bus ≡ bus_with config addresses → All (λ (step : Step H). KeepsPanel step.call) steps
        → (k : ℕ) (d : Entry) (first : Station H) → device_of k l.bus ≡ Some d → site_at k l.stations ≡ Some first
        → all_handed k steps l ++ event_waiting k (after_calls answer_of after steps l).bus ≡ marked None (events_told k steps l)
