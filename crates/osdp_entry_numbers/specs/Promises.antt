-- What is promised where entries stand in an order of the panel's own: the ledger of each of our devices, read off what the panel's own bus answers and
-- reports, by its own numbers.
use Rattle.std.specs.Prelude.{◌≡◌, ◌≢◌, ◌⊎◌, ℕ, false, List, [], ◌∷◌, ◌++◌, map, Option, option_map, Some, None}
use Rattle.osdp_msg.specs.declared.command.Command.{Command}
use Rattle.osdp_msg.specs.declared.event.Event.{Event}
use Rattle.osdp_bus.specs.Buses.{device_of}
use Rattle.osdp_bus.specs.Ticking.{bus_ticks}
use Rattle.osdp_bus.specs.declared.entry.Entry.{Entry}
use Rattle.osdp_bus_laws.specs.Calls as bus
use Rattle.osdp_bus_laws.specs.Reports.{told_in}
use Rattle.osdp_ledger.specs.History.{AreAllowed, Exit, new_history, runs}
use Rattle.osdp_ledger.specs.Ledger as ledger
use Rattle.osdp_ledger.specs.Ledger.{Ledger, RestartPanel, new_ledger}
use Rattle.osdp_link_ledger.specs.Steps.{after_steps, queued_before}
use Rattle.osdp_reader.specs.declared.handler.Answer.{Answer}
use Rattle.osdp_shared_line.specs.Line.{site_at}
use Rattle.osdp_calls.specs.Accepted.{accepted_by_panel, queued_by}
use Rattle.osdp_calls.specs.Calls.{Call, NewPanel, OfPanel}
use Rattle.osdp_calls.specs.Lines.{Station}
use Rattle.osdp_calls_ledger.specs.GivenUp.{given_up_by}
use Rattle.osdp_calls_ledger.specs.Promises.{EntryHoldsOnce}
use Rattle.osdp_calls_ledger.specs.Steps.{panel_restarts, panel_steps, steps_of}
use Rattle.osdp_entry_numbers.specs.Numbers.{IsIdle, as_seen, renumbered, renumbers}
use Rattle.osdp_entry_numbers.specs.OwnOrder.{AllOwnKeep, IsOwnSetUp, OwnLine, OwnStep, after_all_own, after_own, turned}

-- the panel loses power, with an order of this entry on the wire, or not; of one that it doesn't have none is
abbrev pub own_restarts : Option Entry → List ledger.Step
own_restarts None = RestartPanel false ∷ []
own_restarts (Some d) = panel_restarts (Some d)

module _ {H : Type 0} where
  -- the command that the panel's own bus accepts for a device, and over a list of calls; and the events of the device
  abbrev pub own_accepted : ℕ → Call H → OwnLine H → List Command
  own_accepted k (OfPanel call) a = accepted_by_panel (a.numbers.own k) call a.bus
  own_accepted k _ a = []

  -- what the panel has of an entry; nothing is under way of one that is left out
  abbrev pub IsOfPanel : ℕ → Entry → OwnLine H → Type 0
  IsOfPanel k d a = (device_of (a.numbers.own k) a.bus ≡ Some d) ⊎ ((device_of (a.numbers.own k) a.bus ≡ None) × IsIdle d)

  module _ (answer_of : H → Command → Answer) (after : H → Command → H) where
    -- the commands that a list of calls accepts for a device
    abbrev pub all_own_accepted : ℕ → List (OwnStep H) → OwnLine H → List Command
    all_own_accepted k [] a = []
    all_own_accepted k (step ∷ steps) a = own_accepted k step.call a ++ all_own_accepted k steps (after_own answer_of after step a)

    -- .. the events that it queues in the device
    abbrev pub all_own_queued : ℕ → List (OwnStep H) → OwnLine H → List Event
    all_own_queued k [] a = []
    all_own_queued k (step ∷ steps) a = queued_by k step.call a.line ++ all_own_queued k steps (after_own answer_of after step a)

    -- .. and those events that its program gives up
    abbrev pub all_own_given_up : ℕ → List (OwnStep H) → OwnLine H → List (Event × Exit)
    all_own_given_up k [] a = []
    all_own_given_up k (step ∷ steps) a = given_up_by k step.call a.line ++ all_own_given_up k steps (after_own answer_of after step a)

    -- the steps of a device's ledger: off the panel's own bus, and off the device
    abbrev pub own_steps : ℕ → Call H → OwnLine H → Ledger → List ledger.Step
    own_steps k (OfPanel call) a g = panel_steps (a.numbers.own k) call a.bus g
    own_steps k (NewPanel config addresses) a g = own_restarts (device_of (a.numbers.own k) a.bus)
    own_steps k call a g = steps_of answer_of after k call a.line g

    -- .. over a list of calls, in their order
    abbrev pub own_along : ℕ → List (OwnStep H) → OwnLine H → Ledger → List ledger.Step
    own_along k [] a g = []
    own_along k (step ∷ steps) a g =
        let now = own_steps k step.call a g in now ++ own_along k steps (after_own answer_of after step a) (after_steps now g)

    -- .. with the events that wait in the device at set-up before
    abbrev pub own_steps_from : ℕ → Station H → List (OwnStep H) → OwnLine H → List ledger.Step
    own_steps_from k first steps a =
        let before = queued_before 0 first.reader.queue.events in before ++ own_along k steps a (after_steps before new_ledger)

    -- for each of our devices, whether or not the panel has an entry for it in the end
    abbrev pub OwnOrderKeepsLedger : Type 0
    OwnOrderKeepsLedger = (a : OwnLine H) (steps : List (OwnStep H)) → IsOwnSetUp a → AllOwnKeep answer_of after steps a
        → let end = after_all_own answer_of after steps a in
        (k : ℕ) (first last : Station H) (d : Entry) → site_at k a.line.stations ≡ Some first → site_at k end.line.stations ≡ Some last
        → IsOfPanel k d end
        → AreAllowed (own_steps_from k first steps a) new_history
        × EntryHoldsOnce (all_own_accepted k steps a) (first.reader.queue.events ++ all_own_queued k steps a) (all_own_given_up k steps a) d last
        (runs (own_steps_from k first steps a) new_history)

    -- no two devices are ever at one address
    abbrev pub OwnOrderKeepsApart : Type 0
    OwnOrderKeepsApart = (a : OwnLine H) (steps : List (OwnStep H)) → IsOwnSetUp a → AllOwnKeep answer_of after steps a
        → let end = after_all_own answer_of after steps a in
        (j k : ℕ) (s t : Station H) → j ≢ k → site_at j end.line.stations ≡ Some s → site_at k end.line.stations ≡ Some t
        → s.reader.config.address ≢ t.reader.config.address

  -- What is asked of the line with our entries first is asked of what the panel has: each entry is the same by its other number, but for the greatest moment
  -- that its controller has seen, one that is left out is idle, and the report that waits is the same. A call tells the same, and at a tick the same goes out.
  pub record DoesTheSame (a : OwnLine H) : Type 0 where
    pub entries : (i : ℕ) (d : Entry) → device_of i a.bus ≡ Some d
        → (e : Entry) × (device_of (a.numbers.ordered i) a.line.bus ≡ Some e) × (as_seen a.bus.greatest e ≡ as_seen a.bus.greatest d)
    pub left_out : (k : ℕ) (d : Entry) → device_of (a.numbers.own k) a.bus ≡ None → device_of k a.line.bus ≡ Some d → IsIdle d
    pub waits : a.line.bus.devices.report ≡ option_map (renumbers a.numbers.ordered) a.bus.devices.report
    pub told : (call : bus.Call) → told_in (renumbered a.numbers.ordered call) (turned (OfPanel call) a).bus ≡ map (renumbers a.numbers.ordered) (told_in call a.bus)
    pub sent : (now : ℕ) → (bus_ticks now (turned (OfPanel (bus.Tick now)) a).bus).sent ≡ (bus_ticks now a.bus).sent

  -- so it is after each list of calls that keep the premises, from a set-up on
  abbrev pub OwnOrderDoesTheSame : (H → Command → Answer) → (H → Command → H) → Type 0
  OwnOrderDoesTheSame answer_of after =
      (a : OwnLine H) (steps : List (OwnStep H)) → IsOwnSetUp a → AllOwnKeep answer_of after steps a → DoesTheSame (after_all_own answer_of after steps a)
