-- What the programs of each entry are promised, a sentence each: what the ledger of its steps says.
use Rattle.std.specs.Prelude.{◌≡◌, ◌⊎◌, ℕ, List, ◌++◌, All, flat_map, map, option_to_list, Some}
use Rattle.std.specs.List.{AllZip}
use Rattle.osdp_msg.specs.declared.command.Command.{Command}
use Rattle.osdp_msg.specs.declared.event.Event.{Event}
use Rattle.osdp_bus.specs.Buses.{device_of}
use Rattle.osdp_bus.specs.declared.entry.Entry.{Entry}
use Rattle.osdp_reader.specs.declared.handler.Answer.{Answer}
use Rattle.osdp_ledger.specs.History.{AfterReport, AreAllowed, Exit, History, Left, TakenBack, ThrownAway, new_history, runs}
use Rattle.osdp_ledger.specs.Laws.{EventsHold, IsOneUntold, OrdersHold}
use Rattle.osdp_ledger.specs.Ledger.{Card, Order}
use Rattle.osdp_link_laws.specs.Link.{outstanding_command}
use Rattle.osdp_shared_line.specs.Line.{site_at}
use Rattle.osdp_calls.specs.Accepted.{all_accepted, all_queued}
use Rattle.osdp_calls.specs.Calls.{Step, after_calls}
use Rattle.osdp_calls.specs.Lines.{InUse, Station}
use Rattle.osdp_calls.specs.Premises.{AllKeep, IsSetUp}
use Rattle.osdp_calls.specs.Programs.{AllKeepRule, first_notes}
use Rattle.osdp_calls_ledger.specs.GivenUp.{LeavesBy, all_given_up, given_up_as}
use Rattle.osdp_calls_ledger.specs.Steps.{steps_from}

-- why an event has left where none lapses: it was reported, or its device's program took it back, or the device lost power
abbrev pub LeftSo : Left → Type 0
LeftSo w = (w.why ≡ AfterReport) ⊎ ((w.why ≡ TakenBack) ⊎ (w.why ≡ ThrownAway))

-- of the commands that `submit` accepted for an entry, of the events that `submit_event` accepted for its device, and of those that the device's program
-- gave up, each with how
pub record EntryHoldsOnce {H : Type 0} (commands : List Command) (events : List Event) (given_up : List (Event × Exit)) (d : Entry) (t : Station H) (h : History) : Type 0 where
  -- The ledger's orders and cards are these commands and events, in this order.
  pub accepted : commands ≡ map (λ (o : Order). o.command) h.accepted
  pub queued : events ≡ map (λ (c : Card). c.event) h.queued
  -- The orders that have no end are outstanding, or wait in the bus. The cards that have not left wait in the device's queue.
  pub ahead : map (λ (o : Order). o.command) h.ledger.ahead ≡ option_to_list (outstanding_command d.controller.session.state) ++ d.controller.waiting
  pub waiting : map (λ (c : Card). c.event) h.ledger.cards ≡ t.reader.queue.events
  -- What the ledger promises of orders and cards holds of them.
  pub orders : OrdersHold h
  pub cards : EventsHold h
  -- None is skipped: what has left was reported, or the device lost power, or its program gave it up. What was taken back or has lapsed are the events that
  -- the program gave up by its calls, one for one, in this order.
  pub gone : AllZip LeavesBy given_up (flat_map (λ (w : Left). given_up_as w.card w.why) h.left)
  -- Where it lets none lapse, none has.
  pub exits : All (λ (call : Event × Exit). call.1 ≡ TakenBack) given_up → All LeftSo h.left
  -- Of the last command acted on and the last event offered, at most one isn't told yet.
  pub untold : IsOneUntold h.ledger

module _ {H : Type 0} (answer_of : H → Command → Answer) (after : H → Command → H) where
  -- of each entry, after these calls: each step of its ledger may happen where it does, and so they hold
  abbrev pub EachHoldsOnce : InUse H → List (Step H) → Type 0
  EachHoldsOnce l steps = (k : ℕ) (first last : Station H) (d : Entry) → site_at k l.stations ≡ Some first
      → site_at k (after_calls answer_of after steps l).stations ≡ Some last → device_of k (after_calls answer_of after steps l).bus ≡ Some d
      → AreAllowed (steps_from answer_of after k first steps l) new_history
      × EntryHoldsOnce (all_accepted answer_of after k steps l) (first.reader.queue.events ++ all_queued answer_of after k steps l)
      (all_given_up answer_of after k steps l) d last (runs (steps_from answer_of after k first steps l) new_history)

  -- for every list of calls that keep the premises
  abbrev pub LedgerHoldsOnce : Type 0
  LedgerHoldsOnce = (l : InUse H) (steps : List (Step H)) → IsSetUp l → AllKeep answer_of after steps l → EachHoldsOnce l steps

  -- .. or whose programs keep to the rule in place of that on addresses
  abbrev pub RuledLedgerHoldsOnce : Type 0
  RuledLedgerHoldsOnce = (l : InUse H) (steps : List (Step H)) → IsSetUp l → AllKeepRule answer_of after steps l (first_notes l) → EachHoldsOnce l steps
