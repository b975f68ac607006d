-- A link keeps the ledger of its two programs.
use Rattle.std.specs.Prelude.{◌≡◌, ℕ, ◌==◌, Bool, true, false, List, [], ◌∷◌, ◌++◌, map, Option, Some, None, option_to_list}
use Rattle.osdp_frame.specs.Packet.{Packet}
use Rattle.osdp_msg.specs.declared.command.Command.{Command}
use Rattle.osdp_msg.specs.declared.event.Event.{Event}
use Rattle.osdp_msg.specs.declared.reply.Reply.{Reply}
use Rattle.osdp_controller.specs.declared.state.State.{State}
use Rattle.osdp_controller.specs.declared.state.State.TheVariants.{Closed, Quiet}
use Rattle.osdp_reader.specs.declared.handler.Answer.{Answer}
use Rattle.osdp_ledger.specs.History.{AreAllowed, new_history, runs}
use Rattle.osdp_ledger.specs.Laws.{EventsHold, OrdersHold}
use Rattle.osdp_ledger.specs.Ledger.{Card, Ledger, NoOffer, Offer, Order, Reported, Unreported}
use Rattle.osdp_link_laws.specs.Ahead.{is_polling, offered_to, stored_answer}
use Rattle.osdp_link_laws.specs.Beginning.{Begins, MovesFit}
use Rattle.osdp_link_laws.specs.Link.{Link, Move, outstanding_command, run}
use Rattle.osdp_link_ledger.specs.Steps.{steps_from}

-- a session is under way: its first packet has gone out, and it hasn't ended
abbrev pub is_under_way : State → Bool
is_under_way Closed = false
is_under_way (Quiet until) = false
is_under_way _ = true

-- the event that was offered and isn't reported yet
abbrev pub unreported_in : Offer → List Event
unreported_in NoOffer = []
unreported_in (Unreported card) = card.event ∷ []
unreported_in (Reported card) = []

-- the device's answer to the command that is outstanding, where its last number is that command's: the one that it stores
abbrev pub answer_to : Option Command → Bool → Option Packet → Option Reply
answer_to (Some command) true stored = stored_answer stored
answer_to _ _ stored = None

-- the device is where the panel's packets go, and this is its last number. A device that has lost power, or has gone to another address, has none
-- until number 0 comes.
abbrev pub HasNumber : {H : Type 0} → Link H → ℕ → Type 0
HasNumber {H} l n = (l.reader.config.address ≡ l.controller.session.config.address) × (l.reader.last ≡ Some n)

-- the ledger is the link's. The commands that have no end yet are the outstanding one and those that wait, a session is under way where the controller
-- has one, and the events are those of the device's queue. While a session is under way, and the device has a number: an order is acted on exactly where
-- that is the number of the command that is outstanding, by the answer that the device stores; and an event is unreported exactly where it is the number
-- of the POLL that is outstanding, and that answer tells it. Where no command is outstanding none is acted on, and where no POLL is no event is
-- unreported, whatever has become of the device.
pub record IsLedgerOf {H : Type 0} (l : Link H) (g : Ledger) : Type 0 where
  pub ahead : map (λ (o : Order). o.command) g.ahead ≡ option_to_list (outstanding_command l.controller.session.state) ++ l.controller.waiting
  pub is_open : g.is_open ≡ is_under_way l.controller.session.state
  pub acted : g.is_open ≡ true → (n : ℕ) → HasNumber l n
      → g.acted ≡ answer_to (outstanding_command l.controller.session.state) (n == l.controller.session.number) l.reader.stored
  pub unasked : g.is_open ≡ true → outstanding_command l.controller.session.state ≡ None → g.acted ≡ None
  pub offer : g.is_open ≡ true → (n : ℕ) → HasNumber l n
      → unreported_in g.offer ≡ offered_to (is_polling l.controller.session.state) (n == l.controller.session.number) l.reader.stored
  pub unpolled : g.is_open ≡ true → is_polling l.controller.session.state ≡ false → unreported_in g.offer ≡ []
  pub cards : map (λ (c : Card). c.event) g.cards ≡ l.reader.queue.events

module _ {H : Type 0} (answer_of : H → Command → Answer) (after : H → Command → H) where
  abbrev pub LinkKeepsLedger : Type 0
  LinkKeepsLedger = (l : Link H) (moves : List (Move H)) → Begins l → MovesFit answer_of after moves l
      → let steps = steps_from answer_of after moves l in
      AreAllowed steps new_history × IsLedgerOf (run answer_of after moves l) (runs steps new_history).ledger

  abbrev pub HoldsByLedger : Type 0
  HoldsByLedger = (l : Link H) (moves : List (Move H)) → Begins l → MovesFit answer_of after moves l
      → let history = runs (steps_from answer_of after moves l) new_history in OrdersHold history × EventsHold history
