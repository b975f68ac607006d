-- A run in which each step happens.
use Rattle.std.specs.Prelude.{◌≡◌, ℕ, true, false, List, [], ◌∷◌}
use Rattle.osdp_msg.specs.declared.command.Command.{Command}
use Rattle.osdp_msg.specs.declared.event.Event.{Event}
use Rattle.osdp_msg.specs.declared.reply.Reply.{Reply}
use Rattle.osdp_ledger.specs.Ledger.{Card, Order, Step, Submit, Withdraw, Open, Act, Settle, Doubt, Close, Queue, Offers, Report, Leave, WithdrawEvent, Lapse, RestartDevice, RestartPanel}
use Rattle.osdp_ledger.specs.History.{AfterReport, AreAllowed, CutOff, Exit, Forgotten, GivenBack, InDoubt, Lapsed, Left, Settled, TakenBack, ThrownAway, new_history, runs}

module _ (command : Command) (answer : Reply) (event : Event) where
  abbrev pub order : ℕ → Order
  order place = record { place = place; command = command }

  abbrev pub card : ℕ → Card
  card place = record { place = place; event = event }

  abbrev pub has_left : ℕ → ℕ → Exit → Left
  has_left session place why = record { session = session; card = card place; why = why }

  -- an order is given back; the next is settled, and two events are reported. The second is told again in the next session, in which an order is in
  -- doubt: the device acts on it after the end. An event is taken back that was never offered, and one lapses whose answer was lost. In that session,
  -- which is under way, an order is given back too. Then the device loses power with two events waiting, and the panel with one order on the wire and
  -- one waiting, and once more with one that waits.
  abbrev pub each_step : List Step
  each_step =
      Submit (order 0) ∷ Withdraw (order 0) ∷ Submit (order 1) ∷ Queue (card 0) ∷ Queue (card 1) ∷ Open
      ∷ Act (order 1) answer ∷ Settle (order 1) answer ∷ Offers (card 0) ∷ Report (card 0) ∷ Leave (card 0) ∷ Offers (card 1) ∷ Report (card 1) ∷ Close
      ∷ Submit (order 2) ∷ Open ∷ Offers (card 1) ∷ Report (card 1) ∷ Leave (card 1) ∷ Doubt (order 2) ∷ Act (order 2) answer
      ∷ Queue (card 2) ∷ WithdrawEvent (card 2) ∷ Queue (card 3) ∷ Open ∷ Offers (card 3) ∷ Submit (order 3) ∷ Withdraw (order 3) ∷ Close ∷ Lapse (card 3)
      ∷ Queue (card 4) ∷ Queue (card 5) ∷ RestartDevice
      ∷ Submit (order 4) ∷ Submit (order 5) ∷ Open ∷ Act (order 4) answer ∷ RestartPanel true ∷ Submit (order 6) ∷ RestartPanel false ∷ []

  pub record EachHappens : Type 0 where
    pub allowed : AreAllowed each_step new_history
    pub acted : (runs each_step new_history).acted ≡ (order 1, answer) ∷ (order 2, answer) ∷ (order 4, answer) ∷ []
    pub ended : (runs each_step new_history).ended
        ≡ (order 0, GivenBack) ∷ (order 1, Settled answer) ∷ (order 2, InDoubt) ∷ (order 3, GivenBack)
        ∷ (order 4, CutOff) ∷ (order 5, Forgotten) ∷ (order 6, Forgotten) ∷ []
    pub reports : (runs each_step new_history).reports ≡ (1, card 0) ∷ (1, card 1) ∷ (2, card 1) ∷ []
    pub left : (runs each_step new_history).left
        ≡ has_left 1 0 AfterReport ∷ has_left 2 1 AfterReport ∷ has_left 2 2 TakenBack ∷ has_left 3 3 Lapsed ∷ has_left 3 4 ThrownAway ∷ has_left 3 5 ThrownAway ∷ []

abbrev pub StepsHappen : Type 0
StepsHappen = (command : Command) (answer : Reply) (event : Event) → EachHappens command answer event
