-- Runs that the ledger's rules allow: of plain steps, of steps by which the device keeps its power, of an offer after a lapse, and of an order that is
-- taken back in a session.
use Rattle.std.specs.Prelude.{false, List, [], ◌∷◌, All}
use Rattle.osdp_msg.specs.declared.command.Command.{Command}
use Rattle.osdp_msg.specs.declared.event.Event.{Event}
use Rattle.osdp_msg.specs.declared.reply.Reply.{Reply}
use Rattle.osdp_ledger.specs.Ledger.{Step, Submit, Withdraw, Open, Act, Settle, Doubt, Close, Queue, Offers, Report, Leave, WithdrawEvent, Lapse, RestartPanel}
use Rattle.osdp_ledger.specs.History.{AreAllowed, new_history}
use Rattle.osdp_ledger.specs.Instance.{card, order}
use Rattle.osdp_ledger.specs.Plain.{IsPlain, KeepsPower}

module _ (command : Command) (answer : Reply) (event : Event) where
  -- an order is settled, an event is reported, and another order is in doubt, on which the device acts late
  abbrev pub plain_steps : List Step
  plain_steps =
      Submit (order command answer event 0) ∷ Submit (order command answer event 1) ∷ Queue (card command answer event 0) ∷ Open
      ∷ Act (order command answer event 0) answer ∷ Settle (order command answer event 0) answer
      ∷ Offers (card command answer event 0) ∷ Report (card command answer event 0) ∷ Leave (card command answer event 0)
      ∷ Doubt (order command answer event 1) ∷ Act (order command answer event 1) answer ∷ Open ∷ Close ∷ []

  -- an order and an event are taken back, and the panel loses power
  abbrev pub kept_steps : List Step
  kept_steps =
      Submit (order command answer event 0) ∷ Withdraw (order command answer event 0) ∷ Queue (card command answer event 0)
      ∷ WithdrawEvent (card command answer event 0) ∷ RestartPanel false ∷ []

  -- an event lapses once it was reported, and the next one is offered; then the panel loses power while its session goes on
  abbrev pub lapse_steps : List Step
  lapse_steps =
      Queue (card command answer event 0) ∷ Queue (card command answer event 1) ∷ Open ∷ Offers (card command answer event 0)
      ∷ Report (card command answer event 0) ∷ Lapse (card command answer event 0) ∷ Offers (card command answer event 1) ∷ RestartPanel false ∷ []

  -- the first of two orders is taken back while a session is under way, and the device acts on the second
  abbrev pub taken_back_steps : List Step
  taken_back_steps =
      Submit (order command answer event 0) ∷ Submit (order command answer event 1) ∷ Open ∷ Withdraw (order command answer event 0)
      ∷ Act (order command answer event 1) answer ∷ Settle (order command answer event 1) answer ∷ []

  pub record MoreHappen : Type 0 where
    pub allowed : AreAllowed plain_steps new_history
    pub plain : All IsPlain plain_steps
    pub kept_allowed : AreAllowed kept_steps new_history
    pub kept : All KeepsPower kept_steps
    pub lapsed : AreAllowed lapse_steps new_history
    pub taken_back : AreAllowed taken_back_steps new_history

abbrev pub MoreStepsHappen : Type 0
MoreStepsHappen = (command : Command) (answer : Reply) (event : Event) → MoreHappen command answer event
