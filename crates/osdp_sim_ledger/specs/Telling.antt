-- What the account of a run tells of a reader is what the ledger of its steps says.
use Rattle.std.specs.Prelude.{List}
use Rattle.osdp_msg.specs.declared.command.Command.{Command}
use Rattle.osdp_reader.specs.declared.config.ReaderConfig.{ReaderConfig}
use Rattle.osdp_reader.specs.declared.handler.Answer.{Answer}
use Rattle.osdp_ledger.specs.History.{AreAllowed, History, new_history, runs}
use Rattle.osdp_ledger.specs.Laws.{EventsHold, IsOneUntold, OrdersHold}
use Rattle.osdp_ledger.specs.Ledger.{Step}
use Rattle.osdp_ledger.specs.Plain.{AllTold}
use Rattle.osdp_link_laws.specs.OneHandler.{with_answers}
use Rattle.osdp_link_ledger.specs.Telling.{TellsAll}
use Rattle.osdp_sim.specs.Account.{Account}
use Rattle.osdp_sim_laws.specs.Accounts.{told_of}

module _ {H : Type 0} (answer_of : H → Command → Answer) (after : H → Command → H) where
  -- of the commands that were accepted for a reader with these settings and this handler, and of the events that it accepted
  pub record TellsOnce (config : ReaderConfig) (handler : H) (a : Account) (h : History) : Type 0 where
    -- The ledger's orders and cards are these commands and events, in this order. The commands that the reader has taken are those acted on, each with the
    -- answer that it gives to it after those before it. What is told is what the account has as settled, unsettled and reported.
    pub all : TellsAll a.issued (with_answers answer_of after config handler a.taken) a.queued (told_of a) h
    -- What the ledger promises of orders and cards holds of them.
    pub orders : OrdersHold h
    pub cards : EventsHold h
    -- A command that has ended is settled or told unsettled. None of the events is skipped: what has left was reported.
    pub ends : AllTold h
    -- Of the last command acted on and the last event offered, at most one isn't told yet.
    pub untold : IsOneUntold h.ledger

  -- each of these steps may happen where it does, and the account tells what they come to
  pub record TellsByLedger (config : ReaderConfig) (handler : H) (a : Account) (steps : List Step) : Type 0 where
    pub allowed : AreAllowed steps new_history
    pub tells : TellsOnce config handler a (runs steps new_history)
