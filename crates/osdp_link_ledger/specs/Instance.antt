-- Sessions in which the device acts on an order, and in which it offers an event: the ledger has what it keeps then, and nothing else.
use Rattle.std.specs.Prelude.{◌≡◌, true, List, [], ◌∷◌, ◌++◌, Some, None}
use Rattle.osdp_frame.specs.declared.check_kind.CheckKind.TheVariants.{Sum}
use Rattle.osdp_msg.specs.ReplyFields.{pd_id_at}
use Rattle.osdp_msg.specs.declared.command.Command.{Command}
use Rattle.osdp_msg.specs.declared.command.Command.TheVariants.{Cap}
use Rattle.osdp_msg.specs.declared.event.Event.{Event}
use Rattle.osdp_msg.specs.declared.event.Event.TheVariants as events
use Rattle.osdp_msg.specs.declared.reply.Reply.TheVariants as reply
use Rattle.osdp_controller.specs.Machine.{after_begin, after_submit, new_machine}
use Rattle.osdp_controller.specs.Settings.{default_config}
use Rattle.osdp_reader.specs.State.{after_submit as after_event, new_reader}
use Rattle.osdp_reader.specs.declared.config.ReaderConfig.{ReaderConfig}
use Rattle.osdp_reader.specs.declared.handler.Answer.{Answer}
use Rattle.osdp_ledger.specs.History.{new_history, runs}
use Rattle.osdp_ledger.specs.Ledger.{Ledger}
use Rattle.osdp_link_laws.specs.Beginning.{Begins, MovesFit}
use Rattle.osdp_link_laws.specs.Link.{Delivered, Link, Move, Tick, ToController, ToReader, run}
use Rattle.osdp_link_ledger.specs.Laws.{HasNumber, unreported_in}
use Rattle.osdp_link_ledger.specs.Steps.{steps_from}

-- a device that says who it is, and that it can do nothing beside what each device can; the lid of its case is open
abbrev pub the_device : ReaderConfig
the_device = record { address = 3; id = pd_id_at (1 ∷ 2 ∷ 3 ∷ 4 ∷ 5 ∷ 6 ∷ 0 ∷ 0 ∷ 0 ∷ 7 ∷ 8 ∷ 9 ∷ []); caps = record { items = [] } }

abbrev pub the_event : Event
the_event = events.LocalState (record { tamper = 1; power = 0 })

module _ {H : Type 0} where
  -- a first session was begun at the moment 0; the order waits for it, and so does the event in the device's queue
  abbrev pub begun_with : H → Link H
  begun_with handler = record {
    controller = after_submit (Cap 0) (after_begin 0 (new_machine (default_config 3 Sum) 2 100));
    reader = after_event the_event (new_reader the_device handler (record { messages = 1; bytes = 100 }));
    to_reader = [];
    to_controller = [];
  }

  -- the opening is answered, and the device acts on the order: its answer is on its way. It comes, and the device offers the event to a POLL.
  abbrev pub acting : List (Move H)
  acting = Tick 400 ∷ ToReader Delivered ∷ ToController Delivered 400 ∷ Tick 400 ∷ ToReader Delivered ∷ []

  abbrev pub offering : List (Move H)
  offering = acting ++ ToController Delivered 450 ∷ Tick 500 ∷ ToReader Delivered ∷ []

  module _ (answer_of : H → Command → Answer) (after : H → Command → H) where
    abbrev pub ledger_after : List (Move H) → Link H → Ledger
    ledger_after moves l = (runs (steps_from answer_of after moves l) new_history).ledger

    pub record HasActed (l : Link H) (g : Ledger) : Type 0 where
      pub going : g.is_open ≡ true
      pub number : HasNumber l 1
      pub acted : g.acted ≡ Some (reply.PdCap (record { capabilities = the_device.caps }))
      pub offer : unreported_in g.offer ≡ []

    pub record HasOffered (l : Link H) (g : Ledger) : Type 0 where
      pub going : g.is_open ≡ true
      pub number : HasNumber l 2
      pub acted : g.acted ≡ None
      pub offer : unreported_in g.offer ≡ the_event ∷ []

    pub record ActsAndOffers (handler : H) : Type 0 where
      pub begins : Begins (begun_with handler)
      pub fit : MovesFit answer_of after offering (begun_with handler)
      pub acts : HasActed (run answer_of after acting (begun_with handler)) (ledger_after acting (begun_with handler))
      pub offers : HasOffered (run answer_of after offering (begun_with handler)) (ledger_after offering (begun_with handler))

    abbrev pub DevicesActAndOffer : Type 0
    DevicesActAndOffer = (handler : H) → ActsAndOffers handler
