-- One link: a controller, a reader, and the packets that are on the way between them.
use Rattle.std.specs.Prelude.{ℕ, zero, suc, Bool, true, false, List, [], ◌∷◌, ◌++◌, Option, Some, None, option_to_list}
use Rattle.osdp_frame.specs.Packet.{Packet}
use Rattle.osdp_msg.specs.declared.command.Command.{Command}
use Rattle.osdp_msg.specs.declared.event.Event.{Event}
use Rattle.osdp_msg.specs.declared.limits.Room.{Room}
use Rattle.osdp_controller.specs.declared.config.ControllerConfig.{ControllerConfig}
use Rattle.osdp_controller.specs.declared.fault.ControllerFault.{ControllerFault}
use Rattle.osdp_controller.specs.declared.state.State.{State}
use Rattle.osdp_controller.specs.declared.state.State.TheVariants.{Waiting, Pausing}
use Rattle.osdp_controller.specs.Exchanges.{submitted_command}
use Rattle.osdp_controller.specs.Hearing as controller
use Rattle.osdp_controller.specs.Machine as controllers
use Rattle.osdp_controller.specs.Machine.{Machine}
use Rattle.osdp_controller.specs.Ticking.{Ticked, ticks}
use Rattle.osdp_reader.specs.declared.config.ReaderConfig.{ReaderConfig}
use Rattle.osdp_reader.specs.declared.handler.Answer.{Answer}
use Rattle.osdp_reader.specs.Queue.{lacks_room}
use Rattle.osdp_reader.specs.State as readers
use Rattle.osdp_reader.specs.State.{ReaderState}
use Rattle.osdp_reader.specs.Table as reader

-- both ends, and what either has sent and the other has not had yet, the oldest first
pub record Link (H : Type 0) : Type 0 where
  pub controller : Machine
  pub reader : ReaderState H
  pub to_reader : List Packet
  pub to_controller : List Packet

-- what the line does with the packet in front: it comes through, is lost, or comes through and will come again. Damage that is
-- detected is a loss.
pub data Delivery : Type 0 where
  Delivered : Delivery
  Lost : Delivery
  Repeated : Delivery

-- what may happen to a link, at any moment. `Reopen`: a session begins again. `SetHandler`: the device has another handler from now on.
-- `Withdraw`: where no command is on its way, the one that has waited longest is taken back. `Retarget`: where the controller is closed, its
-- address is set. `WithdrawEvent`: the device takes the oldest event back that it has never offered, if there is one. `LapseEvent`: it lets the
-- front go, where it was ever offered, though its answer may be lost. `RestartReader`: the reader is new, with these settings, this handler and this
-- room for events: the same device where its identity and its capabilities are as before, and else another in its place. `RestartController`: the
-- controller is new, with these settings and room for commands. What is on the line stays on it. `LoseToReader`, `LoseToController`: what stands at this place of the line, the front at 0, is lost, beside what others say on it.
pub data Move (H : Type 0) : Type 0 where
  Submit : Command → Move H
  Queue : Event → Move H
  SetBusy : Bool → Move H
  Tick : ℕ → Move H
  ToReader : Delivery → Move H
  ToController : Delivery → ℕ → Move H
  Reopen : ℕ → Move H
  SetHandler : H → Move H
  Withdraw : Move H
  Retarget : ℕ → Move H
  WithdrawEvent : Move H
  LapseEvent : Move H
  RestartReader : ReaderConfig → H → Room → Move H
  RestartController : ControllerConfig → Room → Move H
  LoseToReader : ℕ → Move H
  LoseToController : ℕ → Move H

-- without what stands at this place, if anything does
abbrev pub lost_at : {A : Type 0} → ℕ → List A → List A
lost_at k [] = []
lost_at zero (x ∷ xs) = xs
lost_at (suc k) (x ∷ xs) = x ∷ lost_at k xs

-- the command whose answer the controller waits for
abbrev pub outstanding_command : State → Option Command
outstanding_command (Waiting until sends o) = submitted_command o.exchange
outstanding_command (Pausing until o) = submitted_command o.exchange
outstanding_command _ = None

module _ {H : Type 0} where
  abbrev pub submits : Option ControllerFault → Command → Link H → Link H
  submits (Some fault) command l = l
  submits None command l = record l { controller = controllers.after_submit command l.controller }

  abbrev pub queues : Bool → Event → Link H → Link H
  queues true event l = l
  queues false event l = record l { reader = readers.after_submit event l.reader }

  -- the controller's frame goes after those that are on the way
  abbrev pub ticked : Ticked → Link H → Link H
  ticked t l = record l {
    controller = record l.controller { session = t.session; waiting = t.waiting };
    to_reader = l.to_reader ++ option_to_list t.step.frame;
  }

  abbrev pub controller_gets : Packet → ℕ → Link H → Link H
  controller_gets p now l = record l { controller = record l.controller { session = (controller.hears p now l.controller.session).session } }

  -- a session begins again where nothing is on the line and the controller is closed; else nothing happens
  abbrev pub reopens : Option ControllerFault → List Packet → List Packet → ℕ → Link H → Link H
  reopens None [] [] now l = record l { controller = controllers.after_begin now l.controller }
  reopens _ _ _ now l = l

  -- the command that has waited longest is taken back, where none is on its way and one waits
  abbrev pub withdraws : Link H → Link H
  withdraws l = record l { controller = controllers.after_withdraw l.controller }

  abbrev pub retargets : Option ControllerFault → ℕ → Link H → Link H
  retargets (Some fault) address l = l
  retargets None address l = record l { controller = controllers.after_retarget address l.controller }

  -- the oldest event that was never offered is taken back, where there is one; what is offered stays so
  abbrev pub withdraws_event : Link H → Link H
  withdraws_event l = record l { reader = readers.after_withdraw_event l.reader }

  -- the front leaves the queue, where it was ever offered; the stored reply stays
  abbrev pub lapses_event : Link H → Link H
  lapses_event l = record l { reader = readers.after_lapse_event l.reader }

  -- a device with nothing taken, nothing stored and no event, the same or another
  abbrev pub restarts_reader : ReaderConfig → H → Room → Link H → Link H
  restarts_reader config handler room l = record l { reader = readers.new_reader config handler room }

  -- closed, with nothing waiting and no moment seen: a session that lasted has ended, and nobody is told
  abbrev pub restarts_controller : ControllerConfig → Room → Link H → Link H
  restarts_controller config room l = record l { controller = controllers.new_machine config room.messages room.bytes }

  abbrev pub to_controller : List Packet → Delivery → ℕ → Link H → Link H
  to_controller [] how now l = l
  to_controller (p ∷ rest) Delivered now l = controller_gets p now (record l { to_controller = rest })
  to_controller (p ∷ rest) Lost now l = record l { to_controller = rest }
  to_controller (p ∷ rest) Repeated now l = controller_gets p now l

  module _ (answer_of : H → Command → Answer) (after : H → Command → H) where
    -- the reader's answer goes after those that are on the way
    abbrev pub reader_gets : Packet → Link H → Link H
    reader_gets p l =
        let outcome = reader.hears answer_of after l.reader p in
        record l { reader = outcome.reader; to_controller = l.to_controller ++ option_to_list outcome.reply }

    abbrev pub to_reader : List Packet → Delivery → Link H → Link H
    to_reader [] how l = l
    to_reader (p ∷ rest) Delivered l = reader_gets p (record l { to_reader = rest })
    to_reader (p ∷ rest) Lost l = record l { to_reader = rest }
    to_reader (p ∷ rest) Repeated l = reader_gets p l

    abbrev pub after_move : Move H → Link H → Link H
    after_move (Submit command) l = submits (controllers.submit_refusal command l.controller) command l
    after_move (Queue event) l = queues (lacks_room event l.reader.queue) event l
    after_move (SetBusy busy) l = record l { reader = readers.after_set_busy busy l.reader }
    after_move (Tick now) l = ticked (ticks now l.controller.session l.controller.waiting) l
    after_move (ToReader how) l = to_reader l.to_reader how l
    after_move (ToController how now) l = to_controller l.to_controller how now l
    after_move (Reopen now) l = reopens (controllers.begin_refusal l.controller) l.to_reader l.to_controller now l
    after_move (SetHandler handler) l = record l { reader = readers.after_set_handler handler l.reader }
    after_move Withdraw l = withdraws l
    after_move (Retarget address) l = retargets (controllers.retarget_refusal address l.controller) address l
    after_move WithdrawEvent l = withdraws_event l
    after_move LapseEvent l = lapses_event l
    after_move (RestartReader config handler room) l = restarts_reader config handler room l
    after_move (RestartController config room) l = restarts_controller config room l
    after_move (LoseToReader place) l = record l { to_reader = lost_at place l.to_reader }
    after_move (LoseToController place) l = record l { to_controller = lost_at place l.to_controller }

    -- the link after a list of moves
    abbrev pub run : List (Move H) → Link H → Link H
    run [] l = l
    run (move ∷ moves) l = run moves (after_move move l)
