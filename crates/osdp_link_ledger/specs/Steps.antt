-- What a move of a link shows the two programs, as steps of the ledger: what a call answers, what goes out, what the device acts on and
-- answers, what leaves its queue, and what is reported. Commands, answers and events are the machines' own. Of the ledger places alone are
-- read: the machines keep lists, in which equal commands are told apart by where they stand.
use Rattle.std.specs.Prelude.{ℕ, ◌+◌, Bool, true, false, nat_lt, if◌then◌else◌, is_some, drop, take, List, [], ◌∷◌, ◌++◌, Option, Some, None, option_to_list}
use Rattle.osdp_frame.specs.Packet.{Packet}
use Rattle.osdp_msg.specs.Events.{event_in}
use Rattle.osdp_msg.specs.declared.command.Command.{Command}
use Rattle.osdp_msg.specs.declared.command.Command.TheVariants.{Id, Poll}
use Rattle.osdp_msg.specs.declared.event.Event.{Event}
use Rattle.osdp_msg.specs.declared.reply.Reply.{Reply}
use Rattle.osdp_msg.specs.declared.reply.Reply.TheVariants as reply
use Rattle.osdp_controller.specs.Machine.{submit_refusal, withdrawn_in}
use Rattle.osdp_controller.specs.Ticking.{Ticked, ticks}
use Rattle.osdp_controller.specs.declared.fault.ControllerFault.{ControllerFault}
use Rattle.osdp_controller.specs.declared.report.Report.{Report}
use Rattle.osdp_controller.specs.declared.report.Report.TheVariants as report
use Rattle.osdp_controller.specs.declared.state.State.{State}
use Rattle.osdp_controller.specs.declared.state.State.TheVariants.{Quiet}
use Rattle.osdp_reader.specs.Queue.{Queue as EventQueue, in_doubt, lacks_room, never_offered}
use Rattle.osdp_reader.specs.State.{ReaderState}
use Rattle.osdp_reader.specs.Table.{hears, kind_of}
use Rattle.osdp_reader.specs.declared.handler.Answer.{Answer}
use Rattle.osdp_reader.specs.declared.kind.Kind.{Kind}
use Rattle.osdp_reader.specs.declared.kind.Kind.TheVariants as kind
use Rattle.osdp_ledger.specs.Ledger as ledger
use Rattle.osdp_ledger.specs.Ledger.{Act, Card, Close, Doubt, Leave, Ledger, NoOffer, Offer, Offers, Open, Order, Reported, RestartDevice, RestartPanel, Settle, Step, Unreported, after, new_ledger}
use Rattle.osdp_link_laws.specs.Link as link
use Rattle.osdp_link_laws.specs.Link.{Delivered, Delivery, Link, Lost, LoseToController, LoseToReader, Move, Reopen, Repeated, RestartController, RestartReader, Retarget, SetBusy, SetHandler, Tick, ToController, ToReader, after_move, outstanding_command}
use Rattle.osdp_link_laws.specs.Reports.{told_by_front}

-- the ledger after steps
abbrev pub after_steps : List Step → Ledger → Ledger
after_steps [] g = g
after_steps (step ∷ steps) g = after_steps steps (after step g)

-- ---- places

-- a command at the place of the first of these orders, and an event at that of the first of these cards
abbrev pub order_at : List Order → Command → Order
order_at [] command = record { place = 0; command = command }
order_at (order ∷ rest) command = record { place = order.place; command = command }

abbrev pub card_at : List Card → Event → Card
card_at [] event = record { place = 0; event = event }
card_at (card ∷ rest) event = record { place = card.place; event = event }

-- .. at that of the card that was offered last
abbrev pub offered_at : Offer → Event → Card
offered_at NoOffer event = record { place = 0; event = event }
offered_at (Unreported card) event = record { place = card.place; event = event }
offered_at (Reported card) event = record { place = card.place; event = event }

-- a command that the device acts on: at the front's place in a session, else at that of the late one
abbrev pub order_acted : Command → Ledger → Order
order_acted command g = order_at (if g.is_open then g.ahead else option_to_list g.late) command

-- ---- the panel

abbrev pub submits : Option ControllerFault → Command → Ledger → List Step
submits None command g = ledger.Submit (record { place = g.submitted; command = command }) ∷ []
submits (Some fault) command g = []

abbrev pub withdraws : Option Command → Ledger → List Step
withdraws None g = []
withdraws (Some command) g = ledger.Withdraw (order_at g.ahead command) ∷ []

-- the first packet of a session goes out
abbrev pub opens : State → Option Packet → List Step
opens (Quiet until) (Some frame) = Open ∷ []
opens _ frame = []

-- what a report says. A COMSET that moves the device ends the session too. No device of ours says a reply that can't be read: here one would end
-- the session, where the controller goes on with it.
abbrev pub told : Option Report → Ledger → List Step
told None g = []
told (Some (report.Opened id)) g = []
told (Some (report.Settled command answer)) g = Settle (order_at g.ahead command) answer ∷ []
told (Some (report.Moved command answered)) g = Settle (order_at g.ahead command) (reply.Com answered) ∷ Close ∷ []
told (Some (report.Event event)) g = ledger.Report (offered_at g.offer event) ∷ []
told (Some (report.PollAnswered answer)) g = []
told (Some (report.Unread command code)) g = Close ∷ []
told (Some (report.Lost cause (Some command))) g = Doubt (order_at g.ahead command) ∷ []
told (Some (report.Lost cause None)) g = Close ∷ []

abbrev pub ticked : State → Ticked → Ledger → List Step
ticked state t g = opens state t.step.frame ++ told t.step.report g

-- ---- the device

abbrev pub queues : Bool → Event → Ledger → List Step
queues true event g = []
queues false event g = ledger.Queue (record { place = g.queued; event = event }) ∷ []

abbrev pub withdraws_event : Option Event → Bool → Ledger → List Step
withdraws_event None ever_offered g = []
withdraws_event (Some event) ever_offered g = ledger.WithdrawEvent (card_at (if ever_offered then drop 1 g.cards else g.cards) event) ∷ []

-- an event lapses that was offered. One that was offered before the ledger began alone has never been offered in it, and is taken back.
abbrev pub gives_up : Card → ℕ → Step
gives_up card shown = if nat_lt card.place shown then ledger.Lapse card else ledger.WithdrawEvent card

abbrev pub lapses_event : Option Event → Ledger → List Step
lapses_event None g = []
lapses_event (Some event) g = gives_up (card_at g.cards event) g.shown ∷ []

-- an offered front leaves where the next number is taken
abbrev pub leaving : Kind → EventQueue → List Event
leaving kind.Taken q = if q.offered then take 1 q.events else []
leaving _ q = []

abbrev pub leaves : List Event → Ledger → List Step
leaves [] g = []
leaves (event ∷ rest) g = Leave (card_at g.cards event) ∷ []

abbrev pub offers : Option Event → Ledger → List Step
offers None g = []
offers (Some event) g = Offers (card_at g.cards event) ∷ []

-- it acts on a command with a number: a POLL may offer an event
abbrev pub acts_on : Command → Reply → Ledger → List Step
acts_on Poll answer g = offers (event_in answer) g
acts_on command answer g = Act (order_acted command g) answer ∷ []

-- .. with number 0: the ID that opens a session is nobody's order
abbrev pub acts_at_zero : Command → Reply → Ledger → List Step
acts_at_zero (Id kept) answer g = []
acts_at_zero command answer g = Act (order_acted command g) answer ∷ []

abbrev pub acts : Kind → Option Command → Option Reply → Ledger → List Step
acts kind.Taken (Some command) (Some answer) g = acts_on command answer g
acts kind.Zero (Some command) (Some answer) g = acts_at_zero command answer g
acts _ _ _ g = []

-- what leaves does so before anything is acted on or offered
abbrev pub leaves_and_acts : Kind → EventQueue → Option Command → Option Reply → Ledger → List Step
leaves_and_acts k q command said g = let left = leaves (leaving k q) g in left ++ acts k command said (after_steps left g)

-- ---- from the beginning

-- what waits when a first session has begun was submitted and queued before it
abbrev pub submitted_before : ℕ → List Command → List Step
submitted_before place [] = []
submitted_before place (command ∷ rest) = ledger.Submit (record { place = place; command = command }) ∷ submitted_before (place + 1) rest

abbrev pub queued_before : ℕ → List Event → List Step
queued_before place [] = []
queued_before place (event ∷ rest) = ledger.Queue (record { place = place; event = event }) ∷ queued_before (place + 1) rest

abbrev pub steps_before : {H : Type 0} → Link H → List Step
steps_before l = submitted_before 0 l.controller.waiting ++ queued_before 0 l.reader.queue.events

module _ {H : Type 0} (answer_of : H → Command → Answer) (after_command : H → Command → H) where
  abbrev pub gets : Packet → ReaderState H → Ledger → List Step
  gets p r g = let o = hears answer_of after_command r p in leaves_and_acts (kind_of r p) r.queue o.command o.said g

  abbrev pub to_reader : List Packet → Delivery → ReaderState H → Ledger → List Step
  to_reader [] how r g = []
  to_reader (p ∷ rest) Delivered r g = gets p r g
  to_reader (p ∷ rest) Lost r g = []
  to_reader (p ∷ rest) Repeated r g = gets p r g

  -- ---- a move

  abbrev pub steps_of : Move H → Link H → Ledger → List Step
  steps_of (link.Submit command) l g = submits (submit_refusal command l.controller) command g
  steps_of (link.Queue event) l g = queues (lacks_room event l.reader.queue) event g
  steps_of (SetBusy busy) l g = []
  steps_of (Tick now) l g = ticked l.controller.session.state (ticks now l.controller.session l.controller.waiting) g
  steps_of (ToReader how) l g = to_reader l.to_reader how l.reader g
  steps_of (ToController how now) l g = told (told_by_front how l.to_controller now l.controller.session) g
  steps_of (Reopen now) l g = []
  steps_of (SetHandler handler) l g = []
  steps_of link.Withdraw l g = withdraws (withdrawn_in l.controller.session.state l.controller.waiting) g
  steps_of (Retarget address) l g = []
  steps_of link.WithdrawEvent l g = withdraws_event (never_offered l.reader.queue) l.reader.queue.ever_offered g
  steps_of link.LapseEvent l g = lapses_event (in_doubt l.reader.queue) g
  steps_of (RestartReader config handler room) l g = RestartDevice ∷ []
  steps_of (RestartController config room) l g = RestartPanel (is_some (outstanding_command l.controller.session.state)) ∷ []
  steps_of (LoseToReader place) l g = []
  steps_of (LoseToController place) l g = []

  abbrev pub all_steps : List (Move H) → Link H → Ledger → List Step
  all_steps [] l g = []
  all_steps (move ∷ moves) l g =
      let steps = steps_of move l g in steps ++ all_steps moves (after_move answer_of after_command move l) (after_steps steps g)

  abbrev pub steps_from : List (Move H) → Link H → List Step
  steps_from moves l = steps_before l ++ all_steps moves l (after_steps (steps_before l) new_ledger)
