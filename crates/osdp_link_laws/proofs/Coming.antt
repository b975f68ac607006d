-- How the stage of a session comes from the one before it, by what moves; and what is due at a stage.
use Rattle.osdp_link_laws.proofs.Common.{◌≡◌, ◌⊎◌, ℕ, List, [], ◌∷◌, ◌++◌, length, Option, Some, None, Result, Ok, refl, append-nil, Packet, Command, Event, MsgFault, Reply, exchange_command, Ticked, ticks, Exchange, ControllerFault, Report, ReaderState, command_in, kind_of, outcome, Answer, Kind, Delivered, Delivery, Link, Lost, Move, Reopen, Repeated, RestartReader, Tick, ToController, ToReader, told_by_front}
use Rattle.osdp_msg.specs.declared.command.Command.TheVariants as command
use Rattle.osdp_msg.specs.declared.reply.Reply.TheVariants as reply
use Rattle.osdp_controller.specs.Machine as controllers
use Rattle.osdp_controller.specs.declared.report.Report.TheVariants as report
use Rattle.osdp_reader.specs.declared.kind.Kind.TheVariants as kind
use Rattle.osdp_link_laws.proofs.Since.{Hears}
use Rattle.osdp_link_laws.proofs.Stages.{After, Before, Behind, Fresh, HasRestarted, Level, Never, Now, Past, Rest, Restarted, Stage, Start, number_after, owed, owed_at, pending_at, shown, shown_at, unreported_at}

-- ---- what is due

-- the command that is outstanding and that the device has not acted on, the answer that is on its way, the event that was offered and isn't reported
-- yet, and how many of the queue's events were offered in this session
pub record Due : Type 0 where
  pub pend : List Command
  pub owing : List (Command × Reply)
  pub untold : List Event
  pub stands : ℕ

-- a device that has lost power has no event that it offered
abbrev pub standing_at : Restarted → Stage → List Event
standing_at Now at = []
standing_at _ at = shown_at at ++ unreported_at at

-- of one that hears these are the event that it told last, and the one that it offers
pub stood : (since : Restarted) → Hears since → (n : ℕ) (y : Exchange) (b : Reply) (x : Exchange) → standing_at since (Behind (After n y b) x) ≡ shown y b
stood Never hears n y b x = append-nil (shown y b)
stood Before hears n y b x = append-nil (shown y b)
stood Now hears n y b x = absurd hears

pub stands : (since : Restarted) → Hears since → (past : Past) (x : Exchange) (a : Reply) → standing_at since (Level past x a) ≡ shown x a
stands Never hears past x a = refl
stands Before hears past x a = refl
stands Now hears past x a = absurd hears

abbrev pub due_at : Restarted → Stage → Due
due_at since at = record { pend = pending_at at; owing = owed_at at; untold = unreported_at at; stands = length (standing_at since at) }

-- number 0 is heard: as much is due as before, and no event stands in front, as before
pub record KeepsDue (since : Restarted) (at : Stage) (new : Restarted) (to : Stage) : Type 0 where
  pub due : due_at new to ≡ due_at since at
  pub stands : standing_at new to ≡ []
  pub stood : standing_at since at ≡ []
  pub restarts : (count : ℕ) → HasRestarted since count → HasRestarted new count

-- ---- a tick

-- the next exchange has begun
abbrev pub BeginsFrom : Stage → Stage → Type 0
BeginsFrom Fresh to = (x : Exchange) × (to ≡ Behind Start x)
BeginsFrom (Rest n x a) to = (y : Exchange) × (to ≡ Behind (After n x a) y)
BeginsFrom _ to = ⊥

-- .. its frame went out, and nothing was told
pub record IsSent (t : Ticked) : Type 0 where
  pub frame : Packet
  pub sent : t.step.frame ≡ Some frame
  pub told : t.step.report ≡ None

abbrev pub TicksTo : Ticked → Stage → Stage → Type 0
TicksTo t at to = (to ≡ at) ⊎ (BeginsFrom at to × IsSent t)

-- the pending command and those that wait stay, in their order
abbrev pub KeepsOrders : Stage → Stage → List Command → List Command → Type 0
KeepsOrders at to ws vs = pending_at to ++ vs ≡ pending_at at ++ ws

-- ---- a packet comes to the controller

-- the answers and the events that a report tells
abbrev pub settled_in : Option Report → List (Command × Reply)
settled_in (Some (report.Settled c a)) = (c, a) ∷ []
settled_in (Some (report.Moved c to)) = (c, reply.Com to) ∷ []
settled_in _ = []

abbrev pub reported_in : Option Report → List Event
reported_in (Some (report.Event event)) = event ∷ []
reported_in _ = []

abbrev pub Announces : Option Report → List (Command × Reply) → List Event → Type 0
Announces r settled reported = (settled_in r ≡ settled) × (reported_in r ≡ reported)

-- the exchange is answered, or nothing is told
abbrev pub HearsTo : Option Report → Stage → Stage → Type 0
HearsTo r (Level past x a) to =
    ((to ≡ Level past x a) × Announces r [] []) ⊎ ((to ≡ Rest (number_after past) x a) × Announces r (owed x a) (shown x a))
HearsTo r at to = (to ≡ at) × Announces r [] []

-- ---- a packet comes to the reader

-- nothing changes
abbrev pub Stays : Restarted → Stage → Restarted → Stage → Type 0
Stays since at new to = (new ≡ since) × (to ≡ at)

-- by the kind of the packet, what is read in it, and what the reader says: it acts on the exchange that comes next; it hears number 0 again, or the
-- opening; or it does neither
abbrev pub ReadsTo : Kind → Result Command MsgFault → Option Reply → Restarted → Stage → Restarted → Stage → Type 0
ReadsTo kind.Taken read said since (Behind (After n y b) x) new to =
    Hears since × (new ≡ since) × (read ≡ Ok (exchange_command x)) × ((a : Reply) × (said ≡ Some a) × (to ≡ Level (After n y b) x a))
ReadsTo kind.Taken read said since _ new to = ⊥
ReadsTo kind.Zero read said since at new to = (read ≡ Ok (command.Id 0)) × KeepsDue since at new to
ReadsTo _ read said since at new to = Stays since at new to

module _ {H : Type 0} (answer_of : H → Command → Answer) (after : H → Command → H) where
  abbrev pub Reads : Kind → Packet → ReaderState H → Restarted → Stage → Restarted → Stage → Type 0
  Reads k p r since at new to = ReadsTo k (command_in p) (outcome answer_of after k r p).said since at new to

  -- .. what stands in front of the line
  abbrev pub ReadsFront : List Packet → Delivery → ReaderState H → Restarted → Stage → Restarted → Stage → Type 0
  ReadsFront [] how r since at new to = Stays since at new to
  ReadsFront (p ∷ rest) Delivered r since at new to = Reads (kind_of r p) p r since at new to
  ReadsFront (p ∷ rest) Lost r since at new to = Stays since at new to
  ReadsFront (p ∷ rest) Repeated r since at new to = Reads (kind_of r p) p r since at new to

  -- ---- each move

  -- a session begins again, or nothing happens
  abbrev pub ReopensTo : Option ControllerFault → List Packet → List Packet → Restarted → Stage → Restarted → Stage → Type 0
  ReopensTo None [] [] since at new to = to ≡ Fresh
  ReopensTo _ _ _ since at new to = Stays since at new to

  abbrev pub MovesTo : Move H → Link H → Restarted → Stage → Restarted → Stage → Type 0
  MovesTo (Tick now) l since at new to =
      let t = ticks now l.controller.session l.controller.waiting in
      (new ≡ since) × TicksTo t at to × KeepsOrders at to l.controller.waiting t.waiting
  MovesTo (ToReader how) l since at new to = ReadsFront l.to_reader how l.reader since at new to
  MovesTo (ToController how now) l since at new to = (new ≡ since) × HearsTo (told_by_front how l.to_controller now l.controller.session) at to
  MovesTo (Reopen now) l since at new to = ReopensTo (controllers.begin_refusal l.controller) l.to_reader l.to_controller since at new to
  MovesTo (RestartReader config handler room) l since at new to = (new ≡ Now) × (to ≡ at)
  MovesTo _ l since at new to = Stays since at new to
