-- What each move of a program, of a power failure or of the line does to a link, however it stands: what is new, empty or gone after it, and
-- that all else is as it was.
use Rattle.std.specs.Prelude.{◌≡◌, ◌≢◌, ◌≤◌, ◌<◌, ◌+◌, ◌⊎◌, ℕ, suc, true, false, if◌then◌else◌, List, [], ◌∷◌, ◌++◌, length, Some, None, Ok}
use Rattle.osdp_frame.specs.Packet.{Packet}
use Rattle.osdp_msg.specs.declared.command.Command.{Command}
use Rattle.osdp_msg.specs.declared.command.Command.TheVariants.{Poll}
use Rattle.osdp_msg.specs.declared.event.Event.{Event}
use Rattle.osdp_msg.specs.declared.limits.Room.{Room}
use Rattle.osdp_msg.specs.declared.nak.NakReason.TheVariants.{UnexpectedSequence}
use Rattle.osdp_controller.specs.Machine.{Machine}
use Rattle.osdp_controller.specs.declared.config.ControllerConfig.{ControllerConfig}
use Rattle.osdp_controller.specs.declared.state.State.TheVariants.{Closed}
use Rattle.osdp_reader.specs.Replies.{refused}
use Rattle.osdp_reader.specs.State.{ReaderState}
use Rattle.osdp_reader.specs.Table.{answer_to, command_in, hears, kind_of}
use Rattle.osdp_reader.specs.declared.config.ReaderConfig.{ReaderConfig}
use Rattle.osdp_reader.specs.declared.handler.Answer.{Answer}
use Rattle.osdp_reader.specs.declared.kind.Kind.TheVariants.{Repeat, Taken}
use Rattle.osdp_reader_laws.specs.Laws.{ComesTo, DiffersByHandler}
use Rattle.osdp_link_laws.specs.Link.{LapseEvent, Link, LoseToController, LoseToReader, Move, Reopen, RestartController, RestartReader, Retarget, SetHandler, Withdraw, WithdrawEvent, after_move, outstanding_command}
use Rattle.osdp_link_laws.specs.Sessions.{all_begun, restarts_in_session}

-- ---- machines

-- the controller is closed, with these settings and this room; nothing waits, nothing is outstanding, no number was sent and no moment seen
pub record IsNewController (settings : ControllerConfig) (limits : Room) (m : Machine) : Type 0 where
  pub state : m.session.state ≡ Closed
  pub config : m.session.config ≡ settings
  pub number : m.session.number ≡ 0
  pub greatest : m.session.greatest ≡ 0
  pub waiting : m.waiting ≡ []
  pub capacity : m.capacity ≡ limits.messages
  pub room : m.room ≡ limits.bytes

-- ---- the line

-- what stands on the line after so many packets is lost, to the end that would have read it
abbrev pub LosesOne : {A : Type 0} → ℕ → List A → List A → Type 0
LosesOne {A} place old new =
    ((front : List A) (lost : A) (rest : List A) → old ≡ front ++ lost ∷ rest → length front ≡ place → new ≡ front ++ rest)
    × (length old ≤ place → new ≡ old)

module _ {H : Type 0} where
  -- a device with these settings, this handler and this room: nothing was taken and nothing is stored, no event waits, and it isn't busy
  pub record IsNewReader (made : ReaderConfig) (answering : H) (room : Room) (new : ReaderState H) : Type 0 where
    pub config : new.config ≡ made
    pub last : new.last ≡ None
    pub stored : new.stored ≡ None
    pub queue : new.queue ≡ record { events = []; capacity = room.messages; room = room.bytes; offered = false; ever_offered = false }
    pub busy : new.busy ≡ false
    pub handler : new.handler ≡ answering

  -- ---- links

  -- where the reader alone is another
  abbrev pub SameButReader : Link H → Link H → Type 0
  SameButReader l next = next ≡ record l { reader = next.reader }

  -- .. and where the controller alone is
  abbrev pub SameButController : Link H → Link H → Type 0
  SameButController l next = next ≡ record l { controller = next.controller }

  -- the reader has this handler, and is as it was: its number, its stored reply and its events stay
  pub record HasHandler (answering : H) (l next : Link H) : Type 0 where
    pub others : SameButReader l next
    pub handler : next.reader.handler ≡ answering
    pub stored : next.reader.stored ≡ l.reader.stored
    pub reader : DiffersByHandler l.reader next.reader

  -- the first of those that wait has been taken back
  pub record HasTakenBack (left : List Command) (l next : Link H) : Type 0 where
    pub others : SameButController l next
    pub session : next.controller.session ≡ l.controller.session
    pub waiting : next.controller.waiting ≡ left
    pub capacity : next.controller.capacity ≡ l.controller.capacity
    pub room : next.controller.room ≡ l.controller.room

  -- one event alone has left the queue, from between these; what is offered is so still, and what is stored stays
  pub record HasWithdrawn (front rest : List Event) (l next : Link H) : Type 0 where
    pub others : SameButReader l next
    pub reader : next.reader ≡ record l.reader { queue = record l.reader.queue { events = front ++ rest } }

  -- the front has left the queue, nothing is offered any more, and what is stored stays
  pub record HasLapsed (event : Event) (rest : List Event) (l next : Link H) : Type 0 where
    pub others : SameButReader l next
    pub reader : next.reader ≡ record l.reader { queue = record l.reader.queue { events = rest; offered = false; ever_offered = false } }

  -- the controller has this address, and is as it was: closed, with the commands that wait
  pub record HasAddress (here : ℕ) (l next : Link H) : Type 0 where
    pub others : SameButController l next
    pub address : next.controller.session.config.address ≡ here
    pub config : next.controller.session.config ≡ record l.controller.session.config { address = here }
    pub state : next.controller.session.state ≡ Closed
    pub number : next.controller.session.number ≡ l.controller.session.number
    pub greatest : next.controller.session.greatest ≡ l.controller.session.greatest
    pub waiting : next.controller.waiting ≡ l.controller.waiting
    pub capacity : next.controller.capacity ≡ l.controller.capacity
    pub room : next.controller.room ≡ l.controller.room

  -- the controller is new, and nobody is told of the session that it had
  pub record HasNewController (config : ControllerConfig) (room : Room) (l next : Link H) : Type 0 where
    pub others : SameButController l next
    pub controller : IsNewController config room next.controller

  -- how often the reader restarts
  abbrev pub restarts_in : List (Move H) → ℕ
  restarts_in [] = 0
  restarts_in (RestartReader config handler room ∷ moves) = suc (restarts_in moves)
  restarts_in (move ∷ moves) = restarts_in moves

  module _ (answer_of : H → Command → Answer) (after : H → Command → H) where
    -- a repeat of the last number is answered with what was stored, and no handler is asked; the next command that is taken, a POLL with an event
    -- left out, is answered with this handler
    pub record AnswersBy (handler : H) (old new : ReaderState H) : Type 0 where
      pub again : (p : Packet) → kind_of old p ≡ Repeat
          → ((hears answer_of after new p).reply ≡ old.stored) × ((hears answer_of after new p).command ≡ None)
          × ((hears answer_of after new p).reader ≡ new)
      pub next : (p : Packet) (command : Command) → kind_of old p ≡ Taken → command_in p ≡ Ok command → command ≢ Poll
          → (hears answer_of after new p).said ≡ Some (answer_to answer_of after old.config handler command).reply

    -- every number but 0 is refused, and nothing is acted on
    abbrev pub RefusesNumbers : ReaderState H → Type 0
    RefusesNumbers new = (p : Packet) → ComesTo new p → p.block ≡ false → p.sequence ≢ 0
        → ((hears answer_of after new p).said ≡ Some (refused UnexpectedSequence)) × ((hears answer_of after new p).command ≡ None)
        × ((hears answer_of after new p).reader ≡ new)

    -- the reader is new, and what its queue held is thrown away
    pub record HasNewReader (config : ReaderConfig) (handler : H) (room : Room) (l next : Link H) : Type 0 where
      pub others : SameButReader l next
      pub reader : IsNewReader config handler room next.reader
      pub refuses : RefusesNumbers next.reader

    -- ---- what each does

    -- where no command is on its way and one waits, and only there
    pub record Withdraws : Type 0 where
      pub first : (l : Link H) (command : Command) (waiting : List Command) → outstanding_command l.controller.session.state ≡ None
          → l.controller.waiting ≡ command ∷ waiting → HasTakenBack waiting l (after_move answer_of after Withdraw l)
      pub none : (l : Link H) → (outstanding_command l.controller.session.state ≢ None) ⊎ (l.controller.waiting ≡ [])
          → after_move answer_of after Withdraw l ≡ l

    -- where the controller is closed and the address is a device's, and only there
    pub record Retargets : Type 0 where
      pub set : (l : Link H) (address : ℕ) → l.controller.session.state ≡ Closed → address < 127
          → HasAddress address l (after_move answer_of after (Retarget address) l)
      pub refused : (l : Link H) (address : ℕ) → (l.controller.session.state ≢ Closed) ⊎ (127 ≤ address)
          → after_move answer_of after (Retarget address) l ≡ l

    -- the oldest event that was never offered, in this session or before, where there is one: the front, or the one after a front that was
    pub record WithdrawsEvents : Type 0 where
      pub first : (l : Link H) (front : List Event) (event : Event) (rest : List Event) → l.reader.queue.events ≡ front ++ event ∷ rest
          → length front ≡ (if l.reader.queue.ever_offered then 1 else 0) → HasWithdrawn front rest l (after_move answer_of after WithdrawEvent l)
      pub none : (l : Link H) → length l.reader.queue.events ≤ (if l.reader.queue.ever_offered then 1 else 0)
          → after_move answer_of after WithdrawEvent l ≡ l

    -- the front, where it was ever offered, and only there
    pub record LapsesEvents : Type 0 where
      pub front : (l : Link H) (event : Event) (rest : List Event) → l.reader.queue.events ≡ event ∷ rest → l.reader.queue.ever_offered ≡ true
          → HasLapsed event rest l (after_move answer_of after LapseEvent l)
      pub none : (l : Link H) → l.reader.queue.ever_offered ≡ false → after_move answer_of after LapseEvent l ≡ l

    pub record Loses : Type 0 where
      pub to_reader : (l : Link H) (place : ℕ) → let next = after_move answer_of after (LoseToReader place) l in
          LosesOne place l.to_reader next.to_reader × (next ≡ record l { to_reader = next.to_reader })
      pub to_controller : (l : Link H) (place : ℕ) → let next = after_move answer_of after (LoseToController place) l in
          LosesOne place l.to_controller next.to_controller × (next ≡ record l { to_controller = next.to_controller })

    -- the restarts of the reader in a session are counted: none where it begins again, and one more with each as long as no other begins
    pub record CountsRestarts : Type 0 where
      pub none : (l : Link H) (now count : ℕ) → all_begun answer_of after (Reopen now ∷ []) l ≢ 0
          → restarts_in_session answer_of after (Reopen now ∷ []) l count ≡ 0
      pub each : (l : Link H) (moves : List (Move H)) (count : ℕ) → all_begun answer_of after moves l ≡ 0
          → restarts_in_session answer_of after moves l count ≡ count + restarts_in moves

    -- each move of a program, of a power failure or of the line
    pub record EachMoveDoes : Type 0 where
      pub handler : (l : Link H) (handler : H) → let next = after_move answer_of after (SetHandler handler) l in
          HasHandler handler l next × AnswersBy handler l.reader next.reader
      pub withdraw : Withdraws
      pub event : WithdrawsEvents
      pub lapse : LapsesEvents
      pub retarget : Retargets
      pub reader : (l : Link H) (config : ReaderConfig) (handler : H) (room : Room)
          → HasNewReader config handler room l (after_move answer_of after (RestartReader config handler room) l)
      pub controller : (l : Link H) (config : ControllerConfig) (room : Room)
          → HasNewController config room l (after_move answer_of after (RestartController config room) l)
      pub losses : Loses
      pub restarts : CountsRestarts
