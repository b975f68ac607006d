-- Something comes through where orders go out one after the other: each of m rounds that lose nothing, but the first, settles a command or reports an event
-- while one is left.
use Rattle.std.specs.Prelude.{◌≡◌, ◌⊎◌, ◌≤◌, ℕ, ◌+◌, ◌-◌, min, true, false, All, List, [], ◌∷◌, ◌++◌, length, Some, None}
use Rattle.osdp_msg.specs.declared.command.Command.{Command}
use Rattle.osdp_controller.specs.Hearing.{comset_of}
use Rattle.osdp_controller.specs.Machine.{Machine, is_due}
use Rattle.osdp_controller.specs.Sessions.{later as later_by}
use Rattle.osdp_controller.specs.States.{is_closed}
use Rattle.osdp_controller.specs.declared.state.State.TheVariants.{Closed, Idle}
use Rattle.osdp_controller_laws.specs.Calls.{IsInRange, longest_wait}
use Rattle.osdp_reader.specs.declared.handler.Answer.{Answer}
use Rattle.osdp_reader.specs.State.{ReaderState}
use Rattle.osdp_reader.specs.Table.{new_address}
use Rattle.osdp_link_laws.specs.Ahead.{ahead, count_ahead}
use Rattle.osdp_link_laws.specs.Beginning.{MovesFit, Begins}
use Rattle.osdp_link_laws.specs.Link.{Delivered, Link, Move, Tick, ToController, ToReader, run}
use Rattle.osdp_link_laws.specs.Ordinary.{IsOrdinary}
use Rattle.osdp_link_laws.specs.Reports.{reports, told_in}
use Rattle.osdp_link_laws.specs.Sessions.{all_begun, all_queued, all_submitted, restarts_in_session}

-- a round that loses nothing: a tick, then the packet to the reader, then the one to the controller
abbrev pub round : {H : Type 0} → ℕ → List (Move H)
round now = Tick now ∷ ToReader Delivered ∷ ToController Delivered now ∷ []

abbrev pub rounds : {H : Type 0} → List ℕ → List (Move H)
rounds [] = []
rounds (now ∷ later) = round now ++ rounds later

-- no COMSET, to whatever address
abbrev pub NoComset : Command → Type 0
NoComset command = comset_of command ≡ None

-- no COMSET to a device's address: a reader refuses any other, and stays where it is
abbrev pub SetsNoAddress : Command → Type 0
SetsNoAddress command = new_address command ≡ None

module _ {H : Type 0} where
  -- nothing is on the line, there or back, both ends are at one address, the reader isn't busy, and none of these commands is a COMSET to a device's
  -- address
  pub record AreClear {There Back : Type 0} (there : List There) (back : List Back) (r : ReaderState H) (c : Machine) (commands : List Command) : Type 0 where
    pub to_reader : there ≡ []
    pub to_controller : back ≡ []
    pub address : r.config.address ≡ c.session.config.address
    pub ready : r.busy ≡ false
    pub stays : All SetsNoAddress commands

  -- nobody waits for an answer
  abbrev pub IsAtRest : Link H → Type 0
  IsAtRest l = (due : ℕ) × (l.controller.session.state ≡ Idle due)

  -- the reader, which has restarted so often in this session, hasn't, or it has heard number 0 since
  abbrev pub HearsOn : ℕ → Link H → Type 0
  HearsOn restarts l = (restarts ≡ 0) ⊎ ((n : ℕ) × (l.reader.last ≡ Some n))

  -- the link is, and none of these is outstanding or waits
  abbrev pub IsClear : Link H → Type 0
  IsClear l = AreClear l.to_reader l.to_controller l.reader l.controller (ahead l.controller)

  module _ (answer_of : H → Command → Answer) (after : H → Command → H) where
    -- each tick is due when it comes: none is where the session has ended
    abbrev pub AreDue : List ℕ → Link H → Type 0
    AreDue [] l = Unit {0}
    AreDue (now ∷ later) l = (is_due now l.controller ≡ true) × AreDue later (run answer_of after (round now) l)

    -- of so many rounds each but one settles a command or reports an event, or all that was ahead is settled and reported
    abbrev pub ComeOn : List ℕ → Link H → Type 0
    ComeOn moments l = min (length moments - 1) (count_ahead l) ≤ told_in (reports answer_of after (rounds moments) l)

    abbrev pub ComesThrough : Type 0
    ComesThrough = (l : Link H) (moves : List (Move H)) (moments : List ℕ) → Begins l → MovesFit answer_of after moves l
        → let later = run answer_of after moves l in
        IsClear later → later.controller.session.config.poll_between_orders ≡ false
        → AreDue moments later → MovesFit answer_of after (rounds moments) later
        → ComeOn moments later

    -- a round from a clear link leaves it clear and at rest, or ends the session
    abbrev pub ComesToRest : Type 0
    ComesToRest = (l : Link H) (moves : List (Move H)) (now : ℕ) → Begins l → MovesFit answer_of after moves l
        → let later = run answer_of after moves l in
        IsClear later → is_due now later.controller ≡ true → MovesFit answer_of after (round now) later
        → let last = run answer_of after (round now) later in
        (last.controller.session.state ≡ Closed) ⊎ (IsClear last × IsAtRest last)

    -- from a link at rest, where the reader hasn't restarted in this session, or has heard number 0 since, each of the rounds brings one more, until it is
    -- all
    abbrev pub ComesThroughFromRest : Type 0
    ComesThroughFromRest = (l : Link H) (moves : List (Move H)) (moments : List ℕ) → Begins l → MovesFit answer_of after moves l
        → let later = run answer_of after moves l in
        IsClear later → later.controller.session.config.poll_between_orders ≡ false
        → IsAtRest later → HearsOn (restarts_in_session answer_of after moves l 0) later
        → AreDue moments later → MovesFit answer_of after (rounds moments) later
        → min (length moments) (count_ahead later) ≤ told_in (reports answer_of after (rounds moments) later)

    -- each tick comes so much later than the greatest moment seen as the longest of the controller's waits
    abbrev pub AreLate : List ℕ → Link H → Type 0
    AreLate [] l = Unit {0}
    AreLate (now ∷ later) l =
        (later_by (longest_wait l.controller.session.config) l.controller.session ≤ now) × AreLate later (run answer_of after (round now) l)

    -- then the session has ended, or the same comes through
    abbrev pub ComesThroughInTime : Type 0
    ComesThroughInTime = (l : Link H) (moves : List (Move H)) (moments : List ℕ) → Begins l → IsInRange l.controller.session
        → MovesFit answer_of after moves l
        → let later = run answer_of after moves l in
        IsClear later → later.controller.session.config.poll_between_orders ≡ false
        → AreLate moments later → MovesFit answer_of after (rounds moments) later
        → let last = run answer_of after (rounds moments) later in
        (last.controller.session.state ≡ Closed) ⊎ ComeOn moments later

    -- In a first session that has not ended, and in which neither end restarts and nothing is taken back or lapses, nothing is forgotten. As many commands
    -- and events were ahead at its beginning or were accepted in it as are told settled or reported in it, or are ahead at its end. This counts them: which
    -- ones they are says the ledger.
    abbrev pub ForgetsNone : Type 0
    ForgetsNone = (l : Link H) (moves : List (Move H)) → Begins l → MovesFit answer_of after moves l → All IsOrdinary moves
        → let last = run answer_of after moves l in
        all_begun answer_of after moves l ≡ 0 → is_closed last.controller.session.state ≡ false
        → told_in (reports answer_of after moves l) + count_ahead last
        ≡ count_ahead l + length (all_submitted answer_of after moves l) + length (all_queued answer_of after moves l)
