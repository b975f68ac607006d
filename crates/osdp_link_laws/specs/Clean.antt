-- Without losses: which commands are settled, and which events are reported.
use Rattle.std.specs.Prelude.{◌≡◌, ◌≤◌, ℕ, ◌-◌, false, All, IfSome, List, [], ◌∷◌, length, take}
use Rattle.osdp_msg.specs.declared.command.Command.{Command}
use Rattle.osdp_msg.specs.declared.event.Event.{Event}
use Rattle.osdp_controller.specs.Sessions.{later as later_by}
use Rattle.osdp_controller.specs.States.{is_closed, moment_of}
use Rattle.osdp_reader.specs.declared.config.ReaderConfig.{ReaderConfig}
use Rattle.osdp_reader.specs.declared.handler.Answer.{Answer}
use Rattle.osdp_link_laws.specs.Beginning.{MovesFit, Begins}
use Rattle.osdp_link_laws.specs.Link.{Link, Move, Queue, Submit, run}
use Rattle.osdp_link_laws.specs.OneHandler.{with_answers}
use Rattle.osdp_link_laws.specs.Progress.{SetsNoAddress, round, rounds}
use Rattle.osdp_link_laws.specs.Reports.{Told, all_taken, nothing_told, reports, with_reports}

-- a command that is submitted, or an event that is queued
abbrev pub IsOrder : {H : Type 0} → Move H → Type 0
IsOrder (Submit command) = Unit {0}
IsOrder (Queue event) = Unit {0}
IsOrder _ = ⊥

module _ {H : Type 0} (answer_of : H → Command → Answer) (after : H → Command → H) where
  -- of these commands and events: each of so many rounds settles a command, the oldest first, with the reader's answer to it after those before it; once
  -- all are settled each round reports an event, the oldest first
  pub record IsInTurn (config : ReaderConfig) (handler : H) (n : ℕ) (commands : List Command) (events : List Event) (taken : List Command) (t : Told) : Type 0 where
    pub acted : taken ≡ take n commands
    pub settled : t.settled ≡ with_answers answer_of after config handler (take n commands)
    pub reported : t.reported ≡ take (n - length t.settled) events
    pub in_doubt : t.in_doubt ≡ []

  -- each tick comes so much later than the greatest moment seen
  abbrev pub AreSpaced : ℕ → List ℕ → Link H → Type 0
  AreSpaced wait [] l = Unit {0}
  AreSpaced wait (now ∷ later) l = (later_by wait l.controller.session ≤ now) × AreSpaced wait later (run answer_of after (round now) l)

  -- a first session, at a reader at the controller's address that isn't busy, where orders go out one after the other: whatever was submitted and queued,
  -- the opening round and n more, each as late as the poll's interval asks, settle and report in turn, and the session lasts
  abbrev pub GoesInTurn : Type 0
  GoesInTurn = (l : Link H) (orders : List (Move H)) (opening wait : ℕ) (moments : List ℕ) → Begins l → All IsOrder orders
      → MovesFit answer_of after orders l
      → l.reader.config.address ≡ l.controller.session.config.address → l.reader.busy ≡ false
      → IfSome (moment_of l.controller.session.state) (λ quiet. quiet ≤ opening) → l.controller.session.config.poll_interval ≤ wait
      → l.controller.session.config.poll_between_orders ≡ false
      → let before = run answer_of after orders l in
      All SetsNoAddress before.controller.waiting
      → AreSpaced wait moments (run answer_of after (round opening) before) → MovesFit answer_of after (rounds (opening ∷ moments)) before
      → let last = run answer_of after (rounds (opening ∷ moments)) before in
      IsInTurn l.reader.config l.reader.handler (length moments) before.controller.waiting before.reader.queue.events
      (all_taken answer_of after (rounds (opening ∷ moments)) before) (with_reports (reports answer_of after (rounds (opening ∷ moments)) before) nothing_told)
      × (is_closed last.controller.session.state ≡ false)
