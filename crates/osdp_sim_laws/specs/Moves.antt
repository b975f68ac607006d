-- What the steps of a schedule are to the link.
use Rattle.std.specs.Prelude.{◌≡◌, ℕ, ◌+◌, true, ◌==◌, if◌then◌else◌, List, [], ◌∷◌, ◌++◌, length, map}
use Rattle.osdp_msg.specs.declared.command.Command.{Command}
use Rattle.osdp_controller.specs.Machine.{after_begin, new_machine}
use Rattle.osdp_frame.specs.Spelling.{spelling}
use Rattle.osdp_reader.specs.State.{new_reader}
use Rattle.osdp_reader.specs.declared.handler.Answer.{Answer}
use Rattle.osdp_link_laws.specs.Beginning.{Begins, MovesFit}
use Rattle.osdp_link_laws.specs.Link as link
use Rattle.osdp_link_laws.specs.Link.{Delivered, Delivery, Link, Lost, Repeated}
use Rattle.osdp_link_laws.specs.Reports.{all_taken, nothing_told, reports, with_reports}
use Rattle.osdp_link_laws.specs.Sessions.{all_begun, all_queued, all_submitted}
use Rattle.osdp_sim.specs.Account.{Account}
use Rattle.osdp_sim.specs.Runs.{AreSettings, FitAlong, is_well, run}
use Rattle.osdp_sim.specs.State.{SimState, room_for, set_up}
use Rattle.osdp_sim.specs.Steps.{moment_after}
use Rattle.osdp_sim.specs.declared.config.SimConfig.{SimConfig}
use Rattle.osdp_sim.specs.declared.step.Move as way
use Rattle.osdp_sim.specs.declared.step.Move.TheVariants.{Deliver, Drop, Repeat, Damage}
use Rattle.osdp_sim.specs.declared.step.SimStep.{SimStep}
use Rattle.osdp_sim.specs.declared.step.SimStep.TheVariants.{Issue, Queue, Busy, Wait, ToReader, ToController, Reopen}
use Rattle.osdp_sim_laws.specs.Accounts.{told_of}

-- damage that holds no packet is a loss
abbrev pub delivery : way.Move → Delivery
delivery Deliver = Delivered
delivery Drop = Lost
delivery Repeat = Repeated
delivery (Damage bytes) = Lost

-- the move of a step that names a reader: none unless it names the one that there is, whose number is 1
abbrev pub where_there : {H : Type 0} → ℕ → link.Move H → List (link.Move H)
where_there number move = if number == 1 then move ∷ [] else []

-- the move that a step is, at a moment
abbrev pub move_of : {H : Type 0} → SimStep → ℕ → List (link.Move H)
move_of (Issue number command) clock = where_there number (link.Submit command)
move_of (Queue number event) clock = where_there number (link.Queue event)
move_of (Busy number busy) clock = where_there number (link.SetBusy busy)
move_of (Wait wait) clock = link.Tick (moment_after wait clock) ∷ []
move_of (ToReader move) clock = link.ToReader (delivery move) ∷ []
move_of (ToController move) clock = link.ToController (delivery move) clock ∷ []
move_of (Reopen number) clock = where_there number (link.Reopen clock)

-- the moment after it
abbrev pub step_clock : SimStep → ℕ → ℕ
step_clock (Wait wait) clock = moment_after wait clock
step_clock _ clock = clock

-- the moment after a list of steps
abbrev pub clock_after : List SimStep → ℕ → ℕ
clock_after [] clock = clock
clock_after (step ∷ steps) clock = clock_after steps (step_clock step clock)

-- the moves that a list of steps is, each at the moment that the steps before it have come to
abbrev pub moves_of : {H : Type 0} → List SimStep → ℕ → List (link.Move H)
moves_of [] clock = []
moves_of (step ∷ steps) clock = move_of step clock ++ moves_of steps (step_clock step clock)

module _ {H : Type 0} where
  -- a link whose packets go over the line in bytes
  abbrev pub in_bytes : Link H → ℕ → Account → SimState H
  in_bytes l clock account = record {
    controller = l.controller;
    reader = l.reader;
    to_reader = map spelling l.to_reader;
    to_controller = map spelling l.to_controller;
    clock = clock;
    account = account;
  }

  -- the link at the beginning of a schedule
  abbrev pub first_link : SimConfig → H → Link H
  first_link config handler = record {
    controller = after_begin 0 (new_machine config.controller config.commands (room_for config.commands).bytes);
    reader = new_reader config.reader handler (room_for config.events);
    to_reader = [];
    to_controller = [];
  }

  -- the simulation is this link, with its packets as bytes
  abbrev pub FollowsLink : SimState H → Link H → ℕ → Type 0
  FollowsLink s l clock = s ≡ in_bytes l clock s.account

  module _ (answer_of : H → Command → Answer) (after : H → Command → H) where
    -- an account has the commands that moves submit, those of them that the reader takes, and the events that they queue; what they tell; and their sessions
    pub record TellsOfMoves (a : Account) (moves : List (link.Move H)) (l : Link H) : Type 0 where
      pub issued : a.issued ≡ all_submitted answer_of after moves l
      pub taken : a.taken ≡ all_taken answer_of after moves l
      pub queued : a.queued ≡ all_queued answer_of after moves l
      pub told : told_of a ≡ with_reports (reports answer_of after moves l) nothing_told
      pub sessions : length a.sessions ≡ all_begun answer_of after moves l + 1

    -- a schedule is the moves that its steps are: from a link on which the first session begins they lead to where the simulation comes to
    pub record IsMoves (config : SimConfig) (handler : H) (steps : List SimStep) : Type 0 where
      pub begins : Begins (first_link config handler)
      pub fit : MovesFit answer_of after (moves_of steps 0) (first_link config handler)
      pub follows : FollowsLink (run answer_of after steps (set_up config handler))
          (link.run answer_of after (moves_of steps 0) (first_link config handler)) (clock_after steps 0)
      -- its account tells of these moves
      pub tells : TellsOfMoves (run answer_of after steps (set_up config handler)).account (moves_of steps 0) (first_link config handler)

    -- each schedule is so of which no step is refused, where the settings are in their ranges and what goes over the line fits
    abbrev pub ScheduleIsMoves : Type 0
    ScheduleIsMoves = (config : SimConfig) (handler : H) (steps : List SimStep) → AreSettings config
        → is_well answer_of after steps (set_up config handler) ≡ true → FitAlong answer_of after steps (set_up config handler)
        → IsMoves config handler steps
