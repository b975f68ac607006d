-- What was accepted in moves, and how many sessions began in them. What becomes of commands and of events says the ledger (`osdp_link_ledger`).
use Rattle.std.specs.Prelude.{◌≡◌, ℕ, zero, suc, ◌+◌, Bool, true, false, List, [], ◌∷◌, ◌++◌, Option, Some, None, ◌⊎◌}
use Rattle.osdp_msg.specs.declared.command.Command.{Command}
use Rattle.osdp_msg.specs.declared.event.Event.{Event}
use Rattle.osdp_frame.specs.Packet.{Packet}
use Rattle.osdp_controller.specs.Machine.{begin_refusal, submit_refusal}
use Rattle.osdp_controller.specs.declared.fault.ControllerFault.{ControllerFault}
use Rattle.osdp_reader.specs.declared.handler.Answer.{Answer}
use Rattle.osdp_reader.specs.Queue.{lacks_room}
use Rattle.osdp_link_laws.specs.Link.{Link, Move, Queue, Reopen, RestartReader, Submit, after_move}

-- a list is the beginning of another
abbrev pub IsBeginning : {A : Type 0} → List A → List A → Type 0
IsBeginning {A} xs ys = (rest : List A) × (ys ≡ xs ++ rest)

-- some of a list, in its order: the first of it is left out, or comes first
abbrev pub IsAmong : {A : Type 0} → List A → List A → Type 0
IsAmong {A} some [] = some ≡ []
IsAmong {A} some (x ∷ all) = IsAmong some all ⊎ ((rest : List A) × (some ≡ x ∷ rest) × IsAmong rest all)

-- a command that is submitted, unless it is refused
abbrev pub accepted : Option ControllerFault → Command → List Command
accepted None command = command ∷ []
accepted (Some fault) command = []

-- an event that is queued, unless the queue is full
abbrev pub unless_full : Bool → Event → List Event
unless_full true event = []
unless_full false event = event ∷ []

-- how many sessions a call that opens one begins: one where it isn't refused and nothing is on the line, and else none
abbrev pub begun_again : Option ControllerFault → List Packet → List Packet → ℕ
begun_again None [] [] = 1
begun_again _ _ _ = 0

-- how often the device has restarted in a session, after a move that begins so many sessions: not at all in a new one
abbrev pub kept_count : ℕ → ℕ → ℕ
kept_count zero count = count
kept_count (suc again) count = 0

module _ {H : Type 0} where
  -- the command that a move submits, where it is accepted
  abbrev pub submitted : Move H → Link H → List Command
  submitted (Submit command) l = accepted (submit_refusal command l.controller) command
  submitted _ l = []

  -- the event that a move queues, where there is room for it
  abbrev pub queued : Move H → Link H → List Event
  queued (Queue event) l = unless_full (lacks_room event l.reader.queue) event
  queued _ l = []

  module _ (answer_of : H → Command → Answer) (after : H → Command → H) where
    -- the commands that moves submit and that are accepted, in their order
    abbrev pub all_submitted : List (Move H) → Link H → List Command
    all_submitted [] l = []
    all_submitted (move ∷ moves) l = submitted move l ++ all_submitted moves (after_move answer_of after move l)

    -- the events that moves queue and for which there is room, in their order
    abbrev pub all_queued : List (Move H) → Link H → List Event
    all_queued [] l = []
    all_queued (move ∷ moves) l = queued move l ++ all_queued moves (after_move answer_of after move l)

    -- how many sessions a move begins: one or none
    abbrev pub begins : Move H → Link H → ℕ
    begins (Reopen now) l = begun_again (begin_refusal l.controller) l.to_reader l.to_controller
    begins _ l = 0

    -- how many sessions have begun again
    abbrev pub all_begun : List (Move H) → Link H → ℕ
    all_begun [] l = 0
    all_begun (move ∷ moves) l = begins move l + all_begun moves (after_move answer_of after move l)

    -- how often the device has restarted in the session, after a move: once more by a restart of the device, and not at all where the move begins a session
    abbrev pub restarts_after : Move H → Link H → ℕ → ℕ
    restarts_after (RestartReader config handler room) l count = suc count
    restarts_after move l count = kept_count (begins move l) count

    -- how often the device has restarted in the session that goes on after moves, where it had so often in the one before them
    abbrev pub restarts_in_session : List (Move H) → Link H → ℕ → ℕ
    restarts_in_session [] l count = count
    restarts_in_session (move ∷ moves) l count = restarts_in_session moves (after_move answer_of after move l) (restarts_after move l count)
