-- A controller whose commands are kept as their bytes, in one queue: the one that is on its way, and then those that wait.
use Rattle.std.specs.Prelude.{◌≡◌, ◌≤◌, ◌+◌, ◌*◌, ℕ, true, All, nat_le, if◌then◌else◌, List, [], ◌∷◌, drop, is_some, length, map}
use Rattle.osdp_msg.specs.declared.limits.Room.{Room}
use Rattle.osdp_msg.specs.Kept.{command_kept}
use Rattle.osdp_msg.specs.Limits.{most_data}
use Rattle.osdp_ring.specs.Ring.{Strings}
use Rattle.osdp_controller.specs.declared.session.KeptSession.{KeptSession}
use Rattle.osdp_controller.specs.declared.session.Session.{Session}
use Rattle.osdp_controller.specs.declared.state.State.{State}
use Rattle.osdp_controller.specs.Commands.{IsCommand}
use Rattle.osdp_controller.specs.Held.{on_its_way, state_in}
use Rattle.osdp_controller.specs.Machine.{IsMachine, Machine}

-- the session that is kept, with the bytes of the command that stands first
abbrev pub session_of : KeptSession → List ℕ → Session
session_of k bytes = record { config = k.config; state = state_in k.at bytes; number = k.number; asked = k.asked; greatest = k.greatest }

-- what stands first; a POLL where nothing does
abbrev pub first_of : List (List ℕ) → List ℕ
first_of [] = 0x60 ∷ []
first_of (bytes ∷ rest) = bytes

-- what waits: all but the command that is on its way, which stands first
abbrev pub waiting_in : State → List (List ℕ) → List (List ℕ)
waiting_in state items = if is_some (on_its_way state) then drop 1 items else items

-- the machine that a session and the bytes of its commands make
abbrev pub machine_of : Session → Strings → Room → Machine
machine_of session queue room = record {
  session = session;
  waiting = map command_kept (waiting_in session.state queue.items);
  capacity = room.messages;
  room = room.bytes;
}

-- how many bytes the queue has: those of one more message, where there is room for each however long
abbrev pub bytes_for : Room → ℕ
bytes_for room = if nat_le (room.messages * (1 + most_data)) room.bytes then room.bytes + (1 + most_data) else room.bytes

-- what holds of them
pub record IsController (session : Session) (queue : Strings) (room : Room) : Type 0 where
  pub machine : IsMachine (machine_of session queue room)
  pub commands : All IsCommand queue.items
  pub first : is_some (on_its_way session.state) ≡ true → 1 ≤ length queue.items
  pub places : queue.capacity ≡ room.messages + 1
  pub bytes : queue.room ≡ bytes_for room
