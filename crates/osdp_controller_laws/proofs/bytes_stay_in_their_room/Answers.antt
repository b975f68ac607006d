use Rattle.osdp_controller_laws.proofs.Room.{refuses_for_its_bytes, stays_in_room}
use Rattle.osdp_controller_laws.proofs.bytes_stay_in_their_room.Goals as goal

pub returns : goal.returns
returns c = record { stay = stays_in_room; refused = refuses_for_its_bytes }
