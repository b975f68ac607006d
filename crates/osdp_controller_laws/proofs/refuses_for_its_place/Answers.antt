use Rattle.osdp_controller_laws.proofs.Room.{refuses_for_its_place}
use Rattle.osdp_controller_laws.proofs.refuses_for_its_place.Goals as goal

pub returns : goal.returns
returns c = refuses_for_its_place
