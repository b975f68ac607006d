use Rattle.osdp_controller_laws.proofs.Places.{numbers_by_place}
use Rattle.osdp_controller_laws.proofs.exchanges_have_their_numbers.Goals as goal

pub returns : goal.returns
returns c = numbers_by_place
