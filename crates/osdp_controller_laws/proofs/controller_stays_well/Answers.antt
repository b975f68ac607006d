use Rattle.osdp_controller_laws.proofs.Making.{comes_of_its_settings}
use Rattle.osdp_controller_laws.proofs.Well.{stays_well}
use Rattle.osdp_controller_laws.proofs.controller_stays_well.Goals as goal

pub returns : goal.returns
returns c = record { well = stays_well; made = comes_of_its_settings }
