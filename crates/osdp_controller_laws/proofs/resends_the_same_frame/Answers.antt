use Rattle.osdp_controller_laws.proofs.Lasting.{resends_the_same}
use Rattle.osdp_controller_laws.proofs.Stepwise.{sends_its_frame}
use Rattle.osdp_controller_laws.proofs.resends_the_same_frame.Goals as goal

pub returns : goal.returns
returns c = record { same = resends_the_same; outstanding = sends_its_frame }
