use Rattle.osdp_line_laws.proofs.Beside.{listens_always}
use Rattle.osdp_line_laws.proofs.panels_listen_as_their_bus.Goals as goal

pub returns : goal.returns
returns c = listens_always
