use Rattle.osdp_controller_laws.proofs.Stepwise.{exchanges_in_steps}
use Rattle.osdp_controller_laws.proofs.exchanges_in_steps.Goals as goal

pub returns : goal.returns
returns c = exchanges_in_steps
