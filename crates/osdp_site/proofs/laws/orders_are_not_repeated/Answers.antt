use Rattle.osdp_site.proofs.States.{all_states}
use Rattle.osdp_site.proofs.laws.orders_are_not_repeated.Goals as goal

pub returns : goal.returns
returns c = all_states
