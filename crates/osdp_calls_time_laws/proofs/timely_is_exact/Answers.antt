use Rattle.osdp_calls_time_laws.proofs.Deciding.{timely_exact}
use Rattle.osdp_calls_time_laws.proofs.timely_is_exact.Goals as goal

pub returns : goal.returns
returns g c = timely_exact
