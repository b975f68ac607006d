use Rattle.osdp_time_laws.proofs.Timely.{stays_timely}
use Rattle.osdp_time_laws.proofs.controllers_wait_their_time.Goals as goal

pub returns : goal.returns
returns c = stays_timely
