use Rattle.osdp_bus_laws.proofs.Sending.{sessions_begin_alone}
use Rattle.osdp_bus_laws.proofs.sessions_begin_alone.Goals as goal

pub returns : goal.returns
returns c = sessions_begin_alone
