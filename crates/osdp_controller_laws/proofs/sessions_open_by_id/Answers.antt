use Rattle.osdp_controller_laws.proofs.Openings.{opens_by_id}
use Rattle.osdp_controller_laws.proofs.sessions_open_by_id.Goals as goal

pub returns : goal.returns
returns c = opens_by_id
