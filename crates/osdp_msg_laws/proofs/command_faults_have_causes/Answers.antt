use Rattle.osdp_msg_laws.proofs.CommandCauses.{command_causes}
use Rattle.osdp_msg_laws.proofs.command_faults_have_causes.Goals as goal

pub returns : goal.returns
returns c = command_causes
