use Rattle.osdp_msg_laws.proofs.ReplyCauses.{reply_causes}
use Rattle.osdp_msg_laws.proofs.reply_faults_have_causes.Goals as goal

pub returns : goal.returns
returns c = reply_causes
