use Rattle.osdp_msg.proofs.ReplyRows.{reason_again, reason_back, reason_byte}
use Rattle.osdp_msg_laws.proofs.reasons_are_unique.Goals as goal

pub returns : goal.returns
returns c = (reason_back, λ r fits. (reason_again r fits, reason_byte r fits))
