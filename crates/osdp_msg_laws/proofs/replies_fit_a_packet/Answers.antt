use Rattle.osdp_msg_laws.proofs.ReplyLaws.{reply_laws}
use Rattle.osdp_msg_laws.proofs.replies_fit_a_packet.Goals as goal

pub returns : goal.returns
returns c = reply_laws.fits
