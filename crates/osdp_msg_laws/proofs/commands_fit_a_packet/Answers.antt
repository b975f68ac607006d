use Rattle.osdp_msg_laws.proofs.CommandLaws.{command_laws}
use Rattle.osdp_msg_laws.proofs.commands_fit_a_packet.Goals as goal

pub returns : goal.returns
returns c = command_laws.fits
