use Rattle.osdp_line_laws.proofs.Commands.{devices_go_by_words}
use Rattle.osdp_line_laws.proofs.a_devices_words_decide.Goals as goal

pub returns : goal.returns
returns g c = devices_go_by_words g.R.Read.remaining g.W.Write.contents
