use Rattle.osdp_line_laws.proofs.Commands.{panels_go_by_words}
use Rattle.osdp_line_laws.proofs.a_panels_words_decide.Goals as goal

pub returns : goal.returns
returns g c = panels_go_by_words g.R.Read.remaining g.W.Write.contents
