use Rattle.osdp_line_laws.proofs.OfPanels.{of_line}
use Rattle.osdp_line_laws.proofs.a_line_is_a_call.Goals as goal

pub returns : goal.returns
returns c = λ s given text next a. of_line s given text next a.called a.is a.text_is a.next_is
