use Rattle.osdp_reader_laws.proofs.PlainReplies.{acted_plain}
use Rattle.osdp_reader_laws.proofs.answers_plainly.Goals as goal

pub returns : goal.returns
returns g c r p acted = acted_plain g.H.Handler.answer_of g.H.Handler.after r p acted
