use Rattle.osdp_reader_laws.proofs.Adding.{adds}
use Rattle.osdp_reader_laws.proofs.adds_between_packets.Goals as goal

pub returns : goal.returns
returns g c = adds g.H.Handler.answer_of g.H.Handler.after
