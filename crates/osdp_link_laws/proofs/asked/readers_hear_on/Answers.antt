use Rattle.osdp_link_laws.proofs.HearingOn.{hears_on}
use Rattle.osdp_link_laws.proofs.asked.readers_hear_on.Goals as goal

pub returns : goal.returns
returns g c = hears_on g.H.Handler.answer_of g.H.Handler.after
