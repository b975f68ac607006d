use Rattle.osdp_controller_laws.proofs.Meanings.{means_what_it_says}
use Rattle.osdp_controller_laws.proofs.replies_mean_what_they_say.Goals as goal

pub returns : goal.returns
returns c = means_what_it_says
