use Rattle.osdp_controller_laws.proofs.Causes.{hears_answers}
use Rattle.osdp_controller_laws.proofs.Replies.{answers_bring}
use Rattle.osdp_controller_laws.proofs.answers_are_heard.Goals as goal

pub returns : goal.returns
returns c = record { table = hears_answers; each = answers_bring }
