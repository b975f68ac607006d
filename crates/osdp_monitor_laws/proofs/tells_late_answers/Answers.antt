use Rattle.osdp_monitor_laws.proofs.Telling.{tells_late_answers}
use Rattle.osdp_monitor_laws.proofs.tells_late_answers.Goals as goal

pub returns : goal.returns
returns c = tells_late_answers
