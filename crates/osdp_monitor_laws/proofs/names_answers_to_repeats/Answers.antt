use Rattle.osdp_monitor_laws.proofs.Repeating.{names_answers_to_repeats}
use Rattle.osdp_monitor_laws.proofs.names_answers_to_repeats.Goals as goal

pub returns : goal.returns
returns c = names_answers_to_repeats
