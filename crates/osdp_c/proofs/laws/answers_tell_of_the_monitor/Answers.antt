use Rattle.osdp_c.proofs.MonitorAnswers.{answers_tell_of_it, no_monitor_hears}
use Rattle.osdp_c.proofs.laws.answers_tell_of_the_monitor.Goals as goal

pub returns-clause-held : goal.returns-clause-held
returns-clause-held c = answers_tell_of_it

pub returns-clause-none : goal.returns-clause-none
returns-clause-none c = no_monitor_hears
