use Rattle.osdp_program_days.proofs.InC.{day_in_c_keeps}
use Rattle.osdp_program_days.proofs.a_day_in_c_keeps_the_premises.Goals as goal

pub returns : goal.returns
returns c = day_in_c_keeps
