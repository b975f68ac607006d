use Rattle.osdp_program_days.proofs.ByLines.{day_by_lines_keeps}
use Rattle.osdp_program_days.proofs.a_day_by_lines_keeps_the_premises.Goals as goal

pub returns : goal.returns
returns c = day_by_lines_keeps
