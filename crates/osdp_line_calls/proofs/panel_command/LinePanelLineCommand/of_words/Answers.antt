use Rattle.std.proofs.Common.{refl}
use Rattle.osdp_line_calls.specs.Runs.{new_panel}
use Rattle.osdp_line_calls.proofs.panel_command.LinePanelLineCommand.of_words.Goals as goal

pub returns-in-Err-clause-none : goal.returns-in-Err-clause-none
returns-in-Err-clause-none c = (new_panel c.in-Ok.settings, (c.in-Ok.settings, c.in-Ok.ensures.reads.value, refl))
