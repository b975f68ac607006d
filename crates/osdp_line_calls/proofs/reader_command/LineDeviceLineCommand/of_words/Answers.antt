use Rattle.osdp_line_calls.proofs.Common.{refl, new_device}
use Rattle.osdp_line_calls.proofs.reader_command.LineDeviceLineCommand.of_words.Goals as goal

pub returns-in-Err-clause-none : goal.returns-in-Err-clause-none
returns-in-Err-clause-none c = (new_device c.in-Ok.settings, (c.in-Ok.settings, c.in-Ok.ensures.reads.value, refl))
