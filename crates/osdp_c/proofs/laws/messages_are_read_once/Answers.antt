use Rattle.osdp_c.proofs.OneAnswer.{one_command, one_event, one_event_told}
use Rattle.osdp_c.proofs.laws.messages_are_read_once.Goals as goal

pub returns-clause-commands : goal.returns-clause-commands
returns-clause-commands c = one_command

pub returns-clause-events : goal.returns-clause-events
returns-clause-events c = one_event

pub returns-clause-replies : goal.returns-clause-replies
returns-clause-replies c = one_event_told
