use Rattle.osdp_msg_laws.proofs.CommandLaws.{command_laws}
use Rattle.osdp_msg_laws.proofs.commands_are_unique.Goals as goal

pub returns-clause-value : goal.returns-clause-value
returns-clause-value c = command_laws.one_value

pub returns-clause-spelling : goal.returns-clause-spelling
returns-clause-spelling c = command_laws.one_spelling
