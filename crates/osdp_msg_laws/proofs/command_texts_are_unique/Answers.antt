use Rattle.osdp_msg_laws.proofs.CommandTexts.{command_texts}
use Rattle.osdp_msg_laws.proofs.command_texts_are_unique.Goals as goal

pub returns-clause-words : goal.returns-clause-words
returns-clause-words c = command_texts.one_meaning

pub returns-clause-text : goal.returns-clause-text
returns-clause-text c = command_texts.one_text
