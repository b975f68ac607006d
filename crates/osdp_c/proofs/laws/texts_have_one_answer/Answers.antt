use Rattle.osdp_c.proofs.OneAnswer.{one_command_text, one_reply_text}
use Rattle.osdp_c.proofs.laws.texts_have_one_answer.Goals as goal

pub returns-clause-commands : goal.returns-clause-commands
returns-clause-commands c = one_command_text

pub returns-clause-replies : goal.returns-clause-replies
returns-clause-replies c = one_reply_text
