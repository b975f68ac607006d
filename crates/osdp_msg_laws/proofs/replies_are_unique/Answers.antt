use Rattle.osdp_msg_laws.proofs.ReplyLaws.{reply_laws}
use Rattle.osdp_msg_laws.proofs.replies_are_unique.Goals as goal

pub returns-clause-value : goal.returns-clause-value
returns-clause-value c = reply_laws.one_value

pub returns-clause-spelling : goal.returns-clause-spelling
returns-clause-spelling c = reply_laws.one_spelling
