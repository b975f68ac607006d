use Rattle.osdp_msg_laws.proofs.ReplyTexts.{reply_texts}
use Rattle.osdp_msg_laws.proofs.reply_texts_are_unique.Goals as goal

pub returns-clause-words : goal.returns-clause-words
returns-clause-words c = reply_texts.one_meaning

pub returns-clause-text : goal.returns-clause-text
returns-clause-text c = reply_texts.one_text
