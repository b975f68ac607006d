use Rattle.osdp_msg.specs.ReplyText.{reply_text, reply_words}
use Rattle.osdp_msg_laws.proofs.reply_text_joins_words.Goals as goal

pub returns : goal.returns
unfolding reply_text
returns c = λ m. c.joins_by_spaces.ensures (reply_words m)
