use Rattle.osdp_msg.specs.CommandText.{command_text, command_words}
use Rattle.osdp_msg_laws.proofs.command_text_joins_words.Goals as goal

pub returns : goal.returns
unfolding command_text
returns c = λ m. c.joins_by_spaces.ensures (command_words m)
