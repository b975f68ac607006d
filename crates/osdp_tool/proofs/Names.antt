-- No words are of a command and of a reply.
use Rattle.osdp_tool.proofs.Common.{◌≡◌, ℕ, false, List, [], ◌∷◌, refl, sym, ◌∙◌, AllStandFor, command_words}
use Rattle.osdp_msg.specs.declared.command.Command.{Command}
use Rattle.osdp_msg.specs.declared.command.Command.TheVariants as command
use Rattle.osdp_msg.specs.declared.reply.Reply.{Reply}
use Rattle.osdp_msg.specs.declared.reply.Reply.TheVariants as reply
use Rattle.osdp_msg.proofs.CommandTextRows.{command_name}
use Rattle.osdp_msg.specs.ReplyText.{reply_words}
use Rattle.osdp_msg.proofs.ReplyTextRows.{reply_name}
use Rattle.osdp_msg.proofs.RowTexts.{differ, same}

names_differ : (c : Command) (r : Reply) → same (command_name c) (reply_name r) ≡ false
names_differ command.Poll reply.Ack = refl
names_differ c reply.Ack = refl
names_differ c r = refl

-- words are of a command or of a reply, not of both
pub not_both : (c : Command) (r : Reply) (given : List (List ℕ)) → AllStandFor (command_words c) given → AllStandFor (reply_words r) given → ⊥
not_both c r [] a b = a
not_both c r (word ∷ words) a b = differ (command_name c) (reply_name r) (names_differ c r) (sym a.0 ∙ b.0)
