-- The names of commands and of replies are plain words.
use Rattle.osdp_msg_laws.proofs.Common.{lit<, refl, plain, Command, Poll, Reply, Ack, command_name, reply_name, IsPlainWord}
use Rattle.osdp_msg_laws.proofs.PlainWords.{name_plain}

pub command_name_plain : (m : Command) → IsPlainWord (plain (command_name m))
command_name_plain Poll = name_plain (command_name Poll) (lit< tt) refl refl
command_name_plain m = name_plain (command_name m) (lit< tt) refl refl

pub reply_name_plain : (m : Reply) → IsPlainWord (plain (reply_name m))
reply_name_plain Ack = name_plain (reply_name Ack) (lit< tt) refl refl
reply_name_plain m = name_plain (reply_name m) (lit< tt) refl refl
