use Rattle.osdp_refused_words.specs.Messages.{SaysCommand, SaysReply}
use Rattle.osdp_refused_words.proofs.Places.{tells_missing_words}
use Rattle.osdp_refused_words.proofs.laws.tells_missing_words.Goals as goal

pub returns-clause-commands : goal.returns-clause-commands
returns-clause-commands c = tells_missing_words SaysCommand

pub returns-clause-replies : goal.returns-clause-replies
returns-clause-replies c = tells_missing_words SaysReply
