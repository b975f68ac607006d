use Rattle.osdp_refused_words.specs.Messages.{SaysCommand, SaysReply}
use Rattle.osdp_refused_words.proofs.Places.{stays_refused}
use Rattle.osdp_refused_words.proofs.laws.stays_refused.Goals as goal

pub returns-clause-commands : goal.returns-clause-commands
returns-clause-commands c = stays_refused SaysCommand

pub returns-clause-replies : goal.returns-clause-replies
returns-clause-replies c = stays_refused SaysReply
