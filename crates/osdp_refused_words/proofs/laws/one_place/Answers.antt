use Rattle.osdp_refused_words.specs.Messages.{SaysCommand, SaysReply}
use Rattle.osdp_refused_words.proofs.Places.{one_place}
use Rattle.osdp_refused_words.proofs.laws.one_place.Goals as goal

pub returns-clause-commands : goal.returns-clause-commands
returns-clause-commands c = one_place SaysCommand

pub returns-clause-replies : goal.returns-clause-replies
returns-clause-replies c = one_place SaysReply
