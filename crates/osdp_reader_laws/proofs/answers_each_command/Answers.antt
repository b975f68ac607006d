use Rattle.osdp_reader_laws.proofs.Replies.{asks_once}
use Rattle.osdp_reader_laws.proofs.answers_each_command.Goals as goal

pub returns-clause-handled : goal.returns-clause-handled
returns-clause-handled g c = asks_once g.H.Handler.answer_of g.H.Handler.after
