use Rattle.osdp_card_time_laws.proofs.Readers.{answers_tell, takes_as_queue}
use Rattle.osdp_card_time_laws.proofs.readers_take_as_queues.Goals as goal

pub returns : goal.returns
returns g c = record {
  queue = takes_as_queue g.H.Handler.answer_of g.H.Handler.after;
  told = answers_tell;
}
