use Rattle.osdp_calls_time_laws.proofs.Reading.{reads_are_handed_over}
use Rattle.osdp_calls_time_laws.proofs.reads_are_handed_over.Goals as goal

pub returns : goal.returns
returns c = reads_are_handed_over
