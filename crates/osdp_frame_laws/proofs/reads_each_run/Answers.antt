use Rattle.osdp_frame_laws.proofs.Calls.{items_begin, reads_each_run}
use Rattle.osdp_frame_laws.proofs.reads_each_run.Goals as goal

pub returns-clause-each : goal.returns-clause-each
returns-clause-each c = reads_each_run

pub returns-clause-beginning : goal.returns-clause-beginning
returns-clause-beginning c = items_begin
