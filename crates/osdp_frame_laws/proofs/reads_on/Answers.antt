use Rattle.osdp_frame_laws.proofs.Calls.{new_after, reads_on}
use Rattle.osdp_frame_laws.proofs.reads_on.Goals as goal

pub returns-clause-new : goal.returns-clause-new
returns-clause-new c = new_after

pub returns-clause-later : goal.returns-clause-later
returns-clause-later c = reads_on
