use Rattle.osdp_frame_laws.proofs.Silences.{silences_end_runs}
use Rattle.osdp_frame_laws.proofs.silences_end_runs.Goals as goal

pub returns : goal.returns
returns c = silences_end_runs
