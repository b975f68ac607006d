use Rattle.osdp_line_laws.proofs.ReaderRuns.{runs_are_calls}
use Rattle.osdp_line_laws.proofs.a_devices_run_is_its_calls.Goals as goal

pub returns : goal.returns
returns c = runs_are_calls
