use Rattle.osdp_tool_inputs.proofs.Held.{names_places, times_by_runs as the_law}
use Rattle.osdp_tool_inputs.proofs.laws.times_by_runs.Goals as goal

pub returns-clause-runs : goal.returns-clause-runs
returns-clause-runs c = the_law

pub returns-clause-places : goal.returns-clause-places
returns-clause-places c = names_places
