use Rattle.osdp_tool_times.proofs.Busy.{counts_no_busy, tells_busy, tells_no_doubt}
use Rattle.osdp_tool_times.proofs.laws.busy_is_an_answer.Goals as goal

pub returns-clause-time : goal.returns-clause-time
returns-clause-time c = tells_busy

pub returns-clause-doubt : goal.returns-clause-doubt
returns-clause-doubt c = tells_no_doubt

pub returns-clause-presence : goal.returns-clause-presence
returns-clause-presence c = counts_no_busy
