use Rattle.osdp_tool_times.proofs.Comments.{each_way}
use Rattle.osdp_tool_times.proofs.Placing.{places_first}
use Rattle.osdp_tool_times.proofs.Stamps.{tells_days, tells_seconds}
use Rattle.osdp_tool_times.proofs.laws.tells_moments.Goals as goal

pub returns-clause-ways : goal.returns-clause-ways
returns-clause-ways c = each_way

pub returns-clause-seconds : goal.returns-clause-seconds
returns-clause-seconds c = tells_seconds

pub returns-clause-days : goal.returns-clause-days
returns-clause-days c = tells_days

pub returns-clause-place : goal.returns-clause-place
returns-clause-place c = places_first
