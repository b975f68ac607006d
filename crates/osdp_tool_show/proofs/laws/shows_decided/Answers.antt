use Rattle.osdp_tool_show.proofs.Readings.{some_so_far, shown_so_far_is}
use Rattle.osdp_tool_show.proofs.laws.shows_decided.Goals as goal

pub returns : goal.returns
returns c = record { some = some_so_far; text = shown_so_far_is }
