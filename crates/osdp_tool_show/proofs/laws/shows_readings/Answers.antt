use Rattle.osdp_tool_show.proofs.Readings.{some_readings, shown_is, refused_is}
use Rattle.osdp_tool_show.proofs.laws.shows_readings.Goals as goal

pub returns : goal.returns
returns c = record { some = some_readings; text = shown_is; refused = refused_is }
