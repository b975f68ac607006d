use Rattle.osdp_tool_monitor_laws.proofs.Telling.{tells_diagnoses}
use Rattle.osdp_tool_monitor_laws.proofs.tells_diagnoses.Goals as goal

pub returns : goal.returns
returns c = tells_diagnoses
