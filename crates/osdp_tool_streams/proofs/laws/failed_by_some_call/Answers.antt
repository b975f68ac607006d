use Rattle.osdp_tool_streams.proofs.WatchedLemmas.{WentThrough-fails}
use Rattle.osdp_tool_streams.proofs.laws.failed_by_some_call.Goals as goal

pub returns : goal.returns
returns g c = λ old new calls through. WentThrough-fails old new calls through
