use Rattle.osdp_calls.proofs.Turning.{turns_by_calls}
use Rattle.osdp_calls.proofs.turns_are_calls.Goals as goal

pub returns : goal.returns
returns c = turns_by_calls
