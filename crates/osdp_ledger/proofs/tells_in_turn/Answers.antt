use Rattle.osdp_ledger.proofs.Untold.{tells_in_turn}
use Rattle.osdp_ledger.proofs.tells_in_turn.Goals as goal

pub returns : goal.returns
returns c = tells_in_turn
