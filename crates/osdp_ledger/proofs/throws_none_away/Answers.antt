use Rattle.osdp_ledger.proofs.Plain.{throws_none_away}
use Rattle.osdp_ledger.proofs.throws_none_away.Goals as goal

pub returns : goal.returns
returns c = throws_none_away
