use Rattle.osdp_ledger.proofs.Skipping.{skips_none}
use Rattle.osdp_ledger.proofs.skips_none.Goals as goal

pub returns : goal.returns
returns c = skips_none
