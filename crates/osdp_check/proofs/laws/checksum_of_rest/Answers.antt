use Rattle.osdp_check.proofs.Sums.{checksum_of_rest}
use Rattle.osdp_check.proofs.laws.checksum_of_rest.Goals as goal

pub returns : goal.returns
returns c = checksum_of_rest
