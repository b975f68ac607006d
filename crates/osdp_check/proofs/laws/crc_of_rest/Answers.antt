use Rattle.osdp_check.proofs.Pieces.{crc_of_rest}
use Rattle.osdp_check.proofs.laws.crc_of_rest.Goals as goal

pub returns : goal.returns
returns c = crc_of_rest
