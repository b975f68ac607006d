use Rattle.osdp_check.proofs.Pieces.{crc_from-xor}
use Rattle.osdp_check.proofs.laws.crc_from_another_start.Goals as goal

pub returns : goal.returns
returns c = crc_from-xor
