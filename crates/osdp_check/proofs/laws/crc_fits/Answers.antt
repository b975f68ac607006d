use Rattle.osdp_check.proofs.Pieces.{crc-lt}
use Rattle.osdp_check.proofs.laws.crc_fits.Goals as goal

pub returns : goal.returns
returns c = crc-lt
