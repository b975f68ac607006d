use Rattle.std.proofs.Common.{sym}
use Rattle.osdp_check.specs.Crc.{crc, initial}
use Rattle.osdp_check.proofs.Pieces.{crc_from-nil}
use Rattle.osdp_check.proofs.crc.Crc16Check.start.Goals as goal

pub returns : goal.returns
unfolding crc
returns c = sym (crc_from-nil initial)
