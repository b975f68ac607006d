use Rattle.std.proofs.Common.{refl}
use Rattle.osdp_check.specs.Crc.{bits_of}
use Rattle.osdp_check.proofs.Pieces.{bits_of-one, bits_of-append}
use Rattle.osdp_check.proofs.laws.bits_in_pieces.Goals as goal

pub returns-clause-none : goal.returns-clause-none
unfolding bits_of
returns-clause-none c = refl

pub returns-clause-one : goal.returns-clause-one
returns-clause-one c = bits_of-one

pub returns-clause-more : goal.returns-clause-more
returns-clause-more c = bits_of-append
