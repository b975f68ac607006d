use Rattle.osdp_check.proofs.Pieces.{crc_from-nil, crc_from-append}
use Rattle.osdp_check.proofs.laws.crc_in_pieces.Goals as goal

pub returns-clause-none : goal.returns-clause-none
returns-clause-none c = crc_from-nil

pub returns-clause-more : goal.returns-clause-more
returns-clause-more c = crc_from-append
