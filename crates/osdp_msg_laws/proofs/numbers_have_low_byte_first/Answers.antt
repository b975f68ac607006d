use Rattle.osdp_msg_laws.proofs.OtherLaws.{low_byte_first}
use Rattle.osdp_msg_laws.proofs.numbers_have_low_byte_first.Goals as goal

pub returns : goal.returns
returns c = low_byte_first
