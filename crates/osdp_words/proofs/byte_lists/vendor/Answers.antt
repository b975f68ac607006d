use Rattle.std.proofs.Common.{arith}
use Rattle.osdp_words.proofs.HexWords.{sized_reads}
use Rattle.osdp_words.proofs.byte_lists.vendor.Goals as goal

pub returns : goal.returns
returns c = rw (c.ok.ensures.value, c.from_hex.ensures) (sized_reads c.args.word.now 3 (omega arith))
