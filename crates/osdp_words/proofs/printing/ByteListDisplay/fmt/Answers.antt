use Rattle.std.proofs.Common.{rules}
use Rattle.std.proofs.Output.{has_written_append, has_written_of_eq}
use Rattle.hex.specs.Hex.{encode_with}
use Rattle.osdp_words.proofs.HexDigits.{printed_more}
use Rattle.osdp_words.proofs.printing.ByteListDisplay.fmt.Goals as goal

pub loop-byte-init : goal.loop-byte-init
unfolding encode_with
loop-byte-init g c = search rules

pub loop-byte-preserved : goal.loop-byte-preserved
loop-byte-preserved g c = λ plain.
    has_written_of_eq _ _ _ _ _ (printed_more c.args.self.now.0.now c.loop-byte.byte-index _ c.loop-byte-test.true c.ranged.ensures.value c.ranged.ensures.range)
    (has_written_append _ _ _ _ _ _ (c.loop-byte.invariant plain) (search rules))
