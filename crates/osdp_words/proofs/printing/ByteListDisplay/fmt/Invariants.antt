use Rattle.osdp_words.proofs.Common.{take, HasWritten, IsPlainFormatter, encode_upper}
use Rattle.osdp_words.proofs.printing.ByteListDisplay.fmt.Given as goal

abbrev pub invariant-loop-byte : goal.invariant-loop-byte
invariant-loop-byte g l =
    IsPlainFormatter l.initial.f → HasWritten g.W.Write.write_str_gives l.initial.f (encode_upper (take l.byte-index l.byte-items)) l.f
