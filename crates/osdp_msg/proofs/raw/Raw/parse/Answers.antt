use Rattle.std.proofs.Common.{refl}
use Rattle.osdp_msg.proofs.ParsedRows.{raw_made, raw_no_bits, raw_no_bytes, raw_no_reader, raw_not_whole}
use Rattle.osdp_msg.proofs.TakenParts.{not_true}
use Rattle.osdp_msg.proofs.raw.Raw.parse.Goals as goal

pub returns-in_err-reader : goal.returns-in_err-reader
returns-in_err-reader c = raw_no_reader _ _ _ c.in_err-reader.ensures c.from_residual.ensures

pub returns-in_err-bits : goal.returns-in_err-bits
returns-in_err-bits c =
    raw_no_bits _ _ _ _ _ c.in_ok-reader.ensures c.in_err-bits.ensures c.from_residual-in_err-bits.ensures

pub returns-in_err-bytes : goal.returns-in_err-bytes
returns-in_err-bytes c =
    raw_no_bytes _ _ _ _ _ _ _ c.in_ok-reader.ensures c.in_ok-bits.ensures c.in_err-bytes.ensures c.from_residual-in_err-bytes.ensures

pub returns-then-not-is_empty : goal.returns-then-not-is_empty
returns-then-not-is_empty c =
    raw_not_whole _ _ _ _ _ _ _ c.in_ok-reader.ensures c.in_ok-bits.ensures c.in_ok-bytes.ensures (λ end needed. not_true (c.if-not-is_empty.ensures.1 end))

pub returns : goal.returns
returns c =
    raw_made _ _ _ _ _ _ c.in_ok-bytes.bytes _ _ c.in_ok-reader.ensures c.in_ok-bits.ensures c.in_ok-bytes.ensures (c.if-not-is_empty.ensures.0 refl) c.bytes.ensures.value c.new.ensures
