use Rattle.osdp_c_values.proofs.Common.{arith, sym, ◌∙◌, longest_reply}
use Rattle.osdp_msg.specs.ReplyText.{reply_text}
use Rattle.osdp_c_values.proofs.Texts.{text_told}
use Rattle.osdp_c_values.proofs.text.write_reply_text.Goals as goal

-- the longest text has room
pub unreachable-requires : goal.unreachable-requires
unreachable-requires c = omega (arith, c.in_default.ensures, longest_reply.within c.in-Ok.message c.in-Ok.ensures.value.fits)

pub unreachable-requires-in_default-put_reply : goal.unreachable-requires-in_default-put_reply
unreachable-requires-in_default-put_reply c = omega (arith, c.in_default-put_reply.ensures, longest_reply.within c.in-Ok.message c.in-Ok.ensures.value.fits)

pub returns : goal.returns
returns c =
    rw (sym c.read.ensures.function ∙ c.in-Ok.is)
    (text_told (reply_text c.in-Ok.message) c.args.out.now c.in-Ok-put_reply.ensures c.if-length-out.false c.in-Ok-put_reply-2.ensures c.end_text.ensures)
