use Rattle.osdp_msg.proofs.ParsedRows.{nak_no_detail, nak_no_reason}
use Rattle.osdp_msg.proofs.TakenParts.{not_true}
use Rattle.osdp_msg.proofs.reply_fields.Nak.parse.Goals as goal

pub returns-in_err-number_u8 : goal.returns-in_err-number_u8
returns-in_err-number_u8 c = nak_no_reason _ _ _ c.in_err-number_u8.ensures c.from_residual.ensures

pub returns-in_err-detail : goal.returns-in_err-detail
returns-in_err-detail c =
    nak_no_detail _ _ _ _ _ c.in_ok-number_u8.ensures (λ e. not_true (c.if-is_empty.ensures.1 e)) c.in_err-detail.ensures c.from_residual-in_err-detail.ensures
