use Rattle.osdp_msg.proofs.Common.{None, Some, codes, refl, Ack, LocalState, Com, Busy, ReplyFits}
use Rattle.osdp_msg.proofs.ReplyTextRows.{bare_by_names, made_by_names, reply_fields, reply_name}
use Rattle.osdp_msg.proofs.RowTexts.{made_row_read}
use Rattle.osdp_msg.proofs.reply.parse_row.Goals as goal

pub returns-in_err-parse-in-LSTATR : goal.returns-in_err-parse-in-LSTATR
returns-in_err-parse-in-LSTATR c = rw c.in-LSTATR.is (made_row_read reply_name reply_fields ReplyFits (codes "LSTATR") LocalState (λ x. refl) (λ m. (made_by_names m).0) c.args.fields None _ c.in_err-parse-in-LSTATR.ensures c.from_residual-in_err-parse-in-LSTATR.ensures)

pub returns-in_ok-parse-in-LSTATR : goal.returns-in_ok-parse-in-LSTATR
returns-in_ok-parse-in-LSTATR c = rw c.in-LSTATR.is (made_row_read reply_name reply_fields ReplyFits (codes "LSTATR") LocalState (λ x. refl) (λ m. (made_by_names m).0) c.args.fields (Some _) _ c.in_ok-parse-in-LSTATR.ensures refl)

pub returns-in_err-parse-in-COM : goal.returns-in_err-parse-in-COM
returns-in_err-parse-in-COM c = rw c.in-COM.is (made_row_read reply_name reply_fields ReplyFits (codes "COM") Com (λ x. refl) (λ m. (made_by_names m).1) c.args.fields None _ c.in_err-parse-in-COM.ensures c.from_residual-in_err-parse-in-COM.ensures)

pub returns-in_ok-parse-in-COM : goal.returns-in_ok-parse-in-COM
returns-in_ok-parse-in-COM c = rw c.in-COM.is (made_row_read reply_name reply_fields ReplyFits (codes "COM") Com (λ x. refl) (λ m. (made_by_names m).1) c.args.fields (Some _) _ c.in_ok-parse-in-COM.ensures refl)

pub returns-in_err-parse_nothing-in-ACK : goal.returns-in_err-parse_nothing-in-ACK
returns-in_err-parse_nothing-in-ACK c = rw c.in-ACK.is (made_row_read reply_name reply_fields ReplyFits (codes "ACK") (λ nothing. Ack) (λ nothing. refl) (λ m. (bare_by_names m).0) c.args.fields None _ c.in_err-parse_nothing-in-ACK.ensures c.from_residual.ensures)

pub returns-in_err-parse_nothing-in-BUSY : goal.returns-in_err-parse_nothing-in-BUSY
returns-in_err-parse_nothing-in-BUSY c = rw c.in-BUSY.is (made_row_read reply_name reply_fields ReplyFits (codes "BUSY") (λ nothing. Busy) (λ nothing. refl) (λ m. (bare_by_names m).1) c.args.fields None _ c.in_err-parse_nothing-in-BUSY.ensures c.from_residual-in_err-parse_nothing-in-BUSY.ensures)
