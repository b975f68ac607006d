use Rattle.osdp_tool_monitor.proofs.Common.{subst, Err, List, ℕ, string_bytes, inner_of, has_failed, on_err, Piece, TellsPiece, Wrote, TakesPiece}
use Rattle.osdp_tool_monitor.proofs.Writing.{piece_part}
use Rattle.osdp_tool_monitor.proofs.session.Session.tell_piece.Goals as goal

pub returns-in_err-tell : goal.returns-in_err-tell
returns-in_err-tell g c =
    let text = string_bytes c.take_piece.new.text in
    let piece : Piece = record { bytes = c.args.piece.now; moment = c.args.now } in
    let before = g.W.Write.contents (inner_of c.args.output.now) in
    let after = g.W.Write.contents (inner_of c.tell.new.output) in
    on_err (λ r. TellsPiece piece c.args.self.now c.take_piece.new.self before after (has_failed c.tell.new.output) r) c.from_residual.result c.in_err-tell.field-0.0 c.from_residual.ensures.1
    (piece_part piece c.args.self.now c.take_piece.new.self c.in-Ok.good text before after (has_failed c.tell.new.output) c.in_err-tell.field-0.0
    (subst (λ (t : List ℕ). TakesPiece c.in-Ok.good piece c.args.self.now c.take_piece.new.self t text) c.clear.ensures.bytes c.in-Ok.ensures.takes)
    (subst (λ (t : List ℕ). Wrote t before after (has_failed c.tell.new.output) (Err c.in_err-tell.field-0.0)) c.deref.ensures c.in_err-tell.ensures))
