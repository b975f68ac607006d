use Rattle.osdp_c_values.specs.Pieces.{two_digits}
use Rattle.osdp_c_values.proofs.Putting.{failed, nothing_put, piece_more, piece_without_room, pieces_done}
use Rattle.osdp_c_values.proofs.pieces.put_digits.Goals as goal

pub loop-byte-init : goal.loop-byte-init
loop-byte-init c = nothing_put c.args.at c.args.out.now

pub loop-byte-preserved : goal.loop-byte-preserved
loop-byte-preserved c =
    piece_more two_digits c.args.list.now c.loop-byte.byte-index 0 c.loop-byte-test.true c.loop-byte.invariant c.in_ok-end.ensures

pub returns-in_err-end : goal.returns-in_err-end
returns-in_err-end c =
    failed _ c.args.at c.args.out.now c.from_residual.result _ _ c.from_residual.ensures.0
    (piece_without_room two_digits _ c.args.list.now c.loop-byte.byte-index 0 c.loop-byte-test.true c.loop-byte.invariant c.in_err-end.ensures)

pub returns : goal.returns
returns c = pieces_done two_digits c.args.list.now c.loop-byte.byte-index c.loop-byte-test.false c.loop-byte.invariant
