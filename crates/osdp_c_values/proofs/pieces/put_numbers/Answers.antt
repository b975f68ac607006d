use Rattle.osdp_c_values.proofs.Common.{◌++◌, decimal}
use Rattle.osdp_c_values.proofs.Putting.{failed, nothing_put, piece_more, piece_without_room, pieces_done}
use Rattle.osdp_c_values.proofs.pieces.put_numbers.Goals as goal

pub loop-one-init : goal.loop-one-init
loop-one-init c = nothing_put c.args.at c.args.out.now

pub loop-one-preserved : goal.loop-one-preserved
loop-one-preserved c =
    piece_more (λ n. c.args.before.now ++ decimal n) c.args.numbers.now c.loop-one.one-index 0 c.loop-one-test.true c.loop-one.invariant c.in_ok-end.ensures

pub returns-in_err-end : goal.returns-in_err-end
returns-in_err-end c =
    failed _ c.args.at c.args.out.now c.from_residual.result _ _ c.from_residual.ensures.0
    (piece_without_room (λ n. c.args.before.now ++ decimal n) _ c.args.numbers.now c.loop-one.one-index 0 c.loop-one-test.true c.loop-one.invariant c.in_err-end.ensures)

pub returns : goal.returns
returns c = pieces_done (λ n. c.args.before.now ++ decimal n) c.args.numbers.now c.loop-one.one-index c.loop-one-test.false c.loop-one.invariant
