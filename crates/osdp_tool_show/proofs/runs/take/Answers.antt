use Rattle.osdp_tool_show.proofs.Common.{◌+◌, ◌-◌, ◌∙◌, length, length-drop, drop, arith, inner_of, written_or_held}
use Rattle.std.proofs.lemmas.List.{length-take}
use Rattle.osdp_tool_show.proofs.WholeItems.{took_after}
use Rattle.osdp_tool_show.proofs.Standing.{stops_in_rest}
use Rattle.osdp_tool_show.proofs.Beginnings.{on_err}
use Rattle.osdp_tool_show.proofs.runs.take.Goals as goal

pub pieces-preserved : goal.pieces-preserved
pieces-preserved g c =
    let bytes = c.args.bytes.now in
    let at = c.pieces.at in
    let later = at + c.in_ok-whole.whole in
    let left = length bytes - at in
    let some = later + c.given_count-some.result - later in
    let was = c.pieces.invariant.within in
    record {
      within = omega (arith, c.in_ok-whole.ensures.within, c.in_ok-at.ensures.within, length-take left (drop at bytes), length-take some (drop later bytes), length-drop later bytes, length-drop at bytes);
      took = took_after bytes later _ _ _ _ _ _ _ _ _ _ _ c.in_ok-at.ensures.within
          (took_after bytes at _ _ _ _ _ _ _ _ _ _ _ c.in_ok-whole.ensures.within c.pieces.invariant.took c.in_ok-whole.ensures.took) c.in_ok-at.ensures.took;
      unfailed = c.in_ok-at.ensures.step ∙ c.in_ok-whole.ensures.step ∙ c.pieces.invariant.unfailed;
    }

pub returns-in_err-whole-clause-stops : goal.returns-in_err-whole-clause-stops
returns-in_err-whole-clause-stops g c =
    on_err c.from_residual.result (stops_in_rest c.args.bytes.now c.pieces.at (length c.args.bytes.now - c.pieces.at) c.args.framer.now c.pieces.framer c.args.report.now c.pieces.report
    (written_or_held (g.W.Write.contents (inner_of c.args.output.now)) c.args.report.now) (written_or_held (g.W.Write.contents (inner_of c.pieces.output)) c.pieces.report)
    (g.W.Write.contents (inner_of c.take_whole.new.output)) (λ k. omega (arith, c.type_inv.bytes k)) c.pieces.invariant.took c.in_err-whole.ensures.stops)

pub returns-in_err-at-clause-stops : goal.returns-in_err-at-clause-stops
returns-in_err-at-clause-stops g c =
    let bytes = c.args.bytes.now in
    on_err c.from_residual-in_err-at.result (stops_in_rest bytes (c.pieces.at + c.in_ok-whole.whole) _ c.args.framer.now c.pieces.framer c.args.report.now c.take_whole.new.report
    (written_or_held (g.W.Write.contents (inner_of c.args.output.now)) c.args.report.now) (written_or_held (g.W.Write.contents (inner_of c.take_whole.new.output)) c.take_whole.new.report)
    (g.W.Write.contents (inner_of c.take_held.new.output)) (λ k. omega (arith, c.type_inv.bytes k))
    (took_after bytes c.pieces.at _ _ _ _ _ _ _ _ _ _ _ c.in_ok-whole.ensures.within c.pieces.invariant.took c.in_ok-whole.ensures.took) c.in_err-at.ensures.stops)
