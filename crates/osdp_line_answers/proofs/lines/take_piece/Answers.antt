use Rattle.osdp_line_answers.proofs.Common.{◌+◌, IfErr, take, drop, take-append-drop, sym, subst, ◌∙◌, arith, take_more, inner_of, CarriesOn, StopsIn, on_err}
use Rattle.osdp_line_answers.proofs.Stopping.{goes_both, stops_early, stops_further}
use Rattle.osdp_line_answers.proofs.lines.take_piece.Goals as goal

pub returns-in_err-take_byte-clause-stops : goal.returns-in_err-take_byte-clause-stops
returns-in_err-take_byte-clause-stops g c =
    let answers = g.M.LineAnswerer.answers in
    let piece = c.args.piece.now in
    let at = c.bytes.byte-index in
    let before = g.W.Write.contents (inner_of c.args.output.now) in
    let after = g.W.Write.contents (inner_of c.take_byte.new.output) in
    let fault = c.in_err-take_byte.field-0.0 in
    on_err (λ r. IfErr r (λ fault. StopsIn answers piece c.args.machine.now c.args.line.now.items before after fault)) c.from_residual.result fault c.from_residual.ensures.1
    (subst (λ l. StopsIn answers l c.args.machine.now c.args.line.now.items before after fault) (take-append-drop (at + 1) piece)
    (stops_early answers (take (at + 1) piece) (drop (at + 1) piece) c.args.machine.now c.args.line.now.items before after fault
    (subst (λ l. StopsIn answers l c.args.machine.now c.args.line.now.items before after fault) (sym (take_more piece at 0 (omega arith)))
    (stops_further answers (take at piece) _ c.args.machine.now c.bytes.machine c.args.line.now.items c.bytes.line.items before
    (g.W.Write.contents (inner_of c.bytes.output)) after fault c.bytes.invariant.goes c.in_err-take_byte.ensures.stops))))

pub bytes-preserved : goal.bytes-preserved
bytes-preserved g c =
    let answers = g.M.LineAnswerer.answers in
    let piece = c.args.piece.now in
    let at = c.bytes.byte-index in
    let before = g.W.Write.contents (inner_of c.args.output.now) in
    let after = g.W.Write.contents (inner_of c.take_byte.new.output) in
    record {
      ready = c.in_ok-take_byte.ensures.ready;
      unfailed = c.in_ok-take_byte.ensures.step ∙ c.bytes.invariant.unfailed;
      goes = subst (λ l. CarriesOn answers l c.args.machine.now c.args.line.now.items before c.take_byte.new.machine c.take_byte.new.line.items after)
          (sym (take_more piece at 0 (omega arith)))
          (goes_both answers (take at piece) _ c.args.machine.now c.bytes.machine c.take_byte.new.machine c.args.line.now.items c.bytes.line.items c.take_byte.new.line.items
          before (g.W.Write.contents (inner_of c.bytes.output)) after c.bytes.invariant.goes c.in_ok-take_byte.ensures.goes);
    }
