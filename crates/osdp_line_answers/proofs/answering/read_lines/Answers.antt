use Rattle.osdp_line_answers.proofs.Common.{◌∙◌, ◌||◌, Bool, false, true, Err, ap, sym, subst, arith, inner_of, has_failed, Reads, on_err}
use Rattle.osdp_line_answers.proofs.AnsweringLines.{read_kept, read_more, reads_stop}
use Rattle.osdp_line_answers.proofs.answering.read_lines.Goals as goal

pub reads-preserved : goal.reads-preserved
reads-preserved g c = record {
  ready = c.in_ok-take_piece.ensures.ready;
  input = c.in_ok-count.ensures.failed ∙ ap (λ (b : Bool). b || false) c.reads.invariant.input;
  output = c.in_ok-take_piece.ensures.step ∙ c.reads.invariant.output;
  read = read_more g.M.LineAnswerer.answers c.args.machine.now c.reads.machine c.take_piece.new.machine c.args.line.now.items c.reads.line.items c.take_piece.new.line.items _
      (g.R.Read.remaining (inner_of c.args.input.now)) (g.R.Read.remaining (inner_of c.reads.input)) (g.R.Read.remaining (inner_of c.read_some.new.input))
      (g.W.Write.contents (inner_of c.args.output.now)) (g.W.Write.contents (inner_of c.reads.output)) (g.W.Write.contents (inner_of c.take_piece.new.output))
      c.reads.counter c.reads.invariant.read.0 c.reads.invariant.read.1 c.in_ok-count.ensures.bytes.0 (omega (arith, c.in_ok-count.ensures.bound.1)) c.in_ok-take_piece.ensures.goes;
}

pub returns-clause-reads : goal.returns-clause-reads
returns-clause-reads g c =
    (c.reads.invariant.read.0, omega (arith, c.reads.invariant.read.1), c.reads.invariant.input, c.reads.invariant.output)

pub returns-in_err-count-clause-reads : goal.returns-in_err-count-clause-reads
returns-in_err-count-clause-reads g c =
    let answers = g.M.LineAnswerer.answers in
    let ib = g.R.Read.remaining (inner_of c.args.input.now) in
    let ia = g.R.Read.remaining (inner_of c.read_some.new.input) in
    let before = g.W.Write.contents (inner_of c.args.output.now) in
    let after = g.W.Write.contents (inner_of c.reads.output) in
    on_err (λ r. Reads answers c.args.machine.now c.args.line.now.items c.reads.machine c.reads.line.items ib ia
    (has_failed c.read_some.new.input) before after (has_failed c.reads.output) r)
    c.from_residual.result c.in_err-count.field-0.0 c.from_residual.ensures.1
    (subst (λ f. Reads answers c.args.machine.now c.args.line.now.items c.reads.machine c.reads.line.items ib ia
    (has_failed c.read_some.new.input) before after (has_failed c.reads.output) (Err f)) (sym c.in_err-count.ensures.fault) (
      read_kept answers c.args.machine.now c.reads.machine c.args.line.now.items c.reads.line.items ib (g.R.Read.remaining (inner_of c.reads.input)) ia before after
          c.reads.invariant.read.0 c.in_err-count.ensures.bytes,
      c.in_err-count.ensures.failed ∙ ap (λ (b : Bool). b || true) c.reads.invariant.input,
      c.reads.invariant.output,
    ))

pub returns-in_err-take_piece-clause-reads : goal.returns-in_err-take_piece-clause-reads
returns-in_err-take_piece-clause-reads g c =
    reads_stop g.M.LineAnswerer.answers c.args.machine.now c.reads.machine c.take_piece.new.machine c.args.line.now.items c.reads.line.items c.take_piece.new.line.items
    _ _ (g.R.Read.remaining (inner_of c.reads.input)) _ _ (g.W.Write.contents (inner_of c.reads.output)) _ (has_failed c.reads.output) _ _ _ c.in_err-take_piece.field-0.0
    c.from_residual-in_err-take_piece.ensures.1 c.reads.invariant.read.0 c.in_ok-count.ensures.bytes.0 c.in_err-take_piece.ensures.stops
    c.in_err-take_piece.ensures.step c.reads.invariant.output (c.in_ok-count.ensures.failed ∙ ap (λ (b : Bool). b || false) c.reads.invariant.input)
