use Rattle.osdp_line_answers.proofs.Common.{rules, arith, eqb-true, Err, ◌≡◌, ◌≢◌, [], List, ℕ, ◌∙◌, sym, subst, inner_of, has_failed, Ends, EndsLine, Reads, on_err}
use Rattle.osdp_line_answers.proofs.AnsweringLines.{all_none, ends_empty, ends_last, ends_stopped, nothing, some_none}
use Rattle.osdp_line_answers.proofs.answering.answer_lines.Goals as goal

pub returns-then-failed : goal.returns-then-failed
returns-then-failed g c = (
  all_none g.M.LineAnswerer.answers c.args.machine.now (g.R.Read.remaining (inner_of c.args.input.now)) (g.W.Write.contents (inner_of c.args.output.now)),
  sym c.failed.ensures ∙ c.if-failed.true,
)

pub returns-then-failed-2 : goal.returns-then-failed-2
returns-then-failed-2 g c = (
  some_none g.M.LineAnswerer.answers c.args.machine.now (g.R.Read.remaining (inner_of c.args.input.now)) (g.W.Write.contents (inner_of c.args.output.now)) _,
  sym c.failed.ensures ∙ c.if-failed.false,
  sym c.failed-2.ensures ∙ c.if-failed-2.true,
)

pub returns-in_err-read_lines : goal.returns-in_err-read_lines
returns-in_err-read_lines g c =
    let answers = g.M.LineAnswerer.answers in
    let ib = g.R.Read.remaining (inner_of c.args.input.now) in
    let ia = g.R.Read.remaining (inner_of c.read_lines.new.input) in
    let before = g.W.Write.contents (inner_of c.args.output.now) in
    let after = g.W.Write.contents (inner_of c.read_lines.new.output) in
    let reads = c.in_err-read_lines.ensures.reads in
    on_err (λ r. Ends answers c.args.machine.now c.read_lines.new.machine ib ia (has_failed c.read_lines.new.input) before after (has_failed c.read_lines.new.output) r)
    c.from_residual.result c.in_err-read_lines.field-0.0 c.from_residual.ensures.1
    (ends_stopped answers c.args.machine.now c.read_lines.new.machine c.read_lines.new.line.items ib ia before after
    (has_failed c.read_lines.new.input) (has_failed c.read_lines.new.output) c.in_err-read_lines.field-0.0
    (subst (λ (l : List ℕ). Reads answers c.args.machine.now l c.read_lines.new.machine c.read_lines.new.line.items ib ia
    (has_failed c.read_lines.new.input) before after (has_failed c.read_lines.new.output) (Err c.in_err-read_lines.field-0.0)) c.new-line.ensures.items reads))

pub returns-then-is_empty : goal.returns-then-is_empty
returns-then-is_empty g c =
    let reads = c.in_ok-read_lines.ensures.reads in
    let empty : c.read_lines.new.line.len ≡ 0 = eqb-true c.read_lines.new.line.len 0 (sym c.is_empty.ensures ∙ c.if-is_empty.true) in
    let none = nothing c.read_lines.new.line.items (omega (arith, empty)) in
    ends_empty g.M.LineAnswerer.answers c.args.machine.now c.read_lines.new.machine c.read_lines.new.line.items
    (g.R.Read.remaining (inner_of c.args.input.now)) (g.R.Read.remaining (inner_of c.read_lines.new.input))
    (g.W.Write.contents (inner_of c.args.output.now)) (g.W.Write.contents (inner_of c.read_lines.new.output))
    (has_failed c.read_lines.new.input) (has_failed c.read_lines.new.output) (rw c.new-line.ensures.items at reads) none

pub returns : goal.returns
returns g c =
    let answers = g.M.LineAnswerer.answers in
    let between = g.W.Write.contents (inner_of c.read_lines.new.output) in
    let after = g.W.Write.contents (inner_of c.end_line.new.output) in
    let reads = c.in_ok-read_lines.ensures.reads in
    let other : c.read_lines.new.line.items ≢ [] = search rules in
    ends_last answers c.args.machine.now c.read_lines.new.machine c.end_line.new.machine c.read_lines.new.line.items
    (g.R.Read.remaining (inner_of c.args.input.now)) (g.R.Read.remaining (inner_of c.read_lines.new.input))
    (g.W.Write.contents (inner_of c.args.output.now)) between after
    (has_failed c.read_lines.new.input) (has_failed c.read_lines.new.output) (has_failed c.end_line.new.output) c.end_line.result
    (rw c.new-line.ensures.items at reads) other
    (subst (λ (l : List ℕ). EndsLine answers c.read_lines.new.machine l c.end_line.new.machine between after
    (has_failed c.read_lines.new.output) (has_failed c.end_line.new.output) c.end_line.result) c.deref.ensures.value c.end_line.ensures.ends)
