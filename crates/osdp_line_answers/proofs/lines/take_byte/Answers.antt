use Rattle.osdp_line_answers.proofs.Common.{[], ◌∷◌, IfErr, sym, subst, Keeps-refl, line_feed, inner_of, has_failed, CarriesOn, StopsIn, WroteAnswer, on_each_err, on_err, on_ok}
use Rattle.osdp_line_answers.proofs.Stopping.{ends, holds, stops_before, stops_ending}
use Rattle.osdp_line_answers.proofs.lines.take_byte.Goals as goal

pub returns-then-byte-ne10-clause-goes : goal.returns-then-byte-ne10-clause-goes
returns-then-byte-ne10-clause-goes g c =
    on_ok c.hold.result (holds g.M.LineAnswerer.answers c.args.byte c.args.machine.now c.args.line.now.items c.hold.new.line.items
    (g.W.Write.contents (inner_of c.args.output.now)) c.if-byte-ne10.true) c.hold.ensures.held

pub returns-then-byte-ne10-clause-stops : goal.returns-then-byte-ne10-clause-stops
returns-then-byte-ne10-clause-stops g c =
    let now = g.W.Write.contents (inner_of c.args.output.now) in
    on_each_err (λ fault. StopsIn g.M.LineAnswerer.answers (c.args.byte ∷ []) c.args.machine.now c.args.line.now.items now now fault) c.hold.result
    (λ fault. stops_before g.M.LineAnswerer.answers (c.args.byte ∷ []) c.args.machine.now c.args.line.now.items now now fault (Keeps-refl now))

pub returns-in_err-end_line-clause-stops : goal.returns-in_err-end_line-clause-stops
returns-in_err-end_line-clause-stops g c =
    let before = g.W.Write.contents (inner_of c.args.output.now) in
    let after = g.W.Write.contents (inner_of c.end_line.new.output) in
    on_err (λ r. IfErr r (λ fault. StopsIn g.M.LineAnswerer.answers (c.args.byte ∷ []) c.args.machine.now c.args.line.now.items before after fault))
    c.from_residual.result c.in_err-end_line.field-0.0 c.from_residual.ensures.1
    (subst (λ b. StopsIn g.M.LineAnswerer.answers (b ∷ []) c.args.machine.now c.args.line.now.items before after c.in_err-end_line.field-0.0) (sym c.if-byte-ne10.false)
    (subst (λ l. StopsIn g.M.LineAnswerer.answers (line_feed ∷ []) c.args.machine.now l before after c.in_err-end_line.field-0.0) c.deref.ensures.value
    (stops_ending g.M.LineAnswerer.answers c.args.machine.now c.end_line.new.machine c.deref.result.now before after
    (has_failed c.args.output.now) (has_failed c.end_line.new.output) c.in_err-end_line.field-0.0 c.in_err-end_line.ensures.ends)))

pub returns-clause-goes : goal.returns-clause-goes
returns-clause-goes g c =
    let before = g.W.Write.contents (inner_of c.args.output.now) in
    let after = g.W.Write.contents (inner_of c.end_line.new.output) in
    subst (λ l. CarriesOn g.M.LineAnswerer.answers (c.args.byte ∷ []) c.args.machine.now c.args.line.now.items before c.end_line.new.machine l after) (sym c.clear.ensures.items)
    (subst (λ b. CarriesOn g.M.LineAnswerer.answers (b ∷ []) c.args.machine.now c.args.line.now.items before c.end_line.new.machine [] after) (sym c.if-byte-ne10.false)
    (ends g.M.LineAnswerer.answers c.args.machine.now c.end_line.new.machine c.args.line.now.items before after
    (subst (λ l. WroteAnswer g.M.LineAnswerer.answers c.args.machine.now l c.end_line.new.machine before after) c.deref.ensures.value c.in_ok-end_line.ensures.ends.0)))
