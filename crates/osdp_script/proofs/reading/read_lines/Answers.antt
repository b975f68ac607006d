use Rattle.osdp_script.proofs.Common.{subst, Judges, plan_of}
use Rattle.osdp_script.proofs.Lines.{read_more}
use Rattle.osdp_script.proofs.reading.read_lines.Goals as goal

pub lines-preserved : goal.lines-preserved
lines-preserved c =
    let above = plan_of c.lines.draft in
    let with_this = plan_of c.take_line.new.self in
    read_more c.args.bytes.now c.lines.rest.now c.in-Some.line.now c.in-Some.below.now c.lines.count above with_this c.lines.invariant c.in-Some.ensures.line
    c.in-Some.ensures.shorter (subst (λ good. Judges good above c.in-Some.line.now with_this) c.in-Ok-true.field-0-test c.in-Ok-true.ensures)
