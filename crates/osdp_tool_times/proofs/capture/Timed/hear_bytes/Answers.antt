use Rattle.osdp_tool_times.proofs.Common.{ap, sym, ◌∙◌, length, eqb-true}
use Rattle.osdp_tool_times.specs.Captures.{from_start, start_in}
use Rattle.osdp_tool_times.proofs.Further.{run_nothing, told_nothing}
use Rattle.osdp_tool_times.proofs.capture.Timed.hear_bytes.Goals as goal

pub returns-then-is_empty-clause-told : goal.returns-then-is_empty-clause-told
returns-then-is_empty-clause-told c =
    told_nothing c.args.self.now.bytes.items c.args.moment c.args.self.now.times.items
    (ap (λ l. length (from_start (start_in l) l)) (sym c.deref.ensures.value) ∙ ap length (sym c.from_start-bytes.ensures) ∙ eqb-true _ _ (sym c.is_empty.ensures ∙ c.if-is_empty.true))

pub returns-then-is_empty-clause-times : goal.returns-then-is_empty-clause-times
returns-then-is_empty-clause-times c =
    run_nothing c.args.self.now.bytes.items c.args.moment c.args.self.now.times.items
    (ap (λ l. length (from_start (start_in l) l)) (sym c.deref.ensures.value) ∙ ap length (sym c.from_start-bytes.ensures) ∙ eqb-true _ _ (sym c.is_empty.ensures ∙ c.if-is_empty.true))
