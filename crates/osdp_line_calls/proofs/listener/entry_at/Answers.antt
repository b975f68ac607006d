use Rattle.osdp_line_calls.proofs.Common.{sym, ◌∙◌, arith, is_at}
use Rattle.osdp_line_calls.proofs.Listening.{found, not_found}
use Rattle.osdp_line_calls.proofs.listener.entry_at.Goals as goal

pub returns-then-is_at : goal.returns-then-is_at
returns-then-is_at c = sym (found (is_at c.args.address) c.args.bus.now.devices.entries c.loop-entry.entry (omega (arith, c.loop-entry-test.true, c.entries-entry-end.ensures)) (sym c.is_at.ensures ∙ c.if-is_at.true)) ∙ c.loop-entry.invariant

pub loop-entry-preserved : goal.loop-entry-preserved
loop-entry-preserved c = sym (not_found (is_at c.args.address) c.args.bus.now.devices.entries c.loop-entry.entry (omega (arith, c.loop-entry-test.true, c.entries-entry-end.ensures)) (sym c.is_at.ensures ∙ c.if-is_at.false)) ∙ c.loop-entry.invariant
