use Rattle.osdp_tool_monitor.proofs.Common.{◌<◌, ◌∙◌, take, subst, sym, arith, AreBytes-take, takes_some}
use Rattle.osdp_tool_monitor.proofs.OpenRuns.{come_drained, pushed_is}
use Rattle.osdp_tool_monitor.proofs.open_line.OpenLine.come_some.Goals as goal

pub returns-clause-some : goal.returns-clause-some
returns-clause-some c = λ some.
    subst (λ n. 0 < n) (sym c.push-count.ensures.count) (takes_some c.args.self.now.framer c.args.bytes.now c.requires.goes_on c.requires.none some)

pub returns-clause-hears : goal.returns-clause-hears
returns-clause-hears c =
    come_drained (take c.push-count.result c.args.bytes.now) c.args.self.now c.drain.new.self c.push-count.new.self _ _
    (AreBytes-take c.push-count.result c.args.bytes.now (λ k. omega (arith, c.type_inv.bytes k)))
    (record { bytes = c.requires.bytes; goes_on = c.requires.goes_on; none = c.requires.none })
    (c.push-count.ensures.held ∙ pushed_is c.args.self.now.framer c.args.bytes.now c.push-count.result c.push-count.ensures.count c.requires.goes_on)
    c.in_ok-drain.ensures.drained
