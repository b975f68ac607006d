use Rattle.osdp_tool_show.proofs.Common.{◌<◌, take, subst, sym, arith, takes_some, inner_of, written_or_held, Took}
use Rattle.osdp_tool_show.proofs.Standing.{pushed_stops, took_start}
use Rattle.osdp_tool_show.proofs.WholeItems.{took_pushed}
use Rattle.osdp_tool_show.proofs.Beginnings.{on_err}
use Rattle.osdp_tool_show.proofs.runs.take_held.Goals as goal

pub returns-clause-some : goal.returns-clause-some
returns-clause-some g c = λ some.
    subst (λ n. 0 < n) (sym c.push-count.ensures.count) (takes_some c.args.framer.now c.args.bytes.now c.requires.settled.goes_on c.requires.settled.none some)

pub returns-clause-took : goal.returns-clause-took
returns-clause-took g c =
    subst (λ n. Took (take n c.args.bytes.now) c.args.framer.now c.drain.new.framer c.args.report.now c.drain.new.report
    (written_or_held (g.W.Write.contents (inner_of c.args.output.now)) c.args.report.now) (written_or_held (g.W.Write.contents (inner_of c.drain.new.output)) c.drain.new.report))
    (sym c.push-count.ensures.count)
    (took_pushed c.args.bytes.now c.args.framer.now c.push-count.new.self c.drain.new.framer c.args.report.now c.drain.new.report _ _
    (λ k. omega (arith, c.type_inv.bytes k)) c.requires.settled c.push-count.ensures.held c.in_ok-drain.ensures.drained)

pub returns-then-is_empty-clause-took : goal.returns-then-is_empty-clause-took
returns-then-is_empty-clause-took g c = took_start c.args.framer.now c.args.report.now _ c.requires.settled

pub returns-in_err-drain-clause-stops : goal.returns-in_err-drain-clause-stops
returns-in_err-drain-clause-stops g c =
    on_err c.from_residual.result (pushed_stops c.args.bytes.now c.args.framer.now c.push-count.new.self c.args.report.now (written_or_held (g.W.Write.contents (inner_of c.args.output.now)) c.args.report.now)
    (g.W.Write.contents (inner_of c.drain.new.output)) (λ k. omega (arith, c.type_inv.bytes k)) c.requires.settled c.push-count.ensures.held c.in_err-drain.ensures.stops)
