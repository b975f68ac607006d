use Rattle.osdp_tool_show.proofs.Common.{sym, ◌∙◌, refl, inner_of, item_of, written_or_held}
use Rattle.osdp_tool_show.proofs.Drains.{draining_start, draining_step, draining_end}
use Rattle.osdp_tool_show.proofs.Drains.{draining_stops}
use Rattle.osdp_tool_show.proofs.Beginnings.{on_err}
use Rattle.osdp_tool_show.proofs.runs.drain.Goals as goal

pub items-init : goal.items-init
items-init g c = record {
  draining = draining_start c.args.framer.now c.args.report.now (written_or_held (g.W.Write.contents (inner_of c.args.output.now)) c.args.report.now) c.requires.bytes c.requires.some;
  unfailed = refl;
}

pub items-preserved : goal.items-preserved
items-preserved g c = record {
  draining = draining_step c.args.framer.now c.items.framer c.advance.new.self c.args.report.now c.items.report c.tell.new.self
      _ (written_or_held (g.W.Write.contents (inner_of c.items.output)) c.items.report) (written_or_held (g.W.Write.contents (inner_of c.tell.new.output)) c.tell.new.self)
      (item_of c.in-Some.item) c.items.invariant.draining (sym c.in-Some.ensures.shown) c.advance.ensures c.in_ok-tell.ensures.tells;
  unfailed = c.in_ok-tell.ensures.step ∙ c.items.invariant.unfailed;
}

pub returns-clause-drained : goal.returns-clause-drained
returns-clause-drained g c =
    draining_end c.args.framer.now c.items.framer c.args.report.now c.items.report _ _ c.items.invariant.draining (sym c.in_default.ensures.shown)

pub returns-in_err-tell-clause-stops : goal.returns-in_err-tell-clause-stops
returns-in_err-tell-clause-stops g c =
    on_err c.from_residual.result (draining_stops c.args.framer.now c.items.framer c.args.report.now c.items.report
    (written_or_held (g.W.Write.contents (inner_of c.args.output.now)) c.args.report.now) (written_or_held (g.W.Write.contents (inner_of c.items.output)) c.items.report)
    (g.W.Write.contents (inner_of c.tell.new.output)) (item_of c.in-Some.item) c.items.invariant.draining (sym c.in-Some.ensures.shown) c.in_err-tell.ensures.stops)
