use Rattle.osdp_tool_monitor.proofs.Common.{sym, string_bytes, IfErr, item_of, on_err, hearing_of, load, IsLineFault}
use Rattle.osdp_tool_monitor.proofs.OpenRuns.{draining_end, draining_long, draining_start, draining_step}
use Rattle.osdp_tool_monitor.proofs.Items.{fault_more}
use Rattle.osdp_tool_monitor.proofs.open_line.OpenLine.drain.Goals as goal

pub items-init : goal.items-init
items-init c = record {
  draining = draining_start c.args.self.now.framer c.args.self.now.listener (string_bytes c.args.text.now) c.requires.bytes c.requires.some;
}

pub items-preserved : goal.items-preserved
items-preserved c = record {
  draining = draining_step c.args.self.now.framer c.items.self.framer c.advance.new.self c.args.self.now.listener c.items.self.listener c.hear_item.new.self
      _ _ _ (item_of c.in-Some.item) c.items.invariant.draining (sym c.in-Some.ensures.shown) c.advance.ensures c.in_ok-hear_item.ensures.hears;
}

pub returns-clause-drained : goal.returns-clause-drained
returns-clause-drained c =
    draining_end c.args.self.now.framer c.items.self.framer c.args.self.now.listener c.items.self.listener _ _ c.items.invariant.draining (sym c.in_default.ensures.shown)

pub returns-in_err-hear_item-clause-fault : goal.returns-in_err-hear_item-clause-fault
returns-in_err-hear_item-clause-fault c =
    on_err (λ r. IfErr r (IsLineFault (load (hearing_of c.args.self.now)))) c.from_residual.result c.in_err-hear_item.field-0.0 c.from_residual.ensures.1
    (fault_more _ _ c.in_err-hear_item.field-0.0
    (draining_long c.args.self.now.framer c.items.self.framer c.args.self.now.listener c.items.self.listener _ _ c.items.invariant.draining)
    c.in_err-hear_item.ensures.fault)
