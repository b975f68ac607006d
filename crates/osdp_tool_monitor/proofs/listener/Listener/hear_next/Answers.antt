use Rattle.osdp_frame.specs.Shown.{item_of}
use Rattle.osdp_tool_monitor.proofs.Items.{stands_in_run}
use Rattle.osdp_tool_monitor.proofs.listener.Listener.hear_next.Goals as goal

pub returns-clause-hears : goal.returns-clause-hears
returns-clause-hears c = record {
  part = item_of c.in-Some.item;
  stands = stands_in_run c.args.run.now c.args.at (item_of c.in-Some.item) c.in-Some.ensures.first;
  size_is = c.size.ensures;
  hears = c.in_ok-hear_item.ensures.hears;
}
