use Rattle.osdp_tool_monitor.proofs.Common.{◌∙◌, ap, ended}
use Rattle.osdp_tool_monitor.proofs.Items.{count_step, heard_end, heard_step, text_end, text_step, within_step}
use Rattle.osdp_tool_monitor.proofs.listener.Listener.hear_run.Goals as goal

pub items-preserved : goal.items-preserved
items-preserved c =
    let first = c.in_ok-at.ensures.hears in
    let within = within_step c.args.run.now c.items.at c.in_ok-at.field-0 first.part c.are_bytes.ensures c.items.invariant.within first.stands first.size_is in
    record {
      within = within;
      count = count_step c.args.run.now c.items.at c.in_ok-at.field-0 _ _ _ _ _ first within c.items.invariant.count;
      tells = first.hears.tells ∙ c.items.invariant.tells;
      heard = heard_step c.args.run.now c.items.at c.in_ok-at.field-0 _ _ _ _ _ c.are_bytes.ensures first c.items.invariant.heard;
      text = text_step c.args.run.now c.items.at c.in_ok-at.field-0 _ _ _ _ _ _ c.are_bytes.ensures first c.items.invariant.tells c.items.invariant.text;
    }

pub returns-clause-hears : goal.returns-clause-hears
returns-clause-hears c = record {
  tells = c.in_ok-end_run.ensures.tells ∙ c.items.invariant.tells;
  heard =
      c.in_ok-end_run.ensures.heard
      ∙ ap ended (heard_end c.args.run.now c.items.at _ _ c.items-test.false c.items.invariant.heard);
  text = text_end c.args.run.now c.items.at _ _ _ _ c.items-test.false c.items.invariant.text;
}
