use Rattle.osdp_tool_monitor.proofs.Common.{[], ◌∷◌, arith, string_bytes, Hears, RunEnds, on_ok}
use Rattle.osdp_tool_monitor.proofs.Items.{fault_more}
use Rattle.osdp_tool_monitor.proofs.OpenRuns.{ended_heard, load_ended, load_gapped, on_both, on_each_err}
use Rattle.osdp_tool_monitor.proofs.open_line.OpenLine.end_run.Goals as goal

pub returns-clause-hears : goal.returns-clause-hears
returns-clause-hears c =
    on_both c.end_run.result
    (ended_heard c.args.self.now _ c.gap.new.self c.drain.new.self.listener _ _
    (record { bytes = c.requires.bytes; goes_on = c.requires.goes_on; none = c.requires.none }) c.gap.ensures c.in_ok-drain.ensures.drained)
    c.end_run.ensures.tells c.end_run.ensures.heard

pub returns-clause-fault : goal.returns-clause-fault
returns-clause-fault c =
    on_each_err c.end_run.result
    (λ fault is. fault_more _ _ fault (load_gapped c.args.self.now c.gap.new.self c.drain.new.self.framer c.drain.new.self.listener _ _
    (record { bytes = c.requires.bytes; goes_on = c.requires.goes_on; none = c.requires.none }) c.gap.ensures c.in_ok-drain.ensures.drained) is)
    c.end_run.ensures.fault

pub returns-clause-load : goal.returns-clause-load
returns-clause-load c =
    on_ok c.end_run.result
    (λ (h : Hears (RunEnds [] ∷ []) c.args.self.now (record c.drain.new.self { listener = c.end_run.new.self }) (string_bytes c.args.text.now) (string_bytes c.drain.new.text)).
    omega (
      arith,
      load_ended [] c.args.self.now (record c.drain.new.self { listener = c.end_run.new.self }) _ _ (λ k. omega arith)
          (record { bytes = c.requires.bytes; goes_on = c.requires.goes_on; none = c.requires.none }) h,
    ))
    (returns-clause-hears c)
