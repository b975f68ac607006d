use Rattle.osdp_bus.proofs.Common.{sym, devices_of, state_of}
use Rattle.osdp_bus.proofs.Runs.{over_nothing, run_over}
use Rattle.osdp_bus.proofs.line.Line.end_run.Goals as goal

pub returns-clause-line : goal.returns-clause-line
returns-clause-line c =
    run_over (state_of c.args.self.now) c.args.self.now.receiver c.end_run.new.self c.read_items.new.receiver c.greatest-now.result
    (devices_of c.read_items.new.devices) c.end_run.ensures c.greatest-now.ensures.greatest c.read_items.ensures.devices c.read_items.ensures.line c.read_items.ensures.left

pub returns-then-is_empty-clause-line : goal.returns-then-is_empty-clause-line
returns-then-is_empty-clause-line c = over_nothing (state_of c.args.self.now) (sym c.if-is_empty.ensures.empty)
