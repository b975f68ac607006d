use Rattle.osdp_tool_streams.proofs.Answered.{on_ok}
use Rattle.osdp_tool_monitor.proofs.Sessions.{gap_ends, gap_none}
use Rattle.osdp_tool_monitor.proofs.session.Session.end_if.Goals as goal

pub returns-then-not-over-clause-goes : goal.returns-then-not-over-clause-goes
returns-then-not-over-clause-goes c = gap_none c.args.over c.args.self.now _ c.if-not-over.true c.requires.ready

pub returns-clause-goes : goal.returns-clause-goes
returns-clause-goes c = on_ok c.end_run.result (gap_ends c.args.over c.args.self.now _ _ _ c.if-not-over.false c.requires.ready c.requires.form) c.end_run.ensures.hears
