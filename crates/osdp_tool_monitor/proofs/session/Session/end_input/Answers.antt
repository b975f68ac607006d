use Rattle.osdp_tool_monitor.proofs.Sessions.{ended_bytes}
use Rattle.osdp_tool_monitor.proofs.session.Session.end_input.Goals as goal

pub returns-clause-ends : goal.returns-clause-ends
returns-clause-ends c = ended_bytes c.args.self.now c.end_run.new.self _ _ c.if-self.false c.in_ok-end_run.ensures.hears
