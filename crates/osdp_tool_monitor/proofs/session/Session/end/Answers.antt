use Rattle.osdp_tool_monitor.proofs.Sessions.{ended_all}
use Rattle.osdp_tool_monitor.proofs.session.Session.end.Goals as goal

pub returns-clause-ends : goal.returns-clause-ends
returns-clause-ends c = ended_all c.in_ok-good.good c.args.self.now c.end_input.new.self _ _ _ c.in_ok-good.ensures.ends c.in_ok-push_table.ensures.hears
