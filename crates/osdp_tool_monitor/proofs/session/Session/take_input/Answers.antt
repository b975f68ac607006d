use Rattle.osdp_tool_monitor.proofs.Sessions.{took_bytes}
use Rattle.osdp_tool_monitor.proofs.session.Session.take_input.Goals as goal

pub returns-clause-takes : goal.returns-clause-takes
returns-clause-takes c = took_bytes _ c.args.self.now _ _ _ c.if-self.false c.in_ok-take_bytes.ensures.goes
