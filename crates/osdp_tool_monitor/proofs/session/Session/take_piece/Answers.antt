use Rattle.osdp_tool_monitor.proofs.Sessions.{piece_went_by}
use Rattle.osdp_tool_monitor.proofs.session.Session.take_piece.Goals as goal

pub returns-clause-takes : goal.returns-clause-takes
returns-clause-takes c =
    piece_went_by c.in_ok-take_input.field-0 _ c.args.self.now c.take_input.new.self c.tell_table.new.self _ _ _ c.if-not-branch.false c.in_ok-take_input.ensures.takes c.in_ok-tell_table.ensures.goes
