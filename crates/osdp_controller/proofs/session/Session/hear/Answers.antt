use Rattle.osdp_controller.proofs.Keeping.{keeps_seen}
use Rattle.osdp_controller.proofs.session.Session.hear.Goals as goal

pub hear_reply-requires-clause-session : goal.hear_reply-requires-clause-session
hear_reply-requires-clause-session c = rw c.see.ensures (keeps_seen c.args.now c.args.self.now c.requires.session)
