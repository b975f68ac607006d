use Rattle.osdp_tool_monitor.proofs.Common.{refl, ap, length, arith, length-append, kept}
use Rattle.osdp_tool_monitor.proofs.Sessions.{goes_held}
use Rattle.osdp_tool_monitor.proofs.Weights.{kept_short}
use Rattle.osdp_tool_monitor.proofs.session.Session.hold.Goals as goal

pub returns-in-Ok-clause-goes : goal.returns-in-Ok-clause-goes
returns-in-Ok-clause-goes c = λ text. goes_held c.args.self.now c.args.characters.now c.keep.new.line.items _ text c.requires.ready refl refl refl refl refl c.in-Ok.ensures

pub returns-in-Ok-clause-weighs : goal.returns-in-Ok-clause-weighs
returns-in-Ok-clause-weighs c =
    omega (arith, ap length c.in-Ok.ensures, length-append c.args.self.now.characters.items (kept c.args.characters.now), kept_short c.args.characters.now)
