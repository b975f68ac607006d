use Rattle.std.proofs.Common.{refl}
use Rattle.osdp_tool_show.proofs.Pieces.{held_part}
use Rattle.osdp_tool_show.proofs.capture.Capture.hold.Goals as goal

pub returns-in-Ok-clause-took : goal.returns-in-Ok-clause-took
returns-in-Ok-clause-took c = λ now.
    held_part c.args.characters.now c.args.self.now
    (record c.args.self.now { line = c.keep.new.line })
    now c.requires.line c.requires.lines c.requires.settled refl refl refl refl c.in-Ok.ensures
