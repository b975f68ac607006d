use Rattle.osdp_door.specs.Outputs.{passed}
use Rattle.osdp_door.proofs.Each.{written}
use Rattle.osdp_door.proofs.door.Door.pass.Goals as goal

pub loop-output-preserved : goal.loop-output-preserved
loop-output-preserved c =
    written (λ o. passed o c.args.milliseconds) c.args.self.now.outputs c.loop-output.output-items c.loop-output.output-index _ _
    c.loop-output.invariant c.passed.ensures
