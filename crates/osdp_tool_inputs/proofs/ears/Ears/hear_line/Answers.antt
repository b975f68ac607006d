use Rattle.osdp_tool_inputs.proofs.OneByOne.{on_each}
use Rattle.osdp_tool_inputs.proofs.ears.Ears.hear_line.Goals as goal

pub returns-in-Ok-clause-heard : goal.returns-in-Ok-clause-heard
returns-in-Ok-clause-heard c =
    on_each c.hear_said.result (λ heard. λ mode lines h at. heard mode lines c.args.line.now h at c.in-Ok.ensures.said) c.hear_said.ensures.heard
