use Rattle.osdp_tool_inputs.proofs.Common.{sym, ap, ◌∙◌, arith}
use Rattle.osdp_tool_inputs.proofs.RunPlaces.{none_past}
use Rattle.osdp_tool_inputs.proofs.places.Place.go_on.Goals as goal

pub returns-then-not-step-clause-told : goal.returns-then-not-step-clause-told
returns-then-not-step-clause-told c =
    c.none.ensures.told
    ∙ sym ((none_past c.args.source.text.now c.args.run (omega (arith, c.step.ensures.none c.if-not-step.true, c.lines-test.true))).1)
