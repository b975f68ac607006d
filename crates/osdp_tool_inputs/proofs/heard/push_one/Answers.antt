use Rattle.osdp_tool_inputs.proofs.Common.{◌++◌, ap, refl, ◌∙◌, marked_object}
use Rattle.osdp_tool_inputs.proofs.OneByOne.{on_each}
use Rattle.osdp_tool_inputs.proofs.RunPlaces.{marked_is}
use Rattle.osdp_tool_inputs.proofs.heard.push_one.Goals as goal

pub returns-clause-text : goal.returns-clause-text
returns-clause-text c =
    on_each c.push_stamped.result
    (λ is. is ∙ ap (λ l. c.args.text.now.items ++ l)
    (marked_is marked_object c.args.clock _ _ _ _ c.args.line.now c.mark_of-mark.ensures.stamp c.mark_of-mark.ensures.told))
    c.push_stamped.ensures
