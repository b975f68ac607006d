use Rattle.osdp_tool_inputs.proofs.Common.{◌++◌, ap, refl, sym, ◌∙◌, cond-true, marked_line, names_run}
use Rattle.osdp_tool_inputs.proofs.OneByOne.{on_each}
use Rattle.osdp_tool_inputs.proofs.RunPlaces.{marked_is}
use Rattle.osdp_tool_inputs.proofs.heard.push_told.Goals as goal

pub returns-then-names_run-clause-text : goal.returns-then-names_run-clause-text
returns-then-names_run-clause-text c =
    on_each c.push_marked.result
    (λ is. is ∙ ap (λ l. c.args.text.now.items ++ l)
    (marked_is marked_line c.args.clock _ _ _ _ c.args.line.now c.mark_of-mark.ensures.stamp c.mark_of-mark.ensures.told
    ∙ sym (cond-true (names_run c.args.line.now) _ _ (sym c.names_run.ensures ∙ c.if-names_run.true))))
    c.push_marked.ensures
