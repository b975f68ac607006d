use Rattle.osdp_tool_inputs.proofs.Common.{sym, ap, ◌∙◌, has_failed, inner_of, fault_of, unless_failed}
use Rattle.osdp_tool_inputs.proofs.Telling.{does_objects}
use Rattle.osdp_tool_inputs.proofs.inputs.do_objects.Goals as goal

pub returns-in-None : goal.returns-in-None
returns-in-None g c =
    let fault = ap fault_of (sym c.get_ref.ensures) ∙ sym c.fault.ensures ∙ c.in-None.is in
    does_objects c.args.asked.now _ _ g.W.Write.contents (inner_of c.args.output.now) (inner_of c.do_input-told.new.output) (has_failed c.do_input-told.new.output) c.do_input-told.result _
    c.requires.objects c.requires.new c.do_input-told.ensures (ap (λ f. unless_failed f c.do_input-told.result) (sym fault))

pub returns-in-Some : goal.returns-in-Some
returns-in-Some g c =
    let fault = ap fault_of (sym c.get_ref.ensures) ∙ sym c.fault.ensures ∙ c.in-Some.is in
    does_objects c.args.asked.now _ _ g.W.Write.contents (inner_of c.args.output.now) (inner_of c.do_input-told.new.output) (has_failed c.do_input-told.new.output) c.do_input-told.result _
    c.requires.objects c.requires.new c.do_input-told.ensures (ap (λ f. unless_failed f c.do_input-told.result) (sym fault))
