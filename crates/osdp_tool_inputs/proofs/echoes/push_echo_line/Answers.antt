use Rattle.osdp_tool_inputs.proofs.Common.{◌≡◌, ◌++◌, [], OnOk, ap, subst, sym, ◌∙◌, cond-true, echo_line, ended}
use Rattle.osdp_tool_objects.specs.Objects.{object_of, object_with}
use Rattle.osdp_tool_inputs.proofs.echoes.push_echo_line.Goals as goal

pub returns-then-json : goal.returns-then-json
returns-then-json c =
    subst (λ x. OnOk c.push_object.result (c.push_object.new.object.items ≡ c.args.told.now.items ++ x))
    (ap (object_with [] []) (c.as_bytes.ensures.value ∙ c.in_ok-line.ensures)
    ∙ sym (cond-true c.args.json (object_of [] (echo_line c.args.echoes)) (ended (echo_line c.args.echoes)) c.if-json.true))
    c.push_object.ensures
