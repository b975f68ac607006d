use Rattle.std.proofs.Common.{◌∙◌}
use Rattle.osdp_tool_inputs.proofs.RunPlaces.{printed_is}
use Rattle.osdp_tool_inputs.proofs.heard.retold.Goals as goal

pub returns : goal.returns
returns c =
    c.in_ok-extend_from_slice.ensures.items
    ∙ printed_is c.args.json c.args.clock c.args.text.now c.args.shown.now _ _ c.args.capture.now c.requires c.in_ok-told.ensures (c.as_bytes.ensures.value ∙ c.in_ok-answer_times.ensures)
