use Rattle.osdp_tool_inputs.proofs.OneByOne.{heard_none}
use Rattle.osdp_tool_inputs.proofs.ears.Ears.new.Goals as goal

pub returns-clause-heard : goal.returns-clause-heard
returns-clause-heard c =
    heard_none c.args.mode c.in_ok-new.field-0 _ c.in_ok-new.ensures.prints c.in_ok-new.ensures.heard c.in_ok-new.ensures.is_open c.new-3.ensures.bytes
