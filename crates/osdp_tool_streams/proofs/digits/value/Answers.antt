use Rattle.osdp_tool_streams.proofs.DigitValues.{value_read, value_refused}
use Rattle.osdp_tool_streams.proofs.digits.value.Goals as goal

pub returns-in-Ok : goal.returns-in-Ok
returns-in-Ok c =
    value_read c.args.character c.decode_to_slice.result c.decode_to_slice.new.out c.decode_to_slice.ensures.value c.in-Ok.is

pub returns-in-Err : goal.returns-in-Err
returns-in-Err c =
    value_refused c.args.character c.decode_to_slice.result c.decode_to_slice.new.out c.in-Err.field-0 c.decode_to_slice.ensures.value c.in-Err.is
