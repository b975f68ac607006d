use Rattle.osdp_c_values.proofs.Common.{arith, sym, ◌∙◌, longest_command}
use Rattle.osdp_msg.specs.CommandText.{command_text}
use Rattle.osdp_c_values.proofs.Texts.{text_told}
use Rattle.osdp_c_values.proofs.text.write_command_text.Goals as goal

-- the longest text has room
pub unreachable-requires : goal.unreachable-requires
unreachable-requires c = omega (arith, c.in_default.ensures, longest_command.within c.in-Ok.message c.in-Ok.ensures.value.fits)

pub unreachable-requires-in_default-put_command : goal.unreachable-requires-in_default-put_command
unreachable-requires-in_default-put_command c = omega (arith, c.in_default-put_command.ensures, longest_command.within c.in-Ok.message c.in-Ok.ensures.value.fits)

pub returns : goal.returns
returns c =
    rw (sym c.read.ensures.function ∙ c.in-Ok.is)
    (text_told (command_text c.in-Ok.message) c.args.out.now c.in-Ok-put_command.ensures c.if-length-out.false c.in-Ok-put_command-2.ensures c.end_text.ensures)
