use Rattle.std.proofs.Common.{◌++◌, ap, flat_map, string_bytes, ◌∙◌}
use Rattle.std.specs.Str.{chars, encode_utf8_all}
use Rattle.osdp_tool_inputs.specs.Printable.{has_no_control, shown_char}
use Rattle.osdp_tool_inputs.proofs.Printables.{none_left}
use Rattle.osdp_tool_inputs.proofs.printable.printable.Goals as goal

pub returns-clause-none : goal.returns-clause-none
returns-clause-none c =
    ap has_no_control (c.in_ok-push_chars.ensures ∙ ap (λ front. front ++ encode_utf8_all (flat_map shown_char (chars c.as_str.result.now))) c.new-shown.ensures.bytes)
    ∙ none_left _ c.as_str.utf8
