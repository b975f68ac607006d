use Rattle.std.proofs.Common.{◌≡◌, ◌++◌, flat_map, string_bytes}
use Rattle.std.specs.Str.{encode_utf8_all}
use Rattle.osdp_tool_inputs.specs.Printable.{shown_char}
use Rattle.osdp_tool_inputs.proofs.printable.push_chars.Given as goal

-- the characters so far
abbrev pub invariant-loop-character : goal.invariant-loop-character
invariant-loop-character l = string_bytes l.shown ≡ string_bytes l.initial.shown ++ encode_utf8_all (flat_map shown_char l.yielded)
