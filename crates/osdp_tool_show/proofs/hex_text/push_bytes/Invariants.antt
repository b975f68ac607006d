use Rattle.osdp_tool_show.proofs.Common.{◌≡◌, ◌++◌, drop, string_bytes, encode_upper}
use Rattle.osdp_tool_show.proofs.hex_text.push_bytes.Given as goal

-- what is written and what is to come are the whole
abbrev pub invariant-loop-byte : goal.invariant-loop-byte
invariant-loop-byte l =
    string_bytes l.text ++ encode_upper (drop l.byte-index l.bytes) ≡ string_bytes l.initial.text ++ encode_upper l.bytes
