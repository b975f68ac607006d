use Rattle.std.proofs.Common.{◌≡◌, ◌++◌, replicate, string_bytes}
use Rattle.osdp_tool_plan.proofs.text.push_spaces.Given as goal

abbrev pub invariant-spaces : goal.invariant-spaces
invariant-spaces l = string_bytes l.text ≡ string_bytes l.initial.text ++ replicate l.counter 32
