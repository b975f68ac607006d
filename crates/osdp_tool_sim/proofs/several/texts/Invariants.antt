use Rattle.osdp_tool_sim.proofs.Common.{◌≡◌, ◌+◌, ◌++◌, drop, map, string_bytes, lists_of, texts_from}
use Rattle.osdp_tool_sim.proofs.several.texts.Given as goal

-- the texts so far, and those that are left
abbrev pub invariant-loop-i : goal.invariant-loop-i
invariant-loop-i l =
    string_bytes l.text ++ texts_from (l.i + 1) (map lists_of (drop l.i l.accounts)) ≡ texts_from 1 (map lists_of l.accounts)
