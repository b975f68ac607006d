use Rattle.osdp_tool_test.proofs.Common.{◌≡◌, ◌++◌, drop, flat_map, string_bytes, told, entry_text}
use Rattle.osdp_tool_test.proofs.report.push_entries.Given as goal

abbrev pub invariant-entries : goal.invariant-entries
invariant-entries l =
    string_bytes l.text ++ flat_map (λ e. entry_text l.form (told e)) (drop l.entry-index l.entries)
    ≡ string_bytes l.initial.text ++ flat_map (λ e. entry_text l.form (told e)) l.entries
