use Rattle.osdp_tool_test.proofs.Common.{◌++◌, ap, string_bytes, ◌∙◌, told, entry_text}
use Rattle.osdp_tool_test.proofs.Along.{flat_map_of, text_end}
use Rattle.osdp_tool_test.proofs.report.push_entries.Goals as goal

pub returns : goal.returns
returns c =
    text_end (λ e. entry_text c.args.form (told e)) _ _ c.args.entries.now c.entries.entry-index c.entries-test.false c.entries.invariant
    ∙ ap (λ t. string_bytes c.args.text.now ++ t) (flat_map_of told (entry_text c.args.form) c.args.entries.now)
