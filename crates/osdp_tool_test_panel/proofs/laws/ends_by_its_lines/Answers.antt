use Rattle.osdp_tool_test_panel.proofs.Common.{ends_one_way, SaidFits, said_words, panel_rules, row, after_said, entries_of, new_test}
use Rattle.osdp_tool_test_panel.proofs.ByRows.{of_row, panel_by_rows, plainly}
use Rattle.osdp_tool_test_panel.proofs.laws.ends_by_its_lines.Goals as goal

pub returns : goal.returns
returns c = ends_one_way said_words SaidFits after_said entries_of new_test row of_row plainly panel_by_rows panel_rules
