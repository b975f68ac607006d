use Rattle.osdp_tool_test.proofs.Common.{SaidFits, said_words, device_rules, row, after_said, all_entries, new_test}
use Rattle.osdp_tool_test.proofs.ByRows.{device_by_rows, of_row, plainly}
use Rattle.osdp_tool_test.proofs.OneReport.{ends_one_way}
use Rattle.osdp_tool_test.proofs.laws.ends_by_its_lines.Goals as goal

pub returns : goal.returns
returns c = ends_one_way said_words SaidFits after_said all_entries new_test row of_row plainly device_by_rows device_rules
