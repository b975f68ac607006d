-- The names that most proofs of this crate cite, passed on from one place. Declares nothing.
pub use Rattle.std.proofs.Common.{[], ap, append-nil, append_assoc, arith, codes, drop, false, get_or, inl, length, List, map, None, Option, option_map, refl, set, Some, subst, sym, take, ℕ, ◌++◌, ◌+◌, ◌<◌, ◌^◌, ◌∙◌, ◌∷◌, ◌≡◌, ◌≤◌}
pub use Rattle.osdp_tool_test.specs.Entries.{new_entry, Told, told}
pub use Rattle.osdp_tool_test.specs.declared.exchange.Exchange.{Exchange}
pub use Rattle.osdp_tool_test.proofs.OneReport.{all_plain, ends_one_way, GoesByRows, plain as plain_by, plain_rule}
pub use Rattle.osdp_tool_test_panel.specs.Lines.{device, hears, Line, more_words, MoreFits, said_fields, said_name, said_of, said_words, SaidFits, says, skips}
pub use Rattle.osdp_tool_test_panel.specs.Rules.{fresh_from, IsAsked}
pub use Rattle.osdp_tool_test_panel.specs.Table.{panel_rules, row, Row}
pub use Rattle.osdp_tool_test_panel.specs.Tests.{after_hearing, after_packet_of, after_said, entries_of, judged_by, judged_entry, model, new_test, PanelFinds, PanelStops, PanelTest, skipped_entry}
pub use Rattle.osdp_tool_test_panel.specs.declared.rules.PanelRule.{PanelRule}
pub use Rattle.osdp_msg.proofs.RowTexts.{differ, made_row_read}
pub use Rattle.osdp_words.specs.Word.{AllStandFor, texts}
pub use Rattle.osdp_tool_test_panel.specs.declared.said.More.{More}
pub use Rattle.osdp_tool_test.specs.Lines.{heard_words, HeardFits, LeftOut, skip_of}
pub use Rattle.osdp_tool_test.proofs.Telling.{said_ends, tests_by_rows}
