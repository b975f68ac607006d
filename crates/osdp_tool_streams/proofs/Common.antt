-- The names that most proofs of this crate cite, passed on from one place. Declares nothing.
pub use Rattle.std.proofs.Common.{[], ap, append-nil, append_assoc, arith, Bool, cond, drop, Err, false, IfSome, inl, inr, length, length-append, length-drop, length-take, List, MatchOption, MatchResult, None, not, Ok, Option, refl, Result, slice_index, slice_index_or, slice_set, Some, subst, suc, sym, take, true, zero, ℕ, ◌%◌, ◌*◌, ◌++◌, ◌+◌, ◌-◌, ◌/◌, ◌<◌, ◌==◌, ◌||◌, ◌↔◌, ◌∙◌, ◌∷◌, ◌≡◌, ◌≢◌, ◌≤◌, ◌⊎◌}
pub use Rattle.std.specs.List.{AllByRecursion, concat, Contains, flat_map}
pub use Rattle.std.specs.Option.{option_map_or}
pub use Rattle.std.proofs.lemmas.Bool.{cases_lt, eqb-false, eqb-true, ne_eqb}
pub use Rattle.std.specs.Result.{result_ok}
pub use Rattle.std.proofs.lemmas.List.{get_or-set_other, get_or-set_same, length-set, take_all}
pub use Rattle.std.specs.Prelude.{filter, map}
pub use Rattle.std.specs.Io.KnownBytes.{Appends, Consumes, IsAtEnd}
pub use Rattle.osdp_tool_streams.specs.Line.{is_blank, kept, line_bytes, said}
pub use Rattle.osdp_tool_streams.specs.Laws.{IsComment, IsFirstBad, IsGood, SpellsBytes}
pub use Rattle.hex.specs.Hex.{decode_of, decode_pairs, hex_digit_value, IsBytes}
pub use Rattle.hex.specs.declared.error.FromHexError.{FromHexError}
pub use Rattle.hex.proofs.HexLemmas.{decode_of-even, decode_of-ok}
pub use Rattle.osdp_tool_streams.specs.Digits.{value_or_none}
pub use Rattle.osdp_tool_streams.specs.declared.form.Form.{Form}
pub use Rattle.osdp_tool_streams.specs.declared.form.Form.TheVariants.{Apart, Joined, Raw}
pub use Rattle.osdp_tool_streams.specs.Cut.{ended_lines, last_line, line_feed, lines_of, unended_line}
pub use Rattle.hex.proofs.Pairs.{cons_byte, decode_done, decode_err, decode_pairs-ok_pair, decode_step, prepend}
pub use Rattle.osdp_tool_streams.specs.Watched.{Call, FailedBySomeCall, has_failed, inner_of, is_failed_call, WentThrough}
