-- The names that most proofs of this crate cite, passed on from one place. Declares nothing.
pub use Rattle.std.proofs.Common.{[], ap, arith, Bool, codes, cond, drop, false, inl, inr, leb, length, length-append, List, None, not, Option, refl, Some, string_bytes, subst, suc, sum, sym, take, true, zero, ℕ, ◌&&◌, ◌*◌, ◌++◌, ◌+◌, ◌-◌, ◌/◌, ◌<◌, ◌==◌, ◌^◌, ◌∙◌, ◌∷◌, ◌≡◌, ◌≢◌, ◌≤◌, ◌⊎◌}
pub use Rattle.std.proofs.lemmas.Bool.{cases_Bool, cond-false, cond-true, eq-eqb, eqb-true, le-leb, leb-false, leb-true, lt-leb, lt-ltb, ltb-false, ltb-true, ne_eqb}
pub use Rattle.std.proofs.lemmas.List.{at_drop_more, drop_all, drop_more, get_or-take, length-drop, length-take, take_all, take_rest}
pub use Rattle.std.specs.Prelude.{get_or, option_and_then}
pub use Rattle.std.proofs.lemmas.Option.{get_or_from_slice_get}
pub use Rattle.osdp_tool_streams.specs.Line.{is_blank, kept}
pub use Rattle.osdp_tool_streams.proofs.FormLemmas.{kept-append}
pub use Rattle.osdp_tool_times.specs.Captures.{after_line, from_start, Heard, item_after, item_told, line_told, moment_or, run_after, start_in}
pub use Rattle.osdp_tool_times.specs.declared.table.Times.{Times}
pub use Rattle.osdp_tool_times.specs.declared.waits.Told.TheVariants.{InTime, Late, Nothing}
pub use Rattle.osdp_tool_times.specs.MomentLaws.{TellsDays, TellsEachWay, TellsSeconds}
pub use Rattle.osdp_tool_times.specs.Moments.{before_way, ends_so, has_date, is_decimal, milliseconds, moment_in, moment_of_day, next_number, number_from, point_in, seconds_in, stamp_in, thousandths, way_length}
pub use Rattle.osdp_tool_times.specs.Waits.{after_reply, after_sent, in_time, is_copied, is_of_last, is_of_older, late, late_from, no_waits, told_reply}
pub use Rattle.osdp_tool_times.specs.declared.waits.Sent.{Sent}
pub use Rattle.osdp_tool_times.specs.Laws.{TellsNothingBefore}
pub use Rattle.memchr.specs.Find.{is_byte}
pub use Rattle.memchr.proofs.lemmas.ValueLemmas.{IsFirstByte-value}
pub use Rattle.osdp_tool_times.specs.Numbers.{one_more}
pub use Rattle.osdp_tool_times.specs.Text.{all_from, device_objects, device_text}
pub use Rattle.osdp_tool_times.specs.Times.{step_at}
