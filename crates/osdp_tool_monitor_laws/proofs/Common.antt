-- The names that most proofs of this crate cite, passed on from one place. Declares nothing.
pub use Rattle.std.proofs.Common.{[], ap, append-nil, append_assoc, arith, Bool, codes, cond, count_by, decimal, drop, eqb, false, filter, flat_map, get_or, inl, inr, leb, length, List, ltb, min, None, not, Ok, Option, refl, Result, set, Some, subst, suc, sym, true, zero, ℕ, ◌&&◌, ◌*◌, ◌++◌, ◌+◌, ◌-◌, ◌/◌, ◌<◌, ◌^◌, ◌||◌, ◌↔◌, ◌∙◌, ◌∷◌, ◌≡◌, ◌≢◌, ◌≤◌, ◌⊎◌}
pub use Rattle.std.proofs.lemmas.Bool.{and_from, and_parts, both_ways, cases_Bool, cases_lt, cond-false, cond-true, cond_both, eq-eqb, eqb-false, eqb-true, le-leb, le-ltb, leb-false, leb-true, lt-leb, lt-ltb, ltb-false, ltb-true, ne_eqb, not-true, or_cases}
pub use Rattle.std.proofs.lemmas.List.{drop_all, drop_more, get_or-replicate, get_or-set_other, get_or-set_same, length-replicate, length-set}
pub use Rattle.std.proofs.lemmas.List.Sums.{count_by-le-length, sum_by-cons}
pub use Rattle.std.specs.Prelude.{is_some}
pub use Rattle.osdp_frame.specs.Packet.{Packet}
pub use Rattle.osdp_frame.specs.Reading.{PacketItem, RefusedItem, RunItem, SkippedItem}
pub use Rattle.osdp_monitor.specs.declared.found.Found.{Found}
pub use Rattle.osdp_monitor.specs.declared.found.Notice.{Notice}
pub use Rattle.osdp_monitor.specs.declared.found.Notice.TheVariants.{Moved, Opened, Restarted}
pub use Rattle.osdp_monitor.specs.Line.{copies_last, no_knowledge}
pub use Rattle.osdp_msg.specs.declared.fault.MsgFault.{MsgFault}
pub use Rattle.osdp_msg.specs.declared.nak.NakReason.{NakReason}
pub use Rattle.osdp_msg.specs.declared.nak.NakReason.TheVariants.{SecurityConditions}
pub use Rattle.osdp_msg.specs.declared.reply.Reply.{Reply}
pub use Rattle.osdp_tool_monitor.specs.declared.counts.Counts.{Counts}
pub use Rattle.osdp_tool_monitor.specs.Counts.{after_any_packet, after_damage, after_packet, after_reply, after_sent, counts_after, counts_after_damage, is_ghost, kind_of_reason, kind_of_reply, more_if, no_counts, table_of}
pub use Rattle.osdp_tool_monitor.specs.Trail.{after_bad, hit_by, is_clean}
pub use Rattle.osdp_tool_monitor.specs.Listening.{after_table, ended, heard_item, heard_items, Listening, nothing_heard, tabled_now, told_in}
pub use Rattle.osdp_tool_show.specs.Told.{is_packet, is_skipped}
pub use Rattle.osdp_tool_monitor_laws.specs.Counting.{accused, answered, brought, busy, capped, Entry, judged, moved, opened, polled, refused, repeated, sent}
pub use Rattle.osdp_monitor.specs.Saying.{reply_told}
pub use Rattle.osdp_tool_monitor_laws.specs.Faults.{demanded, doubled, replied, restarted, secured, so_many}
pub use Rattle.osdp_tool_monitor_laws.specs.Told.{asked, Heard, hits, IsAHalf, IsDoubled, IsHurt, IsMeasured, IsMute, IsOnceIn, IsShared, IsSilent, IsThere, IsTouched, LosesAnswers, needless, number, packets, rate, unanswered, whole}
pub use Rattle.osdp_tool_monitor.specs.Diagnoses.{add, diagnoses_text, has_damage, is_measured, is_mute, is_touched, loses, survey_of}
pub use Rattle.osdp_tool_show.specs.Tally.{after_run, tally_after}
pub use Rattle.osdp_tool_show.specs.declared.tally.Tally.{Tally}
