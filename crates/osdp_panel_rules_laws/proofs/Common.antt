-- The names that most proofs of this crate cite, passed on from one place. Declares nothing.
pub use Rattle.std.proofs.Common.{[], ap, arith, Bool, cond, eqb, Err, false, inl, inr, List, None, not, Ok, Option, refl, Result, Some, subst, sym, true, ℕ, ◌&&◌, ◌+◌, ◌-◌, ◌<◌, ◌||◌, ◌∙◌, ◌∷◌, ◌++◌, ◌≡◌, ◌≢◌, ◌⊎◌}
pub use Rattle.std.proofs.lemmas.Bool.{and_parts, cond-false, cond-true, cond_both, eq-eqb, eqb-false, eqb-true, false_from_ne_true, false≢true, leb-false, leb-true, ne_eqb, or_cases, le-leb}
pub use Rattle.std.specs.Prelude.{◌≤◌, drop, nat_le, nat_lt, slice_index}
pub use Rattle.osdp_controller.specs.Answers.{is_not_taken, meaning_by_reading, meaning_by_reason, meaning_by_reply, meaning_of}
pub use Rattle.osdp_controller.specs.declared.config.ControllerConfig.{ControllerConfig}
pub use Rattle.osdp_controller.specs.declared.session.Session.{Session}
pub use Rattle.osdp_controller.specs.declared.state.State.{State}
pub use Rattle.osdp_controller.specs.declared.state.State.TheVariants.{Closed, Idle, Pausing, Quiet, Waiting}
pub use Rattle.osdp_controller.specs.Hearing.{answered, answered_unread, com_of, command_answered, comset_of, Heard, hears, hears_in, ignores, is_from_reader, is_numbered, loses, moved_by, opening_answered, pausing_hears, pd_id_of, waiting_hears}
pub use Rattle.osdp_controller.specs.Sessions.{later, seen}
pub use Rattle.osdp_frame.specs.Packet.{next_sequence, Packet}
pub use Rattle.osdp_msg.specs.declared.fault.MsgFault.{MsgFault}
pub use Rattle.osdp_msg.specs.declared.nak.NakReason.{NakReason}
pub use Rattle.osdp_msg.specs.declared.nak.NakReason.TheVariants.{CheckCharacters, UnexpectedSequence}
pub use Rattle.osdp_msg.specs.declared.reply.Reply.{Reply}
pub use Rattle.osdp_msg.specs.declared.reply_fields.Nak.{Nak as NakData}
pub use Rattle.osdp_msg.specs.ReplyTable.{reply_of}
pub use Rattle.osdp_panel_rules.specs.Findings.{again_finding, damage_finding, is_order, lapse_finding, online_finding, refusal_finding, sequel_of, taken_finding, wait_finding}
pub use Rattle.osdp_panel_rules.specs.Judging.{after_judged, judged, last_judged, online_judged, reply_judged, sent_judged, unanswered_judged, wait_judged}
pub use Rattle.osdp_panel_rules.specs.Known.{after_noise, after_packet, after_said, after_sent, is_last, nothing_known, said_first, said_to}
pub use Rattle.osdp_panel_rules.specs.Line.{address_of, after_event, asked_in, came, device, Event, known_of, Line, looks, Rule, said, shown, verdict_of}
pub use Rattle.osdp_panel_rules.specs.Saying.{by_number, by_reading, by_reason, by_reply, is_answer, is_busy, says}
pub use Rattle.osdp_panel_rules.specs.declared.aspect.Aspect.{Aspect}
pub use Rattle.osdp_panel_rules.specs.declared.known.Known.{Known}
pub use Rattle.osdp_panel_rules.specs.declared.said.Said.{Said}
pub use Rattle.osdp_panel_rules.specs.declared.said.Said.TheVariants.{Answer, Astray, Busy, Damage, Noise, Refusal, Silence}
pub use Rattle.osdp_panel_rules.specs.declared.sequel.Sequel.{Sequel}
pub use Rattle.osdp_panel_rules.specs.declared.sequel.Sequel.TheVariants.{Again, Altered, Anew, Next, Out}
pub use Rattle.osdp_panel_rules_laws.specs.Before.{Answers, Comes, Each, FirstSaid, Follows, IsAnswer, IsAt, IsFrom, IsNoName, IsSilent, IsSpoken, IsTo, IsWhether, LastSaid, LeavesAlone, LeavesOrIs, Says, SaysNothing, WasAnswered, WasFor, WasNamed, WasSaid, WasSaidTo}
pub use Rattle.osdp_panel_rules_laws.specs.Breaks.{Breaks, IsOrder, Keeps, LeavesOpen, Unanswered}
pub use Rattle.osdp_panel_rules_laws.specs.Laws.{BreaksNoRule, Finds, IsNowhere, IsNumbered, KnowsOrders, KnowsQuestions, Looks, needs_clock, NeverAccuses, Somewhere, TellsOk, TellsOpen, TellsUnclear}
pub use Rattle.osdp_rules.specs.Packets.{code_of, same_packet}
pub use Rattle.osdp_rules.specs.Verdicts.{verdict_after}
pub use Rattle.osdp_rules.specs.declared.finding.Finding.{Finding}
pub use Rattle.osdp_rules.specs.declared.finding.Finding.TheVariants.{Broken, Either, Kept, Nothing}
pub use Rattle.osdp_rules.specs.declared.verdict.Verdict.{Verdict}
pub use Rattle.osdp_rules.proofs.Comparing.{is_packet, packet_is}
