-- The names that most proofs of this crate cite, passed on from one place. Declares nothing.
pub use Rattle.std.specs.Prelude.{Box, slice_index}
pub use Rattle.std.proofs.Common.{[], ap, arith, Bool, cond, drop, eqb, Err, false, get_or, get_or-set_other, get_or-set_same, inl, inr, is_some, length, List, nat_eq, nat_le, None, not, Ok, Option, refl, Result, slice_set, Some, subst, sym, true, vec_capacity, ℕ, ◌&&◌, ◌+◌, ◌-◌, ◌<◌, ◌==◌, ◌↔◌, ◌∙◌, ◌∷◌, ◌≡◌, ◌≢◌, ◌≤◌, ◌⊎◌}
pub use Rattle.std.proofs.lemmas.Bool.{cond_both, eqb-false, eqb-true, false≢true, leb-true, ne_eqb}
pub use Rattle.osdp_msg.specs.declared.command.Command.{Command}
pub use Rattle.osdp_msg.specs.declared.command.Command.TheVariants.{Comset, Poll}
pub use Rattle.osdp_msg.specs.declared.fault.MsgFault.{MsgFault}
pub use Rattle.osdp_msg.specs.declared.reply.Reply.{Reply}
pub use Rattle.osdp_msg.specs.declared.reply.Reply.TheVariants.{Ack, Com}
pub use Rattle.osdp_monitor.specs.Known.{Known, nothing_known}
pub use Rattle.osdp_frame.specs.Packet.{next_sequence, Packet}
pub use Rattle.osdp_monitor.specs.Line.{after_answered, after_reply_if, copies_last, devices_after, devices_after_reply, devices_after_sent, found_in, found_in_reply, found_in_sent, is_last, Knowledge, known_at, moves_to, nothing_wrong}
pub use Rattle.osdp_monitor.specs.Panel.{after_sent}
pub use Rattle.osdp_monitor.specs.Private.{known_in, known_of}
pub use Rattle.osdp_monitor.specs.Laws.{HasUnknownCode, MovesByCom, PassesOver, PlainIsFine}
pub use Rattle.osdp_monitor.specs.Saying.{asked, is_foreign, is_unknown, moved_by, reply_told}
