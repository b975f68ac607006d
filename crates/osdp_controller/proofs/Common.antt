-- The names that most proofs of this crate cite, passed on from one place. Declares nothing.
pub use Rattle.std.proofs.Common.{[], ap, arith, Bool, drop, false, length, length-append, List, map, None, not, Option, refl, rules, Some, subst, sym, true, ℕ, ◌&&◌, ◌*◌, ◌++◌, ◌+◌, ◌-◌, ◌<◌, ◌∙◌, ◌∷◌, ◌≡◌, ◌≤◌}
pub use Rattle.std.specs.Prelude.{IfSome, if◌then◌else◌, is_some, nat_le, nat_lt, ◌==◌}
pub use Rattle.std.specs.List.{All}
pub use Rattle.std.specs.Option.{option_copied, option_map_or}
pub use Rattle.std.proofs.lemmas.Bool.{le-leb, leb-true, lt-ltb, ltb-false, ltb-true}
pub use Rattle.std.proofs.lemmas.List.{length-drop, length-map}
pub use Rattle.std.proofs.lemmas.List.Elements.{All-drop, All-head, All-nil, All-push, All-tail}
pub use Rattle.osdp_msg.specs.declared.command.Command.{Command}
pub use Rattle.osdp_controller.specs.declared.exchange.Exchange.{Exchange}
pub use Rattle.osdp_controller.specs.declared.exchange.Exchange.TheVariants.{Asking, Opening, Polling}
pub use Rattle.osdp_controller.specs.Exchanges.{submitted_command, is_order}
pub use Rattle.osdp_msg.specs.declared.limits.Room.{Room}
pub use Rattle.osdp_msg.specs.CommandTable.{command_code, command_data}
pub use Rattle.osdp_msg.specs.Kept.{command_kept}
pub use Rattle.osdp_msg.specs.Limits.{most_data}
pub use Rattle.osdp_controller.specs.declared.session.Session.{Session}
pub use Rattle.osdp_controller.specs.Commands.{IsCommand}
pub use Rattle.osdp_controller.specs.Held.{exchange_of, on_its_way, outstanding_in, state_in, state_of}
pub use Rattle.osdp_controller.specs.Machine.{AreSettings, bytes_waiting, command_size, has_room, is_outstanding, IsOutstanding, IsSession, IsState, IsSubmitted, OpensAtZero}
pub use Rattle.osdp_controller.specs.Waiting.{bytes_for, first_of, IsController, machine_of, session_of, waiting_in}
pub use Rattle.osdp_ring.specs.Ring.{empty_ring, fits_in, Strings, total}
pub use Rattle.osdp_frame.specs.Packet.{next_sequence, Packet}
pub use Rattle.osdp_msg.specs.declared.command_fields.Communication.{Communication}
pub use Rattle.osdp_msg.specs.declared.reply.Reply.{Reply}
pub use Rattle.osdp_msg.specs.declared.reply_fields.PdId.{PdId}
pub use Rattle.osdp_controller.specs.declared.meaning.ReplyMeaning.{ReplyMeaning}
pub use Rattle.osdp_controller.specs.declared.meaning.ReplyMeaning.TheVariants.{Damaged, NotTaken, NumberRefused, Plain, Unreadable}
pub use Rattle.osdp_controller.specs.declared.exchange.Outstanding.{Outstanding}
pub use Rattle.osdp_controller.specs.declared.state.State.{State}
pub use Rattle.osdp_controller.specs.declared.state.State.TheVariants.{Closed, Idle, Pausing, Quiet, Waiting}
pub use Rattle.osdp_controller.specs.Sessions.{after_send, is_poll_next, later, new_session, seen}
pub use Rattle.osdp_controller.specs.Ticking.{asks_or_polls, begins, begins as begins_exchange, gives_up, idle_ticks, polls, sends_frame, stays, Ticked, ticks_in, tries_again}
pub use Rattle.osdp_controller.specs.Hearing.{answered, answered_unread, com_of, command_answered, comset_of, Heard, hears, hears_busy, hears_in, ignores, is_from_reader, is_numbered, loses, moved_by, opening_answered, pausing_hears, pd_id_of, waiting_hears}
pub use Rattle.osdp_controller.specs.Private.{after_act, frame_if, is_over, next_in, numbered_in, popped_if, submitted_if}
pub use Rattle.osdp_controller.specs.Answers.{meaning_of}
pub use Rattle.osdp_controller.specs.States.{is_closed}
