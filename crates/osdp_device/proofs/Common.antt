-- The names that most proofs of this crate cite, passed on from one place. Declares nothing.
pub use Rattle.std.proofs.Common.{[], ap, append-nil, append_assoc, arith, Bool, cond, drop, Err, false, if◌then◌else◌, inl, inr, is_some, leb, length, length-append, length-drop, length-take, List, ltb, map, max, min, nat_le, None, not, Ok, Option, option_map, refl, Result, slice_get, Some, subst, suc, sym, take, take-append-drop, true, zero, ℕ, ◌&&◌, ◌*◌, ◌++◌, ◌+◌, ◌-◌, ◌<◌, ◌==◌, ◌↔◌, ◌∙◌, ◌∷◌, ◌≡◌, ◌≤◌, ◌⊎◌}
pub use Rattle.std.proofs.Math.Seq.{drop-drop}
pub use Rattle.std.proofs.lemmas.Bool.{leb-true, ltb-true}
pub use Rattle.std.specs.Result.{result_ok}
pub use Rattle.osdp_msg.specs.declared.command.Command.{Command}
pub use Rattle.osdp_reader.specs.declared.handler.Answer.{Answer}
pub use Rattle.osdp_reader.specs.State.{after_set_handler, after_withdraw_event, ReaderState}
pub use Rattle.osdp_device.specs.Hearing.{Heard, hears_bytes, NeedsFewerTurns, reads_all, reads_on, TakesInTurn, then_hears, then_reads, turns_left}
pub use Rattle.osdp_frame.specs.Receiving.{after_take, after_tick, comes_in, ends_run, ends_silent, is_silent, IsAllRead, IsReceived, Received, seen}
pub use Rattle.osdp_frame.specs.Packet.{largest, Packet}
pub use Rattle.osdp_msg.specs.declared.command.Command.TheVariants.{Poll}
pub use Rattle.osdp_reader.specs.declared.kind.Kind.{Kind}
pub use Rattle.osdp_reader.specs.declared.kind.Kind.TheVariants.{Repeat, Silent, Taken, Zero}
pub use Rattle.osdp_reader.specs.Table.{answer_to, answered, begun, command_in, event_or_answer, hears, kind_of, outcome, Outcome, taken}
pub use Rattle.osdp_device.specs.Orders.{either, is_nak, is_refusal, order_by}
pub use Rattle.osdp_device.specs.Saying.{after_item, again_by, answers_first, but_poll, bytes_of, is_answered, Said, said_of, said_to, speaks, taken_by, unless_silent}
pub use Rattle.osdp_device.specs.declared.order.Order.TheVariants.{Again, Nothing, Once, Refused}
pub use Rattle.osdp_frame.specs.Bytes.{AreBytes}
pub use Rattle.osdp_frame.specs.Reading.{IsReading, item_size, PacketItem, RefusedItem, RunItem, SkippedItem, total_size}
pub use Rattle.osdp_frame.specs.Held.{after_advance, after_first, after_gap, after_push, decided, Held, later, new_run, taken_count}
pub use Rattle.osdp_frame.specs.Items.{items, left_over}
pub use Rattle.osdp_frame.proofs.Head.{AreBytes-append, AreBytes-drop, AreBytes-take}
pub use Rattle.osdp_frame_laws.proofs.LeftOver.{gap_items, items_nothing, left_is, left_over-append, left_same, some_ended}
pub use Rattle.osdp_frame_laws.proofs.OneByOne.{fewer_held, items_after, still_ended}
pub use Rattle.osdp_frame_laws.proofs.Readings.{decided_nothing, is_reading, items-append, items_undecided, left_undecided, undecided_small}
pub use Rattle.osdp_device.specs.Telling.{after_all, after_items, items_of, listed, next_told, said_to_all, TellsInTurn, Told, told_by, told_or}
pub use Rattle.osdp_msg.specs.declared.fault.MsgFault.{MsgFault}
pub use Rattle.osdp_device.specs.Deciding.{acted_on, handled, passed, passed_by, pending_at, pending_in, pending_of, stops, turned, turned_by, unless_own}
pub use Rattle.osdp_device.specs.Lent.{pending_if, said_if}
pub use Rattle.osdp_frame.specs.Spelling.{spelling}
pub use Rattle.osdp_msg.specs.declared.event.Event.{Event}
pub use Rattle.osdp_msg.specs.declared.reply.Reply.{Reply}
pub use Rattle.osdp_reader.specs.Queue.{bytes_waiting, event_for, event_size, has_room, Queue, released}
pub use Rattle.osdp_reader.specs.Replies.{own_reply, refused, reply_for, reply_packet, unread_reason}
pub use Rattle.osdp_device.specs.DecidingLaws.{IsSaidTo}
pub use Rattle.osdp_device.specs.Program.{program_after, program_answer, set_or_told}
pub use Rattle.osdp_device.specs.declared.program.ProgramAnswers.{ProgramAnswers}
pub use Rattle.osdp_device.specs.declared.question.Question.{Question}
pub use Rattle.osdp_device.specs.declared.question.Question.TheVariants.{Answered, Asked, NotAsked}
pub use Rattle.osdp_frame.specs.Shown.{item_of}
pub use Rattle.osdp_device.specs.Device.{command_at}
