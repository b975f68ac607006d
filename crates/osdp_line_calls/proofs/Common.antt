-- The names that most proofs of this crate cite, passed on from one place. Declares nothing.
pub use Rattle.std.proofs.Common.{[], ap, append-nil, append_assoc, arith, Bool, codes, cond, drop, Err, false, inl, inr, length, length-drop, List, max, min, None, Ok, Option, option_map, refl, Result, slice_get, slice_index_or, Some, string_bytes, subst, suc, sym, take, true, zero, ℕ, ◌++◌, ◌+◌, ◌-◌, ◌<◌, ◌^◌, ◌∙◌, ◌∷◌, ◌≡◌, ◌≤◌}
pub use Rattle.std.specs.Prelude.{IfSome, if◌then◌else◌, IsSome, OnOk, slice_index, ◌&&◌}
pub use Rattle.std.proofs.lemmas.List.{drop_all, drop_more, take_all}
pub use Rattle.osdp_reader.specs.State.{after_lapse_event, after_withdraw_event, ReaderState}
pub use Rattle.osdp_device.specs.Ages.{after_expiry, after_removal, after_saying, AgesState, expired, expired_front, expires, is_offline, is_past}
pub use Rattle.osdp_device.specs.Device.{DeviceState}
pub use Rattle.osdp_device.specs.declared.status.DeviceStatus.{DeviceStatus}
pub use Rattle.osdp_line_calls.specs.ReaderAbsence.{goes_first, keeps_all, LetGo, lets_go, lets_some_go}
pub use Rattle.osdp_line_calls.specs.ReaderTexts.{all_lines, expired_line, expired_lines, no_line, said_lines}
pub use Rattle.osdp_frame.specs.Items.{items, left_over, rest_of}
pub use Rattle.osdp_frame.specs.Receiving.{ends_run, IsAllRead, IsReceived, Received}
pub use Rattle.osdp_frame_laws.proofs.InTurn.{all_taken, item_leaves, item_read, none_left, over_items, over_leaves, piece_read, piece_some, piece_taken, PieceTaken}
pub use Rattle.osdp_bus.specs.Entries.{first_from, is_at}
pub use Rattle.osdp_line_calls.specs.Passing.{acts_on, acts_on_reason, Listening, number_text, opening_acts_on, passed_item, passed_items, passed_reading, passed_text}
pub use Rattle.osdp_panel.specs.Deadlines.{IsDeadline}
pub use Rattle.osdp_msg.specs.declared.command.Command.{Command}
pub use Rattle.osdp_msg.specs.CommandTable.{CommandFits}
pub use Rattle.osdp_msg.specs.CommandText.{command_words}
pub use Rattle.osdp_msg.proofs.RowTexts.{differ, IsRow, row_read}
pub use Rattle.osdp_words.specs.Word.{number, numbers, texts, Word}
pub use Rattle.osdp_line_calls.specs.declared.panel_call.PanelCall.TheVariants.{Add, At, Begin, Bytes, Retarget, Silence, Submit, Tick, Withdraw, Write}
pub use Rattle.osdp_line_calls.specs.PanelCalls.{call_fields, call_name, CallFits, entry_word, IsAddress, IsEntry, IsMoment, until_word}
pub use Rattle.osdp_controller.specs.Settings.{default_config, IsConfig}
pub use Rattle.osdp_frame.specs.declared.check_kind.CheckKind.TheVariants.{Crc}
pub use Rattle.osdp_bus.specs.Settings.{IsBusConfig}
pub use Rattle.osdp_settings.proofs.Reading.{some_same}
pub use Rattle.osdp_device.specs.Hearing.{Heard, hears_bytes, reads_all, turns_left}
pub use Rattle.osdp_device.specs.Status.{status_after, status_answer}
pub use Rattle.osdp_device.proofs.Pieces.{all_read, fewer_turns, last_turn, seen_in_turn, takes_in_turn}
pub use Rattle.osdp_frame.proofs.Receipt.{received_silence, received_take, received_tick}
pub use Rattle.osdp_settings.specs.Values.{switch_word}
pub use Rattle.osdp_frame.specs.Held.{Held}
pub use Rattle.osdp_device.specs.Saying.{Said}
pub use Rattle.osdp_device.specs.Telling.{after_all, after_items, items_of, next_told, said_to_all, TellsInTurn, Told}
pub use Rattle.osdp_line_calls.specs.ReaderSessions.{ages_heard, is_any, IsHeard, tells_waiting}
pub use Rattle.osdp_line_calls.specs.Runs.{HasNotFailed, new_device, Runs, SetsNone}
pub use Rattle.osdp_line_calls.specs.PanelSessions.{overhears, Session}
