-- The names that most proofs of this crate cite, passed on from one place. Declares nothing.
pub use Rattle.std.proofs.Common.{[], ap, arith, Bool, codes, drop, Err, false, filter, get_or, IfOk, if◌then◌else◌, inl, inr, is_err, is_some, length, List, None, not, Ok, OnErr, OnOk, Option, refl, Result, Some, string_bytes, subst, suc, sym, take, take-append-drop, true, ℕ, ◌++◌, ◌<◌, ◌==◌, ◌||◌, ◌↔◌, ◌∙◌, ◌∷◌, ◌≡◌, ◌≤◌, ◌⊎◌}
pub use Rattle.std.specs.Str.{bytes_eq}
pub use Rattle.std.proofs.lemmas.Slice.Eq.{bytes_eq-Decides}
pub use Rattle.std.proofs.lemmas.Bool.{eqb-true, false≢true}
pub use Rattle.std.specs.Prelude.{IsOkUnless, IsSome}
pub use Rattle.osdp_tool.specs.Job.{ChoosesJobByWords, IsWordsOfJob, job_of, texts_of, wants_help, Words}
pub use Rattle.osdp_tool_streams.specs.declared.fault.ToolFault.TheVariants.{BadWords, WriteFailed}
pub use Rattle.osdp_tool.specs.declared.choice.Topic.{Topic}
pub use Rattle.osdp_words.specs.Word.{AllStandFor, texts}
pub use Rattle.osdp_msg.specs.CommandText.{command_words}
pub use Rattle.osdp_frame.specs.declared.check_kind.CheckKind.{CheckKind}
pub use Rattle.osdp_frame.specs.declared.check_kind.CheckKind.TheVariants.{Crc, Sum}
pub use Rattle.hex.specs.Hex.{encode_upper, IsBytes}
pub use Rattle.osdp_frame.specs.Packet.{IsPacket, Packet}
pub use Rattle.osdp_frame.specs.Spelling.{spelling, Spells}
pub use Rattle.osdp_msg.specs.CommandTable.{command_code, command_data, CommandFits}
pub use Rattle.osdp_tool.specs.declared.order.Message.{Message}
pub use Rattle.osdp_tool.specs.declared.order.Message.TheVariants.{Command, Reply}
pub use Rattle.osdp_tool.specs.declared.order.PacketOrder.{PacketOrder}
pub use Rattle.osdp_frame.specs.Check.{check_name, check_size}
pub use Rattle.osdp_tool.specs.PacketOrder.{message_body, message_is_reply, message_words, MessageFits, order_line, order_packet}
pub use Rattle.osdp_frame.specs.Bytes.{AreBytes}
pub use Rattle.osdp_frame.specs.Packed.{headed, packed}
pub use Rattle.osdp_msg.specs.declared.command.Command.{Command as CommandValue}
pub use Rattle.osdp_tool_streams.specs.Watched.{AppendsPart, has_failed, inner_of}
pub use Rattle.osdp_tool.specs.InputWords.{are_files, format_named, format_of, last_format}
