-- The names that most proofs of this crate cite, passed on from one place. Declares nothing.
pub use Rattle.std.specs.Prelude.{All, if◌then◌else◌, IsTrue}
pub use Rattle.std.proofs.Common.{[], ap, append_assoc, arith, Bool, cond, drop, eqb, false, inl, inr, length, List, lit<, max, min, None, not, Option, option_to_list, refl, Some, subst, suc, sym, take, true, zero, ℕ, ◌%◌, ◌&&◌, ◌*◌, ◌++◌, ◌+◌, ◌-◌, ◌/◌, ◌<◌, ◌==◌, ◌^◌, ◌∙◌, ◌∷◌, ◌≡◌, ◌≤◌}
pub use Rattle.std.proofs.lemmas.Bool.{eq-eqb, eqb-true, false≢true, le-leb, lt-leb, ne_eqb}
pub use Rattle.std.proofs.lemmas.List.{append-nil, drop-append-le, drop-drop, drop_all, get_or_default, length-append, length-drop, length-take-le, take_all}
pub use Rattle.std.specs.Option.{option_map_or}
pub use Rattle.osdp_frame.specs.Bytes.{AreBytes}
pub use Rattle.osdp_frame.specs.Packet.{IsPacket, largest, Packet, packet_length}
pub use Rattle.osdp_frame.specs.Reading.{IsFirst, IsReading, item_size, PacketItem, RefusedItem, RunItem, SkippedItem, Stands, total_size}
pub use Rattle.osdp_frame.specs.Items.{left_over, reading}
pub use Rattle.osdp_frame.specs.Held.{after_advance, after_first, after_gap, after_push, decided, Held, later, new_run, taken_count}
pub use Rattle.osdp_frame.proofs.Head.{AreBytes-append, AreBytes-cons, AreBytes-drop, AreBytes-nil, AreBytes-take, Tells-Begins}
pub use Rattle.osdp_frame.proofs.Decided.{AreBytes-front, decided_first, decided_more, first_decided, none_undecided, one_item, stands_first, undecided_ended, undecided_none, WantsMore}
pub use Rattle.osdp_frame.specs.Receiving.{comes_in, ends_run, ends_silent, is_silent, IsAllRead, IsReceived, Received, seen}
pub use Rattle.osdp_frame.specs.declared.check_kind.CheckKind.TheVariants.{Crc, Sum}
pub use Rattle.osdp_frame.specs.Spelling.{address_byte, control_byte, crc_bit, front, Spells}
pub use Rattle.osdp_frame.proofs.Spelled.{length-spelled}
