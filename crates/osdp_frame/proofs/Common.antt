-- The names that most proofs of this crate cite, passed on from one place. Declares nothing.
pub use Rattle.std.proofs.Common.{[], All, ap, append_assoc, arith, Bool, cond, drop, eqb, false, get_or, inl, inr, length, List, ltb, None, not, Option, refl, replicate, rules, slice_range, Some, subst, suc, sym, take, true, zero, ℕ, ◌%◌, ◌&&◌, ◌*◌, ◌++◌, ◌+◌, ◌-◌, ◌/◌, ◌<◌, ◌∙◌, ◌∷◌, ◌≡◌, ◌≢◌, ◌≤◌, ◌⊎◌}
pub use Rattle.std.proofs.lemmas.Bool.{cases_lt, eqb-false, eqb-true, false≢true, le-ltb, lt-ltb, ltb-false, ltb-true}
pub use Rattle.std.proofs.Math.Seq.{take-add}
pub use Rattle.std.proofs.lemmas.List.{append-nil, drop-append-le, drop-drop, drop-take, drop_at, get_or-drop, get_or-take, get_or_append_left, get_or_default, get_or_past, length-append, length-drop, length-replicate, length-take, length-take-le, take-append-drop, take-append-le, take-take, take_at, take_more, take_rest}
pub use Rattle.std.specs.Prelude.{IsNone, nat_lt, ◌==◌}
pub use Rattle.std.proofs.lemmas.Bool.Decides.{nat_tests}
pub use Rattle.std.specs.List.{between, fold}
pub use Rattle.osdp_frame.specs.Buffered.{buffered, Buffered, bytes_of, IsBuffer}
pub use Rattle.osdp_frame.specs.Bytes.{AreBytes}
pub use Rattle.osdp_frame.specs.Running.{GoesBy, GoesOver, IsRunning}
pub use Rattle.osdp_frame.specs.declared.fault.FrameFault.TheVariants.{BadCheck, Ended, TooLong, TooShort}
pub use Rattle.osdp_frame.specs.Check.{check_of, check_size}
pub use Rattle.osdp_frame.specs.Packet.{IsPacket, largest, Packet, packet_length}
pub use Rattle.osdp_frame.specs.Spelling.{address_byte, control_byte, crc_bit, front, spelling, Spells, start_of_message}
pub use Rattle.osdp_frame.specs.Reading.{Begins, check_at, count_at, HasFault, IsChecked, IsFirst, IsFirstFault, IsUndecided, item_size, PacketItem, RefusedItem, RunItem, SkippedItem, smallest, Stands}
pub use Rattle.osdp_frame.specs.declared.first.First.{First}
pub use Rattle.osdp_frame.specs.First.{FirstFits, item_if, item_in, PacketFits}
pub use Rattle.osdp_frame.specs.Held.{after_advance, after_first, after_push, by_itself, decided, Held, is_checked, later, new_run, packet_at, taken_count}
pub use Rattle.osdp_frame.specs.declared.check_kind.CheckKind.{CheckKind}
pub use Rattle.osdp_frame.specs.declared.check_kind.CheckKind.TheVariants.{Crc, Sum}
pub use Rattle.osdp_check.specs.Checksum.{sum_from}
pub use Rattle.osdp_check.specs.Crc.{crc_from}
pub use Rattle.osdp_frame.specs.Shown.{item_of, item_read}
