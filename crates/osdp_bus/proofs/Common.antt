-- The names that most proofs of this crate cite, passed on from one place. Declares nothing.
pub use Rattle.std.proofs.Common.{[], ap, append_assoc, arith, Bool, cond, drop, false, inr, is_some, length, length-drop, List, max, None, not, Option, option_map, refl, replicate, rules, Some, subst, suc, sym, take, take-append-drop, true, vec_capacity, zero, ℕ, ◌&&◌, ◌++◌, ◌+◌, ◌-◌, ◌<◌, ◌==◌, ◌^◌, ◌||◌, ◌∙◌, ◌∷◌, ◌≡◌, ◌≢◌, ◌≤◌}
pub use Rattle.std.specs.Prelude.{nat_le, slice_get, slice_set}
pub use Rattle.std.specs.Option.{option_map_or, option_or}
pub use Rattle.std.proofs.lemmas.List.{nil_from_length, take_all}
pub use Rattle.std.specs.List.{list_any}
pub use Rattle.std.proofs.lemmas.Bool.{eqb-false, eqb-true, le-leb, leb-false, leb-true, ne_eqb}
pub use Rattle.std.proofs.lemmas.Option.{slice_get-get_or}
pub use Rattle.osdp_controller.specs.declared.report.Report.{Report}
pub use Rattle.osdp_bus.specs.declared.entry.Entry.{Entry}
pub use Rattle.osdp_bus.specs.Private.{devices_of, memories_of, ReadsHead, state_of}
pub use Rattle.osdp_bus.specs.Remembering.{may_be_again, memory_at, nothing_yet, Remembered, remembers, remembers_at}
pub use Rattle.osdp_frame.specs.Held.{after_advance, after_first, after_push, by_itself, decided, Held, later, taken_count}
pub use Rattle.osdp_frame.specs.Items.{items, left_over, rest_of}
pub use Rattle.osdp_frame.specs.Receiving.{ends_run as run_ends, IsAllRead, IsReceived, Received}
pub use Rattle.osdp_frame_laws.proofs.InTurn.{all_taken, item_leaves, item_read, none_left, over_items, over_leaves, piece_read, piece_some, piece_taken, PieceTaken}
pub use Rattle.osdp_frame_laws.proofs.LeftOver.{items_nothing, some_ended}
pub use Rattle.osdp_bus.specs.Buses.{BusState, device_of, Devices, has_report, holder, is_silent, is_told_maybe_again, waiting_after}
pub use Rattle.osdp_bus.specs.Hearing.{ends_run, ends_silent, hears_item, hears_items}
pub use Rattle.osdp_bus.specs.Deadlines.{acts, has_acted, is_run_ended, IsDeadline}
pub use Rattle.osdp_bus.specs.Entries.{first_around, first_from, holds, is_at, is_entry_due, step_of, takes_up}
pub use Rattle.osdp_bus.specs.Waits.{any_due, IsDueFrom, IsHolderDeadline}
pub use Rattle.osdp_frame.specs.Shown.{item_of}
