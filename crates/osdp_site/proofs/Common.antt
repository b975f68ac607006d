-- The names that most proofs of this crate cite, passed on from one place. Declares nothing.
pub use Rattle.std.proofs.Common.{[], ap, arith, Bool, drop, false, inl, inr, length, List, None, Option, refl, replicate, Some, subst, suc, sym, take, true, vec_capacity, zero, ℕ, ◌&&◌, ◌++◌, ◌+◌, ◌<◌, ◌||◌, ◌∙◌, ◌∷◌, ◌≡◌, ◌≤◌}
pub use Rattle.std.specs.Prelude.{Err, if◌then◌else◌, is_ok, is_some, min, nat_le, nat_lt, Ok, remove, Result, slice_get, slice_set, ◌≢◌, ◌⊎◌}
pub use Rattle.std.specs.List.{All, list_any}
pub use Rattle.std.proofs.lemmas.Bool.{le-leb, leb-false, leb-true, lt-ltb, ltb-false}
pub use Rattle.std.proofs.lemmas.Option.{slice_get_read, slice_get_within}
pub use Rattle.std.specs.Option.{option_map_or}
pub use Rattle.std.proofs.lemmas.List.Elements.{All-append, All-drop, All-nil, All-take}
pub use Rattle.osdp_controller.specs.declared.report.Report.{Report}
pub use Rattle.osdp_site.specs.Acting.{Acted, acts_at, begins_anew, begins_due, submits, Submitted, submitted, unless_refused, withdraws}
pub use Rattle.osdp_site.specs.Laws.{Acts, after_move, after_moves, Heeds, heeds_all, is_end, is_opening, IsFirstBegin, IsState, IsTaken, Move, NoEnd, NoneIsDue, NoOpening, OnlineBetween, refreshed, refreshed_over, sent, sent_over, StopsAt, SubmittedOnce, Takes, WaitsForOthers, WaitsForThePause, Wants}
pub use Rattle.osdp_site.specs.Places.{after_pause, after_wants, after_wants_of, changed_unless, due_of, goes_offline, goes_online, heeds, is_due, is_online, is_reached, is_refreshed, is_too_long, new_place, opens, PlaceState, room_refusal, wants_over, wants_refusal, wants_refusal_of, without}
pub use Rattle.osdp_site.specs.Sites.{acts_first, Both, earlier, earliest_from, place_of, put_back, SiteState, wants_at, wants_refusal_at}
pub use Rattle.osdp_msg.specs.declared.command.Command.{Command}
pub use Rattle.osdp_bus.specs.Buses.{BusState}
pub use Rattle.osdp_bus.specs.Machine.{after_submit_at, order_refusal_at}
pub use Rattle.osdp_site.specs.declared.fault.SiteFault.{SiteFault}
pub use Rattle.osdp_site.specs.States.{first_about, subject_of}
pub use Rattle.osdp_controller.specs.Machine.{command_size}
