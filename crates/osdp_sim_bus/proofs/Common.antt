-- The names that most proofs of this crate cite, passed on from one place. Declares nothing.
pub use Rattle.std.proofs.Common.{[], All, ap, arith, Bool, drop, false, get_or, if◌then◌else◌, inl, inr, is_some, length, List, map, nat_le, None, Option, refl, rules, set, slice_index_or, Some, subst, suc, sym, take, true, vec_capacity, zero, ℕ, ◌&&◌, ◌*◌, ◌++◌, ◌+◌, ◌-◌, ◌<◌, ◌∙◌, ◌∷◌, ◌≡◌, ◌≢◌, ◌≤◌}
pub use Rattle.std.specs.Prelude.{max, option_map, slice_get, slice_set}
pub use Rattle.std.specs.Option.{option_map_or}
pub use Rattle.std.proofs.lemmas.List.{append-nil, append_assoc, drop-set-lt, drop_more, length-map, length-set, map-append, map-set, nil_from_length, take_all, take_more, take_more_set}
pub use Rattle.std.proofs.lemmas.List.Elements.{All-append, All-cons, All-head, All-nil, All-push, All-tail}
pub use Rattle.std.specs.List.{flat_map, list_all, list_any}
pub use Rattle.std.proofs.lemmas.Bool.{leb-true}
pub use Rattle.std.proofs.lemmas.Option.{slice_get-get_or, slice_get-map}
pub use Rattle.std.specs.Vec.Iter.{into_iter_items, into_iter_len}
pub use Rattle.osdp_bus.specs.Buses.{BusState, device_of, seen}
pub use Rattle.osdp_bus.specs.Machine.{after_add, after_begin_at, after_next_report, entry_begins, entry_submits, new_device, submit_refusal_at}
pub use Rattle.osdp_bus.specs.declared.entry.Entry.{Entry}
pub use Rattle.osdp_sim_bus.specs.State.{address_of, AreSent, begun_device, bus_with, Given, LineState, new_site, ReaderSite, set_up}
pub use Rattle.osdp_frame.specs.Items.{packets_in}
pub use Rattle.osdp_frame.specs.Packet.{Packet}
pub use Rattle.osdp_msg.specs.declared.command.Command.{Command}
pub use Rattle.osdp_controller.specs.declared.report.Report.{Report}
pub use Rattle.osdp_reader.specs.declared.handler.Answer.{Answer}
pub use Rattle.osdp_bus.specs.declared.fault.BusFault.{BusFault}
pub use Rattle.osdp_sim.specs.Line.{bytes_of, handed, IsSent, left, sent}
pub use Rattle.osdp_sim.specs.Steps.{moment_after, SaysFit}
pub use Rattle.osdp_sim.specs.declared.step.SimStep.{SimStep}
pub use Rattle.osdp_sim.specs.declared.step.SimStep.TheVariants.{Busy, Issue, Queue, Reopen, ToController, ToReader, Wait}
pub use Rattle.osdp_sim_bus.specs.Steps.{after_step, all_hear, all_hear_each, changed_site, hears_run, is_there, issued, report_told, site_begins, site_hears, site_is_busy, site_is_told, site_issues, site_queues, site_says, StepFits, waited}
pub use Rattle.osdp_sim_bus.specs.Room.{HasPlace, site_of, sites_of, state_of}
pub use Rattle.osdp_sim_bus.specs.Laws.{HasAnAccountEach, LeavesTheOthers, ReachesEach, site_hears_each, TellsAtOnce}
pub use Rattle.osdp_sim_bus.specs.Runs.{are_apart, is_at, is_reader_in_range, lists_of_all, run}
pub use Rattle.osdp_sim.specs.State.{room_for}
