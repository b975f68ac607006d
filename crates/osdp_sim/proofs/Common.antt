-- The names that most proofs of this crate cite, passed on from one place. Declares nothing.
pub use Rattle.std.proofs.Common.{[], add-one, All, ap, arith, Bool, drop, false, get_or, IfSome, if◌then◌else◌, inl, inr, is_none, length, List, map, min, None, not, Option, refl, rules, slice_index_or, slice_set, Some, subst, suc, sym, take, true, ℕ, ◌&&◌, ◌++◌, ◌+◌, ◌-◌, ◌<◌, ◌==◌, ◌↔◌, ◌∙◌, ◌∷◌, ◌≡◌, ◌≤◌, ◌⊎◌}
pub use Rattle.std.proofs.lemmas.List.{append-nil, append_assoc, drop-append-le, length-append, length-drop, length-map, map-append, take-append-le, take_all}
pub use Rattle.std.specs.Prelude.{is_some, option_map, vec_capacity, vec_len, zip}
pub use Rattle.std.proofs.Math.Seq.{drop-cons, get_or-append_seam, set-append_seam, take-length}
pub use Rattle.arrayvec.specs.ArrayVec.{ArrayVec}
pub use Rattle.osdp_frame.specs.Held.{after_gap, after_push, by_itself, decided, Held, new_run}
pub use Rattle.osdp_frame.specs.Packet.{IsPacket, largest, Packet}
pub use Rattle.osdp_frame.specs.Spelling.{spelling, Spells}
pub use Rattle.osdp_sim.specs.Line.{bytes_of, handed, has_packet, IsSent, left, sent}
pub use Rattle.osdp_sim.specs.Steps.{after_step, controller_hears, damage_fault, issued, moment_after, queued, reader_hears, SaysFit, StepFits, waited}
pub use Rattle.osdp_sim.specs.declared.step.Move.{Move}
pub use Rattle.osdp_sim.specs.declared.step.Move.TheVariants.{Damage, Deliver, Drop, Repeat}
pub use Rattle.osdp_sim.specs.Kept.{commands_of, Keeping, parts, total}
pub use Rattle.osdp_sim.specs.declared.step.SimStep.{SimStep}
pub use Rattle.osdp_frame.specs.Items.{items, packets_in}
pub use Rattle.osdp_controller.specs.Ticking.{ticks}
pub use Rattle.osdp_sim.specs.State.{AreSent, SimState}
pub use Rattle.osdp_msg.specs.Kept.{command_kept, event_kept, reply_kept}
pub use Rattle.osdp_sim.specs.Room.{state_of}
