-- The names that most proofs of this crate cite, passed on from one place. Declares nothing.
pub use Rattle.std.proofs.Common.{[], ap, arith, Bool, drop, false, inl, inr, length, List, max, None, not, Option, refl, Some, subst, suc, sym, take, true, zero, ℕ, ◌&&◌, ◌++◌, ◌+◌, ◌-◌, ◌<◌, ◌||◌, ◌∙◌, ◌∷◌, ◌≡◌, ◌≤◌}
pub use Rattle.std.specs.Prelude.{if◌then◌else◌, is_some, nat_le, nat_lt, slice_get, slice_set, ◌^◌}
pub use Rattle.osdp_bus.specs.declared.entry.Entry.{Entry}
pub use Rattle.osdp_bus.specs.Buses.{BusState, device_of}
pub use Rattle.osdp_bus.specs.Waits.{IsDueFrom, earlier}
pub use Rattle.osdp_panel.specs.Giving.{is_late, late_from}
pub use Rattle.osdp_panel.specs.Orders.{Orders, PanelState, kept, kept_from, until_of}
