-- The names that most proofs of this crate cite, passed on from one place. Declares nothing.
pub use Rattle.std.proofs.Common.{[], ap, arith, Bool, drop, false, leb, length, length-append, List, ltb, None, refl, rules, Some, suc, sym, take, true, zero, ℕ, ◌&&◌, ◌++◌, ◌+◌, ◌-◌, ◌<◌, ◌∙◌, ◌∷◌, ◌≡◌, ◌≤◌}
pub use Rattle.std.proofs.lemmas.List.{drop-append-le, drop-take, drop_at, length-drop, length-take, take-append-le}
pub use Rattle.std.specs.Prelude.{slice_get}
pub use Rattle.std.proofs.lemmas.Bool.{le-ltb, leb-true, lt-ltb, ltb-true}
pub use Rattle.osdp_ring.specs.Ring.{begins, cut, has_first, sum_of, total}
