use Rattle.osdp_ring.proofs.Common.{◌≡◌, drop, Some, None, sym, ◌∙◌, refl, rules, length-drop, slice_get}
use Rattle.osdp_ring.proofs.Cuts.{first_cut, first_none, first_within}
use Rattle.osdp_ring.proofs.ring.Ring.front.Goals as goal

pub returns-in_err-size : goal.returns-in_err-size
returns-in_err-size c =
    let r = c.self.inside in
    let none : slice_get r.sizes.items 0 ≡ None = search rules in
    rw (← c.self.view_is, c.from_residual.ensures, first_none r.sizes.items (drop r.gone r.row.items) none) refl

pub split_at-requires-2 : goal.split_at-requires-2
split_at-requires-2 c =
    let r = c.self.inside in
    let some : slice_get r.sizes.items 0 ≡ Some c.in_ok-size.field-0.now = search rules in
    let left = length-drop r.gone r.row.items in
    let within = first_within r.sizes.items (drop r.gone r.row.items) _ some (c.self.invariant.whole ∙ sym left) in
    rw (c.from.ensures, c.split_at.ensures.back, c.as_slice.ensures.value) within

pub returns : goal.returns
returns c =
    let r = c.self.inside in
    let some : slice_get r.sizes.items 0 ≡ Some c.in_ok-size.field-0.now = search rules in
    rw (← c.self.view_is, first_cut r.sizes.items (drop r.gone r.row.items) _ some, c.split_at-2.ensures.front, c.split_at.ensures.back, c.as_slice.ensures.value, c.from.ensures) refl
