use Rattle.osdp_ring.proofs.Common.{◌≡◌, drop, Some, None, sym, ◌∙◌, refl, rules, length-drop, slice_get}
use Rattle.osdp_ring.proofs.Cuts.{first_within, none_after, rest_cut, sizes_left}
use Rattle.osdp_ring.proofs.ring.Ring.has_first_after_front.Goals as goal

pub returns-in_default : goal.returns-in_default
returns-in_default c =
    let r = c.self.inside in
    let none : slice_get r.sizes.items 0 ≡ None = search rules in
    rw (← c.self.view_is, none_after r.sizes.items (drop r.gone r.row.items) none) refl

pub split_at-requires-2 : goal.split_at-requires-2
split_at-requires-2 c =
    let r = c.self.inside in
    let some : slice_get r.sizes.items 0 ≡ Some c.in-Some.size.now = search rules in
    let left = length-drop r.gone r.row.items in
    let within = first_within r.sizes.items (drop r.gone r.row.items) _ some (c.self.invariant.whole ∙ sym left) in
    rw (c.from.ensures, c.split_at.ensures.back, c.as_slice.ensures.value) within

pub has_first_in-requires : goal.has_first_in-requires
has_first_in-requires c =
    let r = c.self.inside in
    let some : slice_get r.sizes.items 0 ≡ Some c.in-Some.size.now = search rules in
    let left = length-drop r.gone r.row.items in
    rw (c.split_at-2.ensures.back, c.split_at.ensures.back, c.as_slice.ensures.value, c.from.ensures)
    (sizes_left r.sizes.items (drop r.gone r.row.items) 0 _ some (c.self.invariant.whole ∙ sym left))

pub returns : goal.returns
returns c =
    let r = c.self.inside in
    let some : slice_get r.sizes.items 0 ≡ Some c.in-Some.size.now = search rules in
    let rest = rest_cut r.sizes.items (drop r.gone r.row.items) _ some in
    rw (← c.self.view_is, c.has_first_in.ensures, rest, c.split_at-2.ensures.back, c.split_at.ensures.back, c.as_slice.ensures.value, c.from.ensures) refl
