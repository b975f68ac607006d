use Rattle.osdp_ring.proofs.Common.{◌≡◌, drop, Some, None, sym, ◌∙◌, refl, rules, arith, length-drop, slice_get}
use Rattle.osdp_ring.proofs.Cuts.{none_second, second_cut, second_none, second_within}
use Rattle.osdp_ring.proofs.ring.Ring.second.Goals as goal

pub returns-in_err-front : goal.returns-in_err-front
returns-in_err-front c =
    let r = c.self.inside in
    let none : slice_get r.sizes.items 0 ≡ None = search rules in
    rw (← c.self.view_is, c.from_residual.ensures, none_second r.sizes.items (drop r.gone r.row.items) none) refl

pub returns-in_err-get : goal.returns-in_err-get
returns-in_err-get c =
    let r = c.self.inside in
    let none : slice_get r.sizes.items 1 ≡ None = search rules in
    rw (← c.self.view_is, c.from_residual-in_err-get.ensures, second_none r.sizes.items (drop r.gone r.row.items) none) refl

pub split_at-requires-2 : goal.split_at-requires-2
split_at-requires-2 c =
    let r = c.self.inside in
    let one : slice_get r.sizes.items 0 ≡ Some c.in_ok-front.field-0.now = search rules in
    let two : slice_get r.sizes.items 1 ≡ Some c.in_ok-get.field-0.now = search rules in
    let left = length-drop r.gone r.row.items in
    let within = second_within r.sizes.items (drop r.gone r.row.items) _ _ one two (c.self.invariant.whole ∙ sym left) in
    rw (c.from-first.ensures, c.split_at.ensures.back, c.as_slice.ensures.value) (omega (arith, within))

pub split_at-requires-3 : goal.split_at-requires-3
split_at-requires-3 c =
    let r = c.self.inside in
    let one : slice_get r.sizes.items 0 ≡ Some c.in_ok-front.field-0.now = search rules in
    let two : slice_get r.sizes.items 1 ≡ Some c.in_ok-get.field-0.now = search rules in
    let left = length-drop r.gone r.row.items in
    let within = second_within r.sizes.items (drop r.gone r.row.items) _ _ one two (c.self.invariant.whole ∙ sym left) in
    let after = length-drop c.in_ok-front.field-0.now (drop r.gone r.row.items) in
    rw (c.from-size.ensures, c.split_at-2.ensures.back, c.from-first.ensures, c.split_at.ensures.back, c.as_slice.ensures.value) (omega (arith, within, after))

pub returns : goal.returns
returns c =
    let r = c.self.inside in
    let one : slice_get r.sizes.items 0 ≡ Some c.in_ok-front.field-0.now = search rules in
    let two : slice_get r.sizes.items 1 ≡ Some c.in_ok-get.field-0.now = search rules in
    rw (← c.self.view_is, second_cut r.sizes.items (drop r.gone r.row.items) _ _ one two, c.split_at-3.ensures.front, c.from-size.ensures, c.split_at-2.ensures.back, c.from-first.ensures, c.split_at.ensures.back, c.as_slice.ensures.value) refl
