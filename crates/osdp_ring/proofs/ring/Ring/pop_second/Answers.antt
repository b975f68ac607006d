use Rattle.osdp_ring.proofs.Common.{◌≡◌, ◌+◌, ◌≤◌, ◌<◌, drop, length, Some, sym, ◌∙◌, refl, rules, arith, length-drop, slice_get, cut}
use Rattle.osdp_ring.proofs.Cuts.{cut_length, drop_without, short_same, two_within, without_second}
use Rattle.osdp_ring.proofs.ring.Ring.pop_second.Goals as goal

pub returns-then-len-lt2 : goal.returns-then-len-lt2
returns-then-len-lt2 c =
    let r = c.self.inside in
    let ss = cut r.sizes.items (drop r.gone r.row.items) in
    let short : length ss < 2 = omega (arith, cut_length r.sizes.items (drop r.gone r.row.items), c.len.ensures.len, c.if-len-lt2.true) in
    rw (← c.self.view_is, short_same ss short) refl

pub returns : goal.returns
returns c =
    let r = c.self.inside in
    let n = c.in-Some.first in
    let m = c.in-Some-pop_front.second in
    let one : slice_get r.sizes.items 0 ≡ Some n = search rules in
    let two : slice_get (drop 1 r.sizes.items) 0 ≡ Some m = search rules in
    let left = length-drop r.gone r.row.items in
    let whole = c.self.invariant.whole ∙ sym left in
    let within = two_within r.sizes.items (drop r.gone r.row.items) n m one two whole in
    let bound : r.gone + n ≤ length r.row.items = omega (arith, within, left, c.self.invariant.within) in
    rw (← c.self.view_is, c.prepend.ensures, c.pop_front-2.ensures.items, c.pop_front.ensures.items, c.cut_out.ensures.items, c.from.ensures, c.from-2.ensures, drop_without r.row.items r.gone n m bound, without_second r.sizes.items (drop r.gone r.row.items) n m one two whole) refl
