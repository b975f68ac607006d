use Rattle.osdp_ring.proofs.Common.{◌<◌, ◌≤◌, length, drop, sym, ◌∙◌, arith, refl, lt-ltb, le-ltb, cut}
use Rattle.osdp_ring.proofs.Cuts.{cut_length}
use Rattle.osdp_ring.proofs.ring.Ring.fits.Goals as goal

pub returns-then-len-capacity : goal.returns-then-len-capacity
returns-then-len-capacity c =
    let r = c.self.inside in
    let count = cut_length r.sizes.items (drop r.gone r.row.items) in
    let less : length (cut r.sizes.items (drop r.gone r.row.items)) < r.sizes.capacity = omega (arith, count, c.len.ensures.len, c.capacity.ensures.capacity, c.if-len-capacity.true) in
    let value = rw (← c.self.view_is) at c.used.ensures.value in
    rw (← c.self.view_is, value, lt-ltb _ _ less) refl

pub returns-else-len-capacity : goal.returns-else-len-capacity
returns-else-len-capacity c =
    let r = c.self.inside in
    let count = cut_length r.sizes.items (drop r.gone r.row.items) in
    let more : r.sizes.capacity ≤ length (cut r.sizes.items (drop r.gone r.row.items)) = omega (arith, count, c.len.ensures.len, c.capacity.ensures.capacity, c.if-len-capacity.false) in
    let left : c.capacity.result ≤ c.len.result = omega (arith, c.if-len-capacity.false) in
    le-ltb c.len.result c.capacity.result left ∙ sym (rw (← c.self.view_is, le-ltb _ _ more) refl)
