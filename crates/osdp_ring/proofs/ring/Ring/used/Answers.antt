use Rattle.osdp_ring.proofs.Common.{drop, sym, ◌∙◌, arith, length-drop}
use Rattle.osdp_ring.proofs.Cuts.{cut_total}
use Rattle.osdp_ring.proofs.ring.Ring.used.Goals as goal

pub returns-clause-value : goal.returns-clause-value
returns-clause-value c =
    let r = c.self.inside in
    let left = length-drop r.gone r.row.items in
    let whole = cut_total r.sizes.items (drop r.gone r.row.items) (c.self.invariant.whole ∙ sym left) in
    rw (← c.self.view_is) (omega (arith, whole, left, c.len.ensures))
