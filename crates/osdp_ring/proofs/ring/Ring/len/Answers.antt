use Rattle.std.proofs.Common.{sym, ◌∙◌}
use Rattle.osdp_ring.proofs.Cuts.{cut_length}
use Rattle.osdp_ring.proofs.ring.Ring.len.Goals as goal

pub returns : goal.returns
returns c = rw (← c.self.view_is) (c.len.ensures.len ∙ sym (cut_length _ _))
