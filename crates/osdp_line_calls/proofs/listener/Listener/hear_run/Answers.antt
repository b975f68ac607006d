use Rattle.osdp_line_calls.proofs.Common.{refl, subst, sym, IsAllRead}
use Rattle.osdp_frame.specs.Held.{decided}
use Rattle.osdp_line_calls.proofs.listener.Listener.hear_run.Goals as goal

pub invariant_of-self : goal.invariant_of-self
unfolding decided
invariant_of-self c = subst IsAllRead (sym c.clear.ensures) (record { goes_on = refl; undecided = refl })
