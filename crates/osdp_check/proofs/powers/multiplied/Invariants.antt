use Rattle.osdp_check.proofs.Common.{◌≡◌, product}
use Rattle.osdp_check.proofs.powers.multiplied.Given as goal

abbrev pub invariant-loop-place : goal.invariant-loop-place
invariant-loop-place l = l.sum ≡ product l.place l.number l.factor
