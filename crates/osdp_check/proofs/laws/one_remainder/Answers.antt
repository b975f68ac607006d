use Rattle.osdp_check.proofs.Common.{subst, sym, IsRemainder}
use Rattle.osdp_check.proofs.Remainder.{one_remainder, IsRemainder-remainder}
use Rattle.osdp_check.proofs.laws.one_remainder.Goals as goal

pub returns : goal.returns
returns c =
    λ places dividend left h. (one_remainder places dividend left, λ e. subst (IsRemainder places dividend) (sym e) (IsRemainder-remainder places dividend h))
