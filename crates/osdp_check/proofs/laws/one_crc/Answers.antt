use Rattle.osdp_check.proofs.Common.{subst, sym, IsCrc}
use Rattle.osdp_check.proofs.Pieces.{one_crc, IsCrc-crc}
use Rattle.osdp_check.proofs.laws.one_crc.Goals as goal

pub returns : goal.returns
returns c = λ bytes check h. (one_crc bytes check, λ e. subst (IsCrc bytes) (sym e) (IsCrc-crc bytes h))
