use Rattle.osdp_check.proofs.Remainder.{product-pow, product-xor}
use Rattle.osdp_check.proofs.laws.products.Goals as goal

pub returns-clause-power : goal.returns-clause-power
returns-clause-power c = product-pow

pub returns-clause-added : goal.returns-clause-added
returns-clause-added c = product-xor
