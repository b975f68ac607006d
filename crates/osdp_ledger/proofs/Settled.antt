-- What is settled, of one list after the other.
use Rattle.osdp_ledger.proofs.Common.{◌≡◌, ◌++◌, List, [], ◌∷◌, refl, ap, Order, End, Settled}
use Rattle.osdp_ledger.specs.OneSession.{settled_in}

pub settled_more : (xs ys : List (Order × End)) → settled_in (xs ++ ys) ≡ settled_in xs ++ settled_in ys
settled_more [] ys = refl
settled_more ((o, Settled answer) ∷ xs) ys = ap (λ ds. (o, answer) ∷ ds) (settled_more xs ys)
settled_more (e ∷ xs) ys = settled_more xs ys
