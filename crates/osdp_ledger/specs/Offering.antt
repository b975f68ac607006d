-- An event that its device's program gives up: it is taken back where it was never offered, and lapses where it was.
use Rattle.std.specs.Prelude.{◌≡◌, List, All, Contains}
use Rattle.osdp_ledger.specs.Ledger.{Offers, Step}
use Rattle.osdp_ledger.specs.History.{AreAllowed, Lapsed, Left, TakenBack, new_history, runs}

pub record GivenUpAsOffered (steps : List Step) : Type 0 where
  -- what was taken back was never offered, and never will be
  pub taken_back : All (λ (w : Left). w.why ≡ TakenBack → Contains steps (Offers w.card) → ⊥) (runs steps new_history).left
  -- what has lapsed was offered
  pub lapsed : All (λ (w : Left). w.why ≡ Lapsed → Contains steps (Offers w.card)) (runs steps new_history).left

abbrev pub GivesUpAsOffered : Type 0
GivesUpAsOffered = (steps : List Step) → AreAllowed steps new_history → GivenUpAsOffered steps
