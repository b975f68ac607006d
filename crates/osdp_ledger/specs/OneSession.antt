-- What one session comes to where neither end loses power, nothing is taken back and no event lapses.
use Rattle.std.specs.Prelude.{◌≡◌, ◌≤◌, ℕ, All, List, [], ◌∷◌, ◌++◌, length, map}
use Rattle.osdp_msg.specs.declared.reply.Reply.{Reply}
use Rattle.osdp_ledger.specs.History.{AreAllowed, End, History, Settled, new_history, runs}
use Rattle.osdp_ledger.specs.Ledger.{Card, Order, Step}
use Rattle.osdp_ledger.specs.Plain.{IsPlain}

-- the commands that were settled, each with its answer
abbrev pub settled_in : List (Order × End) → List (Order × Reply)
settled_in [] = []
settled_in ((order, Settled answer) ∷ more) = (order, answer) ∷ settled_in more
settled_in (e ∷ more) = settled_in more

pub record HoldsInOneSession (h : History) : Type 0 where
  -- the commands that the device has acted on are a beginning of those accepted
  pub acted : (rest : List Order) × (h.accepted ≡ map (λ (done : Order × Reply). done.0) h.acted ++ rest)
  -- of these the settled ones, each with the device's answer, are all, or all but the last
  pub settled : (more : List (Order × Reply)) × (h.acted ≡ settled_in h.ended ++ more) × (length more ≤ 1)
  -- the events reported are a beginning of those queued
  pub reported : (rest : List Card) × (h.queued ≡ map (λ (told : ℕ × Card). told.1) h.reports ++ rest)

abbrev pub OneSessionHolds : Type 0
OneSessionHolds = (steps : List Step) → All IsPlain steps → AreAllowed steps new_history → (runs steps new_history).sessions ≤ 1
    → HoldsInOneSession (runs steps new_history)
