-- What becomes of an event that lapses before this session has offered it.
use Rattle.std.specs.Prelude.{List, ◌∷◌, ◌++◌, Contains}
use Rattle.osdp_ledger.specs.History.{AreAllowed, new_history}
use Rattle.osdp_ledger.specs.Ledger.{Card, Lapse, Offers, Open, Report, Step}

-- An event lapses, and no step since a session's beginning has offered it: it was offered in earlier sessions alone. Then no later step reports it, in this
-- session or in a later one.
abbrev pub LapsedIsReportedNoMore : Type 0
LapsedIsReportedNoMore = (before since more : List Step) (card : Card) → AreAllowed (before ++ Open ∷ (since ++ Lapse card ∷ more)) new_history
    → (Contains since (Offers card) → ⊥) → Contains more (Report card) → ⊥
