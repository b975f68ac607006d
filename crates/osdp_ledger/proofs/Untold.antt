-- Of commands and events one at most isn't told.
use Rattle.osdp_ledger.proofs.Common.{true, false, List, [], ◌∷◌, refl, inl, inr, May, Step, Open, Act, Settle, Doubt, Offers, Report, Leave, RestartPanel, acted_on, panel_restarted, AreAllowed, History, new_history, runs, steps_on, IsOneUntold, TellsInTurn}

keeps : (step : Step) (h : History) → May step h.ledger → IsOneUntold h.ledger → IsOneUntold (steps_on step h).ledger
keeps Open h may i = inl refl
keeps (Act o answer) h may i = elim h.ledger.is_open as (λ b. IsOneUntold (acted_on b answer h.ledger)) [ true ↦ inr may.0 | false ↦ i ]
keeps (Settle o answer) h may i = inl refl
keeps (Doubt o) h may i = inl refl
keeps (Offers c) h may i = inl may.0
keeps (Report c) h may i = inr tt
keeps (Leave c) h may i = inr tt
keeps (RestartPanel on_wire) h may i = elim h.ledger.is_open as (λ b. IsOneUntold (panel_restarted on_wire b h.ledger)) [ true ↦ inl refl | false ↦ i ]
keeps _ h may i = i

hold : (steps : List Step) (h : History) → AreAllowed steps h → IsOneUntold h.ledger → IsOneUntold (runs steps h).ledger
hold [] h allowed i = i
hold (step ∷ steps) h allowed i = hold steps (steps_on step h) allowed.1 (keeps step h allowed.0 i)

pub tells_in_turn : TellsInTurn
tells_in_turn steps allowed = hold steps new_history allowed (inl refl)
