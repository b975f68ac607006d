-- What a loss of power costs: of the panel, and of the device.
use Rattle.std.specs.Prelude.{◌≡◌, ◌<◌, ℕ, Bool, All, List, [], ◌∷◌, ◌++◌, map}
use Rattle.osdp_ledger.specs.Ledger.{Card, RestartDevice, RestartPanel, Step, Unreported}
use Rattle.osdp_ledger.specs.History.{AreAllowed, History, ThrownAway, ends_at_restart, new_history, runs, steps_on}

-- A restart of the panel costs the commands that are ahead: the one on the wire is cut off, and those that wait are forgotten. It costs no event.
pub record PanelCosts (on_wire : Bool) (h next : History) : Type 0 where
  pub ended : next.ended ≡ h.ended ++ ends_at_restart h.ledger.is_open on_wire h.ledger.ahead
  pub ahead : next.ledger.ahead ≡ []
  pub same : (next.acted ≡ h.acted) × (next.reports ≡ h.reports) × (next.left ≡ h.left)

-- A restart of the device costs the events of its queue, and no command.
pub record DeviceCosts (h next : History) : Type 0 where
  pub left : next.left ≡ h.left ++ map (λ c. record { session = h.sessions; card = c; why = ThrownAway }) h.ledger.cards
  pub same : (next.acted ≡ h.acted) × (next.reports ≡ h.reports) × (next.ended ≡ h.ended) × (next.ledger.ahead ≡ h.ledger.ahead)

abbrev pub RestartsCost : Type 0
RestartsCost = (h : History) → ((on_wire : Bool) → PanelCosts on_wire h (steps_on (RestartPanel on_wire) h)) × DeviceCosts h (steps_on RestartDevice h)

-- Of the events that were queued before, no more is reported but the one that the device had offered in this session, which wasn't reported yet; and that
-- one in this session alone.
pub record ReportsNoMore (h last : History) : Type 0 where
  pub since : List (ℕ × Card)
  pub reports : last.reports ≡ h.reports ++ since
  pub told : All (λ (told : ℕ × Card). told.1.place < h.ledger.queued → (h.ledger.offer ≡ Unreported told.1) × (told.0 ≡ h.sessions)) since

-- .. after a restart of the device, whatever happens then
abbrev pub RestartReportsNoMore : Type 0
RestartReportsNoMore = (before more : List Step) → AreAllowed (before ++ RestartDevice ∷ more) new_history
    → ReportsNoMore (runs before new_history) (runs (before ++ RestartDevice ∷ more) new_history)
