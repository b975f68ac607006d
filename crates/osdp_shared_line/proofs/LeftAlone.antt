-- Which moves leave the ends of a site as they are, by each move.
use Rattle.osdp_shared_line.proofs.Common.{ℕ, refl, subst, ap, NetMove, RestartPanel, RestartReader, SetHandler, Withdraw, LapseEvent, WithdrawEvent, IsOrdinaryOf, KeepsDeviceOf, KeepsReaderOf}
use Rattle.osdp_shared_line.specs.Leaving.{LeavingIsExact, RestartsNoPanel, RestartsNoReader, SetsNoHandler, TakesNothingBack}

module _ {H : Type 0} (k : ℕ) where
  no_restart : (move : NetMove H) → KeepsReaderOf k move → RestartsNoReader k move
  no_restart move keeps config handler room e = subst (KeepsReaderOf k) e keeps refl

  reader_stays : (move : NetMove H) → RestartsNoReader k move → KeepsReaderOf k move
  reader_stays (RestartReader i config handler room) none = λ e. none config handler room (ap (λ j. RestartReader j config handler room) e)
  reader_stays move none = tt

  no_change : (move : NetMove H) → KeepsDeviceOf k move → RestartsNoReader k move × SetsNoHandler k move
  no_change move keeps = (λ config handler room e. subst (KeepsDeviceOf k) e keeps refl, λ handler e. subst (KeepsDeviceOf k) e keeps refl)

  device_stays : (move : NetMove H) → RestartsNoReader k move × SetsNoHandler k move → KeepsDeviceOf k move
  device_stays (SetHandler i handler) none = λ e. none.1 handler (ap (λ j. SetHandler j handler) e)
  device_stays (RestartReader i config handler room) none = λ e. none.0 config handler room (ap (λ j. RestartReader j config handler room) e)
  device_stays move none = tt

  none_disturbs : (move : NetMove H) → IsOrdinaryOf k move → TakesNothingBack k move × RestartsNoReader k move × RestartsNoPanel move
  none_disturbs move is = (
    (λ e. subst (IsOrdinaryOf k) e is refl, λ e. subst (IsOrdinaryOf k) e is refl, λ e. subst (IsOrdinaryOf k) e is refl),
    λ config handler room e. subst (IsOrdinaryOf k) e is refl,
    λ settings e. subst (IsOrdinaryOf k) e is,
  )

  is_ordinary : (move : NetMove H) → TakesNothingBack k move × RestartsNoReader k move × RestartsNoPanel move → IsOrdinaryOf k move
  is_ordinary (Withdraw i) none = λ e. none.0.0 (ap (λ j. Withdraw j) e)
  is_ordinary (WithdrawEvent i) none = λ e. none.0.1 (ap (λ j. WithdrawEvent j) e)
  is_ordinary (LapseEvent i) none = λ e. none.0.2 (ap (λ j. LapseEvent j) e)
  is_ordinary (RestartReader i config handler room) none = λ e. none.1 config handler room (ap (λ j. RestartReader j config handler room) e)
  is_ordinary (RestartPanel settings) none = none.2 settings refl
  is_ordinary move none = tt

pub leaving_exact : {H : Type 0} → LeavingIsExact H
leaving_exact {H} = record {
  reader = λ k move. (no_restart k move, reader_stays k move);
  device = λ k move. (no_change k move, device_stays k move);
  ordinary = λ k move. (none_disturbs k move, is_ordinary k move);
}
