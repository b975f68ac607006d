-- The tests of which calls leave an end as it is.
use Rattle.osdp_premises.proofs.Common.{◌≢◌, ◌==◌, ℕ, not, Decides, Decides-eqb, Decides-not, Call, NewDevice, NewPanel, OfPanel, SetHandler, LapseEvent, WithdrawEvent, CanStand, KeepsPanel, LeavingIsExact, is_ordinary, keeps_device, keeps_handler, keeps_panel, leaves_commands}
use Rattle.osdp_bus_laws.specs.Calls as bus
use Rattle.osdp_calls.specs.OneDevice.{KeepsHandler}
use Rattle.osdp_calls.specs.Restarts.{KeepsDevice}
use Rattle.osdp_calls.specs.Undisturbed.{IsOrdinaryOf, LeavesCommandsOf}
use Rattle.osdp_premises.proofs.Deciding.{always, never}

another : (i k : ℕ) → Decides (not (i == k)) (i ≢ k)
another i k = Decides-not (i == k) (Decides-eqb i k)

commands_decide : (k : ℕ) (call : bus.Call) → Decides (leaves_commands k call) (LeavesCommandsOf k call)
commands_decide k (bus.Withdraw entry) = another entry k
commands_decide k _ = always tt

module _ {H : Type 0} where
  panel_stays : (call : Call H) → Decides (keeps_panel call) (KeepsPanel call)
  panel_stays (NewPanel config addresses) = never (λ h. h)
  panel_stays _ = always tt

  device_stays : (k : ℕ) (call : Call H) → Decides (keeps_device k call) (KeepsDevice k call)
  device_stays k (NewDevice i config handler room gap) = another i k
  device_stays k _ = always tt

  handler_stays : (k : ℕ) (call : Call H) → Decides (keeps_handler k call) (KeepsHandler k call)
  handler_stays k (SetHandler i handler) = another i k
  handler_stays k (NewDevice i config handler room gap) = another i k
  handler_stays k _ = always tt

  ordinary_decides : (k : ℕ) (call : Call H) → Decides (is_ordinary k call) (IsOrdinaryOf k call)
  ordinary_decides k (NewPanel config addresses) = never (λ h. h)
  ordinary_decides k (OfPanel call) = commands_decide k call
  ordinary_decides k (WithdrawEvent i) = another i k
  ordinary_decides k (LapseEvent i) = another i k
  ordinary_decides k (NewDevice i config handler room gap) = another i k
  ordinary_decides k _ = always tt

  can_stand : (call : Call H) → KeepsPanel call → CanStand call
  can_stand (NewPanel config addresses) keeps = absurd keeps
  can_stand _ keeps = tt

  pub leaving_exact : LeavingIsExact H
  leaving_exact = record {
    panel = panel_stays;
    device = device_stays;
    handler = handler_stays;
    ordinary = ordinary_decides;
    stands = can_stand;
    anew = λ config addresses. ((λ h. h), (λ h. h));
  }
