-- Where nobody loses power, nothing is taken back and no event lapses, all that ends is told.
use Rattle.std.specs.Prelude.{◌≡◌, ◌≢◌, List, All}
use Rattle.osdp_ledger.specs.Ledger.{Lapse, Order, RestartDevice, RestartPanel, Step, Withdraw, WithdrawEvent}
use Rattle.osdp_ledger.specs.History.{AfterReport, CutOff, End, Forgotten, GivenBack, History, InDoubt, Left, Settled, ThrownAway, new_history, runs}

-- a step by which nobody loses power, nothing is taken back and no event lapses
abbrev pub IsPlain : Step → Type 0
IsPlain (Withdraw order) = ⊥
IsPlain (WithdrawEvent card) = ⊥
IsPlain (Lapse card) = ⊥
IsPlain RestartDevice = ⊥
IsPlain (RestartPanel on_wire) = ⊥
IsPlain _ = Unit {0}

-- a command is settled, or told in doubt
abbrev pub EndsTold : End → Type 0
EndsTold (Settled answer) = Unit {0}
EndsTold InDoubt = Unit {0}
EndsTold GivenBack = ⊥
EndsTold CutOff = ⊥
EndsTold Forgotten = ⊥

-- each command that has ended was settled or told in doubt, and each event that has left was reported
pub record AllTold (h : History) : Type 0 where
  pub ended : All (λ (e : Order × End). EndsTold e.1) h.ended
  pub left : All (λ (w : Left). w.why ≡ AfterReport) h.left

abbrev pub PlainStepsEndTold : Type 0
PlainStepsEndTold = (steps : List Step) → All IsPlain steps → AllTold (runs steps new_history)

-- the device loses no power
abbrev pub KeepsPower : Step → Type 0
KeepsPower RestartDevice = ⊥
KeepsPower _ = Unit {0}

abbrev pub ThrowsNoneAway : Type 0
ThrowsNoneAway = (steps : List Step) → All KeepsPower steps → All (λ (w : Left). w.why ≢ ThrownAway) (runs steps new_history).left
