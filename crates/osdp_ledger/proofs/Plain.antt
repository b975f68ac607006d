-- What steps come to by which nobody loses power, or the device doesn't.
use Rattle.osdp_ledger.proofs.Common.{◌≡◌, ◌≢◌, List, [], ◌∷◌, refl, All, All-head, All-nil, All-push, All-tail, Step, Withdraw, Settle, Doubt, Leave, WithdrawEvent, Lapse, RestartDevice, RestartPanel, AfterReport, End, History, Left, ThrownAway, new_history, runs, steps_on}
use Rattle.osdp_ledger.specs.Ledger as ledger
use Rattle.osdp_ledger.specs.Plain.{AllTold, EndsTold, IsPlain, KeepsPower, PlainStepsEndTold, ThrowsNoneAway}

abbrev IsTold : ledger.Order × End → Type 0
IsTold e = EndsTold e.1

abbrev WasReported : Left → Type 0
WasReported w = w.why ≡ AfterReport

step_told : (step : Step) (h : History) → IsPlain step → AllTold h → AllTold (steps_on step h)
step_told (Withdraw order) h plain is = absurd plain
step_told (Settle order answer) h plain is = record { ended = All-push IsTold h.ended _ is.ended tt; left = is.left }
step_told (Doubt order) h plain is = record { ended = All-push IsTold h.ended _ is.ended tt; left = is.left }
step_told (Leave card) h plain is = record { ended = is.ended; left = All-push WasReported h.left _ is.left refl }
step_told (WithdrawEvent card) h plain is = absurd plain
step_told (Lapse card) h plain is = absurd plain
step_told RestartDevice h plain is = absurd plain
step_told (RestartPanel on_wire) h plain is = absurd plain
step_told _ h plain is = record { ended = is.ended; left = is.left }

runs_told : (steps : List Step) (h : History) → All IsPlain steps → AllTold h → AllTold (runs steps h)
runs_told [] h plain is = is
runs_told (step ∷ steps) h plain is =
    runs_told steps (steps_on step h) (All-tail IsPlain step steps plain) (step_told step h (All-head IsPlain step steps plain) is)

pub plain_steps_end_told : PlainStepsEndTold
plain_steps_end_told steps plain = runs_told steps new_history plain (record { ended = All-nil IsTold; left = All-nil WasReported })

-- ---- the device loses no power

abbrev IsKept : Left → Type 0
IsKept w = w.why ≢ ThrownAway

runs_kept : (steps : List Step) (h : History) → All KeepsPower steps → All IsKept h.left → All IsKept (runs steps h).left
runs_kept [] h keep is = is
runs_kept (step ∷ steps) h keep is =
    runs_kept steps (steps_on step h) (All-tail KeepsPower step steps keep) (by_step step (All-head KeepsPower step steps keep))
  where
    by_step : (step : Step) → KeepsPower step → All IsKept (steps_on step h).left
    by_step (Leave card) keeps = All-push IsKept h.left _ is (λ e. cc)
    by_step (WithdrawEvent card) keeps = All-push IsKept h.left _ is (λ e. cc)
    by_step (Lapse card) keeps = All-push IsKept h.left _ is (λ e. cc)
    by_step RestartDevice keeps = absurd keeps
    by_step _ keeps = is

pub throws_none_away : ThrowsNoneAway
throws_none_away steps keep = runs_kept steps new_history keep (All-nil IsKept)
