-- What is due after a tick, and after a report.
use Rattle.osdp_link_laws.proofs.Common.{◌≡◌, ◌++◌, List, [], length, map, refl, sym, subst, ap, ◌∙◌, inl, inr, append-nil, Option, Command, Event, Reply, Ticked, Report, Exchange, Opening, Polling, Asking}
use Rattle.osdp_link_laws.proofs.Coming.{Announces, BeginsFrom, Due, HearsTo, TicksTo, due_at, reported_in, settled_in, standing_at}
use Rattle.osdp_link_laws.proofs.Stages.{After, Before, Behind, Fresh, Level, Never, Now, Rest, Restarted, Stage, Start, number_after, owed, owed_at, pending, shown, unreported_at}

-- the command of an answer
abbrev pub asked : Command × Reply → Command
asked p = p.0

-- .. that is on its way was the pending one
pub owed_command : (x : Exchange) (a : Reply) → map asked (owed x a) ≡ pending x
owed_command Opening a = refl
owed_command Polling a = refl
owed_command (Asking c) a = refl

-- a command may have begun: no answer is due that wasn't, nor an event
pub record IsAlike (d e : Due) : Type 0 where
  pub owing : e.owing ≡ d.owing
  pub untold : e.untold ≡ d.untold
  pub stands : e.stands ≡ d.stands

pub alike : (d e : Due) → e ≡ d → IsAlike d e
alike d e same = record { owing = ap (λ (x : Due). x.owing) same; untold = ap (λ (x : Due). x.untold) same; stands = ap (λ (x : Due). x.stands) same }

pub begins_alike : (since : Restarted) (at to : Stage) → BeginsFrom at to → IsAlike (due_at since at) (due_at since to)
begins_alike since Fresh to (x, is) =
    subst (λ z. IsAlike (due_at since Fresh) (due_at since z)) (sym is) (record { owing = refl; untold = refl; stands = ap length (stands since) })
  where
    stands : (since : Restarted) → standing_at since (Behind Start x) ≡ standing_at since Fresh
    stands Never = refl
    stands Before = refl
    stands Now = refl
begins_alike since (Rest n y b) to (x, is) =
    subst (λ z. IsAlike (due_at since (Rest n y b)) (due_at since z)) (sym is) (record { owing = refl; untold = refl; stands = ap length (stands since) })
  where
    stands : (since : Restarted) → standing_at since (Behind (After n y b) x) ≡ standing_at since (Rest n y b)
    stands Never = refl
    stands Before = refl
    stands Now = refl
begins_alike since _ to is = absurd is

pub ticks_alike : (since : Restarted) (at to : Stage) (t : Ticked) → TicksTo t at to → IsAlike (due_at since at) (due_at since to)
ticks_alike since at to t (inl is) = alike (due_at since at) (due_at since to) (ap (due_at since) is)
ticks_alike since at to t (inr (begins, sent)) = begins_alike since at to begins

-- these answers and these events are told, and all else that was due is due still
pub record IsTold (settled : List (Command × Reply)) (reported : List Event) (d e : Due) : Type 0 where
  pub pend : e.pend ≡ d.pend
  pub owing : d.owing ≡ settled ++ e.owing
  pub untold : d.untold ≡ reported ++ e.untold
  pub stands : e.stands ≡ d.stands

tells_none : (since : Restarted) (at to : Stage) (r : Option Report) → Announces r [] [] → to ≡ at
    → IsTold (settled_in r) (reported_in r) (due_at since at) (due_at since to)
tells_none since at to r none is = subst (λ z. IsTold (settled_in r) (reported_in r) (due_at since at) (due_at since z)) (sym is) (record {
  pend = refl;
  owing = sym (ap (λ pairs. pairs ++ owed_at at) none.0);
  untold = sym (ap (λ es. es ++ unreported_at at) none.1);
  stands = refl;
})

pub hears_tell : (since : Restarted) (at to : Stage) (r : Option Report) → HearsTo r at to
    → IsTold (settled_in r) (reported_in r) (due_at since at) (due_at since to)
hears_tell since Fresh to r is = tells_none since Fresh to r is.1 is.0
hears_tell since (Behind past x) to r is = tells_none since (Behind past x) to r is.1 is.0
hears_tell since (Rest n x a) to r is = tells_none since (Rest n x a) to r is.1 is.0
hears_tell since (Level past x a) to r (inl is) = tells_none since (Level past x a) to r is.1 is.0
hears_tell since (Level past x a) to r (inr (is, tells)) =
    subst (λ z. IsTold (settled_in r) (reported_in r) (due_at since (Level past x a)) (due_at since z)) (sym is) (record {
      pend = refl;
      owing = sym (append-nil (settled_in r) ∙ tells.0);
      untold = sym (append-nil (reported_in r) ∙ tells.1);
      stands = ap length (stands since);
    })
  where
    stands : (since : Restarted) → standing_at since (Rest (number_after past) x a) ≡ standing_at since (Level past x a)
    stands Never = append-nil (shown x a)
    stands Before = append-nil (shown x a)
    stands Now = refl
