-- Where no event is given up, and the device keeps its power, none of the events that a session reports is missing.
use Rattle.std.proofs.Common.{◌≡◌, ◌++◌, List, [], ◌∷◌, refl, sym, subst, ap, ◌∙◌, append_assoc}
use Rattle.std.proofs.lemmas.List.{append-nil, append_cancel_left}
use Rattle.std.proofs.lemmas.List.Elements.{All-append, All-cons, All-head, All-nil, All-tail}
use Rattle.std.specs.Prelude.{All}
use Rattle.osdp_ledger.specs.History.{AfterReport, AreAllowed, History, Left, new_history, runs, steps_on}
use Rattle.osdp_ledger.specs.Ledger.{Lapse, Leave, Open, RestartDevice, Step, WithdrawEvent}
use Rattle.osdp_ledger.proofs.InTurn.{allowed_second, runs_then}
use Rattle.osdp_ledger.proofs.Waiting.{Events}
use Rattle.osdp_ledger_laws.specs.Reports.{AreReportedFirst, GivesNoneUp, ReportsAreABeginning}
use Rattle.osdp_ledger_laws.specs.Sessions.{BeginsNone}
use Rattle.osdp_ledger_laws.proofs.Reports.{events_opened, holds}
use Rattle.osdp_ledger_laws.proofs.Without.{all_stay}

abbrev WasReported : Left → Type 0
WasReported w = w.why ≡ AfterReport

-- what has left since was reported
pub record LeaveReported (h last : History) : Type 0 where
  pub more : List Left
  pub left_since : last.left ≡ h.left ++ more
  pub all : All WasReported more

none_leaves : (h : History) → LeaveReported h h
none_leaves h = record { more = []; left_since = sym (append-nil h.left); all = All-nil WasReported }

one_step : (step : Step) (h : History) → GivesNoneUp step → LeaveReported h (steps_on step h)
one_step (Leave c) h stay = record {
  more = record { session = h.sessions; card = c; why = AfterReport } ∷ [];
  left_since = refl;
  all = All-cons WasReported _ [] refl (All-nil WasReported);
}
one_step (WithdrawEvent c) h stay = absurd stay
one_step (Lapse c) h stay = absurd stay
one_step RestartDevice h stay = absurd stay
one_step _ h stay = record { more = []; left_since = sym (append-nil h.left); all = All-nil WasReported }

any_steps : (steps : List Step) (h : History) → All GivesNoneUp steps → LeaveReported h (runs steps h)
any_steps [] h stay = none_leaves h
any_steps (step ∷ steps) h stay =
    let one = one_step step h (All-head GivesNoneUp step steps stay) in
    let then = any_steps steps (steps_on step h) (All-tail GivesNoneUp step steps stay) in
    record {
      more = one.more ++ then.more;
      left_since = then.left_since ∙ ap (λ ws. ws ++ then.more) one.left_since ∙ append_assoc h.left one.more then.more;
      all = All-append WasReported one.more then.more one.all then.all;
    }

pub first_reported : (began : History) (since : List Step) → AreAllowed since (steps_on Open began) → All BeginsNone since → All GivesNoneUp since → Events (steps_on Open began)
    → AreReportedFirst began (runs since (steps_on Open began))
first_reported began since allowed none stay e =
    let s = holds began since allowed none e in
    let r = any_steps since (steps_on Open began) stay in
    let same : r.more ≡ s.left = append_cancel_left began.left r.more s.left (sym r.left_since ∙ s.left_since) in
    record {
      reported = s.reported;
      queued = s.queued;
      reported_since = s.reported_since;
      queued_since = s.queued_since;
      beginning = (s.beginning.0, all_stay s.left _ _ (subst (All WasReported) same r.all) s.beginning.1);
    }

pub reports_are_a_beginning : ReportsAreABeginning
reports_are_a_beginning before since allowed none stay =
    let began = runs before new_history in
    let opened = allowed_second before (Open ∷ since) new_history allowed in
    subst (λ (h : History). AreReportedFirst began h) (sym (runs_then before (Open ∷ since) new_history))
    (first_reported began since opened.1 none stay (events_opened before since allowed))
