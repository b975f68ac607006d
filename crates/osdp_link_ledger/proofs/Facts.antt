-- What is outstanding at a stage of a session, and how what is due changes with the stage.
use Rattle.osdp_link_ledger.proofs.Common.{◌≡◌, ◌≢◌, true, ◌⊎◌, List, [], ◌∷◌, ◌++◌, map, Option, Some, None, refl, sym, subst, ap, ◌∙◌, inl, inr, append-nil, option_to_list, Packet, Command, Ticked, ControllerConfig, ControllerFault, Report, Session, State, Closed, Quiet, Answer, asked, outstanding_command, Due, HearsTo, IsSent, ReopensTo, Stays, TicksTo, due_at, reported_in, settled_in, Before, Behind, ControllerAt, Fresh, Level, Never, Now, Rest, Restarted, Stage, Waits, number_after, owed_at, pending, pending_at, is_under_way}
use Rattle.osdp_link_laws.proofs.Ahead.{asks_for, rests_none}
use Rattle.osdp_link_laws.proofs.Telling.{IsAlike, IsTold, begins_alike, hears_tell, owed_command}
use Rattle.osdp_link_laws.proofs.Ticks.{submitted_is}

abbrev pub out_of : State → List Command
out_of state = option_to_list (outstanding_command state)

abbrev pub none_due : Due
none_due = record { pend = []; owing = []; untold = []; stands = 0 }

-- in a session the outstanding command is the one that is due to be acted on, or to be answered
abbrev pub OutIs : State → Due → Type 0
OutIs state d = is_under_way state ≡ true → out_of state ≡ d.pend ++ map asked d.owing

-- .. which hasn't ended
pub lasts : (state : State) → is_under_way state ≡ true → state ≢ Closed
lasts Closed way = absurd cc
lasts state way = λ closed. absurd cc

module _ (fixed : ControllerConfig) where
  pub unopened : (state : State) (s : Session) → Waits fixed state s → is_under_way state ≡ true → ⊥
  unopened Closed s waits way = cc
  unopened (Quiet until) s waits way = cc
  unopened _ s waits way = waits

  pub out_at : (at : Stage) (s : Session) → ControllerAt fixed at s → is_under_way s.state ≡ true → out_of s.state ≡ pending_at at ++ map asked (owed_at at)
  out_at Fresh s is way = absurd (unopened s.state s is way)
  out_at (Behind past x) s is way = ap option_to_list (asks_for fixed s.state (number_after past) x s refl (lasts s.state way) is).command ∙ submitted_is x ∙ sym (append-nil (pending x))
  out_at (Level past x a) s is way = ap option_to_list (asks_for fixed s.state (number_after past) x s refl (lasts s.state way) is).command ∙ submitted_is x ∙ sym (owed_command x a)
  out_at (Rest n x a) s is way = ap option_to_list (rests_none fixed s.state n s refl (lasts s.state way) is).command

  -- the address of a session that is under way
  pub goes_to : (at : Stage) (s : Session) → ControllerAt fixed at s → is_under_way s.state ≡ true → s.config.address ≡ fixed.address
  goes_to Fresh s is way = absurd (unopened s.state s is way)
  goes_to (Behind past x) s is way = ap (λ (c : ControllerConfig). c.address) (asks_for fixed s.state (number_after past) x s refl (lasts s.state way) is).is_open.0
  goes_to (Level past x a) s is way = ap (λ (c : ControllerConfig). c.address) (asks_for fixed s.state (number_after past) x s refl (lasts s.state way) is).is_open.0
  goes_to (Rest n x a) s is way = ap (λ (c : ControllerConfig). c.address) (rests_none fixed s.state n s refl (lasts s.state way) is).config

-- ---- what is due after a move

pub due_stays : (since : Restarted) (at : Stage) (new : Restarted) (to : Stage) → Stays since at new to → due_at new to ≡ due_at since at
due_stays since at new to same = (λ i. due_at (same.0 i) (same.1 i))

-- nothing is due before the first packet
pub due_fresh : (since : Restarted) → due_at since Fresh ≡ none_due
due_fresh Never = refl
due_fresh Before = refl
due_fresh Now = refl

-- .. nor where a session begins again
abbrev pub reopened : Option ControllerFault → List Packet → List Packet → Due → Due
reopened None [] [] d = none_due
reopened _ ps qs d = d

module _ {H : Type 0} (answer_of : H → Command → Answer) (after : H → Command → H) where
  pub due_reopened : (refusal : Option ControllerFault) (ps qs : List Packet) (since : Restarted) (at : Stage) (new : Restarted) (to : Stage)
      → ReopensTo answer_of after refusal ps qs since at new to → due_at new to ≡ reopened refusal ps qs (due_at since at)
  due_reopened None [] [] since at new to is = ap (due_at new) is ∙ due_fresh new
  due_reopened None [] (q ∷ qs) since at new to is = due_stays since at new to is
  due_reopened None (p ∷ ps) qs since at new to is = due_stays since at new to is
  due_reopened (Some fault) ps qs since at new to is = due_stays since at new to is

-- as much is due after a tick, or a frame went out
abbrev pub DueAfterTick : Ticked → Due → Due → Type 0
DueAfterTick t d e = (e ≡ d) ⊎ (IsAlike d e × IsSent t)

pub due_ticks : (t : Ticked) (since : Restarted) (at : Stage) (new : Restarted) (to : Stage) → (new ≡ since) × TicksTo t at to
    → DueAfterTick t (due_at since at) (due_at new to)
due_ticks t since at new to (same, ticks) = subst (λ s. DueAfterTick t (due_at since at) (due_at s to)) (sym same) (by_ticks ticks)
  where
    by_ticks : TicksTo t at to → DueAfterTick t (due_at since at) (due_at since to)
    by_ticks (inl is) = inl (ap (due_at since) is)
    by_ticks (inr (begins, sent)) = inr (begins_alike since at to begins, sent)

-- as much is due after a report as before, but what it tells
abbrev pub DueAfterReport : Option Report → Due → Due → Type 0
DueAfterReport r d e = IsTold (settled_in r) (reported_in r) d e

-- .. none are
pub none_told : (d e : Due) → IsTold [] [] d e → e ≡ d
none_told d e told = (λ i. record { pend = told.pend i; owing = sym told.owing i; untold = sym told.untold i; stands = told.stands i })

pub told_none : (d e : Due) → e ≡ d → IsTold [] [] d e
told_none d e same = record {
  pend = ap (λ (x : Due). x.pend) same;
  owing = ap (λ (x : Due). x.owing) (sym same);
  untold = ap (λ (x : Due). x.untold) (sym same);
  stands = ap (λ (x : Due). x.stands) same;
}

pub due_hears : (r : Option Report) (since : Restarted) (at : Stage) (new : Restarted) (to : Stage) → (new ≡ since) × HearsTo r at to
    → DueAfterReport r (due_at since at) (due_at new to)
due_hears r since at new to (same, is) = subst (λ s. DueAfterReport r (due_at since at) (due_at s to)) (sym same) (hears_tell since at to r is)
