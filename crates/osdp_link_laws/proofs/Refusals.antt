-- No session in which the reader hasn't restarted ends by a refused number.
use Rattle.osdp_link_laws.proofs.Common.{◌≡◌, ℕ, List, [], ◌∷◌, Option, Some, None, refl, sym, subst, arith, IfSome, option_to_list, Command, seen, Report, Answer, MovesFit, Link, Move, Tick, ToController, after_move, run, IsPlainlySaid, ReadEachOther, IsNoRefusal, IsOtherCause, KeepsReader, RefusesNoNumber, RefusesNoNumberWithoutRestart, SaysAllPlainly, reports, restarts_in_session, told_by, told_by_front}
use Rattle.osdp_controller.specs.declared.report.Report.TheVariants as report
use Rattle.osdp_link_laws.proofs.Counting.{none_counted}
use Rattle.osdp_link_laws.proofs.Deliveries.{all_said}
use Rattle.osdp_link_laws.proofs.InARow.{Assumed, StandsSince, assumed, begins_since, standing_since, stands_since}
use Rattle.osdp_link_laws.proofs.Lines.{each_all, each_append, each_of}
use Rattle.osdp_link_laws.proofs.Reports.{MayBring, front_so, tick_so}
use Rattle.osdp_link_laws.proofs.Stages.{Before, Each, HasRestarted, MayRefuse, Never, Now, Restarted}

abbrev NoRefusal : Option Report → Type 0
NoRefusal r = IfSome r IsNoRefusal

pub refuses_none : (r : Option Report) → MayBring r → NoRefusal r
refuses_none (Some (report.Lost cause c)) busy = subst IsOtherCause (sym busy) tt
refuses_none r may = tt

never_refuses : (since : Restarted) (count : ℕ) → HasRestarted since count → count ≡ 0 → MayRefuse since → ⊥
never_refuses Never count is none may = may
never_refuses Before count is none may = absurd (omega (arith, is, none))
never_refuses Now count is none may = absurd (omega (arith, is, none))

pub one_report : (P : Report → Type 0) (r : Option Report) → IfSome r P → Each P (option_to_list r)
one_report P None so = tt
one_report P (Some r) so = (so, tt)

module _ {H : Type 0} (answer_of : H → Command → Answer) (after : H → Command → H) where
  says_plainly : Assumed answer_of after → (l : Link H) (count : ℕ) → StandsSince answer_of after l count → count ≡ 0 → Each IsPlainlySaid l.to_controller
  says_plainly given l count (s, since) never =
      let held = s.goes.holds in
      all_said s.fixed answer_of after held.0 (given s.fixed s.device) (never_refuses held.0 count since never) held.1 l held.2

  pub told_so : Assumed answer_of after → (move : Move H) (l : Link H) (count : ℕ) → StandsSince answer_of after l count → count ≡ 0 → NoRefusal (told_by move l)
  told_so given (Tick now) l count s never = tick_so NoRefusal tt (λ o. tt) l.controller.session.state (seen now l.controller.session) l.controller.waiting
  told_so given (ToController how now) l count s never =
      refuses_none (told_by_front how l.to_controller now l.controller.session)
      (front_so how l.to_controller now l.controller.session (says_plainly given l count s never))
  told_so given _ l count s never = tt

  each_so : Assumed answer_of after → (moves : List (Move H)) (l : Link H) → MovesFit answer_of after moves l → Each KeepsReader moves
      → StandsSince answer_of after l 0 → Each IsNoRefusal (reports answer_of after moves l)
  each_so given [] l fits keep s = tt
  each_so given (move ∷ moves) l fits keep s =
      let new = after_move answer_of after move l in
      each_append IsNoRefusal (option_to_list (told_by move l)) (reports answer_of after moves new)
      (one_report IsNoRefusal (told_by move l) (told_so given move l 0 s refl))
      (each_so given moves new fits.1 keep.1
      (subst (StandsSince answer_of after new) (none_counted answer_of after move l keep.0) (standing_since answer_of after given move l 0 fits.0 s)))

module _ {H : Type 0} (answer_of : H → Command → Answer) (after : H → Command → H) (peers : ReadEachOther answer_of after) where
  pub all_plainly : SaysAllPlainly answer_of after
  all_plainly l moves b fits never =
      let later = run answer_of after moves l in
      each_all IsPlainlySaid later.to_controller
      (says_plainly answer_of after (assumed answer_of after peers) later (restarts_in_session answer_of after moves l 0)
      (stands_since answer_of after peers l moves b fits) never)

  pub no_refusal : RefusesNoNumber answer_of after
  no_refusal l moves move b fits never =
      told_so answer_of after (assumed answer_of after peers) move (run answer_of after moves l) (restarts_in_session answer_of after moves l 0)
      (stands_since answer_of after peers l moves b fits) never

  pub none_without_restart : RefusesNoNumberWithoutRestart answer_of after
  none_without_restart l moves b fits keep =
      each_all IsNoRefusal (reports answer_of after moves l)
      (each_so answer_of after (assumed answer_of after peers) moves l fits (each_of KeepsReader moves keep) (begins_since answer_of after l b))
