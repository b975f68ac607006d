-- What moves add to an account.
use Rattle.osdp_sim_laws.proofs.Common.{◌≡◌, ◌+◌, ℕ, List, [], ◌∷◌, ◌++◌, length, Option, Some, None, refl, sym, ap, ◌∙◌, arith, append_assoc, append-nil, length-append, option_to_list, Command, Event, Report, Kind, Answer, Link, Move, after_move, each_append, each_front, each_rest, Each, Account, empty_account, lengths_of, taken_by, with_issued, with_queued, with_report, with_session, with_taken, told_of, IsNoRefusal, TellsOfMoves}
use Rattle.osdp_msg.specs.declared.command.Command.TheVariants as command
use Rattle.osdp_controller.specs.declared.report.Report.TheVariants as report
use Rattle.osdp_reader.specs.declared.kind.Kind.TheVariants as kind
use Rattle.osdp_link_laws.specs.Link as link
use Rattle.osdp_link_laws.specs.Refusals as refusals
use Rattle.osdp_link_laws.specs.Reports.{all_taken, reports, taken_as, taken_in, told_by, with_reports}
use Rattle.osdp_link_laws.specs.Sessions.{all_begun, all_queued, all_submitted, begins, queued, submitted}
use Rattle.osdp_link_ledger.proofs.Told.{reports_more}
use Rattle.osdp_sim.specs.declared.account.End.TheVariants as ending
use Rattle.osdp_sim_laws.proofs.Ends.{sessions_of_report}

-- commands that are submitted, those that the reader takes, events that are queued, what is told, and how many sessions begin
pub record Added : Type 0 where
  pub submitted : List Command
  pub taken : List Command
  pub queued : List Event
  pub told : List Report
  pub begun : ℕ

abbrev pub nothing_added : Added
nothing_added = record { submitted = []; taken = []; queued = []; told = []; begun = 0 }

abbrev pub and_then : Added → Added → Added
and_then x y = record {
  submitted = x.submitted ++ y.submitted;
  taken = x.taken ++ y.taken;
  queued = x.queued ++ y.queued;
  told = x.told ++ y.told;
  begun = x.begun + y.begun;
}

pub and_nothing : (x : Added) → and_then x nothing_added ≡ x
and_nothing x =
    let count : x.begun + 0 ≡ x.begun = omega arith in
    λ i. record {
      submitted = append-nil x.submitted i;
      taken = append-nil x.taken i;
      queued = append-nil x.queued i;
      told = append-nil x.told i;
      begun = count i;
    }

nothing_and : (x : Added) → x ≡ and_then nothing_added x
nothing_and x =
    let count : x.begun ≡ 0 + x.begun = omega arith in
    λ i. record { submitted = x.submitted; taken = x.taken; queued = x.queued; told = x.told; begun = count i }

and_more : (x y z : Added) → and_then x (and_then y z) ≡ and_then (and_then x y) z
and_more x y z =
    let count : x.begun + (y.begun + z.begun) ≡ x.begun + y.begun + z.begun = omega arith in
    λ i. record {
      submitted = sym (append_assoc x.submitted y.submitted z.submitted) i;
      taken = sym (append_assoc x.taken y.taken z.taken) i;
      queued = sym (append_assoc x.queued y.queued z.queued) i;
      told = sym (append_assoc x.told y.told z.told) i;
      begun = count i;
    }

-- ---- an account that goes on

pub record Adds (a : Account) (x : Added) (b : Account) : Type 0 where
  pub issued : b.issued ≡ a.issued ++ x.submitted
  pub taken : b.taken ≡ a.taken ++ x.taken
  pub queued : b.queued ≡ a.queued ++ x.queued
  pub told : told_of b ≡ with_reports x.told (told_of a)
  pub sessions : length b.sessions ≡ length a.sessions + x.begun
  -- no end tells of a refused number unless a report does
  pub causes : Each refusals.IsNoRefusal x.told → Each IsNoRefusal a.ends → Each IsNoRefusal b.ends

pub adds_nothing : (a : Account) → Adds a nothing_added a
adds_nothing a = record {
  issued = sym (append-nil a.issued);
  taken = sym (append-nil a.taken);
  queued = sym (append-nil a.queued);
  told = refl;
  sessions = omega arith;
  causes = λ told well. well;
}

-- one list after the other
on : {A : Type 0} (xs more rest ys zs : List A) → ys ≡ xs ++ more → zs ≡ ys ++ rest → zs ≡ xs ++ (more ++ rest)
on xs more rest ys zs first next = next ∙ ap (λ l. l ++ rest) first ∙ append_assoc xs more rest

pub adds_then : (a b c : Account) (x y : Added) → Adds a x b → Adds b y c → Adds a (and_then x y) c
adds_then a b c x y first next = record {
  issued = on a.issued x.submitted y.submitted b.issued c.issued first.issued next.issued;
  taken = on a.taken x.taken y.taken b.taken c.taken first.taken next.taken;
  queued = on a.queued x.queued y.queued b.queued c.queued first.queued next.queued;
  told = next.told ∙ ap (with_reports y.told) first.told ∙ sym (reports_more x.told y.told (told_of a));
  sessions = omega (arith, first.sessions, next.sessions);
  causes = λ told well.
      next.causes (each_rest refusals.IsNoRefusal x.told y.told told) (first.causes (each_front refusals.IsNoRefusal x.told y.told told) well);
}

pub adds_command : (c : Command) (a : Account) → Adds a (record nothing_added { submitted = c ∷ [] }) (with_issued c a)
adds_command c a = record {
  issued = refl;
  taken = sym (append-nil a.taken);
  queued = sym (append-nil a.queued);
  told = refl;
  sessions = omega arith;
  causes = λ told well. well;
}

pub adds_event : (e : Event) (a : Account) → Adds a (record nothing_added { queued = e ∷ [] }) (with_queued e a)
adds_event e a = record {
  issued = sym (append-nil a.issued);
  taken = sym (append-nil a.taken);
  queued = refl;
  told = refl;
  sessions = omega arith;
  causes = λ told well. well;
}

-- POLL is none of the commands taken
taken_alike : (k : Kind) (c : Option Command) → taken_by k c ≡ taken_as k c
taken_alike kind.Taken None = refl
taken_alike kind.Taken (Some command.Poll) = refl
taken_alike kind.Taken (Some c) = refl
taken_alike k c = refl

pub adds_taken : (k : Kind) (c : Option Command) (a : Account) → Adds a (record nothing_added { taken = taken_as k c }) (with_taken (taken_by k c) a)
adds_taken k c a = record {
  issued = sym (append-nil a.issued);
  taken = ap (λ cs. a.taken ++ cs) (taken_alike k c);
  queued = sym (append-nil a.queued);
  told = refl;
  sessions = omega arith;
  causes = λ told well. well;
}

pub adds_session : (a : Account) → Adds a (record nothing_added { begun = 1 }) (with_session a)
adds_session a = record {
  issued = sym (append-nil a.issued);
  taken = sym (append-nil a.taken);
  queued = sym (append-nil a.queued);
  told = refl;
  sessions = length-append a.sessions (lengths_of a ∷ []);
  causes = λ told well. well;
}

-- ---- reports

-- ends without a refused number, as a report tells them
causes_of : (r : Option Report) (a : Account) → Each refusals.IsNoRefusal (option_to_list r) → Each IsNoRefusal a.ends
    → Each IsNoRefusal (with_report r a).ends
causes_of None a told well = well
causes_of (Some (report.Opened id)) a told well = well
causes_of (Some (report.Settled command answer)) a told well = well
causes_of (Some (report.Moved command answered)) a told well = each_append IsNoRefusal a.ends (ending.Moved ∷ []) well (tt, tt)
causes_of (Some (report.Event event)) a told well = well
causes_of (Some (report.PollAnswered answer)) a told well = well
causes_of (Some (report.Unread command code)) a told well = well
causes_of (Some (report.Lost cause command)) a told well = each_append IsNoRefusal a.ends (ending.Lost cause ∷ []) well (told.0, tt)

told_as : (r : Option Report) (a : Account) → told_of (with_report r a) ≡ with_reports (option_to_list r) (told_of a)
told_as None a = refl
told_as (Some (report.Opened id)) a = refl
told_as (Some (report.Settled command answer)) a = refl
told_as (Some (report.Moved command answered)) a = refl
told_as (Some (report.Event event)) a = refl
told_as (Some (report.PollAnswered answer)) a = refl
told_as (Some (report.Unread command code)) a = refl
told_as (Some (report.Lost cause command)) a = refl

-- a report issues and queues nothing, and takes nothing
pub report_leaves : (r : Option Report) (a : Account) → ((with_report r a).issued ≡ a.issued) × ((with_report r a).queued ≡ a.queued)
report_leaves None a = (refl, refl)
report_leaves (Some (report.Opened id)) a = (refl, refl)
report_leaves (Some r) a = (refl, refl)

report_takes : (r : Option Report) (a : Account) → (with_report r a).taken ≡ a.taken
report_takes None a = refl
report_takes (Some (report.Opened id)) a = refl
report_takes (Some r) a = refl

pub adds_report : (r : Option Report) (a : Account) → Adds a (record nothing_added { told = option_to_list r }) (with_report r a)
adds_report r a =
    let leaves = report_leaves r a in
    record {
      issued = leaves.0 ∙ sym (append-nil a.issued);
      taken = report_takes r a ∙ sym (append-nil a.taken);
      queued = leaves.1 ∙ sym (append-nil a.queued);
      told = told_as r a;
      sessions = omega (arith, ap (λ l. length l) (sessions_of_report r a));
      causes = causes_of r a;
    }

-- ---- what moves add

module _ {H : Type 0} (answer_of : H → Command → Answer) (after : H → Command → H) where
  abbrev pub added_by : Move H → Link H → Added
  added_by m l = record {
    submitted = submitted m l;
    taken = taken_in answer_of after m l;
    queued = queued m l;
    told = option_to_list (told_by m l);
    begun = begins answer_of after m l;
  }

  abbrev pub all_added : List (Move H) → Link H → Added
  all_added ms l = record {
    submitted = all_submitted answer_of after ms l;
    taken = all_taken answer_of after ms l;
    queued = all_queued answer_of after ms l;
    told = reports answer_of after ms l;
    begun = all_begun answer_of after ms l;
  }

  -- lists of moves, one after the other
  pub added_both : (ms ns : List (Move H)) (l : Link H) → all_added (ms ++ ns) l ≡ and_then (all_added ms l) (all_added ns (link.run answer_of after ms l))
  added_both [] ns l = nothing_and (all_added ns l)
  added_both (m ∷ ms) ns l =
      let next = after_move answer_of after m l in
      ap (and_then (added_by m l)) (added_both ms ns next) ∙ and_more (added_by m l) (all_added ms next) (all_added ns (link.run answer_of after ms next))

  -- from an account in which a first session has begun, and nothing else has happened
  pub tells_of : (a : Account) (ms : List (Move H)) (l : Link H) → Adds (with_session empty_account) (all_added ms l) a → TellsOfMoves answer_of after a ms l
  tells_of a ms l adds = record {
    issued = adds.issued;
    taken = adds.taken;
    queued = adds.queued;
    told = adds.told;
    sessions = omega (arith, adds.sessions);
  }
