-- How many sessions an account has, and how long its lists were where each of them began.
use Rattle.osdp_sim_laws.proofs.Common.{◌≡◌, ◌+◌, ◌==◌, if◌then◌else◌, ℕ, arith, Bool, true, false, List, [], ◌∷◌, ◌++◌, length, Option, Some, None, refl, sym, subst, ap, ◌∙◌, append_assoc, append-nil, length-append, eq-eqb, slice_get, packets_in, Packet, Command, Event, ticks, ControllerFault, Report, Answer, lacks_room, IsBeginning, Each, Account, lengths_of, with_issued, with_queued, with_report, with_session, handed, left, run, steps_done, SimState, set_up, after_step, controller_hears, moment_after, reader_hears, SimConfig, SimStep, Busy, Issue, Queue, Reopen, ToController, ToReader, Wait, runs_on, IsAcceptedByRoom, IsRun, OneLink, IsInSession, no_lengths, reopens, reopens_in}
use Rattle.osdp_controller.specs.Hearing as controller
use Rattle.osdp_controller.specs.Machine as controllers
use Rattle.osdp_sim.specs.Schedules as schedules
use Rattle.osdp_sim.specs.Steps as steps
use Rattle.osdp_sim.specs.declared.account.Lengths.{Lengths}
use Rattle.osdp_sim_laws.specs.Begun.{AreBegun, BeginsAfter, BeginsByReopens, CameTo}
use Rattle.osdp_sim_laws.proofs.Accepting.{accepted}
use Rattle.osdp_sim_laws.proofs.Accounts.{report_leaves}
use Rattle.osdp_sim_laws.proofs.Ends.{sessions_of_report}
use Rattle.osdp_sim_laws.proofs.Holding.{answers, run_first}

-- ---- lists

pub whole : {A : Type 0} (xs : List A) → IsBeginning xs xs
whole xs = ([], sym (append-nil xs))

pub longer : {A : Type 0} (xs ys zs : List A) → IsBeginning xs ys → IsBeginning ys zs → IsBeginning xs zs
longer xs ys zs (more, is) (rest, later) = (more ++ rest, later ∙ ap (λ l. l ++ rest) is ∙ append_assoc xs more rest)

get_next : {A : Type 0} (xs : List A) (y : A) (ys : List A) → slice_get (xs ++ y ∷ ys) (length xs) ≡ Some y
get_next [] y ys = refl
get_next (x ∷ xs) y ys = get_next xs y ys

-- ---- accounts that grow

-- the session that a step begins again
abbrev pub begun_by : ℕ → SimStep → Account → List Lengths
begun_by reader (Reopen number) a = if number == reader then lengths_of a ∷ [] else []
begun_by reader _ a = []

-- an account grows into a later one, with these sessions more
pub record Grows (more : List Lengths) (a b : Account) : Type 0 where
  pub sessions : b.sessions ≡ a.sessions ++ more
  pub issued : IsBeginning a.issued b.issued
  pub queued : IsBeginning a.queued b.queued

pub stays : (a b : Account) → b.sessions ≡ a.sessions → b.issued ≡ a.issued → b.queued ≡ a.queued → Grows [] a b
stays a b sessions issued queued = record {
  sessions = sessions ∙ sym (append-nil a.sessions);
  issued = ([], issued ∙ sym (append-nil a.issued));
  queued = ([], queued ∙ sym (append-nil a.queued));
}

pub grows_on : (more rest : List Lengths) (a b c : Account) → Grows more a b → Grows rest b c → Grows (more ++ rest) a c
grows_on more rest a b c first next = record {
  sessions = next.sessions ∙ ap (λ l. l ++ rest) first.sessions ∙ append_assoc a.sessions more rest;
  issued = longer a.issued b.issued c.issued first.issued next.issued;
  queued = longer a.queued b.queued c.queued first.queued next.queued;
}

pub grows_by_report : (r : Option Report) (a : Account) → Grows [] a (with_report r a)
grows_by_report r a =
    let leaves = report_leaves r a in
    stays a (with_report r a) (sessions_of_report r a) leaves.0 leaves.1

pub grows_by_command : (c : Command) (a : Account) → Grows [] a (with_issued c a)
grows_by_command c a = record { sessions = sym (append-nil a.sessions); issued = (c ∷ [], refl); queued = whole a.queued }

pub grows_by_event : (e : Event) (a : Account) → Grows [] a (with_queued e a)
grows_by_event e a = record { sessions = sym (append-nil a.sessions); issued = whole a.issued; queued = (e ∷ [], refl) }

pub grows_by_session : (a : Account) → Grows (lengths_of a ∷ []) a (with_session a)
grows_by_session a = record { sessions = refl; issued = whole a.issued; queued = whole a.queued }

count_of : (there : Bool) (l : Lengths) → length (if there then l ∷ [] else []) ≡ (if there then 1 else 0)
count_of true l = refl
count_of false l = refl

begun_count : (reader : ℕ) (step : SimStep) (a : Account) → length (begun_by reader step a) ≡ reopens reader step
begun_count reader (Reopen number) a = count_of (number == reader) (lengths_of a)
begun_count reader step a = refl

-- any line on which a state tells one account of the reader, and each step makes this grow as the step says
module _ {S : Type 0} (taking : SimStep → S → S) (Tells : S → Account → Type 0) (one : (s : S) (a b : Account) → Tells s a → Tells s b → a ≡ b) (reader : ℕ)
    (grow : (step : SimStep) (s : S) (a : Account) → Tells s a → (b : Account) × Tells (taking step s) b × Grows (begun_by reader step a) a b) where
  -- the account after these steps
  pub record HasGrown (list : List SimStep) (s : S) (a : Account) : Type 0 where
    pub last : Account
    pub tells : Tells (schedules.run taking list s) last
    pub more : List Lengths
    pub grows : Grows more a last
    pub count : length more ≡ reopens_in reader list

  pub has_grown : (list : List SimStep) (s : S) (a : Account) → Tells s a → HasGrown list s a
  has_grown [] s a tells = record { last = a; tells = tells; more = []; grows = stays a a refl refl refl; count = refl }
  has_grown (step ∷ list) s a tells =
      let first = grow step s a tells in
      let rest = has_grown list (taking step s) first.0 first.1 in
      record {
        last = rest.last;
        tells = rest.tells;
        more = begun_by reader step a ++ rest.more;
        grows = grows_on (begun_by reader step a) rest.more a first.0 rest.last first.2 rest.grows;
        count = omega (arith, length-append (begun_by reader step a) rest.more, begun_count reader step a, rest.count);
      }

  -- a step that begins one, and what comes after it
  module _ (start : S) (first : Account) (first_tells : Tells start first) (begins : first.sessions ≡ no_lengths ∷ []) (list : List SimStep) (a : Account)
      (tells : Tells (schedules.run taking list start) a) where
    all : HasGrown list start first
    all = has_grown list start first first_tells

    is_last : all.last ≡ a
    is_last = one (schedules.run taking list start) all.last a all.tells tells

    sessions_are : a.sessions ≡ no_lengths ∷ all.more
    sessions_are = ap (λ (b : Account). b.sessions) (sym is_last) ∙ all.grows.sessions ∙ ap (λ l. l ++ all.more) begins

    pub session_at : (before later : List SimStep) → list ≡ before ++ Reopen reader ∷ later
        → (was : Account) × Tells (schedules.run taking before start) was × BeginsAfter was a (slice_get a.sessions (1 + reopens_in reader before))
    session_at before later is =
        let early = has_grown before start first first_tells in
        let was = early.last in
        let there = schedules.run taking before start in
        let step = grow (Reopen reader) there was early.tells in
        let new = taking (Reopen reader) there in
        let rest = has_grown later new step.0 step.1 in
        let ends : schedules.run taking list start ≡ schedules.run taking later new =
        ap (λ l. schedules.run taking l start) is ∙ runs_on taking before (Reopen reader ∷ later) start in
        let same : rest.last ≡ a = one (schedules.run taking later new) rest.last a rest.tells (subst (λ t. Tells t a) ends tells) in
        let here : begun_by reader (Reopen reader) was ≡ lengths_of was ∷ [] =
        ap (λ b. if b then lengths_of was ∷ [] else []) (eq-eqb reader reader refl) in
        let grown : Grows ((lengths_of was ∷ []) ++ rest.more) was a =
        subst (Grows ((lengths_of was ∷ []) ++ rest.more) was) same
        (grows_on (lengths_of was ∷ []) rest.more was step.0 rest.last (subst (λ l. Grows l was step.0) here step.2) rest.grows) in
        let many : length was.sessions ≡ 1 + reopens_in reader before =
        omega (arith, ap length early.grows.sessions, length-append first.sessions early.more, ap length begins, early.count) in (
          was,
          early.tells,
          record {
            lengths = ap (slice_get a.sessions) (sym many) ∙ ap (λ l. slice_get l (length was.sessions)) grown.sessions
                ∙ get_next was.sessions (lengths_of was) rest.more;
            issued = grown.issued;
            queued = grown.queued;
          },
        )

    pub are_begun : (CameTo : List SimStep → Account → Type 0)
        → ((before more : List SimStep) → list ≡ before ++ more → (was : Account) → Tells (schedules.run taking before start) was → CameTo before was)
        → AreBegun reader CameTo list a
    are_begun CameTo came = record {
      count = omega (arith, ap length sessions_are, all.count);
      first = ap (λ l. slice_get l 0) sessions_are;
      each = λ before later is. let at = session_at before later is in (at.0, came before (Reopen reader ∷ later) is at.0 at.1, at.2);
    }

-- where no session begins again none of this reader does
pub none_reopen : (reader : ℕ) (list : List SimStep) → Each IsInSession list → reopens_in reader list ≡ 0
none_reopen reader [] inside = refl
none_reopen reader (Reopen number ∷ list) inside = absurd inside.0
none_reopen reader (step ∷ list) inside = omega (arith, none_reopen reader list inside.1)

-- ---- one reader

module _ {H : Type 0} (answer_of : H → Command → Answer) (after : H → Command → H) where
  heard_grows : (packets : List Packet) (s : SimState H) → Grows [] s.account (controller_hears packets s).account
  heard_grows [] s = stays s.account s.account refl refl refl
  heard_grows (p ∷ packets) s =
      let t = controller_hears (p ∷ []) s in
      grows_on [] [] s.account t.account (controller_hears packets t).account
      (grows_by_report (controller.hears p s.clock s.controller.session).report s.account) (heard_grows packets t)

  answered_grows : (packets : List Packet) (s : SimState H) → Grows [] s.account (reader_hears answer_of after packets s).account
  answered_grows [] s = stays s.account s.account refl refl refl
  answered_grows (p ∷ packets) s =
      let t = reader_hears answer_of after (p ∷ []) s in
      grows_on [] [] s.account t.account (reader_hears answer_of after packets t).account
      (stays s.account t.account refl refl refl) (answered_grows packets t)

  issued_grows : (there : Bool) (fault : Option ControllerFault) (c : Command) (s : SimState H)
      → Grows [] s.account (if there then steps.issued fault c s else s).account
  issued_grows false fault c s = stays s.account s.account refl refl refl
  issued_grows true (Some fault) c s = stays s.account s.account refl refl refl
  issued_grows true None c s = grows_by_command c s.account

  queued_grows : (there full : Bool) (e : Event) (s : SimState H) → Grows [] s.account (if there then steps.queued full e s else s).account
  queued_grows false full e s = stays s.account s.account refl refl refl
  queued_grows true true e s = stays s.account s.account refl refl refl
  queued_grows true false e s = grows_by_event e s.account

  busy_grows : (there : Bool) (s t : SimState H) → t.account ≡ s.account → Grows [] s.account (if there then t else s).account
  busy_grows false s t is = stays s.account s.account refl refl refl
  busy_grows true s t is =
      stays s.account t.account (ap (λ (a : Account). a.sessions) is) (ap (λ (a : Account). a.issued) is) (ap (λ (a : Account). a.queued) is)

  reopened_grows : (there : Bool) (s : SimState H)
      → Grows (if there then lengths_of s.account ∷ [] else []) s.account (if there then steps.reopened s else s).account
  reopened_grows false s = stays s.account s.account refl refl refl
  reopened_grows true s = grows_by_session s.account

  step_grows : (step : SimStep) (s : SimState H) → Grows (begun_by 1 step s.account) s.account (after_step answer_of after step s).account
  step_grows (Issue number c) s = issued_grows (number == 1) (controllers.submit_refusal c s.controller) c s
  step_grows (Queue number e) s = queued_grows (number == 1) (lacks_room e s.reader.queue) e s
  step_grows (Busy number busy) s = busy_grows (number == 1) s _ refl
  step_grows (Wait wait) s = grows_by_report (ticks (moment_after wait s.clock) s.controller.session s.controller.waiting).step.report s.account
  step_grows (ToReader move) s = answered_grows (packets_in (handed move s.to_reader)) (record s { to_reader = left move s.to_reader })
  step_grows (ToController move) s = heard_grows (packets_in (handed move s.to_controller)) (record s { to_controller = left move s.to_controller })
  step_grows (Reopen number) s = reopened_grows (number == 1) s

  -- the account of the one reader
  abbrev Tells : SimState H → Account → Type 0
  Tells s a = a ≡ s.account

  one_account : (s : SimState H) (a b : Account) → Tells s a → Tells s b → a ≡ b
  one_account s a b is other = is ∙ sym other

  grow : (step : SimStep) (s : SimState H) (a : Account) → Tells s a
      → (b : Account) × Tells (after_step answer_of after step s) b × Grows (begun_by 1 step a) a b
  grow step s a is =
      let t = after_step answer_of after step s in
      (t.account, refl, subst (λ (b : Account). Grows (begun_by 1 step b) b t.account) (sym is) (step_grows step s))

  -- as many sessions have begun
  pub sessions_counted : (config : SimConfig) (handler : H) (list : List SimStep)
      → length (run answer_of after list (set_up config handler)).account.sessions ≡ 1 + reopens_in 1 list
  sessions_counted config handler list =
      let start = set_up config handler in
      let all = has_grown (after_step answer_of after) Tells one_account 1 grow list start start.account refl in
      omega (arith, ap (λ (a : Account). length a.sessions) all.tells, ap length all.grows.sessions, length-append start.account.sessions all.more, all.count)

  pub begins_by_reopens : OneLink answer_of after → BeginsByReopens answer_of after
  begins_by_reopens given config handler list answer is was =
      let start = set_up config handler in
      let done = steps_done list answer in
      answers answer_of after (AreBegun 1 (CameTo answer_of after config handler) done) config handler list answer is was
      (λ taken. are_begun (after_step answer_of after) Tells one_account 1 grow start start.account refl refl done (run answer_of after done start).account refl
      (CameTo answer_of after config handler)
      (λ before more part a told.
      let first = run_first answer_of after config handler before more (subst (IsRun answer_of after config handler) part taken) in
      record {
        run = told;
        room = subst (λ b. IsAcceptedByRoom config before b) (sym told) (accepted answer_of after given config handler before first);
      }))
