-- Rounds without losses, from the first: what they settle and report, exactly.
use Rattle.std.proofs.Common.{◌≡◌, ◌≢◌, ◌≤◌, ◌-◌, ℕ, zero, suc, arith, Bool, true, false, List, [], ◌∷◌, ◌++◌, length, take, drop, Option, Some, None, refl, sym, subst, ap, ◌∙◌, append_assoc}
use Rattle.osdp_link_laws.proofs.Common.{leb-false, append-nil, length-take, IfSome, min, option_to_list, Command, Event, event_reply, submit_refusal, later_by, seen, is_closed, moment_of, idle_way, poll_told, ticks, ticks_in, ControllerConfig, ControllerFault, Report, Session, Quiet, Idle, exchange_command, ReaderState, answer_to, event_or_answer, ReaderConfig, Answer, MovesFit, MaySubmit, Link, Move, QueueEvent, Submit, outstanding_command, run, with_answers, ReadEachOther, SetsNoAddress, Told, all_taken, nothing_told, reports, with_reports, round, rounds}
use Rattle.osdp_msg.specs.declared.command.Command.TheVariants as command
use Rattle.osdp_reader.specs.Queue.{Queue, event_for, offering, queued, released, lacks_room}
use Rattle.osdp_link_laws.specs.Clean.{AreSpaced, GoesInTurn, IsInTurn, IsOrder}
use Rattle.osdp_link_laws.specs.Link as link
use Rattle.osdp_link_laws.specs.Reports.{command_taken}
use Rattle.osdp_link_laws.proofs.Acting.{no_event}
use Rattle.osdp_link_laws.proofs.Due.{Acts, next_exchange}
use Rattle.osdp_link_laws.proofs.Exchanges.{opened, opening_exchange, rested, rested_link, went}
use Rattle.osdp_link_laws.proofs.InARow.{assumed}
use Rattle.osdp_link_laws.proofs.Lines.{each_append, each_of}
use Rattle.osdp_link_laws.proofs.Moves.{Premises, not_poll}
use Rattle.osdp_link_laws.proofs.Once.{Goes, fresh}
use Rattle.osdp_link_laws.proofs.Round.{IsIdle, IsStill, goes}
use Rattle.osdp_link_laws.proofs.Rounds.{idle_exchange, rested_idle}
use Rattle.osdp_link_laws.proofs.Settling.{report_of}
use Rattle.osdp_link_laws.proofs.Stages.{Each, Waits}
use Rattle.osdp_link_laws.proofs.Through.{held_after}

none_of : {A : Type 0} (n : ℕ) → take {A = A} n [] ≡ []
none_of zero = refl
none_of (suc n) = refl

-- a controller at rest acts once its POLL is due
rest_acts : (due : ℕ) (s : Session) (waiting : List Command) → due ≤ s.greatest → Acts (ticks_in (Idle due) s waiting)
rest_acts due s waiting reached =
    idle_way Acts due s waiting (λ e. refl) (λ e. absurd (let ahead = leb-false due s.greatest e in omega (arith, ahead, reached))) (λ c rest e. refl)

-- its next POLL is due after the interval
abbrev RestsFor : Session → Type 0
RestsFor s = s.state ≡ Idle (later_by s.config.poll_interval s)

spaced_acts : (wait now : ℕ) (s : Session) (waiting : List Command) → RestsFor s → s.config.poll_interval ≤ wait → later_by wait s ≤ now
    → Acts (ticks now s waiting)
spaced_acts wait now s waiting rests short late =
    subst (λ st. Acts (ticks_in st (seen now s) waiting)) (sym rests)
    (rest_acts (later_by s.config.poll_interval s) (seen now s) waiting (omega (arith, short, late)))

pub as_many : {H : Type 0} (answer_of : H → Command → Answer) (after : H → Command → H) (config : ReaderConfig) (h : H) (cs : List Command)
    → length (with_answers answer_of after config h cs) ≡ length cs
as_many answer_of after config h [] = refl
as_many answer_of after config h (c ∷ cs) = ap suc (as_many answer_of after config (answer_to answer_of after config h c).handler cs)

module _ (fixed : ControllerConfig) {H : Type 0} (answer_of : H → Command → Answer) (after : H → Command → H) where
  abbrev Given : Type 0
  Given = Premises fixed answer_of after

  abbrev Holds : Link H → Type 0
  Holds l = Goes fixed answer_of after l

  abbrev Idles : Link H → Type 0
  Idles l = IsIdle fixed answer_of after l

  -- a link between two rounds: the controller waits for nothing, and its next POLL is due after the interval
  record IsBetween (interval : ℕ) (l : Link H) : Type 0 where
    pub holds : Holds l
    pub idle : Idles l
    pub rests : RestsFor l.controller.session
    pub keeps : l.controller.session.config.poll_interval ≡ interval

  lasts : (interval : ℕ) (l : Link H) → IsBetween interval l → is_closed l.controller.session.state ≡ false
  lasts interval l b = ap is_closed b.idle.idle.1

  -- the events that the controller has not had yet
  abbrev unreported : Link H → List Event
  unreported l = (released l.reader.queue).events

  -- what n rounds take and tell, from these commands that wait and these events, with this device
  record Made (n : ℕ) (waiting : List Command) (events : List Event) (config : ReaderConfig) (handler : H) (taken : List Command) (reports : List Report) : Type 0 where
    pub acted : taken ≡ take n waiting
    pub told : (t : Told) → with_reports reports t ≡ record t {
      settled = t.settled ++ with_answers answer_of after config handler (take n waiting);
      reported = t.reported ++ take (n - length waiting) events;
    }

  nothing_less : (k : ℕ) → 0 - k ≡ 0
  nothing_less k = omega arith

  nothing_more : (t : Told) → t ≡ record t { settled = t.settled ++ []; reported = t.reported ++ [] }
  nothing_more t = (λ i. record t { settled = sym (append-nil t.settled) i; reported = sym (append-nil t.reported) i })

  made_none : (waiting : List Command) (events : List Event) (config : ReaderConfig) (handler : H) → Made 0 waiting events config handler [] []
  made_none waiting events config handler = record {
    acted = refl;
    told = λ t. nothing_more t ∙ ap (λ k. record t { settled = t.settled ++ []; reported = t.reported ++ take k events }) (sym (nothing_less (length waiting)));
  }

  -- the events that the controller has not had after one round
  abbrev left_by : List Command → List Event → List Event
  left_by (c ∷ waiting) events = events
  left_by [] events = drop 1 events

  -- the handler after one round
  abbrev handler_by : List Command → ReaderConfig → H → H
  handler_by (c ∷ waiting) config handler = (answer_to answer_of after config handler c).handler
  handler_by [] config handler = handler

  -- what one round tells and takes
  abbrev told_by_one : List Command → List Event → ReaderConfig → H → Told → Told
  told_by_one (c ∷ waiting) events config handler t = record t { settled = t.settled ++ (c, (answer_to answer_of after config handler c).reply) ∷ [] }
  told_by_one [] (e ∷ events) config handler t = record t { reported = t.reported ++ e ∷ [] }
  told_by_one [] [] config handler t = t

  -- one round first
  made_more : (n : ℕ) (waiting : List Command) (events : List Event) (config : ReaderConfig) (handler : H) (first later : List Command) (one more : List Report)
      → first ≡ take 1 waiting → ((t : Told) → with_reports (one ++ more) t ≡ with_reports more (told_by_one waiting events config handler t))
      → Made n (drop 1 waiting) (left_by waiting events) config (handler_by waiting config handler) later more
      → Made (suc n) waiting events config handler (first ++ later) (one ++ more)
  made_more n (c ∷ waiting) events config handler first later one more takes tells made = record {
    acted = (λ i. takes i ++ made.acted i);
    told = λ t.
        let a = answer_to answer_of after config handler c in
        tells t ∙ made.told (told_by_one (c ∷ waiting) events config handler t)
        ∙ ap (λ pairs. record t { settled = pairs; reported = t.reported ++ take (n - length waiting) events })
        (append_assoc t.settled ((c, a.reply) ∷ []) (with_answers answer_of after config a.handler (take n waiting)))
        ∙ ap (λ k. record t {
          settled = t.settled ++ with_answers answer_of after config handler (take (suc n) (c ∷ waiting));
          reported = t.reported ++ take k events;
        }) (shorter n (length waiting));
  }
    where
      shorter : (n k : ℕ) → n - k ≡ suc n - suc k
      shorter n k = omega arith
  made_more n [] (e ∷ events) config handler first later one more takes tells made = record {
    acted = (λ i. takes i ++ made.acted i) ∙ none_of n;
    told = λ t.
        tells t ∙ made.told (told_by_one [] (e ∷ events) config handler t)
        ∙ ap (λ cs. record t { settled = t.settled ++ with_answers answer_of after config handler cs; reported = (t.reported ++ e ∷ []) ++ take (n - 0) events })
        (none_of n)
        ∙ ap (λ es. record t { settled = t.settled ++ []; reported = es })
        (append_assoc t.reported (e ∷ []) (take (n - 0) events) ∙ ap (λ k. t.reported ++ take k (e ∷ events)) (longer n));
  }
    where
      longer : (n : ℕ) → suc (n - 0) ≡ suc n - 0
      longer n = omega arith
  made_more n [] [] config handler first later one more takes tells made = record {
    acted = (λ i. takes i ++ made.acted i) ∙ none_of n;
    told = λ t.
        tells t ∙ made.told t
        ∙ ap (λ cs. record t { settled = t.settled ++ with_answers answer_of after config handler cs; reported = t.reported ++ take (n - 0) [] }) (none_of n)
        ∙ ap (λ es. record t { settled = t.settled ++ []; reported = t.reported ++ es }) (none_of (n - 0) ∙ sym (none_of (suc n - 0)));
  }

  -- a round from rest tells and takes so
  rested_tells : Given → (waiting : List Command) (events : List Event) (config : ReaderConfig) (handler : H) (more : List Report) (t : Told) → Each MaySubmit waiting
      → let x = next_exchange waiting in
      let c = exchange_command x in
      with_reports (option_to_list (report_of x (event_or_answer answer_of after (event_for c events) config handler c).reply) ++ more) t
      ≡ with_reports more (told_by_one waiting events config handler t)
  rested_tells given [] [] config handler more t may = refl
  rested_tells given [] (e ∷ events) config handler more t may =
      ap (λ o. with_reports (option_to_list (poll_told (event_reply e) o) ++ more) t) (given.tells e)
  rested_tells given (c ∷ waiting) events config handler more t may =
      ap (λ o. with_reports more (record t { settled = t.settled ++ (c, (event_or_answer answer_of after o config handler c).reply) ∷ [] }))
      (no_event c events may.0.no_poll)

  rested_takes : (waiting : List Command) → Each MaySubmit waiting → command_taken (exchange_command (next_exchange waiting)) ≡ take 1 waiting
  rested_takes [] may = refl
  rested_takes (c ∷ waiting) may = is_taken c may.0.no_poll
    where
      is_taken : (c : Command) → c ≢ command.Poll → command_taken c ≡ c ∷ []
      is_taken command.Poll other = absurd (other refl)
      is_taken c other = refl

  left_is : (waiting : List Command) (events : List Event) (capacity room : ℕ) (ever : Bool) → Each MaySubmit waiting
      → (released (offering (event_for (exchange_command (next_exchange waiting)) events) (record { events = events; capacity = capacity; room = room; offered = false; ever_offered = ever }))).events
      ≡ left_by waiting events
  left_is [] [] capacity room ever may = refl
  left_is [] (e ∷ events) capacity room ever may = refl
  left_is (c ∷ waiting) events capacity room ever may =
      ap (λ o. (released (offering o (record { events = events; capacity = capacity; room = room; offered = false; ever_offered = ever }))).events) (no_event c events may.0.no_poll)

  handler_is : (waiting : List Command) (events : List Event) (config : ReaderConfig) (handler : H) → Each MaySubmit waiting
      → (let c = exchange_command (next_exchange waiting) in (event_or_answer answer_of after (event_for c events) config handler c).handler) ≡ handler_by waiting config handler
  handler_is [] [] config handler may = refl
  handler_is [] (e ∷ events) config handler may = refl
  handler_is (c ∷ waiting) events config handler may = ap (λ o. (event_or_answer answer_of after o config handler c).handler) (no_event c events may.0.no_poll)

  -- what these rounds take and tell from a link at rest
  abbrev MadeOf : ℕ → List ℕ → Link H → Type 0
  MadeOf n moments l =
      Made n l.controller.waiting (unreported l) l.reader.config l.reader.handler (all_taken answer_of after (rounds moments) l) (reports answer_of after (rounds moments) l)

  -- .. where the first of them went so
  went_more : Given → (now : ℕ) (later : List ℕ) (l : Link H) → Each MaySubmit l.controller.waiting → went answer_of after now l ≡ rested fixed answer_of after now l
      → MadeOf (length later) later (goes answer_of after now l) → MadeOf (suc (length later)) (now ∷ later) l
  went_more given now later l may is rest =
      let w = l.controller.waiting in
      let q = l.reader.queue in
      let events = unreported l in
      let config = l.reader.config in
      let handler = l.reader.handler in
      let m = goes answer_of after now l in
      let n = length later in
      let taken = all_taken answer_of after (rounds later) m in
      let more = reports answer_of after (rounds later) m in
      let next = rested_link fixed answer_of after now l in
      let left = left_is w events q.capacity q.room (released q).ever_offered may in
      let made : Made n (drop 1 w) (left_by w events) config (handler_by w config handler) taken more =
      subst (λ h. Made n (drop 1 w) (left_by w events) config h taken more) (handler_is w events config handler may)
      (subst (λ es. Made n (drop 1 w) es config next.reader.handler taken more) left
      (subst (λ g. Made n g.next.controller.waiting (unreported g.next) g.next.reader.config g.next.reader.handler taken more) is rest)) in
      subst (λ g. Made (suc n) w events config handler (g.taken ++ taken) (option_to_list g.first ++ (option_to_list g.told ++ more))) (sym is)
      (made_more n w events config handler (rested fixed answer_of after now l).taken taken (option_to_list (rested fixed answer_of after now l).told) more
      (rested_takes w may) (λ t. rested_tells given w events config handler more t may) made)

  -- each round is an exchange from rest
  rounds_make : Given → fixed.poll_between_orders ≡ false → (wait interval : ℕ) → interval ≤ wait → (moments : List ℕ) (l : Link H) → IsBetween interval l → AreSpaced answer_of after wait moments l
      → MovesFit answer_of after (rounds moments) l → IsBetween interval (run answer_of after (rounds moments) l) × MadeOf (length moments) moments l
  rounds_make given plain wait interval short [] l b spaced fits = (b, made_none l.controller.waiting (unreported l) l.reader.config l.reader.handler)
  rounds_make given plain wait interval short (now ∷ later) l b spaced fits =
      let w = l.controller.waiting in
      let does = spaced_acts wait now l.controller.session w b.rests (omega (arith, short, b.keeps)) spaced.0 in
      let is = idle_exchange fixed answer_of after given plain now l b.holds b.idle does fits.1.0 in
      let m = goes answer_of after now l in
      let next : IsBetween interval m = record {
        holds = held_after fixed answer_of after given now l fits.1.0 b.holds;
        idle = subst (λ g. Idles g.next) (sym is) (rested_idle fixed answer_of after now l b.idle);
        rests = subst (λ g. RestsFor g.next.controller.session) (sym is) refl;
        keeps = ap (λ g. g.next.controller.session.config.poll_interval) is ∙ b.keeps;
      } in
      let rest = rounds_make given plain wait interval short later m next spaced.1 fits.1.1.1 in
      (rest.0, went_more given now later l b.holds.holds.2.waiting is rest.1)

  -- so they are settled and reported in turn
  in_turn : (config : ReaderConfig) (handler : H) (n : ℕ) (waiting : List Command) (events : List Event) (taken : List Command) (told : List Report)
      → Made n waiting events config handler taken told → IsInTurn answer_of after config handler n waiting events taken (with_reports told nothing_told)
  in_turn config handler n waiting events taken told made =
      let t = with_reports told nothing_told in
      let is = made.told nothing_told in
      let settled : t.settled ≡ with_answers answer_of after config handler (take n waiting) = ap (λ (u : Told). u.settled) is in
      let count = ap (λ pairs. length pairs) settled ∙ as_many answer_of after config handler (take n waiting) ∙ length-take n waiting in
      record {
        acted = made.acted;
        settled = settled;
        reported = ap (λ (u : Told). u.reported) is ∙ ap (λ k. take k events) (rest_of n (length waiting) (length t.settled) count);
        in_doubt = ap (λ (u : Told). u.in_doubt) is;
      }
    where
      rest_of : (n w s : ℕ) → s ≡ min n w → n - w ≡ n - s
      rest_of n w s count = omega (arith, count)

  -- ---- before the opening

  -- a reader as it is set at first, which isn't busy
  pub record IsFree (first : ReaderState H) (config : ReaderConfig) (handler : H) (busy : Bool) : Type 0 where
    pub set_so : config ≡ first.config
    pub answers_so : handler ≡ first.handler
    pub ready : busy ≡ false

  -- a session that has begun, of which nothing was sent yet
  pub record IsReadied (s : Session) (first : ReaderState H) (l : Link H) : Type 0 where
    pub session : l.controller.session ≡ s
    pub waiting : Each MaySubmit l.controller.waiting
    pub reader : IsFree first l.reader.config l.reader.handler l.reader.busy
    pub line : (l.to_reader ≡ []) × (l.to_controller ≡ [])

  -- another list of commands that wait, and another queue
  waits_ready : (s : Session) (first : ReaderState H) (cs : List Command) (queue : Queue) (l : Link H) → Each MaySubmit cs → IsReadied s first l
      → IsReadied s first (record l {
        controller = record l.controller { waiting = cs };
        reader = record l.reader { queue = queue };
      })
  waits_ready s first cs queue l may h = record {
    session = h.session;
    waiting = may;
    reader = h.reader;
    line = h.line;
  }

  submits_ready : (s : Session) (first : ReaderState H) (refusal : Option ControllerFault) (c : Command) (l : Link H) → (refusal ≡ None → MaySubmit c) → IsReadied s first l
      → IsReadied s first (link.submits refusal c l)
  submits_ready s first (Some fault) c l may h = h
  submits_ready s first None c l may h =
      waits_ready s first (l.controller.waiting ++ c ∷ []) l.reader.queue l
      (each_append MaySubmit l.controller.waiting (c ∷ []) h.waiting (may refl, tt)) h

  queues_ready : (s : Session) (first : ReaderState H) (full : Bool) (e : Event) (l : Link H) → IsReadied s first l → IsReadied s first (link.queues full e l)
  queues_ready s first true e l h = h
  queues_ready s first false e l h = waits_ready s first l.controller.waiting (queued e l.reader.queue) l h.waiting h

  orders_ready : (s : Session) (first : ReaderState H) (orders : List (Move H)) (l : Link H) → Each IsOrder orders → MovesFit answer_of after orders l → IsReadied s first l
      → IsReadied s first (run answer_of after orders l)
  orders_ready s first [] l all fits h = h
  orders_ready s first (Submit c ∷ orders) l all fits h =
      let refusal = submit_refusal c l.controller in
      orders_ready s first orders (link.submits refusal c l) all.1 fits.1
      (submits_ready s first refusal c l (λ e. record { no_poll = not_poll c l.controller e; fits = fits.0 }) h)
  orders_ready s first (QueueEvent e ∷ orders) l all fits h =
      let full = lacks_room e l.reader.queue in
      orders_ready s first orders (link.queues full e l) all.1 fits.1 (queues_ready s first full e l h)
  orders_ready s first (move ∷ orders) l all fits h = absurd all.0

  -- ---- from the opening on

  -- what is taken and told from the opening on
  abbrev MadeFrom : ℕ → List Command → List Event → ReaderConfig → H → List ℕ → Link H → Type 0
  MadeFrom n waiting events config handler moments l =
      Made n waiting events config handler (all_taken answer_of after (rounds moments) l) (reports answer_of after (rounds moments) l)

  -- the opening takes nothing, and tells who the device is
  opened_more : (opening : ℕ) (moments : List ℕ) (l : Link H) → went answer_of after opening l ≡ opened fixed answer_of after opening l
      → MadeOf (length moments) moments (goes answer_of after opening l)
      → MadeFrom (length moments) l.controller.waiting l.reader.queue.events l.reader.config l.reader.handler (opening ∷ moments) l
  opened_more opening moments l is rest =
      let m = goes answer_of after opening l in
      let n = length moments in
      let taken = all_taken answer_of after (rounds moments) m in
      let more = reports answer_of after (rounds moments) m in
      let made = subst (λ g. Made n g.next.controller.waiting (unreported g.next) g.next.reader.config g.next.reader.handler taken more) is rest in
      subst (λ g. Made n l.controller.waiting l.reader.queue.events l.reader.config l.reader.handler (g.taken ++ taken)
      (option_to_list g.first ++ (option_to_list g.told ++ more))) (sym is)
      (record { acted = made.acted; told = made.told })

  opens_and_goes : Given → fixed.poll_between_orders ≡ false → (until opening wait : ℕ) (moments : List ℕ) (s : Session) (first : ReaderState H) (l : Link H) → IsReadied s first l → s.config ≡ fixed → s.state ≡ Quiet until
      → first.config.address ≡ fixed.address → until ≤ opening → s.config.poll_interval ≤ wait → Each SetsNoAddress l.controller.waiting
      → AreSpaced answer_of after wait moments (run answer_of after (round opening) l) → MovesFit answer_of after (rounds (opening ∷ moments)) l
      → MadeFrom (length moments) l.controller.waiting l.reader.queue.events first.config first.handler (opening ∷ moments) l
      × (is_closed (run answer_of after (rounds (opening ∷ moments)) l).controller.session.state ≡ false)
  opens_and_goes given plain until opening wait moments s first l h same quiet here reached short none spaced fits =
      let w = l.controller.waiting in
      let events = l.reader.queue.events in
      let state : l.controller.session.state ≡ Quiet until = ap (λ (t : Session). t.state) h.session ∙ quiet in
      let config : l.controller.session.config ≡ fixed = ap (λ (t : Session). t.config) h.session ∙ same in
      let new = fresh fixed answer_of after l (record {
        controller = subst (λ st. Waits fixed st l.controller.session) (sym state) config;
        waiting = h.waiting;
        to_reader = h.line.0;
        to_controller = h.line.1;
      }) in
      let still : IsStill fixed answer_of after l = record {
        to_reader = h.line.0;
        to_controller = h.line.1;
        ready = record { here = ap (λ c. c.address) h.reader.set_so ∙ here; ready = h.reader.ready };
        stays = subst (λ st. Each SetsNoAddress (option_to_list (outstanding_command st) ++ w)) (sym state) none;
      } in
      let is = opening_exchange fixed answer_of after given until opening l still config state (omega (arith, reached)) fits.1.0 in
      let m = goes answer_of after opening l in
      let interval = s.config.poll_interval in
      let between : IsBetween interval m = record {
        holds = held_after fixed answer_of after given opening l fits.1.0 new;
        idle = subst (λ g. Idles g.next) (sym is) (record {
          idle = (later_by l.controller.session.config.poll_interval (seen opening (record (seen opening l.controller.session) { number = 0; asked = false })), refl);
          still = record {
            to_reader = refl;
            to_controller = refl;
            ready = record { here = still.ready.here; ready = still.ready.ready };
            stays = none;
          };
          known = (0, refl);
        });
        rests = subst (λ g. RestsFor g.next.controller.session) (sym is) refl;
        keeps = ap (λ g. g.next.controller.session.config.poll_interval) is ∙ ap (λ (t : Session). t.config.poll_interval) h.session;
      } in
      let made = rounds_make given plain wait interval short moments m between spaced fits.1.1.1 in
      let n = length moments in
      let all = opened_more opening moments l is made.1 in (
        subst (λ c. MadeFrom n w events c first.handler (opening ∷ moments) l) h.reader.set_so
            (subst (λ x. MadeFrom n w events l.reader.config x (opening ∷ moments) l) h.reader.answers_so all),
        lasts interval (run answer_of after (rounds moments) m) made.0,
      )

module _ {H : Type 0} (answer_of : H → Command → Answer) (after : H → Command → H) where
  pub goes_in_turn : ReadEachOther answer_of after → GoesInTurn answer_of after
  goes_in_turn peers l orders opening wait moments b are fits here ready reached short plain none spaced more =
      let s = l.controller.session in
      let before = run answer_of after orders l in
      let until = b.quiet.0 in
      let readied = orders_ready s.config answer_of after s l.reader orders l (each_of IsOrder orders are) fits (record {
        session = refl;
        waiting = each_of MaySubmit l.controller.waiting b.waiting;
        reader = record { set_so = refl; answers_so = refl; ready = ready };
        line = (b.to_reader, b.to_controller);
      }) in
      let due : until ≤ opening = subst (λ state. IfSome (moment_of state) (λ quiet. quiet ≤ opening)) b.quiet.1 reached in
      let w = before.controller.waiting in
      let all = opens_and_goes s.config answer_of after (assumed answer_of after peers s.config b.address) plain until opening wait moments s l.reader before readied
      refl b.quiet.1 here due short (each_of SetsNoAddress w none) spaced more in (
        in_turn s.config answer_of after l.reader.config l.reader.handler (length moments) w before.reader.queue.events
            (all_taken answer_of after (rounds (opening ∷ moments)) before) (reports answer_of after (rounds (opening ∷ moments)) before) all.0,
        all.1,
      )
