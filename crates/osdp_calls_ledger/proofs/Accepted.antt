-- The steps of a call accept what the call does: no command and no event is forgotten, and none is made up.
use Rattle.osdp_calls_ledger.proofs.Common.{◌≡◌, ℕ, ◌+◌, Bool, true, false, cond, List, [], ◌∷◌, ◌++◌, Option, Some, None, refl, sym, ap, ◌∙◌, inl, inr, append_assoc, append-nil, eqb_tells, map-append, ◌==◌, Packet, Command, Event, Report, BusState, device_of, changed_unless, submit_refusal_at, withdrawal_at, bus_ticks, Entry, BusFault, told_in, items_of, in_doubt, lacks_room, never_offered, ReaderState, Answer, Card, Ledger, Order, new_ledger, History, new_history, runs, steps_on, unless_full, both, each_append, each_map, Each, after_steps, queues, submits, withdraws, site_at, Call, NewDevice, NewPanel, Next, OfPanel, Step, SubmitEvent, LapseEvent, WithdrawEvent, after_call, asked_at, first_answered, read_up_to, is_of_device, heard, InUse, Station, IsDone, answered, device_steps, given_back, opening, panel_steps, reported, steps_along, steps_at, steps_from, steps_of}
use Rattle.osdp_bus_laws.specs.Calls as bus
use Rattle.osdp_ledger.specs.Ledger as ledger
use Rattle.osdp_link_ledger.specs.Steps as links
use Rattle.osdp_link_ledger.proofs.Lists.{commands, events}
use Rattle.osdp_calls.specs.Accepted.{accepted_by, accepted_by_panel, all_accepted, all_queued, queued_at, queued_by}
use Rattle.osdp_calls_ledger.proofs.Allowing.{answered_done, lapses_each, opening_open, reported_done, restarts_each, withdraws_each, withdraws_event_each}

-- ---- what steps accept

abbrev pub commands_in : List ledger.Step → List Command
commands_in [] = []
commands_in (ledger.Submit order ∷ steps) = order.command ∷ commands_in steps
commands_in (_ ∷ steps) = commands_in steps

abbrev pub events_in : List ledger.Step → List Event
events_in [] = []
events_in (ledger.Queue card ∷ steps) = card.event ∷ events_in steps
events_in (_ ∷ steps) = events_in steps

pub commands_more : (xs ys : List ledger.Step) → commands_in (xs ++ ys) ≡ commands_in xs ++ commands_in ys
commands_more [] ys = refl
commands_more (ledger.Submit order ∷ xs) ys = ap (λ cs. order.command ∷ cs) (commands_more xs ys)
commands_more (_ ∷ xs) ys = commands_more xs ys

pub events_more : (xs ys : List ledger.Step) → events_in (xs ++ ys) ≡ events_in xs ++ events_in ys
events_more [] ys = refl
events_more (ledger.Queue card ∷ xs) ys = ap (λ es. card.event ∷ es) (events_more xs ys)
events_more (_ ∷ xs) ys = events_more xs ys

pub runs_accepted : (steps : List ledger.Step) (h : History) → commands (runs steps h).accepted ≡ commands h.accepted ++ commands_in steps
runs_accepted [] h = sym (append-nil (commands h.accepted))
runs_accepted (ledger.Submit order ∷ steps) h =
    runs_accepted steps (steps_on (ledger.Submit order) h)
    ∙ ap (λ cs. cs ++ commands_in steps) (map-append (λ (o : Order). o.command) h.accepted (order ∷ []))
    ∙ append_assoc (commands h.accepted) (order.command ∷ []) (commands_in steps)
runs_accepted (step ∷ steps) h = runs_accepted steps (steps_on step h)

pub runs_queued : (steps : List ledger.Step) (h : History) → events (runs steps h).queued ≡ events h.queued ++ events_in steps
runs_queued [] h = sym (append-nil (events h.queued))
runs_queued (ledger.Queue card ∷ steps) h =
    runs_queued steps (steps_on (ledger.Queue card) h)
    ∙ ap (λ es. es ++ events_in steps) (map-append (λ (c : Card). c.event) h.queued (card ∷ []))
    ∙ append_assoc (events h.queued) (card.event ∷ []) (events_in steps)
runs_queued (step ∷ steps) h = runs_queued steps (steps_on step h)

-- ---- steps that accept nothing

abbrev pub AcceptsNone : ledger.Step → Type 0
AcceptsNone (ledger.Submit order) = ⊥
AcceptsNone (ledger.Queue card) = ⊥
AcceptsNone _ = Unit {0}

no_commands : (steps : List ledger.Step) → Each AcceptsNone steps → commands_in steps ≡ []
no_commands [] none = refl
no_commands (ledger.Submit order ∷ steps) none = absurd none.0
no_commands (_ ∷ steps) none = no_commands steps none.1

no_events : (steps : List ledger.Step) → Each AcceptsNone steps → events_in steps ≡ []
no_events [] none = refl
no_events (ledger.Queue card ∷ steps) none = absurd none.0
no_events (_ ∷ steps) none = no_events steps none.1

done_accepts : (step : ledger.Step) → IsDone step → AcceptsNone step
done_accepts (ledger.Submit order) done = absurd done
done_accepts (ledger.Queue card) done = absurd done
done_accepts _ done = tt

reported_none : (k : ℕ) (all : List (ℕ × Report)) (g : Ledger) → Each AcceptsNone (reported k all g)
reported_none k all g = each_map IsDone AcceptsNone done_accepts (reported k all g) (reported_done k all g)

opening_none : (k : ℕ) (o : Option ℕ) (sent : Option Packet) (q : Option Entry) → Each AcceptsNone (opening k o sent q)
opening_none k o sent q = opening_open AcceptsNone tt k o sent q

-- ---- what the panel's calls accept

-- no order
abbrev IsNoSubmit : bus.Call → Type 0
IsNoSubmit (bus.Submit i command) = ⊥
IsNoSubmit _ = Unit {0}

panel_none : (k : ℕ) (call : bus.Call) (b : BusState) (g : Ledger) → IsNoSubmit call → Each AcceptsNone (panel_steps k call b g)
panel_none k (bus.Submit i command) b g other = absurd other
panel_none k (bus.Withdraw i) b g other =
    both (Each AcceptsNone) (i == k) (withdraws (given_back (withdrawal_at i b)) g) [] (withdraws_each AcceptsNone (λ order. tt) (given_back (withdrawal_at i b)) g) tt
panel_none k (bus.Tick now) b g other =
    let sends = opening k (asked_at now b) (bus_ticks now b).sent (device_of k (heard (bus.Tick now) now b)) in
    each_append AcceptsNone (reported k (told_in (bus.Tick now) b) g) sends (reported_none k (told_in (bus.Tick now) b) g)
    (opening_none k (asked_at now b) (bus_ticks now b).sent (device_of k (heard (bus.Tick now) now b)))
panel_none k call b g other = reported_none k (told_in call b) g

panel_commands : (k : ℕ) (call : bus.Call) (b : BusState) (g : Ledger) → commands_in (panel_steps k call b g) ≡ accepted_by_panel k call b
panel_commands k (bus.Submit i command) b g = by_test (i == k) (submit_refusal_at i command b)
  where
    by_test : (x : Bool) (f : Option BusFault)
        → commands_in (cond x (changed_unless f [] (submits None command g)) []) ≡ cond x (changed_unless f [] (command ∷ [])) []
    by_test false f = refl
    by_test true None = refl
    by_test true (Some fault) = refl
panel_commands k call b g = no_commands (panel_steps k call b g) (panel_none k call b g tt)

panel_events : (k : ℕ) (call : bus.Call) (b : BusState) (g : Ledger) → events_in (panel_steps k call b g) ≡ []
panel_events k (bus.Submit i command) b g = by_test (i == k) (submit_refusal_at i command b)
  where
    by_test : (x : Bool) (f : Option BusFault) → events_in (cond x (changed_unless f [] (submits None command g)) []) ≡ []
    by_test false f = refl
    by_test true None = refl
    by_test true (Some fault) = refl
panel_events k call b g = no_events (panel_steps k call b g) (panel_none k call b g tt)

module _ {H : Type 0} (answer_of : H → Command → Answer) (after : H → Command → H) where
  gets_accept : (o : Option Packet) (r : ReaderState H) (g : Ledger) → Each AcceptsNone (answered answer_of after o r g)
  gets_accept o r g = each_map IsDone AcceptsNone done_accepts (answered answer_of after o r g) (answered_done answer_of after o r g)

  -- ---- .. and those of its devices

  queues_events : (full : Bool) (event : Event) (g : Ledger) → events_in (queues full event g) ≡ unless_full full event
  queues_events true event g = refl
  queues_events false event g = refl

  queues_commands : (full : Bool) (event : Event) (g : Ledger) → commands_in (queues full event g) ≡ []
  queues_commands true event g = refl
  queues_commands false event g = refl

  queues_at : (i : ℕ) (event : Event) (b : Bool) (o : Option (Station H)) (g : Ledger) → commands_in (cond b (steps_at answer_of after (SubmitEvent i event) o g) []) ≡ []
  queues_at i event false o g = refl
  queues_at i event true None g = refl
  queues_at i event true (Some t) g = queues_commands (lacks_room event t.reader.queue) event g

  queue_at : (i : ℕ) (event : Event) (o : Option (Station H)) (g : Ledger) → events_in (steps_at answer_of after (SubmitEvent i event) o g) ≡ queued_at o event
  queue_at i event None g = refl
  queue_at i event (Some t) g = queues_events (lacks_room event t.reader.queue) event g

  -- neither an order nor an event
  abbrev IsNeither : Call H → Type 0
  IsNeither (OfPanel call) = ⊥
  IsNeither (SubmitEvent i event) = ⊥
  IsNeither _ = Unit {0}

  device_none : (call : Call H) (t : Station H) (g : Ledger) → IsNeither call → Each AcceptsNone (device_steps answer_of after call t g)
  device_none (OfPanel call) t g other = absurd other
  device_none (SubmitEvent i event) t g other = absurd other
  device_none (WithdrawEvent i) t g other = withdraws_event_each AcceptsNone (λ card. tt) (never_offered t.reader.queue) t.reader.queue.ever_offered g
  device_none (LapseEvent i) t g other = lapses_each AcceptsNone (λ card. (tt, tt)) (in_doubt t.reader.queue) g
  device_none (Next i) t g other = gets_accept (first_answered t.reader (read_up_to t.reader (items_of t.line.held))) t.reader g
  device_none (NewDevice i config handler room gap) t g other = (tt, tt)
  device_none _ t g other = tt

  at_none : (call : Call H) (b : Bool) (o : Option (Station H)) (g : Ledger) → IsNeither call → Each AcceptsNone (cond b (steps_at answer_of after call o g) [])
  at_none call false o g other = tt
  at_none call true None g other = tt
  at_none call true (Some t) g other = device_none call t g other

  call_none : (k : ℕ) (call : Call H) (l : InUse H) (g : Ledger) → IsNeither call → Each AcceptsNone (steps_of answer_of after k call l g)
  call_none k (OfPanel call) l g other = absurd other
  call_none k (NewPanel config xs) l g other = restarts_each AcceptsNone (λ on_wire. tt) (device_of k l.bus)
  call_none k call l g other = at_none call (is_of_device k call) (site_at k l.stations) g other

  pub call_commands : (k : ℕ) (call : Call H) (l : InUse H) (g : Ledger) → commands_in (steps_of answer_of after k call l g) ≡ accepted_by k call l
  call_commands k (OfPanel call) l g = panel_commands k call l.bus g
  call_commands k (SubmitEvent i event) l g = queues_at i event (i == k) (site_at k l.stations) g
  call_commands k call l g = no_commands (steps_of answer_of after k call l g) (call_none k call l g tt)

  pub call_events : (k : ℕ) (call : Call H) (l : InUse H) (g : Ledger) → events_in (steps_of answer_of after k call l g) ≡ queued_by k call l
  call_events k (OfPanel call) l g = panel_events k call l.bus g
  call_events k (SubmitEvent i event) l g = elim (eqb_tells i k) [
    | inl equal ↦
        ap (λ b. events_in (cond b (steps_at answer_of after (SubmitEvent i event) (site_at k l.stations) g) [])) equal.0
        ∙ queue_at i event (site_at k l.stations) g
        ∙ ap (λ j. queued_at (site_at j l.stations) event) (sym equal.1)
        ∙ sym (ap (λ b. cond b (queued_at (site_at i l.stations) event) []) equal.0)
    | inr differs ↦
        ap (λ b. events_in (cond b (steps_at answer_of after (SubmitEvent i event) (site_at k l.stations) g) [])) differs.0
        ∙ sym (ap (λ b. cond b (queued_at (site_at i l.stations) event) []) differs.0)
  ]
  call_events k call l g = no_events (steps_of answer_of after k call l g) (call_none k call l g tt)

  -- ---- lists of calls

  pub along_commands : (k : ℕ) (steps : List (Step H)) (l : InUse H) (g : Ledger)
      → commands_in (steps_along answer_of after k steps l g) ≡ all_accepted answer_of after k steps l
  along_commands k [] l g = refl
  along_commands k (step ∷ steps) l g =
      let now = steps_of answer_of after k step.call l g in
      let next = after_call answer_of after step.call step.places l in
      commands_more now (steps_along answer_of after k steps next (after_steps now g))
      ∙ (λ i. call_commands k step.call l g i ++ along_commands k steps next (after_steps now g) i)

  pub along_events : (k : ℕ) (steps : List (Step H)) (l : InUse H) (g : Ledger)
      → events_in (steps_along answer_of after k steps l g) ≡ all_queued answer_of after k steps l
  along_events k [] l g = refl
  along_events k (step ∷ steps) l g =
      let now = steps_of answer_of after k step.call l g in
      let next = after_call answer_of after step.call step.places l in
      events_more now (steps_along answer_of after k steps next (after_steps now g))
      ∙ (λ i. call_events k step.call l g i ++ along_events k steps next (after_steps now g) i)

pub before_commands : (place : ℕ) (es : List Event) → commands_in (links.queued_before place es) ≡ []
before_commands place [] = refl
before_commands place (e ∷ es) = before_commands (place + 1) es

pub before_events : (place : ℕ) (es : List Event) → events_in (links.queued_before place es) ≡ es
before_events place [] = refl
before_events place (e ∷ es) = ap (λ xs. e ∷ xs) (before_events (place + 1) es)

module _ {H : Type 0} (answer_of : H → Command → Answer) (after : H → Command → H) where
  -- from the beginning
  pub all_commands : (k : ℕ) (first : Station H) (steps : List (Step H)) (l : InUse H)
      → commands (runs (steps_from answer_of after k first steps l) new_history).accepted ≡ all_accepted answer_of after k steps l
  all_commands k first steps l =
      let before = links.queued_before 0 first.reader.queue.events in
      let rest = steps_along answer_of after k steps l (after_steps before new_ledger) in
      runs_accepted (before ++ rest) new_history
      ∙ commands_more before rest
      ∙ (λ i. before_commands 0 first.reader.queue.events i ++ along_commands answer_of after k steps l (after_steps before new_ledger) i)

  pub all_events : (k : ℕ) (first : Station H) (steps : List (Step H)) (l : InUse H)
      → events (runs (steps_from answer_of after k first steps l) new_history).queued ≡ first.reader.queue.events ++ all_queued answer_of after k steps l
  all_events k first steps l =
      let before = links.queued_before 0 first.reader.queue.events in
      let rest = steps_along answer_of after k steps l (after_steps before new_ledger) in
      runs_queued (before ++ rest) new_history
      ∙ events_more before rest
      ∙ (λ i. before_events 0 first.reader.queue.events i ++ along_events answer_of after k steps l (after_steps before new_ledger) i)
