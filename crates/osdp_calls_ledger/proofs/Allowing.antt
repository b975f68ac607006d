-- Which steps a call shows: plain ones, and a withdrawal, a lapse or a restart its own.
use Rattle.osdp_calls_ledger.proofs.Common.{◌≡◌, ℕ, Bool, true, false, cond, List, [], ◌∷◌, Option, Some, None, sym, subst, inl, inr, eqb_tells, ◌==◌, Packet, Command, Event, Report, BusState, device_of, changed_unless, submit_refusal_at, withdrawal_at, bus_ticks, Entry, BusFault, told_in, items_of, in_doubt, lacks_room, never_offered, ReaderState, Answer, Card, Ledger, Open, Order, RestartDevice, RestartPanel, new_ledger, IsPlain, both, each_append, each_map, Each, after_steps, opens, queued_before, queues, submits, told, withdraws, lapses_event, withdraws_event, IsDone, are_plain, gets_done, opens_open, queued_plain, told_done, site_at, Call, NewDevice, NewPanel, Next, OfPanel, Step, SubmitEvent, LapseEvent, WithdrawEvent, after_call, asked_at, first_answered, read_up_to, heard, InUse, Station, answered, device_steps, given_back, opening, panel_restarts, panel_steps, reported, steps_along, steps_at, steps_from, steps_of}
use Rattle.std.specs.Prelude.{nat_lt}
use Rattle.osdp_bus_laws.specs.Calls as bus
use Rattle.osdp_ledger.specs.Ledger as ledger
use Rattle.osdp_link_ledger.specs.Steps.{card_at}

-- ---- what is reported, and what a device has done

pub reported_done : (k : ℕ) (all : List (ℕ × Report)) (g : Ledger) → Each IsDone (reported k all g)
reported_done k [] g = tt
reported_done k (said ∷ more) g =
    let here = cond (said.0 == k) (told (Some said.1) g) [] in
    each_append IsDone here (reported k more (after_steps here g)) (both (Each IsDone) (said.0 == k) (told (Some said.1) g) [] (told_done (Some said.1) g) tt)
    (reported_done k more (after_steps here g))

pub opening_open : (P : ledger.Step → Type 0) → P Open → (k : ℕ) (o : Option ℕ) (sent : Option Packet) (q : Option Entry) → Each P (opening k o sent q)
opening_open P is k None sent q = tt
opening_open P is k (Some i) sent None = tt
opening_open P is k (Some i) sent (Some d) =
    both (Each P) (i == k) (opens d.controller.session.state sent) [] (opens_open P is d.controller.session.state sent) tt

pub answered_done : {H : Type 0} (answer_of : H → Command → Answer) (after : H → Command → H) (o : Option Packet) (r : ReaderState H) (g : Ledger)
    → Each IsDone (answered answer_of after o r g)
answered_done answer_of after None r g = tt
answered_done answer_of after (Some p) r g = gets_done answer_of after p r g

-- ---- an event lapses, or is taken back where it was offered before the ledger began alone

pub lapses_each : (P : ledger.Step → Type 0) → ((card : Card) → P (ledger.Lapse card) × P (ledger.WithdrawEvent card)) → (o : Option Event) (g : Ledger)
    → Each P (lapses_event o g)
lapses_each P holds None g = tt
lapses_each P holds (Some event) g =
    let card = card_at g.cards event in
    let both_hold = holds card in
    (both P (nat_lt card.place g.shown) (ledger.Lapse card) (ledger.WithdrawEvent card) both_hold.0 both_hold.1, tt)

-- ---- steps of which something holds

module _ (P : ledger.Step → Type 0) where
  pub submits_each : ((order : Order) → P (ledger.Submit order)) → (f : Option BusFault) (c : Command) (g : Ledger)
      → Each P (changed_unless f [] (submits None c g))
  submits_each holds None c g = (holds _, tt)
  submits_each holds (Some fault) c g = tt

  pub withdraws_each : ((order : Order) → P (ledger.Withdraw order)) → (o : Option Command) (g : Ledger) → Each P (withdraws o g)
  withdraws_each holds None g = tt
  withdraws_each holds (Some c) g = (holds _, tt)

  pub queues_each : ((card : Card) → P (ledger.Queue card)) → (full : Bool) (e : Event) (g : Ledger) → Each P (queues full e g)
  queues_each holds true e g = tt
  queues_each holds false e g = (holds _, tt)

  pub withdraws_event_each : ((card : Card) → P (ledger.WithdrawEvent card)) → (o : Option Event) (ever : Bool) (g : Ledger)
      → Each P (withdraws_event o ever g)
  withdraws_event_each holds None ever g = tt
  withdraws_event_each holds (Some e) ever g = (holds _, tt)

  pub restarts_each : ((on_wire : Bool) → P (RestartPanel on_wire)) → (q : Option Entry) → Each P (panel_restarts q)
  restarts_each holds None = tt
  restarts_each holds (Some d) = (holds _, tt)

module _ (P : ledger.Step → Type 0) (plain : (step : ledger.Step) → IsPlain step → P step) (k : ℕ) where
  abbrev pub AllowsPanel : bus.Call → Type 0
  AllowsPanel (bus.Withdraw i) = i ≡ k → (order : Order) → P (ledger.Withdraw order)
  AllowsPanel _ = Unit {0}

  are : (steps : List ledger.Step) → Each IsPlain steps → Each P steps
  are steps each = each_map IsPlain P plain steps each

  done : (steps : List ledger.Step) → Each IsDone steps → Each P steps
  done steps each = are steps (are_plain steps each)

  -- steps of this entry alone
  if_own : (i : ℕ) (steps : List ledger.Step) → (i ≡ k → Each P steps) → Each P (cond (i == k) steps [])
  if_own i steps holds = elim (eqb_tells i k) [
    | inl equal ↦ subst (λ b. Each P (cond b steps [])) (sym equal.0) (holds equal.1)
    | inr differs ↦ subst (λ b. Each P (cond b steps [])) (sym differs.0) tt
  ]

  pub panel_holds : (call : bus.Call) (b : BusState) (g : Ledger) → AllowsPanel call → Each P (panel_steps k call b g)
  panel_holds (bus.Submit i command) b g allows =
      if_own i (changed_unless (submit_refusal_at i command b) [] (submits None command g)) (λ same. submits_each P (λ order. plain _ tt) (submit_refusal_at i command b) command g)
  panel_holds (bus.Withdraw i) b g allows =
      if_own i (withdraws (given_back (withdrawal_at i b)) g) (λ same. withdraws_each P (allows same) (given_back (withdrawal_at i b)) g)
  panel_holds (bus.Tick now) b g allows =
      let reports = reported k (told_in (bus.Tick now) b) g in
      let opens = opening k (asked_at now b) (bus_ticks now b).sent (device_of k (heard (bus.Tick now) now b)) in
      each_append P reports opens (done reports (reported_done k (told_in (bus.Tick now) b) g))
      (opening_open P (plain Open tt) k (asked_at now b) (bus_ticks now b).sent (device_of k (heard (bus.Tick now) now b)))
  panel_holds (bus.OnBytes bytes now) b g allows =
      done (reported k (told_in (bus.OnBytes bytes now) b) g) (reported_done k (told_in (bus.OnBytes bytes now) b) g)
  panel_holds (bus.OnSilence now) b g allows =
      done (reported k (told_in (bus.OnSilence now) b) g) (reported_done k (told_in (bus.OnSilence now) b) g)
  panel_holds _ b g allows = tt

  module _ {H : Type 0} (answer_of : H → Command → Answer) (after : H → Command → H) where
    -- this holds of each step that a call may show, and that isn't plain
    abbrev pub Allows : Call H → Type 0
    Allows (OfPanel call) = AllowsPanel call
    Allows (WithdrawEvent i) = i ≡ k → (card : Card) → P (ledger.WithdrawEvent card)
    Allows (LapseEvent i) = i ≡ k → (card : Card) → P (ledger.Lapse card) × P (ledger.WithdrawEvent card)
    Allows (NewDevice i config handler room gap) = i ≡ k → P RestartDevice
    Allows (NewPanel config addresses) = (on_wire : Bool) → P (RestartPanel on_wire)
    Allows _ = Unit {0}

    -- what a device of this entry shows
    at_holds : (i : ℕ) (call : Call H) → ((t : Station H) (g : Ledger) → i ≡ k → Each P (device_steps answer_of after call t g)) → (o : Option (Station H)) (g : Ledger)
        → Each P (cond (i == k) (steps_at answer_of after call o g) [])
    at_holds i call holds None g = if_own i [] (λ same. tt)
    at_holds i call holds (Some t) g = if_own i (device_steps answer_of after call t g) (holds t g)

    pub call_holds : (call : Call H) (l : InUse H) (g : Ledger) → Allows call → Each P (steps_of answer_of after k call l g)
    call_holds (OfPanel call) l g allows = panel_holds call l.bus g allows
    call_holds (NewPanel config xs) l g allows = restarts_each P allows (device_of k l.bus)
    call_holds (SubmitEvent i event) l g allows =
        at_holds i (SubmitEvent i event) (λ t g same. queues_each P (λ card. plain _ tt) (lacks_room event t.reader.queue) event g) (site_at k l.stations) g
    call_holds (WithdrawEvent i) l g allows =
        at_holds i (WithdrawEvent i) (λ t g same. withdraws_event_each P (allows same) (never_offered t.reader.queue) t.reader.queue.ever_offered g) (site_at k l.stations) g
    call_holds (LapseEvent i) l g allows =
        at_holds i (LapseEvent i) (λ t g same. lapses_each P (allows same) (in_doubt t.reader.queue) g) (site_at k l.stations) g
    call_holds (Next i) l g allows =
        at_holds i (Next i) (λ t g same. let o = first_answered t.reader (read_up_to t.reader (items_of t.line.held)) in
        done (answered answer_of after o t.reader g) (answered_done answer_of after o t.reader g)) (site_at k l.stations) g
    call_holds (NewDevice i config handler room gap) l g allows =
        at_holds i (NewDevice i config handler room gap) (λ t g same. (allows same, tt)) (site_at k l.stations) g
    call_holds call l g allows = at_holds _ call (λ t g same. tt) (site_at k l.stations) g

    along_holds : (steps : List (Step H)) (l : InUse H) (g : Ledger) → Each (λ (step : Step H). Allows step.call) steps
        → Each P (steps_along answer_of after k steps l g)
    along_holds [] l g allow = tt
    along_holds (step ∷ steps) l g allow =
        let now = steps_of answer_of after k step.call l g in
        let next = after_call answer_of after step.call step.places l in
        each_append P now (steps_along answer_of after k steps next (after_steps now g)) (call_holds step.call l g allow.0)
        (along_holds steps next (after_steps now g) allow.1)

    -- .. from the set-up on
    pub all_hold : (first : Station H) (steps : List (Step H)) (l : InUse H) → Each (λ (step : Step H). Allows step.call) steps
        → Each P (steps_from answer_of after k first steps l)
    all_hold first steps l allow =
        let before = queued_before 0 first.reader.queue.events in
        each_append P before (steps_along answer_of after k steps l (after_steps before new_ledger)) (are before (queued_plain 0 first.reader.queue.events))
        (along_holds steps l (after_steps before new_ledger) allow)
