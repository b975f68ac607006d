-- An entry that is due from a moment on has its turn: a turn of each other entry later at the most.
use Rattle.osdp_bus_time_laws.proofs.Common.{◌≡◌, ◌∙◌, ap, sym, subst, inl, inr, ℕ, zero, suc, ◌+◌, ◌≤◌, ◌<◌, ◌||◌, Bool, true, false, max, List, [], ◌∷◌, ◌++◌, length, Option, Some, None, refl, arith, ◌⊎◌, ◌≢◌, if◌then◌else◌, drop, is_some, nat_eq, nat_lt, not, slice_get, eqb-true, eqb-false, ltb-true, ltb-false, length-append, items, Packet, Command, Session, Heard, is_poll_next, is_outstanding, seen_by, is_closed, is_idle, CallOf, TicksBy, is_tick, Due, due_kept, due_seen, until_of, due_idle, Entry, BusState, Devices, device_of, has_report, holder, is_silent, seen, waiting_after, acts, entry_hears, holds, is_entry_due, told_of, ends_run, hears_items, hears_with, entry_submits, entry_withdraws, bus_ticks, next_due, Call, Begin, OnBytes, OnSilence, Tick, after_call, IsOutstandingAt, Begins, IsBefore, IsDueEntry, IsFree, asking, judged, has_exchange, items_keep, moments_are_seen, heard_holds, heard_told, IsAt, is_false, replaced, IsNobody, nobody, either_way, stays_silent, due_is_next, none_is_due, takes_turns, DoneBy, IsOwed, KeepsTime, ends_duty, BeginsBy, EndsBy, HasFew, NoneBegins, TurnsTake, others_of}
use Rattle.std.specs.Prelude.{Ok}
use Rattle.osdp_controller.specs.Held.{on_its_way}
use Rattle.osdp_controller.specs.declared.report.Report.{Report}
use Rattle.osdp_bus.specs.Machine.{withdrawal_at, withdrawal_of, withdrawn_of}
use Rattle.osdp_bus_laws.specs.Calls.{Withdraw}
use Rattle.osdp_bus_time_laws.specs.Laws.{TakesNoneBack}
use Rattle.osdp_controller_laws.proofs.Stepwise.{frames_in_steps}
use Rattle.osdp_bus_laws.proofs.Fairness.{Quiet, Who, quiet_asking, quiet_judged, stands_after, turn_after, who}
use Rattle.osdp_bus_time_laws.proofs.Devices.{Well, well_call}
use Rattle.osdp_bus_time_laws.proofs.Moments.{acts_free, as_tick, by_tick, done_ticks, grows}
use Rattle.osdp_bus_time_laws.proofs.Outstanding.{due_then, endless, endless_ended, moments}
use Rattle.osdp_bus_time_laws.proofs.Places.{AtPlace, Outcome, asking_place, call_place, one_device, tick_place}
use Rattle.osdp_bus_time_laws.proofs.Sums.{ahead_of, all_ahead, one_nearer, others_have}

-- ---- whether an exchange begins in a call

same_moment : (now at : ℕ) → Tick now ≡ Tick at → now ≡ at
same_moment now at same = cc

module _ (now : ℕ) (b : BusState) where
  never : (IsFree now b → (k : ℕ) → IsDueEntry k (asking now b) → ⊥) → NoneBegins (Tick now) b
  never unless k begun =
      let same = same_moment now begun.now begun.tick in
      unless (subst (λ (n : ℕ). IsFree n b) (sym same) begun.free) k (subst (λ (n : ℕ). IsDueEntry k (asking n b)) (sym same) begun.next.due)

  decided_next : has_report b ≡ false → holder (judged now b) ≡ None → has_report (asking now b) ≡ false → (o : Option ℕ) → next_due (asking now b) ≡ o
      → ((k : ℕ) × Begins (Tick now) k b) ⊎ NoneBegins (Tick now) b
  decided_next none free left None is = inr (never (λ all k due. none_is_due (asking now b) is k due))
  decided_next none free left (Some k) is = inl (
    k,
    record { now = now; tick = refl; free = record { before = none; nobody = free; after = left }; next = due_is_next k (asking now b) is },
  )

  decided_left : has_report b ≡ false → holder (judged now b) ≡ None → (t : Bool) → has_report (asking now b) ≡ t
      → ((k : ℕ) × Begins (Tick now) k b) ⊎ NoneBegins (Tick now) b
  decided_left none free true told = inr (never (λ all k due. let untold = all.after in cc))
  decided_left none free false left = decided_next none free left (next_due (asking now b)) refl

  decided_held : has_report b ≡ false → (o : Option ℕ) → holder (judged now b) ≡ o → ((k : ℕ) × Begins (Tick now) k b) ⊎ NoneBegins (Tick now) b
  decided_held none None free = decided_left none free (has_report (asking now b)) refl
  decided_held none (Some m) held = inr (never (λ all k due. let free = all.nobody in let both : Some m ≡ None = sym held ∙ free in cc))

  decided_tick : (t : Bool) → has_report b ≡ t → ((k : ℕ) × Begins (Tick now) k b) ⊎ NoneBegins (Tick now) b
  decided_tick true told = inr (never (λ all k due. let untold = all.before in cc))
  decided_tick false none = decided_held none (holder (judged now b)) refl

no_tick : (call : Call) (b : BusState) → ((now : ℕ) → call ≡ Tick now → ⊥) → NoneBegins call b
no_tick call b other k begun = other begun.now begun.tick

pub decide : (call : Call) (b : BusState) → ((k : ℕ) × Begins call k b) ⊎ NoneBegins call b
decide (Tick now) b = decided_tick now b (has_report b) refl
decide (Begin at now) b = inr (no_tick (Begin at now) b (λ at is. cc))
decide (OnBytes bytes now) b = inr (no_tick (OnBytes bytes now) b (λ at is. cc))
decide (OnSilence now) b = inr (no_tick (OnSilence now) b (λ at is. cc))
decide call b = inr (no_tick call b (λ now is. cc))

quiet_by : (call : Call) (b : BusState) → NoneBegins call b → Who call b → Quiet b (after_call call b)
quiet_by call b none (inl (k, begun)) = absurd (none k begun)
quiet_by call b none (inr quiet) = quiet

pub quiet_call : (call : Call) (b : BusState) → Well b → NoneBegins call b → Quiet b (after_call call b)
quiet_call call b well none = quiet_by call b none (who call b well.first)

-- who holds the line after such a call held it before
pub held_before : (call : Call) (b : BusState) → Well b → NoneBegins call b → (k : ℕ) → IsOutstandingAt k (after_call call b) → IsOutstandingAt k b
held_before call b well none k out =
    let before = (quiet_call call b well none).1 k out.device out.there out.outstanding in
    record { device = before.0; there = before.1; outstanding = before.2 }

-- ---- a line that nobody holds tells nothing

abbrev Nothing : Devices → Type 0
Nothing ds = IsNobody ds × (is_some ds.report ≡ false)

none_told : (o : Option Report) → is_some o ≡ false → o ≡ None
none_told None h = refl
none_told (Some report) h = cc

nobody_put : (now : ℕ) (p : Packet) (i : ℕ) (d : Entry) (ds : Devices) → slice_get ds.entries i ≡ Some d → IsNobody ds → (j : ℕ) (f : Entry) → holds f ≡ true
    → IsAt ds.entries i (entry_hears p now d) j f → ⊥
nobody_put now p i d ds at free j f stands (inl (here, same)) = free i d at (heard_holds p now d (sym (ap holds same) ∙ stands))
nobody_put now p i d ds at free j f stands (inr (other, was)) = free j f was stands

nothing_packet : (now : ℕ) (p : Packet) (i : ℕ) (d : Entry) (ds : Devices) → slice_get ds.entries i ≡ Some d → Nothing ds
    → Nothing (hears_with p now i (Some d) ds)
nothing_packet now p i d ds at nothing =
    let silent = none_told (told_of p now d) (is_false (is_some (told_of p now d)) (λ told. nothing.0 i d at (heard_told p now d told).0)) in (
      λ j f there stands. nobody_put now p i d ds at nothing.0 j f stands (replaced ds.entries i (entry_hears p now d) j f there),
      ap (λ t. is_some (waiting_after i t ds.report)) silent ∙ nothing.1,
    )

pub nothing_items : (now : ℕ) (ended : Bool) (held : List ℕ) (ds : Devices) → Nothing ds → Nothing (hears_items now (items ended held) ds)
nothing_items now ended held ds nothing = items_keep now Nothing (nothing_packet now) (items ended held) ds nothing

-- where nobody holds the line and no report waits, a tick begins an exchange of an entry that is due
is_free : (now : ℕ) (b : BusState) → Well b → has_report b ≡ false → holder b ≡ None → IsFree now b
is_free now b well none free =
    let j = judged now b in
    let still : IsNobody j.devices = λ k f at stands. (let before = (quiet_judged now b).1 k f at stands in nobody b free k before.0 before.1 before.2) in
    let quiet : is_some j.devices.report ≡ false = silent_nothing now b well none free in
    record { before = none; nobody = unheld j still (holder j) refl; after = (nothing_items j.greatest true j.held j.devices (still, quiet)).1 }
  where
    unheld : (b : BusState) → IsNobody b.devices → (o : Option ℕ) → holder b ≡ o → holder b ≡ None
    unheld b still None is = is
    unheld b still (Some k) is = absurd (let out = has_exchange k b is in still k out.device out.there out.outstanding)

    silent_nothing : (now : ℕ) (b : BusState) → Well b → has_report b ≡ false → holder b ≡ None → is_some (judged now b).devices.report ≡ false
    silent_nothing now b well none free =
        either_way (λ (c : BusState). is_some c.devices.report ≡ false) (is_silent (seen now b)) (ends_run (seen now b)) (seen now b)
        (λ h. (nothing_items (seen now b).greatest true b.held b.devices (nobody b free, none)).1) (λ h. none)

-- ---- an entry that is ready: due from a moment on, or at once where a command waits and no POLL has to come first; so many wait at the least

-- a command that waits is asked at once, where no POLL has to come first
abbrev pub AsksAtOnce : ℕ → Session → Type 0
AsksAtOnce least s = (is_idle s.state ≡ true) × (is_poll_next s ≡ false) × (1 ≤ least)

abbrev pub IsReady : ℕ → ℕ → Session → ℕ → Type 0
IsReady from least s wait =
    (is_closed s.state ≡ false) × (is_outstanding s.state ≡ false) × (least ≤ wait) × ((until_of s.state ≤ from) ⊎ AsksAtOnce least s)

abbrev pub Ready : ℕ → ℕ → Entry → Type 0
Ready from least d = IsReady from least d.controller.session (length d.controller.waiting)

due_by : (from least at : ℕ) (d : Entry) → from ≤ at → is_closed d.controller.session.state ≡ false → least ≤ length d.controller.waiting
    → ((until_of d.controller.session.state ≤ from) ⊎ AsksAtOnce least d.controller.session) → is_entry_due at d ≡ true
due_by from least at d near lives some (inl before) = due_then d at lives (omega arith)
due_by from least at d near lives some (inr (idle, may, one)) =
    due_idle d.controller.session.state (seen_by at d.controller.session) d.controller.waiting idle may (omega arith)

pub ready_due : (from least at : ℕ) (d : Entry) → from ≤ at → Ready from least d → is_entry_due at d ≡ true
ready_due from least at d near ready = due_by from least at d near ready.0 ready.2 ready.3

more_waits : (from least wait next : ℕ) (s : Session) → wait ≤ next → IsReady from least s wait → IsReady from least s next
more_waits from least wait next s more ready = (ready.0, ready.1, (let some : least ≤ wait = ready.2 in omega arith), ready.3)

pub ready_heard : (from least g : ℕ) (p : Packet) (d : Entry) → Ready from least d → Ready from least (entry_hears p g d)
ready_heard from least g p d ready =
    let ignored = (frames_in_steps p g d.controller.session).not_outstanding ready.1 in
    subst (λ (h : Heard). IsReady from least h.session (length d.controller.waiting)) (sym ignored) ready

ready_submitted : (from least : ℕ) (command : Command) (d : Entry) → Ready from least d → Ready from least (entry_submits command d)
ready_submitted from least command d ready =
    more_waits from least (length d.controller.waiting) (length (d.controller.waiting ++ command ∷ [])) d.controller.session
    (let both = length-append d.controller.waiting (command ∷ []) in omega arith) ready

-- where the call takes a command of the entry back, so many wait still
abbrev pub Stays : ℕ → ℕ → Call → BusState → Type 0
Stays least own call b = (d : Entry) → device_of own b ≡ Some d → call ≡ Withdraw own → least ≤ length d.controller.waiting
    → least ≤ length (entry_withdraws d).controller.waiting

-- no command of the entry has to wait, or none is taken back by any of the calls
abbrev pub AllStay : ℕ → ℕ → List Call → BusState → Type 0
AllStay least own calls b = (least ≡ 0) ⊎ TakesNoneBack own calls b

kept_so : (o : Option Command) (ws : List Command) → (if is_some o then None else slice_get ws 0) ≡ None → (if is_some o then ws else drop 1 ws) ≡ ws
kept_so (Some c) ws none = refl
kept_so None [] none = refl
kept_so None (w ∷ ws) none = absurd cc

pub stays_now : (least own : ℕ) (call : Call) (calls : List Call) (b : BusState) → AllStay least own (call ∷ calls) b → Stays least own call b
stays_now least own call calls b (inl none) = λ d there is some. omega (arith, none)
stays_now least own call calls b (inr all) = λ d there is some.
    let here : withdrawal_at own b ≡ Ok (withdrawn_of d) = ap (λ (o : Option Entry). withdrawal_of o) there in
    let out : withdrawn_of d ≡ None = (let both : Ok (withdrawn_of d) ≡ Ok None = sym here ∙ all.0 is in cc) in
    subst (λ (w : List Command). least ≤ length w) (sym (kept_so (on_its_way d.controller.session.state) d.controller.waiting out)) some

pub stay_then : (least own : ℕ) (call : Call) (calls : List Call) (b : BusState) → AllStay least own (call ∷ calls) b → AllStay least own calls (after_call call b)
stay_then least own call calls b (inl none) = inl none
stay_then least own call calls b (inr all) = inr all.1

pub still_waiting : (least own : ℕ) (call : Call) (b : BusState) → Stays least own call b → (at : ℕ) → call ≡ Withdraw at → own ≡ at → (d : Entry) → device_of at b ≡ Some d
    → least ≤ length d.controller.waiting → least ≤ length (entry_withdraws d).controller.waiting
still_waiting least own call b stay at is same d there some =
    stay d (ap (λ (n : ℕ). device_of n b) same ∙ there) (is ∙ sym (ap (λ (n : ℕ). Withdraw n) same)) some

ready_withdrawn : (from least own : ℕ) (call : Call) (b : BusState) → Stays least own call b → (at : ℕ) → call ≡ Withdraw at → own ≡ at → (d : Entry)
    → device_of at b ≡ Some d → Ready from least d → Ready from least (entry_withdraws d)
ready_withdrawn from least own call b stay at is same d there ready = (ready.0, ready.1, still_waiting least own call b stay at is same d there ready.2, ready.3)

-- it stays so until it begins
module _ (from least own : ℕ) (call : Call) (b : BusState) (well : Well b) (place : AtPlace own (Ready from least) b.devices) (stay : Stays least own call b)
    (not : Begins call own b → ⊥) where
  abbrev g_then : ℕ
  g_then = (after_call call b).greatest

  stays_other : ends_duty call b ≡ false → AtPlace own (Ready from least) (after_call call b).devices
  stays_other other =
      call_place g_then (Ready from least) (ready_heard from least g_then) own (ready_submitted from least) call b (ready_withdrawn from least own call b stay) other refl
      (λ f here. let one = one_device (device_of own b) place.0 f place.1 here in
      subst (λ (k : Entry). is_closed k.controller.session.state ≡ false) one place.2.0)
      place

  stays_outcome : (now : ℕ) → call ≡ Tick now → Outcome g_then (Ready from least) (ready_heard from least g_then) own now b (bus_ticks now b)
      → AtPlace own (Ready from least) (bus_ticks now b).bus.devices
  stays_outcome now is (inl (k, begun, others)) = by_same (nat_eq k own) refl
    where
      by_same : (t : Bool) → nat_eq k own ≡ t → AtPlace own (Ready from least) (bus_ticks now b).bus.devices
      by_same true same =
          absurd (not (subst (λ c. Begins c own b) (sym is) (subst (λ n. Begins (Tick now) n b) (eqb-true k own same) begun)))
      by_same false other = others (eqb-false k own other)
  stays_outcome now is (inr (inl (f, at, (ready, never)))) = (f, at, ready)
  stays_outcome now is (inr (inr (f, ready, stands, due, at))) = absurd (let none = ready.1 in cc)

  stays_tick : (now : ℕ) → call ≡ Tick now → has_report b ≡ false → AtPlace own (Ready from least) (after_call call b).devices
  stays_tick now is none =
      subst (λ c. AtPlace own (Ready from least) (after_call c b).devices) (sym is)
      (stays_outcome now is
      (tick_place g_then (Ready from least) (ready_heard from least g_then) own now b well.sound none
      (sym ((moments_are_seen b).brought (Tick now) now refl) ∙ ap (λ t. (after_call t b).greatest) (sym is)) place))

pub tick_of : (call : Call) (b : BusState) → ends_duty call b ≡ true → (now : ℕ) × (call ≡ Tick now) × (has_report b ≡ false)
tick_of (Tick now) b ends = (now, refl, untold (has_report b) ends)
  where
    untold : (t : Bool) → not t ≡ true → t ≡ false
    untold true h = cc
    untold false h = refl
tick_of _ b ends = cc

pub stays_ready : (from least own : ℕ) (call : Call) (b : BusState) → Well b → AtPlace own (Ready from least) b.devices → Stays least own call b
    → (Begins call own b → ⊥) → AtPlace own (Ready from least) (after_call call b).devices
stays_ready from least own call b well place stay not = by_duty (ends_duty call b) refl
  where
    by_duty : (t : Bool) → ends_duty call b ≡ t → AtPlace own (Ready from least) (after_call call b).devices
    by_duty false other = stays_other from least own call b well place stay not other
    by_duty true ends = let tick = tick_of call b ends in stays_tick from least own call b well place stay not tick.0 tick.1 tick.2

-- ---- an exchange that begins by a moment, as long as so many wait

abbrev pub BeginsWhile : ℕ → ℕ → ℕ → List Call → BusState → Type 0
BeginsWhile least limit own [] b = Unit {0}
BeginsWhile least limit own (call ∷ calls) b =
    ((after_call call b).greatest ≤ limit) × ((Begins call own b → ⊥) → Stays least own call b → BeginsWhile least limit own calls (after_call call b))

pub begins_always : (least limit own : ℕ) (calls : List Call) (b : BusState) → AllStay least own calls b → BeginsWhile least limit own calls b → BeginsBy limit own calls b
begins_always least limit own [] b stay begins = tt
begins_always least limit own (call ∷ calls) b stay begins = (
  begins.0,
  λ not.
      begins_always least limit own calls (after_call call b) (stay_then least own call calls b stay) (begins.1 not (stays_now least own call calls b stay)),
)

pub begins_then_while : (least limit own : ℕ) (calls : List Call) (b : BusState) → BeginsBy limit own calls b → BeginsWhile least limit own calls b
begins_then_while least limit own [] b begins = tt
begins_then_while least limit own (call ∷ calls) b begins =
    (begins.0, λ not stay. begins_then_while least limit own calls (after_call call b) (begins.1 not))

-- ---- an exchange that ends by a moment ends by a later one

pub ends_later : (limit more : ℕ) (calls : List Call) (b : BusState) → limit ≤ more → EndsBy limit calls b → EndsBy more calls b
ends_later limit more [] b less ends = tt
ends_later limit more (call ∷ calls) b less ends = λ entry out.
    let now = ends entry out in
    ((let near : (after_call call b).greatest ≤ limit = now.0 in omega arith), λ none. ends_later limit more calls (after_call call b) less (now.1 none))

pub within_few : (n : ℕ) (calls : List Call) (b : BusState) → HasFew n calls b → length b.devices.entries ≤ n
within_few n [] b few = few
within_few n (call ∷ calls) b few = few.0

pub at_length : (ds : List Entry) (i : ℕ) (d : Entry) → slice_get ds i ≡ Some d → i < length ds
at_length [] i d at = absurd cc
at_length (x ∷ ds) zero d at = omega arith
at_length (x ∷ ds) (suc i) d at = let next = at_length ds i d at in omega arith

pub is_there : (n entry : ℕ) (d : Entry) (calls : List Call) (b : BusState) → HasFew n calls b → device_of entry b ≡ Some d → entry < n
is_there n entry d calls b few at =
    let most = within_few n calls b few in let within = at_length b.devices.entries entry d at in omega arith

-- ---- its turn

module _ (late : ℕ) (time : ℕ → ℕ) (n own from least : ℕ) where
  abbrev pub last : ℕ
  last = from + late + others_of time late n own

  abbrev ahead : ℕ → ℕ
  ahead first = ahead_of time late n own first

  -- who holds the line holds it up to this moment; where nobody does, a tick comes by then and so late, once the entry is due
  pub record Stage (calls : List Call) (b : BusState) : Type 0 where
    pub by_end : ℕ
    pub after : from ≤ by_end
    pub fits : by_end + late + ahead_of time late n own b.first ≤ from + late + others_of time late n own
    pub held : (entry : ℕ) → IsOutstandingAt entry b → EndsBy by_end calls b
    pub free : holder b ≡ None → Due late by_end from b.greatest (moments calls b)

  near_last : (e a g : ℕ) → g ≤ e + late → e + late + a ≤ last → g ≤ last
  near_last e a g near fits = omega arith

  -- an exchange of another begins
  begun_fits : (g e k first : ℕ) → own < n → k < n → k ≢ own → from ≤ e → e + late + ahead first ≤ last → g ≤ e + late
      → (from ≤ g → IsBefore first k own) → max from (g + time k) + late + ahead (k + 1) ≤ last
  begun_fits g e k first there within other after fits near before = by_side (nat_lt g from) refl
    where
      by_side : (t : Bool) → nat_lt g from ≡ t → max from (g + time k) + late + ahead (k + 1) ≤ last
      by_side true is =
          let sooner : g < from = ltb-true g from is in
          let most = all_ahead time late n own (k + 1) there in
          let mine = others_have time late n own k there within other in
          omega arith
      by_side false is =
          let later : from ≤ g = ltb-false g from is in
          let nearer = one_nearer time late n own first k there within (before later) in
          let most = all_ahead time late n own (k + 1) there in
          omega arith

  module _ (call : Call) (calls : List Call) (b : BusState) (well : Well b) (owed : (at : ℕ) → IsOwed at call b → DoneBy (at + late) (call ∷ calls) b)
      (few : HasFew n (call ∷ calls) b) (place : AtPlace own (Ready from least) b.devices) (stage : Stage (call ∷ calls) b) where
    abbrev g : ℕ
    g = (after_call call b).greatest

    abbrev x : CallOf
    x = as_tick (ends_duty call b) g

    owed_free : holder b ≡ None → (at : ℕ) → b.greatest ≤ at → at ≤ g → from ≤ at → TicksBy (at + late) (x ∷ moments calls (after_call call b))
    owed_free free at not_before not_after reached =
        done_ticks endless endless_ended (at + late) (call ∷ calls) b (omega arith)
        (owed at (record { not_before = not_before; not_after = not_after; due = by_report (has_report b) refl }))
      where
        by_report : (t : Bool) → has_report b ≡ t → (has_report b || acts at b) ≡ true
        by_report true told = ap (λ t. t || acts at b) told
        by_report false none =
            ap (λ t. t || acts at b) none
            ∙ acts_free b own place.0 at none free place.1 (ready_due from least (max b.greatest at) place.0 (omega arith) place.2)

    due_free : (free : holder b ≡ None) → Due late stage.by_end from g (x ∷ moments calls (after_call call b))
    due_free free =
        due_seen late stage.by_end from b.greatest g x (moments calls (after_call call b)) (grows call b) (λ limit within by. by_tick (ends_duty call b) g limit by)
        (owed_free free) (stage.free free)

    near_by : (o : Option ℕ) → holder b ≡ o → g ≤ stage.by_end + late
    near_by None free = (due_free free).0
    near_by (Some m) held = let near : g ≤ stage.by_end = (stage.held m (has_exchange m b held) m (has_exchange m b held)).0 in omega arith

    near_then : g ≤ stage.by_end + late
    near_then = near_by (holder b) refl

    pub near_turn : g ≤ last
    near_turn = near_last stage.by_end (ahead b.first) g near_then stage.fits

    -- another entry begins
    sooner : (k : ℕ) → k ≢ own → (begun : Begins call k b) → from ≤ g → IsBefore b.first k own
    sooner k other begun later =
        let moment : g ≡ max b.greatest begun.now =
        ap (λ t. (after_call t b).greatest) begun.tick ∙ (moments_are_seen b).brought (Tick begun.now) begun.now refl in
        let asked = asking_place (max b.greatest begun.now) (Ready from least) (ready_heard from least (max b.greatest begun.now)) own begun.now b refl place in
        let at : (asking begun.now b).greatest ≡ max b.greatest begun.now = (stays_silent (seen begun.now b)).greatest in
        let due = ready_due from least (asking begun.now b).greatest asked.0 (omega arith) asked.2 in
        subst (λ (m : ℕ). IsBefore m k own) (quiet_asking begun.now b).0
        (begun.next.first own (record { device = asked.0; there = asked.1; due = due }) (λ same. other (sym same)))

    stage_begun : (k : ℕ) → (Begins call own b → ⊥) → (begun : Begins call k b) → EndsBy (g + time k) calls (after_call call b) → HasFew n calls (after_call call b)
        → Stage calls (after_call call b)
    stage_begun k not begun ends few_then =
        let out = stands_after call k b begun in
        let other : k ≢ own = λ same. not (subst (λ m. Begins call m b) same begun) in
        let within = is_there n k out.device calls (after_call call b) few_then out.there in
        let there = is_there n own place.0 (call ∷ calls) b few place.1 in
        record {
          by_end = max from (g + time k);
          after = omega arith;
          fits = subst (λ (m : ℕ). max from (g + time k) + late + ahead m ≤ last) (sym (turn_after call k b begun))
              (begun_fits g stage.by_end k b.first there within other stage.after stage.fits near_then (sooner k other begun));
          held = λ entry held. ends_later (g + time k) (max from (g + time k)) calls (after_call call b) (omega arith) ends;
          free = λ free. absurd (nobody (after_call call b) free k out.device out.there out.outstanding);
        }

    -- no exchange begins
    module _ (none : NoneBegins call b) where
      quiet : Quiet b (after_call call b)
      quiet = quiet_call call b well none

      still_free : holder b ≡ None → IsNobody (after_call call b).devices
      still_free free k f at stands = let before = quiet.1 k f at stands in nobody b free k before.0 before.1 before.2

      -- a tick of a free line that begins none comes before the entry is due
      before_due : (now : ℕ) → call ≡ Tick now → has_report b ≡ false → holder b ≡ None → from ≤ g → ⊥
      before_due now is untold free later =
          let moment : g ≡ max b.greatest now = ap (λ t. (after_call t b).greatest) is ∙ (moments_are_seen b).brought (Tick now) now refl in
          let asked = asking_place (max b.greatest now) (Ready from least) (ready_heard from least (max b.greatest now)) own now b refl place in
          let at : (asking now b).greatest ≡ max b.greatest now = (stays_silent (seen now b)).greatest in
          let due = ready_due from least (asking now b).greatest asked.0 (omega arith) asked.2 in
          let next = (takes_turns b).some now own (record { device = asked.0; there = asked.1; due = due }) in
          none next.0 (record { now = now; tick = is; free = is_free now b well untold free; next = next.1 })

      free_then : holder b ≡ None → (t : Bool) → ends_duty call b ≡ t → Due late stage.by_end from g (moments calls (after_call call b))
      free_then free false other =
          due_kept late stage.by_end from g x (moments calls (after_call call b)) (ap (λ t. is_tick (as_tick t g)) other) (due_free free)
      free_then free true ends = by_side (nat_lt g from) refl
        where
          by_side : (t : Bool) → nat_lt g from ≡ t → Due late stage.by_end from g (moments calls (after_call call b))
          by_side true is =
              let less : g < from = ltb-true g from is in
              let after : from ≤ stage.by_end = stage.after in
              (omega arith, inl (after, omega arith))
          by_side false is = absurd (let tick = tick_of call b ends in before_due tick.0 tick.1 tick.2 free (ltb-false g from is))

      stage_by : (o : Option ℕ) → holder b ≡ o → Stage calls (after_call call b)
      stage_by None free = record {
        by_end = stage.by_end;
        after = stage.after;
        fits = subst (λ (m : ℕ). stage.by_end + late + ahead m ≤ last) (sym quiet.0) stage.fits;
        held = λ entry out. absurd (still_free free entry out.device out.there out.outstanding);
        free = λ free_still. free_then free (ends_duty call b) refl;
      }
      stage_by (Some m) held =
          let out = has_exchange m b held in
          let ends = stage.held m out m out in
          let near : g ≤ stage.by_end = ends.0 in
          let after : from ≤ stage.by_end = stage.after in
          record {
            by_end = stage.by_end;
            after = stage.after;
            fits = subst (λ (m : ℕ). stage.by_end + late + ahead m ≤ last) (sym quiet.0) stage.fits;
            held = λ entry out. ends.1 none;
            free = λ free. (omega arith, inl (after, near));
          }

      stage_still : Stage calls (after_call call b)
      stage_still = stage_by (holder b) refl

    stage_decided : ((k : ℕ) → Begins call k b → EndsBy (g + time k) calls (after_call call b)) → HasFew n calls (after_call call b) → (Begins call own b → ⊥)
        → ((k : ℕ) × Begins call k b) ⊎ NoneBegins call b → Stage calls (after_call call b)
    stage_decided turns few_then not (inl (k, begun)) = stage_begun k not begun (turns k begun) few_then
    stage_decided turns few_then not (inr none) = stage_still none

  begins_while : (calls : List Call) (b : BusState) → Well b → KeepsTime late calls b → TurnsTake time calls b → HasFew n calls b
      → AtPlace own (Ready from least) b.devices → Stage calls b → BeginsWhile least last own calls b
  begins_while [] b well in_time turns few place stage = tt
  begins_while (call ∷ calls) b well in_time turns few place stage = (
    near_turn call calls b well in_time.0 few place stage,
    λ not stay.
        begins_while calls (after_call call b) (well_call call b well) in_time.1 turns.1 few.1 (stays_ready from least own call b well place stay not)
        (stage_decided call calls b well in_time.0 few place stage turns.0 few.1 not (decide call b)),
  )

  -- from the first moment on
  stage_from : (calls : List Call) (b : BusState) → Well b → HasFew n calls b → b.greatest ≤ from → AtPlace own (Ready from least) b.devices
      → ((k : ℕ) → IsOutstandingAt k b → EndsBy (from + time k) calls b) → (o : Option ℕ) → holder b ≡ o → Stage calls b
  stage_from calls b well few before place ends None free =
      let there = is_there n own place.0 calls b few place.1 in
      let most = all_ahead time late n own b.first there in
      record {
        by_end = from;
        after = omega arith;
        fits = omega arith;
        held = λ entry out. absurd (nobody b free entry out.device out.there out.outstanding);
        free = λ same. (omega arith, inl (omega arith, before));
      }
  stage_from calls b well few before place ends (Some m) held =
      let out = has_exchange m b held in
      let there = is_there n own place.0 calls b few place.1 in
      let within = is_there n m out.device calls b few out.there in
      let other : m ≢ own = λ same.
      (let one = one_device (device_of own b) out.device place.0 (ap (λ k. device_of k b) (sym same) ∙ out.there) place.1 in
      let stands : holds place.0 ≡ true = ap holds (sym one) ∙ out.outstanding in
      let none = place.2.1 in
      cc) in
      let first : b.first ≡ m + 1 = well.first m out.device out.there out.outstanding in
      let mine = others_have time late n own m there within other in
      let same : ahead b.first ≡ ahead (m + 1) = ap ahead first in
      record {
        by_end = from + time m;
        after = omega arith;
        fits = omega arith;
        held = λ entry holding. ends m out;
        free = λ free. absurd (nobody b free m out.device out.there out.outstanding);
      }

  pub has_its_turn_while : (calls : List Call) (b : BusState) → Well b → KeepsTime late calls b → TurnsTake time calls b → HasFew n calls b → b.greatest ≤ from
      → AtPlace own (Ready from least) b.devices → ((k : ℕ) → IsOutstandingAt k b → EndsBy (from + time k) calls b) → BeginsWhile least last own calls b
  has_its_turn_while calls b well in_time turns few before place ends =
      begins_while calls b well in_time turns few place (stage_from calls b well few before place ends (holder b) refl)

  pub has_its_turn : (calls : List Call) (b : BusState) → Well b → KeepsTime late calls b → TurnsTake time calls b → HasFew n calls b → AllStay least own calls b → b.greatest ≤ from
      → AtPlace own (Ready from least) b.devices → ((k : ℕ) → IsOutstandingAt k b → EndsBy (from + time k) calls b) → BeginsBy last own calls b
  has_its_turn calls b well in_time turns few stay before place ends =
      begins_always least last own calls b stay (has_its_turn_while calls b well in_time turns few before place ends)
