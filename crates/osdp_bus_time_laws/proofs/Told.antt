-- What is told is taken in time, and a device that falls silent is told lost in time.
use Rattle.osdp_bus_time_laws.proofs.Common.{◌≡◌, ◌∙◌, ap, sym, subst, inl, inr, ℕ, ◌+◌, ◌≤◌, ◌||◌, Bool, true, false, List, [], ◌∷◌, Option, Some, None, refl, arith, ◌⊎◌, is_some, nat_eq, not, eqb-true, eqb-false, Lost, State, Idle, is_outstanding, is_closed, is_idle, Entry, BusState, device_of, has_report, acts, holds, Call, Tick, after_call, IsOutstandingAt, Begins, has_one_exchange, stands_after, DoneBy, KeepsTime, ends_duty, IsIdle, IsLost, OpenAreAsked, ReportsAreTaken, TakenBy, ToldBy, BeginsBy, EndsBy, KeepsTurns, NoneBegins, others_of}
use Rattle.osdp_bus_laws.proofs.Reserving.{keeps_reports}
use Rattle.osdp_bus_time_laws.proofs.Devices.{Well, well_call}
use Rattle.osdp_bus_time_laws.proofs.Moments.{grows, within_limit}
use Rattle.osdp_bus_time_laws.proofs.Ordered.{rest_due}
use Rattle.osdp_bus_time_laws.proofs.Places.{one_device}
use Rattle.osdp_bus_time_laws.proofs.Turning.{decide, ends_later, has_its_turn}

-- ---- an open entry

idle_lives : (state : State) → is_idle state ≡ true → (is_closed state ≡ false) × (is_outstanding state ≡ false)
idle_lives (Idle due) idle = (refl, refl)
idle_lives _ idle = cc

interval_first : (g interval late others : ℕ) → (g + interval) + late + others ≡ g + (interval + late + others)
interval_first g interval late others = omega arith

pub open_are_asked : (b : BusState) → Well b → OpenAreAsked b
open_are_asked b well late time n entry calls idle keeps =
    let d = idle.device in
    let parts = idle_lives d.controller.session.state idle.idle in
    let due = rest_due b.config.poll_interval b.greatest b d (well.devices entry d idle.there) idle.idle (omega arith) (omega arith) in
    subst (λ (limit : ℕ). BeginsBy limit entry calls b) (interval_first b.greatest b.config.poll_interval late (others_of time late n entry))
    (has_its_turn late time n entry (b.greatest + b.config.poll_interval) 0 calls b well keeps.in_time keeps.turns keeps.few (inl refl) (omega arith)
    (d, idle.there, (parts.0, parts.1, omega arith, inl due))
    (λ k out. ends_later (b.greatest + time k) (b.greatest + b.config.poll_interval + time k) calls b (omega arith) (keeps.outstanding k out)))

-- ---- what waits is taken

no_duty : (call : Call) (b : BusState) → has_report b ≡ true → ends_duty call b ≡ false
no_duty (Tick now) b told = ap not told
no_duty _ b told = refl

due_report : (b : BusState) (other : Bool) → has_report b ≡ true → (has_report b || other) ≡ true
due_report b other told = ap (λ t. t || other) told

done_now : (late : ℕ) (call : Call) (calls : List Call) (b : BusState) → KeepsTime late (call ∷ calls) b → has_report b ≡ true → DoneBy (b.greatest + late) (call ∷ calls) b
done_now late call calls b in_time told =
    in_time.0 b.greatest (record { not_before = omega arith; not_after = grows call b; due = due_report b (acts b.greatest b) told })

some_report : {X : Type 0} (o : Option X) → is_some o ≡ true → (x : X) × (o ≡ Some x)
some_report None h = cc
some_report (Some x) h = (x, refl)

taken : (limit : ℕ) (calls : List Call) (b : BusState) → Well b → has_report b ≡ true → b.greatest ≤ limit → DoneBy limit calls b → TakenBy limit calls b
taken limit [] b well told near done = tt
taken limit (call ∷ calls) b well told near done =
    let next = within_limit limit call b near done.0 in (
      next,
      λ other.
          let waiting = some_report b.devices.report told in
          let still = keeps_reports b well.sound call waiting.0 waiting.1 other in
          taken limit calls (after_call call b) (well_call call b well) (ap (λ o. is_some o) still) next (done.1 (no_duty call b told)),
    )

taken_from : (late : ℕ) (calls : List Call) (b : BusState) → Well b → has_report b ≡ true → KeepsTime late calls b → TakenBy (b.greatest + late) calls b
taken_from late [] b well told in_time = tt
taken_from late (call ∷ calls) b well told in_time =
    taken (b.greatest + late) (call ∷ calls) b well told (omega arith) (done_now late call calls b in_time told)

pub reports_are_taken : (b : BusState) → Well b → ReportsAreTaken b
reports_are_taken b well late calls told in_time = taken_from late calls b well told in_time

-- ---- a device that says nothing

pub standing : (entry : ℕ) (b : BusState) → (IsOutstandingAt entry b) ⊎ (IsOutstandingAt entry b → ⊥)
standing entry b = by_device (device_of entry b) refl
  where
    by_holds : (d : Entry) → device_of entry b ≡ Some d → (t : Bool) → holds d ≡ t → (IsOutstandingAt entry b) ⊎ (IsOutstandingAt entry b → ⊥)
    by_holds d there true stands = inl (record { device = d; there = there; outstanding = stands })
    by_holds d there false free =
        inr (λ other. let one = one_device (device_of entry b) other.device d other.there there in let stands = ap holds (sym one) ∙ other.outstanding in cc)

    by_device : (o : Option Entry) → device_of entry b ≡ o → (IsOutstandingAt entry b) ⊎ (IsOutstandingAt entry b → ⊥)
    by_device None none = inr (λ other. let both : Some other.device ≡ None = sym other.there ∙ none in cc)
    by_device (Some d) there = by_holds d there (holds d) refl

-- while the exchange of an entry is outstanding none begins, and where it ends it is told lost
abbrev pub NeverAnswers : ℕ → List Call → BusState → Type 0
NeverAnswers entry [] b = Unit {0}
NeverAnswers entry (call ∷ calls) b =
    (IsOutstandingAt entry b → NoneBegins call b × ((IsOutstandingAt entry (after_call call b) → ⊥) → IsLost entry (after_call call b)))
    × NeverAnswers entry calls (after_call call b)

-- each exchange that the entry begins ends so long after its first frame at the most
abbrev pub OwnTakes : ℕ → ℕ → List Call → BusState → Type 0
OwnTakes own entry [] b = Unit {0}
OwnTakes own entry (call ∷ calls) b =
    (Begins call entry b → EndsBy ((after_call call b).greatest + own) calls (after_call call b)) × OwnTakes own entry calls (after_call call b)

module _ (late own entry limit : ℕ) where
  -- it is told lost
  lost_told : (until : ℕ) (calls : List Call) (b : BusState) → Well b → until ≤ limit → IsLost entry b → TakenBy until calls b → ToldBy limit entry calls b
  lost_told until [] b well near lost taken_by = tt
  lost_told until (call ∷ calls) b well near lost taken_by = (
    (let next : (after_call call b).greatest ≤ until = taken_by.0 in omega arith),
    λ other.
        let not = other lost in
        let still = keeps_reports b well.sound call (entry, Lost lost.cause lost.command) lost.report not in
        lost_told until calls (after_call call b) (well_call call b well) near (record { cause = lost.cause; command = lost.command; report = still }) (taken_by.1 not),
  )

  lost_from : (calls : List Call) (b : BusState) → Well b → IsLost entry b → KeepsTime late calls b → b.greatest + late ≤ limit → ToldBy limit entry calls b
  lost_from calls b well lost in_time near =
      lost_told (b.greatest + late) calls b well near lost (taken_from late calls b well (ap (λ o. is_some o) lost.report) in_time)

  -- its exchange is outstanding
  out_by : (e : ℕ) (call : Call) (calls : List Call) (b : BusState) → Well b → e + late ≤ limit → (after_call call b).greatest ≤ e
      → EndsBy e calls (after_call call b) → KeepsTime late calls (after_call call b)
      → ((IsOutstandingAt entry (after_call call b) → ⊥) → IsLost entry (after_call call b))
      → (IsOutstandingAt entry (after_call call b) → ToldBy limit entry calls (after_call call b))
      → (IsOutstandingAt entry (after_call call b)) ⊎ (IsOutstandingAt entry (after_call call b) → ⊥) → ToldBy limit entry calls (after_call call b)
  out_by e call calls b well near soon ends in_time lost on (inr free) =
      lost_from calls (after_call call b) (well_call call b well) (lost free) in_time (omega arith)
  out_by e call calls b well near soon ends in_time lost on (inl out) = on out

  out_told : (e : ℕ) (calls : List Call) (b : BusState) → Well b → e + late ≤ limit → IsOutstandingAt entry b → EndsBy e calls b → KeepsTime late calls b
      → NeverAnswers entry calls b → ToldBy limit entry calls b
  out_told e [] b well near out ends in_time never = tt
  out_told e (call ∷ calls) b well near out ends in_time never =
      let now = ends entry out in
      let soon : (after_call call b).greatest ≤ e = now.0 in
      let silent = never.0 out in (
        omega arith,
        λ other.
            out_by e call calls b well near soon (now.1 silent.0) in_time.1 silent.1
            (λ out_then. out_told e calls (after_call call b) (well_call call b well) near out_then (now.1 silent.0) in_time.1 never.1)
            (standing entry (after_call call b)),
      )

  -- its next exchange begins
  open_by : (m : ℕ) (call : Call) (calls : List Call) (b : BusState) → Well b → m + own + late ≤ limit → (after_call call b).greatest ≤ m
      → ((Begins call entry b → ⊥) → ToldBy limit entry calls (after_call call b)) → KeepsTime late calls (after_call call b)
      → (Begins call entry b → EndsBy ((after_call call b).greatest + own) calls (after_call call b)) → NeverAnswers entry calls (after_call call b)
      → ((k : ℕ) × Begins call k b) ⊎ NoneBegins call b → ToldBy limit entry calls (after_call call b)
  open_by m call calls b well near soon on in_time takes never (inr none) = on (none entry)
  open_by m call calls b well near soon on in_time takes never (inl (k, begun)) = by_same (nat_eq k entry) refl
    where
      by_same : (t : Bool) → nat_eq k entry ≡ t → ToldBy limit entry calls (after_call call b)
      by_same true same =
          let mine : Begins call entry b = subst (λ m. Begins call m b) (eqb-true k entry same) begun in
          out_told ((after_call call b).greatest + own) calls (after_call call b) (well_call call b well) (omega arith) (stands_after call entry b mine) (takes mine) in_time never
      by_same false other =
          on (λ mine.
          let one = (has_one_exchange (after_call call b) (well_call call b well).sound).one k entry (stands_after call k b begun) (stands_after call entry b mine) in
          eqb-false k entry other one)

  open_told : (m : ℕ) (calls : List Call) (b : BusState) → Well b → m + own + late ≤ limit → BeginsBy m entry calls b → KeepsTime late calls b
      → OwnTakes own entry calls b → NeverAnswers entry calls b → ToldBy limit entry calls b
  open_told m [] b well near begins in_time takes never = tt
  open_told m (call ∷ calls) b well near begins in_time takes never =
      let soon : (after_call call b).greatest ≤ m = begins.0 in (
        omega arith,
        λ other.
            open_by m call calls b well near soon
            (λ not. open_told m calls (after_call call b) (well_call call b well) near (begins.1 not) in_time.1 takes.1 never.1)
            in_time.1 takes.0 never.1 (decide call b),
      )

last_fits : (g first own late : ℕ) → (g + first) + own + late ≤ g + (first + (own + late))
last_fits g first own late = omega arith

-- an idle entry that never answers, whose own exchange takes so long
pub never_told : (late own : ℕ) (time : ℕ → ℕ) (n entry : ℕ) (calls : List Call) (b : BusState) → Well b → IsIdle entry b → KeepsTurns late time n calls b
    → OwnTakes own entry calls b → NeverAnswers entry calls b
    → ToldBy (b.greatest + (b.config.poll_interval + late + others_of time late n entry + (own + late))) entry calls b
never_told late own time n entry calls b well idle keeps takes never =
    let first = b.config.poll_interval + late + others_of time late n entry in
    open_told late own entry (b.greatest + (first + (own + late))) (b.greatest + first) calls b well (last_fits b.greatest first own late)
    (open_are_asked b well late time n entry calls idle keeps) keeps.in_time takes never
