-- The exchanges of an entry, one after the other: an order has its turn after those before it, and a POLL where no command waits.
use Rattle.osdp_bus_time_laws.proofs.Common.{◌≡◌, ◌∙◌, ap, sym, subst, inl, inr, ℕ, zero, suc, ◌+◌, ◌*◌, ◌≤◌, Bool, true, false, max, List, [], ◌∷◌, length, Option, Some, None, refl, arith, ◌⊎◌, if◌then◌else◌, drop, nat_eq, slice_set, option_map_or, suc-mul, eqb-true, eqb-false, length-append, Command, ControllerConfig, Session, State, Idle, Waiting, Pausing, is_outstanding, is_closed, is_idle, is_poll_next, ticks, takes_front, in_a_row, WaitsItsTime, is_under_way, until_of, at_rest, lives, next_product, BusConfig, Entry, BusState, device_of, has_report, entry_ticks, holds, after_submit_at, changed_unless, entry_submits, entry_withdraws, submit_refusal_at, BusTicked, bus_ticks, ticks_with, Call, Submit, Tick, after_call, IsOutstandingAt, Begins, asking, has_one_exchange, begun_ticked, stands_after, moments_are_seen, set_here, KeepsTime, ends_duty, ExchangesComeRound, GoesOutBy, IsUnderWay, OrdersGoOut, BeginsBy, EndsBy, HasFew, KeepsTurns, NoneBegins, TurnsTake, others_of, turns_of}
use Rattle.osdp_bus_time_laws.proofs.Devices.{Kept, Well, same_config, well_call}
use Rattle.osdp_bus_time_laws.proofs.Places.{AtPlace, Outcome, asking_place, call_place, one_device, tick_place}
use Rattle.osdp_bus_time_laws.proofs.Sums.{all_turns}
use Rattle.osdp_bus_time_laws.proofs.Turning.{AllStay, Ready, Stays, decide, ends_later, has_its_turn, held_before, is_there, stay_then, stays_now, still_waiting, tick_of}

-- ---- how many commands wait

abbrev Waits : ℕ → Entry → Type 0
Waits least d = least ≤ length d.controller.waiting

waits_submitted : (least : ℕ) (command : Command) (d : Entry) → Waits least d → Waits least (entry_submits command d)
waits_submitted least command d some = let both = length-append d.controller.waiting (command ∷ []) in omega arith

pub not_idle : (state : State) → is_outstanding state ≡ true → is_idle state ≡ false
not_idle (Waiting until sends o) out = refl
not_idle (Pausing until o) out = refl
not_idle _ out = cc

-- an exchange that goes on takes none
waits_ticked : (least g : ℕ) (d : Entry) → holds d ≡ true → Waits least d → Waits least (entry_ticks g d)
waits_ticked least g d stands some =
    let stay = (takes_front g d.controller.session d.controller.waiting).stay (not_idle d.controller.session.state stands) in
    subst (λ (w : List Command). least ≤ length w) (sym stay) some

module _ (least own : ℕ) (call : Call) (b : BusState) (well : Well b) (stands : (d : Entry) → device_of own b ≡ Some d → is_closed d.controller.session.state ≡ false)
    (place : AtPlace own (Waits least) b.devices) (stay : Stays least own call b) (not : Begins call own b → ⊥) where
  abbrev g_then : ℕ
  g_then = (after_call call b).greatest

  wait_outcome : (now : ℕ) → call ≡ Tick now → Outcome g_then (Waits least) (λ p d some. some) own now b (bus_ticks now b)
      → AtPlace own (Waits least) (bus_ticks now b).bus.devices
  wait_outcome now is (inl (k, begun, others)) = by_same (nat_eq k own) refl
    where
      by_same : (t : Bool) → nat_eq k own ≡ t → AtPlace own (Waits least) (bus_ticks now b).bus.devices
      by_same true same =
          absurd (not (subst (λ c. Begins c own b) (sym is) (subst (λ n. Begins (Tick now) n b) (eqb-true k own same) begun)))
      by_same false other = others (eqb-false k own other)
  wait_outcome now is (inr (inl (f, at, (some, never)))) = (f, at, some)
  wait_outcome now is (inr (inr (f, some, so, due, at))) = (entry_ticks g_then f, at, waits_ticked least g_then f so some)

  wait_tick : (now : ℕ) → call ≡ Tick now → has_report b ≡ false → AtPlace own (Waits least) (after_call call b).devices
  wait_tick now is none =
      subst (λ c. AtPlace own (Waits least) (after_call c b).devices) (sym is)
      (wait_outcome now is
      (tick_place g_then (Waits least) (λ p d some. some) own now b well.sound none
      (sym ((moments_are_seen b).brought (Tick now) now refl) ∙ ap (λ t. (after_call t b).greatest) (sym is)) place))

  wait_by : (t : Bool) → ends_duty call b ≡ t → AtPlace own (Waits least) (after_call call b).devices
  wait_by false other =
      call_place g_then (Waits least) (λ p d some. some) own (waits_submitted least) call b (still_waiting least own call b stay) other refl stands place
  wait_by true ends = let tick = tick_of call b ends in wait_tick tick.0 tick.1 tick.2

  still_wait : AtPlace own (Waits least) (after_call call b).devices
  still_wait = wait_by (ends_duty call b) refl

-- an exchange that begins takes one at the most
ticks_take : (least now : ℕ) (s : Session) (w : List Command) → least + 1 ≤ length w → least ≤ length (ticks now s w).waiting
ticks_take least now s w some = by_idle (is_idle s.state) refl w some
  where
    by_idle : (t : Bool) → is_idle s.state ≡ t → (w : List Command) → least + 1 ≤ length w → least ≤ length (ticks now s w).waiting
    by_idle false other w some =
        subst (λ (l : List Command). least ≤ length l) (sym ((takes_front now s w).stay other)) (omega arith)
    by_idle true idle [] some = absurd (omega arith)
    by_idle true idle (command ∷ rest) some =
        by_next (is_poll_next s) refl
      where
        by_next : (t : Bool) → is_poll_next s ≡ t → least ≤ length (ticks now s (command ∷ rest)).waiting
        by_next false may =
            subst (λ (l : List Command). least ≤ length l) (sym ((takes_front now s (command ∷ rest)).front command rest idle may refl).1) (omega arith)
        by_next true next = subst (λ (l : List Command). least ≤ length l) (sym ((takes_front now s (command ∷ rest)).first idle next).1) (omega arith)

begun_waits : (least own : ℕ) (call : Call) (b : BusState) → AtPlace own (Waits (least + 1)) b.devices → Begins call own b
    → AtPlace own (Waits least) (after_call call b).devices
begun_waits least own call b place begun =
    let r = asking begun.now b in
    let d = begun.next.due.device in
    let asked = asking_place (max b.greatest begun.now) (Waits (least + 1)) (λ p d some. some) own begun.now b refl place in
    let one = one_device (device_of own r) asked.0 d asked.1 begun.next.due.there in
    let some : least + 1 ≤ length d.controller.waiting = subst (Waits (least + 1)) one asked.2 in
    let after : after_call call b ≡ (ticks_with own (Some d) r).bus =
    ap (λ t. after_call t b) begun.tick ∙ ap (λ (t : BusTicked). t.bus) (begun_ticked begun.now own b begun.free begun.next) in (
      entry_ticks r.greatest d,
      ap (device_of own) after ∙ set_here r.devices.entries own d (entry_ticks r.greatest d) begun.next.due.there,
      ticks_take least r.greatest d.controller.session d.controller.waiting some,
    )

-- ---- from one call to the next

-- arithmetic on moments alone
begun_fits : (g time late others turns wait more limit bound : ℕ) → others + (time + late) ≡ turns → g ≤ bound → bound + (more + (wait + turns)) ≤ limit
    → ((g + time) + wait) + late + others + more ≤ limit
begun_fits g time late others turns wait more limit bound all near fits = omega arith

-- an exchange begins of an entry that is open: at once where a command waits and orders go out one after the other, or so much later
abbrev Begun : ℕ → ℕ → BusState → Type 0
Begun wait least b = ((1 ≤ least) × (b.config.poll_between_orders ≡ false)) ⊎ (b.config.poll_interval ≤ wait)

begun_then : (wait least : ℕ) (call : Call) (b : BusState) → Begun wait least b → Begun wait least (after_call call b)
begun_then wait least call b (inl some) = inl (some.0, ap (λ (c : BusConfig). c.poll_between_orders) (same_config call b) ∙ some.1)
begun_then wait least call b (inr interval) = inr (subst (λ (c : BusConfig). c.poll_interval ≤ wait) (sym (same_config call b)) interval)

-- the moment from which an open entry is due
pub rest_due : (wait e : ℕ) (b : BusState) (d : Entry) → Kept b.config b.greatest d → is_idle d.controller.session.state ≡ true → b.greatest ≤ e
    → b.config.poll_interval ≤ wait → until_of d.controller.session.state ≤ e + wait
rest_due wait e b d kept idle near interval = by_state d.controller.session.state idle kept.timely
  where
    settings : d.controller.session.config.poll_interval ≡ b.config.poll_interval
    settings = ap (λ (c : ControllerConfig). c.poll_interval) kept.config

    by_state : (state : State) → is_idle state ≡ true → WaitsItsTime d.controller.session.config d.controller.session.greatest state → until_of state ≤ e + wait
    by_state (Idle due) h timely = (let same = settings in let reached = kept.reached in omega arith)
    by_state _ h timely = cc

rest_ready : (wait least e : ℕ) (b : BusState) (d : Entry) → Kept b.config b.greatest d → is_under_way d.controller.session.state ≡ true → holds d ≡ false
    → least ≤ length d.controller.waiting → b.greatest ≤ e → Begun wait least b → Ready (e + wait) least d
rest_ready wait least e b d kept under none some near (inl one) =
    let s = d.controller.session in
    let may = in_a_row s (ap (λ (c : ControllerConfig). c.poll_between_orders) kept.config ∙ one.1) in
    (lives s.state under, none, some, inr (at_rest s.state under none, may, one.0))
rest_ready wait least e b d kept under none some near (inr interval) =
    let state = d.controller.session.state in
    (lives state under, none, some, inl (rest_due wait e b d kept (at_rest state under none) near interval))

module _ (late : ℕ) (time : ℕ → ℕ) (n own limit wait : ℕ) (need : ℕ → ℕ) (fewer : (before : ℕ) → (need (suc before) ≡ need before + 1) ⊎ (need before ≡ 0)) where
  abbrev others : ℕ
  others = others_of time late n own

  abbrev cycle : ℕ
  cycle = wait + turns_of time late n

  -- the exchange of the entry that is outstanding ends by a moment, or another begins by one
  pub record Way (before : ℕ) (calls : List Call) (b : BusState) (d : Entry) : Type 0 where
    pub waits : AtPlace own (Waits (need before)) b.devices
    pub out : holds d ≡ true → (e : ℕ) × EndsBy e calls b × ((e + wait) + late + others_of time late n own + before * (wait + turns_of time late n) ≤ limit)
    pub idle : holds d ≡ false → (m : ℕ) × BeginsBy m own calls b × (m + before * (wait + turns_of time late n) ≤ limit)

  abbrev Ways : ℕ → List Call → BusState → Type 0
  Ways before calls b = (way : IsUnderWay own b) → Way before calls b way.device

  module _ (call : Call) (calls : List Call) (b : BusState) (well : Well b) (turns_take : TurnsTake time (call ∷ calls) b) (few : HasFew n (call ∷ calls) b)
      (under : IsUnderWay own b) where
    abbrev g : ℕ
    g = (after_call call b).greatest

    abbrev d : Entry
    d = under.device

    -- the next moment
    near_by : (before : ℕ) → Way before (call ∷ calls) b under.device → (t : Bool) → holds under.device ≡ t
        → (bound : ℕ) × ((after_call call b).greatest ≤ bound) × (bound + before * (wait + turns_of time late n) ≤ limit)
    near_by before way true stands =
        let out = way.out stands in
        let fits : (out.0 + wait) + late + others + before * cycle ≤ limit = out.2 in
        (out.0, (out.1 own (record { device = d; there = under.there; outstanding = stands })).0, omega arith)
    near_by before way false none = let idle = way.idle none in (idle.0, idle.1.0, idle.2)

    near : (before : ℕ) → Way before (call ∷ calls) b under.device
        → (bound : ℕ) × ((after_call call b).greatest ≤ bound) × (bound + before * (wait + turns_of time late n) ≤ limit)
    near before way = near_by before way (holds under.device) refl

    near_limit : (before : ℕ) → Way before (call ∷ calls) b under.device → g ≤ limit
    near_limit before way =
        let bound = near before way in
        let fits : bound.0 + before * cycle ≤ limit = bound.2 in
        let soon : g ≤ bound.0 = bound.1 in
        omega arith

    -- an exchange of the entry begins
    fewer_wait : (before : ℕ) → AtPlace own (Waits (need (suc before))) b.devices → Begins call own b → (need (suc before) ≡ need before + 1) ⊎ (need before ≡ 0)
        → AtPlace own (Waits (need before)) (after_call call b).devices
    fewer_wait before place begun (inl one) =
        begun_waits (need before) own call b (subst (λ (k : ℕ). AtPlace own (Waits k) b.devices) one place) begun
    fewer_wait before place begun (inr none) =
        let out = stands_after call own b begun in
        (out.device, out.there, subst (λ (k : ℕ). k ≤ length out.device.controller.waiting) (sym none) (omega arith))

    ways_begun : (before : ℕ) → Way (suc before) (call ∷ calls) b under.device → Begins call own b → Ways before calls (after_call call b)
    ways_begun before way begun next =
        let bound = near (suc before) way in
        let out = stands_after call own b begun in
        let one = one_device (device_of own (after_call call b)) out.device next.device out.there next.there in
        let stands : holds next.device ≡ true = ap holds (sym one) ∙ out.outstanding in
        let there = is_there n own d (call ∷ calls) b few under.there in
        record {
          waits = fewer_wait before way.waits begun (fewer before);
          out = λ so. (
            g + time own,
            turns_take.0 own begun,
            begun_fits g (time own) late others (turns_of time late n) wait (before * cycle) limit bound.0 (all_turns time late n own there) bound.1
                (subst (λ (k : ℕ). bound.0 + k ≤ limit) (suc-mul before cycle) bound.2),
          );
          idle = λ none. absurd (let yes = stands in cc);
        }

    -- none of the entry begins
    module _ (before : ℕ) (way : Way before (call ∷ calls) b under.device) (not : Begins call own b → ⊥) (in_time : KeepsTime late calls (after_call call b))
        (few_then : HasFew n calls (after_call call b)) (stay : AllStay (need before) own (call ∷ calls) b) (began : Begun wait (need before) b)
        (next : IsUnderWay own (after_call call b)) where
      waits_then : AtPlace own (Waits (need before)) (after_call call b).devices
      waits_then =
          still_wait (need before) own call b well
          (λ f here. let one = one_device (device_of own b) under.device f under.there here in
          subst (λ (k : Entry). is_closed k.controller.session.state ≡ false) one (lives under.device.controller.session.state under.under_way))
          way.waits (stays_now (need before) own call calls b stay) not

      out_by : holds next.device ≡ true → ((k : ℕ) × Begins call k b) ⊎ NoneBegins call b
          → (e : ℕ) × EndsBy e calls (after_call call b) × ((e + wait) + late + others_of time late n own + before * (wait + turns_of time late n) ≤ limit)
      out_by stands (inl (k, begun)) =
          let one = (has_one_exchange (after_call call b) (well_call call b well).sound).one k own (stands_after call k b begun)
          (record { device = next.device; there = next.there; outstanding = stands }) in
          absurd (not (subst (λ m. Begins call m b) one begun))
      out_by stands (inr none) =
          let before_it = held_before call b well none own (record { device = next.device; there = next.there; outstanding = stands }) in
          let one = one_device (device_of own b) before_it.device under.device before_it.there under.there in
          let out = way.out (ap holds (sym one) ∙ before_it.outstanding) in
          (out.0, (out.1 own before_it).1 none, out.2)

      ends_then : (e : ℕ) → g ≤ e → holds under.device ≡ true → holds next.device ≡ false → ((k : ℕ) × Begins call k b) ⊎ NoneBegins call b
          → (k : ℕ) → IsOutstandingAt k (after_call call b) → EndsBy (e + time k) calls (after_call call b)
      ends_then e soon stands none (inl (j, begun)) k out =
          let one = (has_one_exchange (after_call call b) (well_call call b well).sound).one j k (stands_after call j b begun) out in
          subst (λ m. EndsBy (e + time m) calls (after_call call b)) one
          (ends_later (g + time j) (e + time j) calls (after_call call b) (omega arith) (turns_take.0 j begun))
      ends_then e soon stands none (inr nobody) k out =
          let before_it = held_before call b well nobody k out in
          let same = (has_one_exchange b well.sound).one k own before_it (record { device = under.device; there = under.there; outstanding = stands }) in
          let one = one_device (device_of own (after_call call b)) out.device next.device (ap (λ m. device_of m (after_call call b)) (sym same) ∙ out.there) next.there in
          absurd (let holding = ap holds (sym one) ∙ out.outstanding in cc)

      idle_by : holds next.device ≡ false → (t : Bool) → holds under.device ≡ t
          → (m : ℕ) × BeginsBy m own calls (after_call call b) × (m + before * (wait + turns_of time late n) ≤ limit)
      idle_by none false idle = let way_idle = way.idle idle in (way_idle.0, way_idle.1.1 not, way_idle.2)
      idle_by none true stands =
          let out = way.out stands in
          let soon : g ≤ out.0 = (out.1 own (record { device = under.device; there = under.there; outstanding = stands })).0 in
          let one = one_device (device_of own (after_call call b)) waits_then.0 next.device waits_then.1 next.there in
          let some : need before ≤ length next.device.controller.waiting = subst (Waits (need before)) one waits_then.2 in
          let kept = (well_call call b well).devices own next.device next.there in (
            (out.0 + wait) + late + others,
            has_its_turn late time n own (out.0 + wait) (need before) calls (after_call call b) (well_call call b well) in_time turns_take.1 few_then (stay_then (need before) own call calls b stay) (omega arith)
                (next.device, next.there, rest_ready wait (need before) out.0 (after_call call b) next.device kept next.under_way none some soon (begun_then wait (need before) call b began))
                (λ k held. ends_later (out.0 + time k) (out.0 + wait + time k) calls (after_call call b) (omega arith) (ends_then out.0 soon stands none (decide call b) k held)),
            out.2,
          )

      ways_then : Way before calls (after_call call b) next.device
      ways_then = record {
        waits = waits_then;
        out = λ stands. out_by stands (decide call b);
        idle = λ none. idle_by none (holds under.device) refl;
      }

  pub goes_out : (before : ℕ) (calls : List Call) (b : BusState) → Well b → KeepsTime late calls b → TurnsTake time calls b → HasFew n calls b
      → ((k : ℕ) → AllStay (need k) own calls b) → ((k : ℕ) → Begun wait (need k) b) → Ways before calls b → GoesOutBy limit before own calls b
  goes_out before [] b well in_time take few stay began ways = tt
  goes_out zero (call ∷ calls) b well in_time take few stay began ways = λ under. (
    near_limit call calls b well take few under zero (ways under),
    λ not.
        goes_out zero calls (after_call call b) (well_call call b well) in_time.1 take.1 few.1 (λ k. stay_then (need k) own call calls b (stay k))
        (λ k. begun_then wait (need k) call b (began k))
        (ways_then call calls b well take few under zero (ways under) not in_time.1 few.1 (stay zero) (began zero)),
  )
  goes_out (suc before) (call ∷ calls) b well in_time take few stay began ways = λ under. (
    near_limit call calls b well take few under (suc before) (ways under),
    λ begun.
        goes_out before calls (after_call call b) (well_call call b well) in_time.1 take.1 few.1 (λ k. stay_then (need k) own call calls b (stay k))
        (λ k. begun_then wait (need k) call b (began k))
        (ways_begun call calls b well take few under before (ways under) begun),
    λ not.
        goes_out (suc before) calls (after_call call b) (well_call call b well) in_time.1 take.1 few.1 (λ k. stay_then (need k) own call calls b (stay k))
        (λ k. begun_then wait (need k) call b (began k))
        (ways_then call calls b well take few under (suc before) (ways under) not in_time.1 few.1 (stay (suc before)) (began (suc before))),
  )

-- ---- from its acceptance on

accepted_at : (entry : ℕ) (command : Command) (d : Entry) (b : BusState) → submit_refusal_at entry command b ≡ None → device_of entry b ≡ Some d
    → device_of entry (after_call (Submit entry command) b) ≡ Some (entry_submits command d)
accepted_at entry command d b accepted there =
    ap (λ f. device_of entry (changed_unless f b (after_submit_at entry command b))) accepted
    ∙ ap (λ o. device_of entry (changed o)) there ∙ set_here b.devices.entries entry d (entry_submits command d) there
  where
    changed : Option Entry → BusState
    changed o = option_map_or (λ f. record b { devices = record b.devices { entries = slice_set b.devices.entries entry (entry_submits command f) } }) o b

-- arithmetic on moments alone
first_fits : (g k time late others turns wait more all : ℕ) → k ≡ g → others + (time + late) ≡ turns → all ≡ more + (wait + turns)
    → ((k + time) + wait) + late + others + more ≤ g + all
first_fits g k time late others turns wait more all same sum product = omega arith

idle_fits : (g k time late others turns wait more all : ℕ) → k ≡ g → others + (time + late) ≡ turns → all ≡ more + (wait + turns)
    → ((k + wait) + late + others) + more ≤ g + all
idle_fits g k time late others turns wait more all same sum product = omega arith

-- from any moment on at which its session is under way
module _ (late : ℕ) (time : ℕ → ℕ) (n own wait before : ℕ) (need : ℕ → ℕ) (fewer : (k : ℕ) → (need (suc k) ≡ need k + 1) ⊎ (need k ≡ 0)) (calls : List Call) (b : BusState) (well : Well b)
    (keeps : KeepsTurns late time n calls b) (stay : (k : ℕ) → AllStay (need k) own calls b) (began : (k : ℕ) → Begun wait (need k) b) (waits : AtPlace own (Waits (need before)) b.devices) where
  abbrev all : ℕ
  all = (before + 1) * (wait + turns_of time late n)

  way_from : (under : IsUnderWay own b) → Way late time n own (b.greatest + all) wait need fewer before calls b under.device
  way_from under =
      let d = under.device in
      let there = is_there n own d calls b keeps.few under.there in
      let sum = all_turns time late n own there in
      let product = next_product before (wait + turns_of time late n) in
      let more = before * (wait + turns_of time late n) in
      let one = one_device (device_of own b) waits.0 d waits.1 under.there in
      let some : need before ≤ length d.controller.waiting = subst (Waits (need before)) one waits.2 in
      record {
        waits = waits;
        out = λ stands. (
          b.greatest + time own,
          keeps.outstanding own (record { device = d; there = under.there; outstanding = stands }),
          first_fits b.greatest b.greatest (time own) late (others_of time late n own) (turns_of time late n) wait more all refl sum product,
        );
        idle = λ none. (
          (b.greatest + wait) + late + others_of time late n own,
          has_its_turn late time n own (b.greatest + wait) (need before) calls b well keeps.in_time keeps.turns keeps.few (stay before) (omega arith)
              (d, under.there, rest_ready wait (need before) b.greatest b d (well.devices own d under.there) under.under_way none some (omega arith) (began before))
              (λ holding out. ends_later (b.greatest + time holding) (b.greatest + wait + time holding) calls b (omega arith) (keeps.outstanding holding out)),
          idle_fits b.greatest b.greatest (time own) late (others_of time late n own) (turns_of time late n) wait more all refl sum product,
        );
      }

  goes_out_from : GoesOutBy (b.greatest + all) before own calls b
  goes_out_from = goes_out late time n own (b.greatest + all) wait need fewer before calls b well keeps.in_time keeps.turns keeps.few stay began way_from

pub orders_go_out : (b : BusState) → Well b → OrdersGoOut b
orders_go_out b well late time n entry before command calls alone accepted keeps none =
    let k = after_call (Submit entry command) b in
    let under = accepted.under_way in
    let d = under.device in
    let here = accepted_at entry command d b accepted.accepted under.there in
    let moment : k.greatest ≡ b.greatest = (moments_are_seen b).kept (Submit entry command) (λ at brings. brings) in
    let turns = turns_of time late n in
    let settings = ap (λ (c : BusConfig). c.poll_between_orders) (same_config (Submit entry command) b) ∙ alone in
    let wait : before + 1 ≤ length (entry_submits command d).controller.waiting =
    (let both = length-append d.controller.waiting (command ∷ []) in let place : length d.controller.waiting ≡ before = accepted.place in omega arith) in
    subst (λ (g : ℕ). GoesOutBy (g + (before + 1) * turns) before entry calls k) moment
    (subst (λ (t : ℕ). GoesOutBy (k.greatest + (before + 1) * t) before entry calls k) (let none : 0 + turns ≡ turns = omega arith in none)
    (goes_out_from late time n entry 0 before (λ more. more + 1) (λ more. inl (omega arith)) calls k (well_call (Submit entry command) b well) keeps (λ more. inr none) (λ more. inl (omega arith, settings))
    (entry_submits command d, here, wait)))

pub polls_go_out : (b : BusState) → Well b → ExchangesComeRound b
polls_go_out b well late time n entry before calls under keeps =
    goes_out_from late time n entry b.config.poll_interval before (λ more. 0) (λ more. inr refl) calls b well keeps (λ more. inl refl) (λ more. inr (omega arith))
    (under.device, under.there, omega arith)
