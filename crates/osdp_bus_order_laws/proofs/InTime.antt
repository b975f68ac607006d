-- By when an order has left those that wait: after each order of its entry a POLL begins within the interval and a turn of each entry, where one has to come first, and the next order
-- within one turn of each entry more.
use Rattle.osdp_bus_order_laws.proofs.Common.{◌≡◌, ◌∙◌, ap, sym, subst, inl, inr, refl, ℕ, zero, suc, ◌+◌, ◌*◌, ◌≤◌, ◌&&◌, Bool, true, false, List, [], ◌∷◌, ◌++◌, length, Option, Some, None, ◌⊎◌, if◌then◌else◌, is_none, is_some, eq-eqb, arith, Command, is_idle, exchange_in, lives, next_product, BusConfig, Entry, BusState, device_of, holds, submit_refusal_at, Call, Submit, after_call, Begins, IsOutstandingAt, stands_after, has_one_exchange, decide, one_device, moments_are_seen, exchange_of, IsUnderWay, EndsBy, HasFew, KeepsTurns, NoneBegins, others_of, turns_of, TurnsTake, KeepsTime, same_config, Well, well_call, goes_out, accepted_in, taken_back_in, waiting_orders, OrderLeavesBy, OrdersLeaveInTime, OrdersLeaveInTurns}
use Rattle.std.proofs.Math.Nat.{suc-mul}
use Rattle.osdp_bus.specs.Machine.{entry_withdraws}
use Rattle.osdp_time_laws.proofs.Orders.{at_rest}
use Rattle.osdp_bus_time_laws.proofs.Asking.{same_next}
use Rattle.osdp_bus_time_laws.proofs.InTime.{keeps_turns, same_turns}
use Rattle.osdp_bus_time_laws.proofs.Ordered.{rest_due}
use Rattle.osdp_bus_time_laws.proofs.Sums.{all_turns}
use Rattle.osdp_bus_time_laws.proofs.Turning.{BeginsWhile, Stays, begins_then_while, ends_later, has_its_turn, has_its_turn_while, held_before, is_there}
use Rattle.osdp_bus_order_laws.proofs.Along.{asks_out, decide_at, none_out, out_is, waiting_is}
use Rattle.osdp_bus_order_laws.proofs.Calls.{Asks, asks, changed_here, goes, listed}
use Rattle.osdp_bus_order_laws.proofs.Devices.{Ordered, Polled, next, waits}
use Rattle.osdp_bus_order_laws.proofs.Hearing.{asked}
use Rattle.osdp_bus_order_laws.proofs.Leaving.{Waits, come, is_first, is_next, none_first, some_wait, stays_placed}

-- ---- its moments

-- what comes between the end of an exchange, or the beginning of the next, and the turn of an order: the interval and a POLL, where one has to come first
abbrev after_end : Bool → ℕ → ℕ → ℕ
after_end true interval turns = interval + turns
after_end false interval turns = 0

abbrev after_begin : Bool → ℕ → ℕ
after_begin true turns = turns
after_begin false turns = 0

-- arithmetic on moments alone
near_end : (t : Bool) (g e late others interval turns more limit : ℕ) → g ≤ e → e + late + others + after_end t interval turns + more ≤ limit
    → g + after_begin t turns + more ≤ limit
near_end true g e late others interval turns more limit near fits = omega arith
near_end false g e late others interval turns more limit near fits = omega arith

near_begin : (g m after more limit : ℕ) → g ≤ m → m + after + more ≤ limit → g + after + more ≤ limit
near_begin g m after more limit near fits = omega arith

in_limit : (g after more limit : ℕ) → g + after + more ≤ limit → g ≤ limit
in_limit g after more limit fits = omega arith

polled_fits : (g own late others turns more limit : ℕ) → others + (own + late) ≡ turns → g + turns + more ≤ limit → (g + own) + late + others + 0 + more ≤ limit
polled_fits g own late others turns more limit all fits = omega arith

ordered_fits : (t : Bool) (g own late others interval turns more all limit : ℕ) → others + (own + late) ≡ turns → all ≡ more + (interval + 2 * turns)
    → g + 0 + all ≤ limit → (g + own) + late + others + after_end t interval turns + more ≤ limit
ordered_fits true g own late others interval turns more all limit sum product fits = omega arith
ordered_fits false g own late others interval turns more all limit sum product fits = omega arith

rest_fits : (e late others interval turns more limit : ℕ) → e + late + others + (interval + turns) + more ≤ limit → ((e + interval) + late + others) + turns + more ≤ limit
rest_fits e late others interval turns more limit fits = omega arith

less_fits : (x more each all limit : ℕ) → all ≡ more + each → x + all ≤ limit → x + more ≤ limit
less_fits x more each all limit product fits = omega arith

first_end : (t : Bool) (g own late others interval turns more all : ℕ) → others + (own + late) ≡ turns → all ≡ more + (interval + 2 * turns)
    → (g + own) + late + others + after_end t interval turns + more ≤ g + all
first_end true g own late others interval turns more all sum product = omega arith
first_end false g own late others interval turns more all sum product = omega arith

first_poll : (g own late others interval turns more all : ℕ) → others + (own + late) ≡ turns → all ≡ more + (interval + 2 * turns)
    → ((g + interval) + late + others) + turns + more ≤ g + all
first_poll g own late others interval turns more all sum product = omega arith

first_order : (g own late others interval turns more all : ℕ) → others + (own + late) ≡ turns → all ≡ more + (interval + 2 * turns)
    → (g + late + others) + 0 + more ≤ g + all
first_order g own late others interval turns more all sum product = omega arith

none_goes : {P : Type 0} (o : Option Command) (c : Command) → o ≡ Some c → o ≡ None → P
none_goes None c some none = absurd cc
none_goes (Some other) c some none = absurd cc

no_next : (setting flag some : Bool) → flag ≡ some → some ≡ false → (setting && flag) ≡ false
no_next true flag some is none = is ∙ none
no_next false flag some is none = refl

module _ (late : ℕ) (time : ℕ → ℕ) (n own limit interval : ℕ) where
  abbrev others : ℕ
  others = others_of time late n own

  abbrev turns : ℕ
  turns = turns_of time late n

  abbrev each : ℕ
  each = interval + 2 * turns_of time late n

  -- the exchange of the entry that is outstanding ends by a moment, or another begins by one
  record Stage (before : ℕ) (calls : List Call) (b : BusState) (d : Entry) : Type 0 where
    out : holds d ≡ true → (e : ℕ) × EndsBy e calls b × (e + late + others_of time late n own + after_end (next d) interval (turns_of time late n) + before * (interval + 2 * turns_of time late n) ≤ limit)
    idle : holds d ≡ false → (m : ℕ) × BeginsWhile 1 m own calls b × (m + after_begin (next d) (turns_of time late n) + before * (interval + 2 * turns_of time late n) ≤ limit)

  abbrev Stages : ℕ → List Call → BusState → Type 0
  Stages before calls b = (under : IsUnderWay own b) → Stage before calls b under.device

  -- a device at rest has its turn: once a POLL is due, where one has to come first, and else at once
  module _ (calls : List Call) (b : BusState) (well : Well b) (in_time : KeepsTime late calls b) (take : TurnsTake time calls b) (few : HasFew n calls b)
      (settings : b.config.poll_interval ≤ interval) (under : IsUnderWay own b) (some : 1 ≤ length (waits under.device)) (free : holds under.device ≡ false)
      (e : ℕ) (soon : b.greatest ≤ e) (ends : (k : ℕ) → IsOutstandingAt k b → EndsBy (e + time k) calls b) where
    abbrev d : Entry
    d = under.device

    idle_state : is_idle d.controller.session.state ≡ true
    idle_state = at_rest d.controller.session.state under.under_way free

    pub polls_by : BeginsWhile 1 ((e + interval) + late + others) own calls b
    polls_by =
        begins_then_while 1 ((e + interval) + late + others) own calls b
        (has_its_turn late time n own (e + interval) 0 calls b well in_time take few (inl refl) (omega arith) (
          d,
          under.there,
          (
            lives d.controller.session.state under.under_way,
            free,
            omega arith,
            inl (rest_due interval e b d (well.devices own d under.there) idle_state soon settings),
          ),
        )
        (λ k out. ends_later (e + time k) (e + interval + time k) calls b (omega arith) (ends k out)))

    pub asks_by : next d ≡ false → BeginsWhile 1 (e + late + others) own calls b
    asks_by may =
        has_its_turn_while late time n own e 1 calls b well in_time take few soon
        (d, under.there, (lives d.controller.session.state under.under_way, free, some, inr (idle_state, may, omega arith))) ends

  module _ (call : Call) (calls : List Call) (b : BusState) (well : Well b) (take : TurnsTake time (call ∷ calls) b) (few : HasFew n (call ∷ calls) b)
      (under : IsUnderWay own b) where
    abbrev g : ℕ
    g = (after_call call b).greatest

    -- the next moment
    near_by : (before : ℕ) → Stage before (call ∷ calls) b under.device → (t : Bool) → holds under.device ≡ t
        → g + after_begin (next under.device) turns + before * each ≤ limit
    near_by before stage true stands =
        let out = stage.out stands in
        let now = out.1 own (record { device = under.device; there = under.there; outstanding = stands }) in
        near_end (next under.device) g out.0 late others interval turns (before * each) limit now.0 out.2
    near_by before stage false none =
        let idle = stage.idle none in near_begin g idle.0 (after_begin (next under.device) turns) (before * each) limit idle.1.0 idle.2

    near : (before : ℕ) → Stage before (call ∷ calls) b under.device → g + after_begin (next under.device) turns + before * each ≤ limit
    near before stage = near_by before stage (holds under.device) refl

    -- an exchange of the entry begins
    module _ (begun : Begins call own b) where
      a : Asks own call under.device b
      a = asks own call under.device b under.there begun

      begun_stage : (before : ℕ) → (g + time own) + late + others + after_end (next a.device) interval turns + before * each ≤ limit → Stages before calls (after_call call b)
      begun_stage before fits under_then =
          let one = one_device (device_of own (after_call call b)) a.device under_then.device a.there under_then.there in
          subst (Stage before calls (after_call call b)) one
          (record {
            out = λ stands. (g + time own, take.0 own begun, fits);
            idle = λ none. absurd (let both : true ≡ false = sym a.stands ∙ none in cc);
          })

      sum : others + (time own + late) ≡ turns
      sum = all_turns time late n own (is_there n own under.device (call ∷ calls) b few under.there)

      -- a POLL
      polled_stage : (before : ℕ) → Stage before (call ∷ calls) b under.device → 1 ≤ length (waits under.device) → asked a.device ≡ None
          → (waits under.device ≡ []) ⊎ ((next under.device ≡ true) ⊎ (a.quiet ≡ true)) → Stages before calls (after_call call b)
      polled_stage before stage some none (inl nothing) =
          absurd (let many : length (waits under.device) ≡ 0 = ap (λ (l : List Command). length l) nothing in omega arith)
      polled_stage before stage some none (inr (inr quiet)) = absurd (let both : true ≡ false = sym quiet ∙ a.late under.under_way in cc)
      polled_stage before stage some none (inr (inl poll_next)) =
          let s = a.device.controller.session in
          let never : next a.device ≡ false =
          no_next s.config.poll_between_orders s.asked (is_some (asked a.device)) a.begun.0 (ap (λ (o : Option Command). is_some o) none) in
          let fits : g + turns + before * each ≤ limit = subst (λ (t : Bool). g + after_begin t turns + before * each ≤ limit) poll_next (near before stage) in
          begun_stage before
          (subst (λ (t : Bool). (g + time own) + late + others + after_end t interval turns + before * each ≤ limit) (sym never)
          (polled_fits g (time own) late others turns (before * each) limit sum fits))

      -- an order
      ordered_stage : (before : ℕ) → Stage (suc before) (call ∷ calls) b under.device → next under.device ≡ false → Stages before calls (after_call call b)
      ordered_stage before stage may =
          let fits : g + 0 + suc before * each ≤ limit =
          subst (λ (t : Bool). g + after_begin t turns + suc before * each ≤ limit) may (near (suc before) stage) in
          begun_stage before
          (ordered_fits (next a.device) g (time own) late others interval turns (before * each) (suc before * each) limit sum (suc-mul before each) fits)

      goes_is : (c : Option Command) → asked a.device ≡ c → goes_out own call b ≡ c
      goes_is c is = out_is own call under.device a.device b under.there a.there ∙ asks_out (asked under.device) (asked a.device) c a.free is

    -- none of the entry begins
    module _ (before : ℕ) (stage : Stage before (call ∷ calls) b under.device) (not : Begins call own b → ⊥) (in_time : KeepsTime late calls (after_call call b))
        (few_then : HasFew n calls (after_call call b)) (settings : (after_call call b).config.poll_interval ≤ interval) (under_then : IsUnderWay own (after_call call b))
        (some : 1 ≤ length (waits under_then.device)) (stay : Stays 1 own call b) where
      same_poll : next under_then.device ≡ next under.device
      same_poll =
          let k = goes own under.device b under.there call well.sound not in
          let one = one_device (device_of own (after_call call b)) k.device under_then.device k.there under_then.there in
          sym (ap next one) ∙ (let kept = k.keeps in same_next under.device.controller.session k.device.controller.session kept.same)

      out_by : holds under_then.device ≡ true → ((k : ℕ) × Begins call k b) ⊎ NoneBegins call b
          → (e : ℕ) × EndsBy e calls (after_call call b) × (e + late + others + after_end (next under_then.device) interval turns + before * each ≤ limit)
      out_by stands (inl (k, begun)) =
          let one = (has_one_exchange (after_call call b) (well_call call b well).sound).one k own (stands_after call k b begun)
          (record { device = under_then.device; there = under_then.there; outstanding = stands }) in
          absurd (not (subst (λ m. Begins call m b) one begun))
      out_by stands (inr none) =
          let before_it = held_before call b well none own (record { device = under_then.device; there = under_then.there; outstanding = stands }) in
          let one = one_device (device_of own b) before_it.device under.device before_it.there under.there in
          let out = stage.out (ap holds (sym one) ∙ before_it.outstanding) in (
            out.0,
            (out.1 own before_it).1 none,
            subst (λ (t : Bool). out.0 + late + others + after_end t interval turns + before * each ≤ limit) (sym same_poll) out.2,
          )

      ends_then : (e : ℕ) → g ≤ e → holds under.device ≡ true → holds under_then.device ≡ false → ((k : ℕ) × Begins call k b) ⊎ NoneBegins call b
          → (k : ℕ) → IsOutstandingAt k (after_call call b) → EndsBy (e + time k) calls (after_call call b)
      ends_then e soon stands none (inl (j, begun)) k out =
          let one = (has_one_exchange (after_call call b) (well_call call b well).sound).one j k (stands_after call j b begun) out in
          subst (λ m. EndsBy (e + time m) calls (after_call call b)) one
          (ends_later (g + time j) (e + time j) calls (after_call call b) (omega arith) (take.0 j begun))
      ends_then e soon stands none (inr nobody) k out =
          let before_it = held_before call b well nobody k out in
          let same = (has_one_exchange b well.sound).one k own before_it (record { device = under.device; there = under.there; outstanding = stands }) in
          let one = one_device (device_of own (after_call call b)) out.device under_then.device (ap (λ m. device_of m (after_call call b)) (sym same) ∙ out.there) under_then.there in
          absurd (let holding = ap holds (sym one) ∙ out.outstanding in cc)

      abbrev Idle : Type 0
      Idle = (m : ℕ) × BeginsWhile 1 m own calls (after_call call b) × (m + after_begin (next under_then.device) turns + before * each ≤ limit)

      ended_by : (free : holds under_then.device ≡ false) (stands : holds under.device ≡ true) → (t : Bool) → next under_then.device ≡ t → Idle
      ended_by free stands t is = by_next t is
        where
          here : IsOutstandingAt own b
          here = record { device = under.device; there = under.there; outstanding = stands }

          e : ℕ
          e = (stage.out stands).0

          soon : g ≤ e
          soon = ((stage.out stands).1 own here).0

          ends : (k : ℕ) → IsOutstandingAt k (after_call call b) → EndsBy (e + time k) calls (after_call call b)
          ends k held = ends_then e soon stands free (decide call b) k held

          fits : (t : Bool) → next under_then.device ≡ t → e + late + others + after_end t interval turns + before * each ≤ limit
          fits t is = subst (λ (t : Bool). e + late + others + after_end t interval turns + before * each ≤ limit) (sym same_poll ∙ is) (stage.out stands).2

          by_next : (t : Bool) → next under_then.device ≡ t → Idle
          by_next true is = (
            (e + interval) + late + others,
            polls_by calls (after_call call b) (well_call call b well) in_time take.1 few_then settings under_then some free e soon ends,
            subst (λ (t : Bool). ((e + interval) + late + others) + after_begin t turns + before * each ≤ limit) (sym is)
                (rest_fits e late others interval turns (before * each) limit (fits true is)),
          )
          by_next false is = (
            e + late + others,
            asks_by calls (after_call call b) (well_call call b well) in_time take.1 few_then settings under_then some free e soon ends is,
            subst (λ (t : Bool). (e + late + others) + after_begin t turns + before * each ≤ limit) (sym is) (fits false is),
          )

      idle_by : holds under_then.device ≡ false → (t : Bool) → holds under.device ≡ t → Idle
      idle_by free false idle =
          let way = stage.idle idle in (
            way.0,
            way.1.1 not stay,
            subst (λ (t : Bool). way.0 + after_begin t turns + before * each ≤ limit) (sym same_poll) way.2,
          )
      idle_by free true stands = ended_by free stands (next under_then.device) refl

      stage_then : Stage before calls (after_call call b) under_then.device
      stage_then = record { out = λ stands. out_by stands (decide call b); idle = λ free. idle_by free (holds under.device) refl }

  -- ---- call by call

  module _ (command : Command) where
    waits_then : (ahead later : List Command) (b : BusState) (d : Entry) → Waits own ahead command later b → device_of own b ≡ Some d → 1 ≤ length (waits d)
    waits_then ahead later b d waiting at = some_wait ahead command later (waits d) (sym (waiting_is own d b at) ∙ waiting)

    abbrev Ways : (call : Call) (b : BusState) (under : IsUnderWay own b) → Asks own call under.device b → Type 0
    Ways call b under x =
        Polled x.quiet (next under.device) (waits under.device) (exchange_in x.device.controller.session.state) (asked x.device) (waits x.device)
        ⊎ Ordered (next under.device) (waits under.device) (asked x.device) (waits x.device)

    -- the order waits on, so where one is taken back the entry has one more
    one_more : (call : Call) (b : BusState) (sooner more : List Command) → Waits own sooner command more (after_call call b) → Stays 1 own call b
    one_more call b sooner more waiting = λ d there is some.
        let taken = ap (λ (c : Call). device_of own (after_call c b)) is ∙ changed_here own entry_withdraws d b there in
        waits_then sooner more (after_call call b) (entry_withdraws d) waiting taken

    -- no order goes out, and the order waits on
    none_stages : (before : ℕ) (call : Call) (calls : List Call) (b : BusState) → Well b → KeepsTime late (call ∷ calls) b → TurnsTake time (call ∷ calls) b
        → HasFew n (call ∷ calls) b → b.config.poll_interval ≤ interval → (ahead later sooner more : List Command) → Waits own ahead command later b
        → Waits own sooner command more (after_call call b) → Stages before (call ∷ calls) b → (under : IsUnderWay own b) → goes_out own call b ≡ None
        → Stages before calls (after_call call b)
    none_stages before call calls b well in_time take few settings ahead later sooner more waiting then_waiting stages under none = by_begun (decide_at own call b well)
      where
        by_way : (begun : Begins call own b) → Ways call b under (a call calls b well take few under begun) → Stages before calls (after_call call b)
        by_way begun (inl p) =
            polled_stage call calls b well take few under begun before (stages under) (waits_then ahead later b under.device waiting under.there) p.none p.why
        by_way begun (inr o) = none_goes (goes_out own call b) o.command (goes_is call calls b well take few under begun (Some o.command) o.asked) none

        by_begun : Begins call own b ⊎ (Begins call own b → ⊥) → Stages before calls (after_call call b)
        by_begun (inl begun) = by_way begun (let x = a call calls b well take few under begun in x.begun.1)
        by_begun (inr not) = λ under_then.
            stage_then call calls b well take few under before (stages under) not in_time.1 few.1
            (subst (λ (c : BusConfig). c.poll_interval ≤ interval) (sym (same_config call b)) settings) under_then
            (waits_then sooner more (after_call call b) under_then.device then_waiting under_then.there) (one_more call b sooner more then_waiting)

    -- one fewer is before it
    fewer_before : (before : ℕ) (calls : List Call) (b : BusState) → Stages (suc before) calls b → Stages before calls b
    fewer_before before calls b stages = λ under.
        let stage = stages under in
        record {
          out = λ stands.
              let out = stage.out stands in (
                out.0,
                out.1,
                less_fits (out.0 + late + others + after_end (next under.device) interval turns) (before * each) each (suc before * each) limit (suc-mul before each) out.2,
              );
          idle = λ free.
              let idle = stage.idle free in
              (idle.0, idle.1, less_fits (idle.0 + after_begin (next under.device) turns) (before * each) each (suc before * each) limit (suc-mul before each) idle.2);
        }

    -- one does
    sent_stages : (before : ℕ) (call : Call) (calls : List Call) (b : BusState) → Well b → TurnsTake time (call ∷ calls) b → HasFew n (call ∷ calls) b
        → Stages (suc before) (call ∷ calls) b → (under : IsUnderWay own b) → (sent : Command) → goes_out own call b ≡ Some sent → Stages before calls (after_call call b)
    sent_stages before call calls b well take few stages under sent is = by_begun (decide_at own call b well)
      where
        by_way : (begun : Begins call own b) → Ways call b under (a call calls b well take few under begun) → Stages before calls (after_call call b)
        by_way begun (inl p) = none_goes (goes_out own call b) sent is (goes_is call calls b well take few under begun None p.none)
        by_way begun (inr o) = ordered_stage call calls b well take few under begun before (stages under) o.may

        by_begun : Begins call own b ⊎ (Begins call own b → ⊥) → Stages before calls (after_call call b)
        by_begun (inl begun) = by_way begun (let x = a call calls b well take few under begun in x.begun.1)
        by_begun (inr not) =
            let k = goes own under.device b under.there call well.sound not in
            none_goes (goes_out own call b) sent is (out_is own call under.device k.device b under.there k.there ∙ none_out under.device k.device k.keeps)

    -- one leaves: it goes out, or is taken back
    left_stages : (before : ℕ) (call : Call) (calls : List Call) (b : BusState) → Well b → KeepsTime late (call ∷ calls) b → TurnsTake time (call ∷ calls) b
        → HasFew n (call ∷ calls) b → b.config.poll_interval ≤ interval → (ahead later sooner more : List Command) → Waits own ahead command later b
        → Waits own sooner command more (after_call call b) → Stages (suc before) (call ∷ calls) b → (under : IsUnderWay own b) → Stages before calls (after_call call b)
    left_stages before call calls b well in_time take few settings ahead later sooner more waiting then_waiting stages under = by_out (goes_out own call b) refl
      where
        by_out : (o : Option Command) → goes_out own call b ≡ o → Stages before calls (after_call call b)
        by_out (Some sent) is = sent_stages before call calls b well take few stages under sent is
        by_out None is =
            fewer_before before calls (after_call call b)
            (none_stages (suc before) call calls b well in_time take few settings ahead later sooner more waiting then_waiting stages under is)

    leaves_by : (before : ℕ) (calls : List Call) (b : BusState) → Well b → KeepsTime late calls b → TurnsTake time calls b → HasFew n calls b
        → b.config.poll_interval ≤ interval → (ahead later : List Command) → Waits own ahead command later b → length ahead ≡ before
        → Stages before calls b → OrderLeavesBy limit own command before calls b
    leaves_by before [] b well in_time take few settings ahead later waiting many stages = tt
    leaves_by zero (call ∷ calls) b well in_time take few settings ahead later waiting many stages = λ under. (
      in_limit (after_call call b).greatest (after_begin (next under.device) turns) (0 * each) limit (near call calls b well take few under zero (stages under)),
      λ gone is. is_first own call b well ahead later command waiting gone many is,
      λ none.
          let still = stays_placed own call b well ahead later command waiting none in
          leaves_by zero calls (after_call call b) (well_call call b well) in_time.1 take.1 few.1
          (subst (λ (c : BusConfig). c.poll_interval ≤ interval) (sym (same_config call b)) settings) ahead (come own call b well ahead later command waiting) still many
          (none_stages zero call calls b well in_time take few settings ahead later ahead (come own call b well ahead later command waiting) waiting still stages under
          (none_first (goes_out own call b) (taken_back_in own call b) none)),
    )
    leaves_by (suc before) (call ∷ calls) b well in_time take few settings ahead later waiting many stages = λ under. (
      in_limit (after_call call b).greatest (after_begin (next under.device) turns) (suc before * each) limit
          (near call calls b well take few under (suc before) (stages under)),
      λ gone is.
          let fewer = is_next own call b well ahead later command waiting before gone many is in
          leaves_by before calls (after_call call b) (well_call call b well) in_time.1 take.1 few.1
          (subst (λ (c : BusConfig). c.poll_interval ≤ interval) (sym (same_config call b)) settings) fewer.sooner
          (come own call b well ahead later command waiting) fewer.fewer fewer.many
          (left_stages before call calls b well in_time take few settings ahead later fewer.sooner (come own call b well ahead later command waiting) waiting fewer.fewer stages under),
      λ none.
          let still = stays_placed own call b well ahead later command waiting none in
          leaves_by (suc before) calls (after_call call b) (well_call call b well) in_time.1 take.1 few.1
          (subst (λ (c : BusConfig). c.poll_interval ≤ interval) (sym (same_config call b)) settings) ahead
          (come own call b well ahead later command waiting) still many
          (none_stages (suc before) call calls b well in_time take few settings ahead later ahead (come own call b well ahead later command waiting) waiting still stages under
          (none_first (goes_out own call b) (taken_back_in own call b) none)),
    )

-- ---- from its acceptance on

takes : (entry : ℕ) (command : Command) (b : BusState) → submit_refusal_at entry command b ≡ None → accepted_in entry (Submit entry command) b ≡ Some command
takes entry command b accepted =
    ap (λ t. if t && is_none (submit_refusal_at entry command b) then Some command else None) (eq-eqb entry entry refl)
    ∙ ap (λ f. if is_none f then Some command else None) accepted

module _ (late : ℕ) (time : ℕ → ℕ) (n own interval before : ℕ) (calls : List Call) (b : BusState) (well : Well b) (keeps : KeepsTurns late time n calls b)
    (settings : b.config.poll_interval ≤ interval) (under : IsUnderWay own b) (some : 1 ≤ length (waits under.device)) where
  abbrev all : ℕ
  all = (before + 1) * (interval + 2 * turns_of time late n)

  abbrev First : Entry → Type 0
  First d = Stage late time n own (b.greatest + (before + 1) * (interval + 2 * turns_of time late n)) interval before calls b d

  more : ℕ
  more = before * (interval + 2 * turns_of time late n)

  product : all ≡ before * (interval + 2 * turns_of time late n) + (interval + 2 * turns_of time late n)
  product = next_product before (interval + 2 * turns_of time late n)

  whole : others_of time late n own + (time own + late) ≡ turns_of time late n
  whole = all_turns time late n own (is_there n own under.device calls b keeps.few under.there)

  ends_first : (k : ℕ) → IsOutstandingAt k b → EndsBy (b.greatest + time k) calls b
  ends_first k out = keeps.outstanding k out

  first_idle : holds under.device ≡ false → (t : Bool) → next under.device ≡ t
      → (m : ℕ) × BeginsWhile 1 m own calls b
      × (m + after_begin (next under.device) (turns_of time late n) + before * (interval + 2 * turns_of time late n) ≤ b.greatest + (before + 1) * (interval + 2 * turns_of time late n))
  first_idle free true is = (
    (b.greatest + interval) + late + others_of time late n own,
    polls_by late time n own (b.greatest + all) interval calls b well keeps.in_time keeps.turns keeps.few settings under some free b.greatest (omega arith) ends_first,
    subst (λ (t : Bool). ((b.greatest + interval) + late + others_of time late n own) + after_begin t (turns_of time late n) + before * (interval + 2 * turns_of time late n) ≤ b.greatest + all) (sym is)
        (first_poll b.greatest (time own) late (others_of time late n own) interval (turns_of time late n) (before * (interval + 2 * turns_of time late n)) all whole product),
  )
  first_idle free false is = (
    b.greatest + late + others_of time late n own,
    asks_by late time n own (b.greatest + all) interval calls b well keeps.in_time keeps.turns keeps.few settings under some free b.greatest (omega arith) ends_first is,
    subst (λ (t : Bool). (b.greatest + late + others_of time late n own) + after_begin t (turns_of time late n) + before * (interval + 2 * turns_of time late n) ≤ b.greatest + all) (sym is)
        (first_order b.greatest (time own) late (others_of time late n own) interval (turns_of time late n) (before * (interval + 2 * turns_of time late n)) all whole product),
  )

  first_stage : First under.device
  first_stage = record {
    out = λ stands. (
      b.greatest + time own,
      keeps.outstanding own (record { device = under.device; there = under.there; outstanding = stands }),
      first_end (next under.device) b.greatest (time own) late (others_of time late n own) interval (turns_of time late n) (before * (interval + 2 * turns_of time late n)) all whole product,
    );
    idle = λ free. first_idle free (next under.device) refl;
  }

pub leave_in_turns : (b : BusState) → Well b → OrdersLeaveInTurns b
leave_in_turns b well late time n entry before command calls accepted keeps =
    let call = Submit entry command in
    let y = after_call (Submit entry command) b in
    let d = accepted.under_way.device in
    let at = accepted.under_way.there in
    let moment : y.greatest ≡ b.greatest = (moments_are_seen b).kept (Submit entry command) (λ at brings. brings) in
    let settings : y.config.poll_interval ≡ b.config.poll_interval = ap (λ (c : BusConfig). c.poll_interval) (same_config (Submit entry command) b) in
    let k = goes entry d b at (Submit entry command) well.sound (λ begun. let is = begun.tick in cc) in
    let placed : waiting_orders entry y ≡ waits d ++ command ∷ [] =
    waiting_is entry k.device y k.there ∙ k.place ∙ ap (λ o. waits d ++ listed o) (takes entry command b accepted.accepted) in
    subst (λ (m : ℕ). OrderLeavesBy (m + (before + 1) * (b.config.poll_interval + 2 * turns_of time late n)) entry command before calls y) moment
    (leaves_by late time n entry (y.greatest + (before + 1) * (b.config.poll_interval + 2 * turns_of time late n)) b.config.poll_interval command before calls y
    (well_call (Submit entry command) b well) keeps.in_time keeps.turns keeps.few (omega arith) (waits d) [] placed accepted.place
    (λ under.
    first_stage late time n entry b.config.poll_interval before calls y (well_call (Submit entry command) b well) keeps (omega arith) under
    (some_wait (waits d) command [] (waits under.device) (sym (waiting_is entry under.device y under.there) ∙ placed))))

-- whatever the line does
pub leave_in_time : (b : BusState) → Well b → OrdersLeaveInTime b
leave_in_time b well late n entry before command calls accepted in_time few =
    subst (λ (t : ℕ). OrderLeavesBy (b.greatest + (before + 1) * (b.config.poll_interval + 2 * t)) entry command before calls (after_call (Submit entry command) b))
    (same_turns (exchange_of b late) late n)
    (leave_in_turns b well late (λ k. exchange_of b late) n entry before command calls accepted (keeps_turns late n (Submit entry command) calls b well in_time few))
