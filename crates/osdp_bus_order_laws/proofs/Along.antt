-- Lists of calls: a POLL stands between any two orders, and each order has its place.
use Rattle.osdp_bus_order_laws.proofs.Common.{◌≡◌, ◌∙◌, ap, sym, subst, inl, inr, refl, ℕ, zero, suc, ◌≤◌, ◌&&◌, ◌||◌, ◌==◌, Bool, true, false, not, List, [], ◌∷◌, ◌++◌, length, append_assoc, append-nil, Option, Some, None, ◌⊎◌, if◌then◌else◌, is_none, is_some, nat_eq, slice_get, option_map_or, eqb-true, eqb-false, arith, Command, State, Closed, Quiet, Idle, Waiting, Pausing, is_closed, is_outstanding, is_quiet, is_under_way, asked_in, exchange_in, command_of, BusConfig, Entry, BusFault, BusState, device_of, add_refusal, after_add, changed_unless, new_device, submit_refusal_at, withdrawal_at, withdrawal_of, holds, Call, Add, Submit, Withdraw, Tick, after_call, after_calls, Begins, stands_after, has_one_exchange, decide, one_device, Well, well_call, both_false, asked_at, goes_out, heard_along, is_closed_at, is_heard, is_polling, polls_at, PollsStandBetween, accepted, accepted_in, given, left, OrdersKeepTheirPlaces, taken_back_in, waiting_orders}
use Rattle.osdp_controller.specs.declared.config.ControllerConfig.{ControllerConfig}
use Rattle.std.proofs.lemmas.Option.{slice_get_cases}
use Rattle.osdp_controller.specs.declared.exchange.Exchange.{Exchange}
use Rattle.osdp_controller.specs.declared.exchange.Exchange.TheVariants.{Polling}
use Rattle.osdp_bus.specs.Machine.{submit_refusal_of}
use Rattle.osdp_bus_time_laws.proofs.Asking.{same_next}
use Rattle.osdp_bus_order_laws.proofs.Calls.{Asks, Goes, asks, goes, listed}
use Rattle.osdp_bus_order_laws.proofs.Counting.{counts}
use Rattle.osdp_bus_order_laws.proofs.Devices.{Keeps, Ordered, Polled, closed, next, polls, waits}
use Rattle.osdp_bus_order_laws.proofs.Hearing.{asked}

-- ---- what the definitions say of an entry that there is

abbrev pub out : Entry → Entry → Option Command
out d e = if is_none (asked d) then asked e else None

abbrev pub heard : Entry → Entry → Bool
heard d e = (polls d && not (polls e)) || closed e

pub out_is : (entry : ℕ) (call : Call) (d e : Entry) (b : BusState) → device_of entry b ≡ Some d → device_of entry (after_call call b) ≡ Some e
    → goes_out entry call b ≡ out d e
out_is entry call d e b at after =
    ap (λ o. if is_none (option_map_or asked o None) then asked_at entry (after_call call b) else None) at
    ∙ ap (λ o. if is_none (asked d) then option_map_or asked o None else None) after

heard_is : (entry : ℕ) (call : Call) (d e : Entry) (b : BusState) → device_of entry b ≡ Some d → device_of entry (after_call call b) ≡ Some e
    → is_heard entry call b ≡ heard d e
heard_is entry call d e b at after =
    ap (λ o. (option_map_or polls o false && not (polls_at entry (after_call call b))) || is_closed_at entry (after_call call b)) at
    ∙ ap (λ o. (polls d && not (option_map_or polls o false)) || option_map_or closed o false) after

pub waiting_is : (entry : ℕ) (d : Entry) (b : BusState) → device_of entry b ≡ Some d → waiting_orders entry b ≡ waits d
waiting_is entry d b at = ap (λ o. option_map_or waits o []) at

-- ---- whether the entry begins

pub decide_at : (entry : ℕ) (call : Call) (b : BusState) → Well b → Begins call entry b ⊎ (Begins call entry b → ⊥)
decide_at entry call b well = by_one (decide call b)
  where
    by_same : (k : ℕ) → Begins call k b → (t : Bool) → nat_eq k entry ≡ t → Begins call entry b ⊎ (Begins call entry b → ⊥)
    by_same k begun true same = inl (subst (λ n. Begins call n b) (eqb-true k entry same) begun)
    by_same k begun false apart =
        inr (λ own. eqb-false k entry apart
        ((has_one_exchange (after_call call b) (well_call call b well).sound).one k entry (stands_after call k b begun) (stands_after call entry b own)))

    by_one : ((k : ℕ) × Begins call k b) ⊎ ((k : ℕ) → Begins call k b → ⊥) → Begins call entry b ⊎ (Begins call entry b → ⊥)
    by_one (inl (k, begun)) = by_same k begun (nat_eq k entry) refl
    by_one (inr none) = inr (none entry)

-- ---- what goes out, and what doesn't

out_none : (a b : Option Command) → (b ≡ a) ⊎ (b ≡ None) → (if is_none a then b else None) ≡ None
out_none None b (inl same) = same
out_none None b (inr none) = none
out_none (Some c) b h = refl

pub none_out : (d e : Entry) → Keeps d e → out d e ≡ None
none_out d e k = out_none (asked d) (asked e) (by_exchange k.exchange)
  where
    by_exchange : (exchange_in e.controller.session.state ≡ exchange_in d.controller.session.state) ⊎ (exchange_in e.controller.session.state ≡ None)
        → (asked e ≡ asked d) ⊎ (asked e ≡ None)
    by_exchange (inl same) = inl (ap command_of same)
    by_exchange (inr none) = inr (ap command_of none)

pub asks_out : (a b : Option Command) (c : Option Command) → a ≡ None → b ≡ c → (if is_none a then b else None) ≡ c
asks_out None b c none is = is
asks_out (Some other) b c none is = absurd cc

not_some : {P : Type 0} (o : Option Command) → o ≡ None → is_some o ≡ true → P
not_some None none some = absurd cc
not_some (Some c) none some = absurd cc

-- ---- an order has gone out, and no POLL has been answered since in the same session

abbrev Owes : Entry → Type 0
Owes d = (polls d ≡ true) ⊎ ((next d ≡ true) × (is_under_way d.controller.session.state ≡ true))

still_polls : (a b : Bool) → (a && not b) ≡ false → a ≡ true → b ≡ true
still_polls true true h p = refl
still_polls true false h p = cc
still_polls false b h p = cc

polling_on : (state : State) → is_polling (exchange_in state) ≡ true → is_under_way state ≡ true
polling_on (Waiting until sends o) polling = refl
polling_on (Pausing until o) polling = refl
polling_on _ polling = absurd cc

pub holding_on : (state : State) → is_outstanding state ≡ true → is_under_way state ≡ true
holding_on (Waiting until sends o) stands = refl
holding_on (Pausing until o) stands = refl
holding_on _ stands = absurd cc

goes_on : (state : State) → is_closed state ≡ false → is_quiet state ≡ false → is_under_way state ≡ true
goes_on Closed stands loud = absurd cc
goes_on (Quiet until) stands loud = absurd cc
goes_on _ stands loud = refl

pub asks_no_poll : (x : Option Exchange) (c : Command) → command_of x ≡ Some c → is_polling x ≡ true → ⊥
asks_no_poll (Some Polling) c asks polling = absurd cc
asks_no_poll _ c asks polling = absurd cc

owes_on : (d : Entry) → Owes d → is_under_way d.controller.session.state ≡ true
owes_on d (inl polling) = polling_on d.controller.session.state polling
owes_on d (inr (next, under)) = under

-- from one device to the next
record Owing (d e : Entry) : Type 0 where
  keeps : Owes d → heard d e ≡ false → (out d e ≡ None) × Owes e
  owes : d.controller.session.config.poll_between_orders ≡ true → is_some (out d e) ≡ true → Owes e

goes_owing : (d e : Entry) → Keeps d e → Owing d e
goes_owing d e k = record {
  keeps = λ owes bound. (none_out d e k, owed owes (both_false (polls d && not (polls e)) (closed e) bound));
  owes = λ on some. not_some (out d e) (none_out d e k) some;
}
  where
    owed : Owes d → ((polls d && not (polls e)) ≡ false) × (closed e ≡ false) → Owes e
    owed (inl polling) bound = inl (still_polls (polls d) (polls e) bound.0 polling)
    owed (inr (poll_next, under)) bound =
        inr (same_next d.controller.session e.controller.session k.same ∙ poll_next, goes_on e.controller.session.state bound.1 (k.on under))

both_true : (a b c : Bool) → a ≡ true → b ≡ c → c ≡ true → (a && b) ≡ true
both_true true b c on same some = same ∙ some
both_true false b c on same some = absurd cc

asks_owing : (entry : ℕ) (call : Call) (d : Entry) (b : BusState) → (a : Asks entry call d b) → Owing d a.device
asks_owing entry call d b a = by_way a.begun.1
  where
    e : Entry
    e = a.device

    by_way : Polled a.quiet (next d) (waits d) (exchange_in e.controller.session.state) (asked e) (waits e) ⊎ Ordered (next d) (waits d) (asked e) (waits e) → Owing d e
    by_way (inl p) = record {
      keeps = λ owes bound. (asks_out (asked d) (asked e) None a.free p.none, polled owes p.poll);
      owes = λ on some. not_some (out d e) (asks_out (asked d) (asked e) None a.free p.none) some;
    }
      where
        polled : Owes d → (polls e ≡ true) ⊎ (a.quiet ≡ true) → Owes e
        polled owes (inl polling) = inl polling
        polled owes (inr quiet) = absurd (let both : true ≡ false = sym quiet ∙ a.late (owes_on d owes) in cc)
    by_way (inr o) = record {
      keeps = λ owes bound. absurd (never owes (both_false (polls d && not (polls e)) (closed e) bound).0);
      owes = λ on some. inr (
        both_true e.controller.session.config.poll_between_orders e.controller.session.asked (is_some (asked e)) (a.setting ∙ on) a.begun.0
            (ap (λ (c : Option Command). is_some c) o.asked),
        holding_on e.controller.session.state a.stands,
      );
    }
      where
        never : Owes d → (polls d && not (polls e)) ≡ false → ⊥
        never (inr (poll_next, under)) bound = let both : true ≡ false = sym poll_next ∙ o.may in cc
        never (inl polling) bound =
            asks_no_poll (exchange_in e.controller.session.state) o.command o.asked (still_polls (polls d) (polls e) bound polling)

-- where a call comes to
record Comes (entry : ℕ) (call : Call) (d : Entry) (b : BusState) : Type 0 where
  device : Entry
  there : device_of entry (after_call call b) ≡ Some device
  owing : Owing d device
  place : (listed (goes_out entry call b) ++ listed (taken_back_in entry call b)) ++ waits device ≡ waits d ++ listed (accepted_in entry call b)

comes : (entry : ℕ) (call : Call) (d : Entry) (b : BusState) → Well b → device_of entry b ≡ Some d → Comes entry call d b
comes entry call d b well at = by_begun (decide_at entry call b well)
  where
    with_asked : (a : Asks entry call d b) → (c : Option Command) → asked a.device ≡ c → listed c ++ waits a.device ≡ waits d
        → (listed (goes_out entry call b) ++ listed (taken_back_in entry call b)) ++ waits a.device ≡ waits d ++ listed (accepted_in entry call b)
    with_asked a c is place =
        ap (λ k. (listed (goes_out entry call b) ++ listed (taken_back_in entry k b)) ++ waits a.device) a.tick
        ∙ ap (λ l. l ++ waits a.device) (append-nil (listed (goes_out entry call b)))
        ∙ ap (λ o. listed o ++ waits a.device) (out_is entry call d a.device b at a.there ∙ asks_out (asked d) (asked a.device) c a.free is)
        ∙ place
        ∙ sym (append-nil (waits d))
        ∙ sym (ap (λ k. waits d ++ listed (accepted_in entry k b)) a.tick)

    by_way : (a : Asks entry call d b)
        → Polled a.quiet (next d) (waits d) (exchange_in a.device.controller.session.state) (asked a.device) (waits a.device)
        ⊎ Ordered (next d) (waits d) (asked a.device) (waits a.device)
        → (listed (goes_out entry call b) ++ listed (taken_back_in entry call b)) ++ waits a.device ≡ waits d ++ listed (accepted_in entry call b)
    by_way a (inl p) = with_asked a None p.none p.waiting
    by_way a (inr o) = with_asked a (Some o.command) o.asked (sym o.front)

    by_begun : Begins call entry b ⊎ (Begins call entry b → ⊥) → Comes entry call d b
    by_begun (inl begun) =
        let a = asks entry call d b at begun in
        record { device = a.device; there = a.there; owing = asks_owing entry call d b a; place = by_way a a.begun.1 }
    by_begun (inr not) =
        let g = goes entry d b at call well.sound not in
        record {
          device = g.device;
          there = g.there;
          owing = goes_owing d g.device g.keeps;
          place = ap (λ o. (listed o ++ listed (taken_back_in entry call b)) ++ waits g.device) (out_is entry call d g.device b at g.there ∙ none_out d g.device g.keeps)
              ∙ g.place;
        }

-- ---- a POLL stands between two orders

heard_by : (entry : ℕ) (last : Call) (between : List Call) (b : BusState) → Well b → (d : Entry) → device_of entry b ≡ Some d → Owes d
    → is_some (goes_out entry last (after_calls between b)) ≡ true → heard_along entry (between ++ last ∷ []) b ≡ true
heard_by entry last [] b well d at owes goes_last =
    let c = comes entry last d b well at in
    by_heard (heard d c.device) refl (heard_is entry last d c.device b at c.there) (out_is entry last d c.device b at c.there)
    (λ bound. (let o = c.owing in (o.keeps owes bound).0))
  where
    by_heard : (t : Bool) {o : Option Command} {h : Bool} → h ≡ t → is_heard entry last b ≡ h → goes_out entry last b ≡ o → (h ≡ false → o ≡ None)
        → heard_along entry (last ∷ []) b ≡ true
    by_heard true is_so is goes_is none = ap (λ t. t || false) (is ∙ is_so)
    by_heard false bound is goes_is none = not_some (goes_out entry last b) (goes_is ∙ none bound) goes_last
heard_by entry last (call ∷ between) b well d at owes goes_last =
    let c = comes entry call d b well at in
    by_heard (heard d c.device) refl (heard_is entry call d c.device b at c.there)
    (λ bound. heard_by entry last between (after_call call b) (well_call call b well) c.device c.there (let o = c.owing in (o.keeps owes bound).1) goes_last)
  where
    by_heard : (t : Bool) {h : Bool} → h ≡ t → is_heard entry call b ≡ h → (h ≡ false → heard_along entry (between ++ last ∷ []) (after_call call b) ≡ true)
        → heard_along entry (call ∷ (between ++ last ∷ [])) b ≡ true
    by_heard true is_so is on = ap (λ t. t || heard_along entry (between ++ last ∷ []) (after_call call b)) (is ∙ is_so)
    by_heard false bound is on = ap (λ t. t || heard_along entry (between ++ last ∷ []) (after_call call b)) (is ∙ bound) ∙ on bound

-- an entry that there isn't yet

is_past : {X : Type 0} (xs : List X) (i : ℕ) → slice_get xs i ≡ None → length xs ≤ i
is_past xs i none = elim (slice_get_cases xs i).1 [
  | inl here ↦ absurd (let some = here.2 in cc)
  | inr past ↦ past.0
]

nothing_at : {X : Type 0} (xs : List X) (i : ℕ) → length xs ≤ i → slice_get xs i ≡ None
nothing_at xs i past = elim (slice_get_cases xs i).1 [
  | inl here ↦ absurd (omega (arith, here.1, past))
  | inr past ↦ past.1
]

-- it is still none, or new
abbrev pub Fresh : ℕ → BusState → Type 0
Fresh entry b = (device_of entry b ≡ None) ⊎ ((address : ℕ) × (config : BusConfig) × (device_of entry b ≡ Some (new_device address config)))

pushed : (xs : List Entry) (y : Entry) (i : ℕ) → slice_get xs i ≡ None → (slice_get (xs ++ y ∷ []) i ≡ None) ⊎ (slice_get (xs ++ y ∷ []) i ≡ Some y)
pushed [] y zero none = inr refl
pushed [] y (suc i) none = inl refl
pushed (x ∷ xs) y zero none = absurd cc
pushed (x ∷ xs) y (suc i) none = pushed xs y i none

after_added : (f : Option BusFault) (entry address : ℕ) (b : BusState) → device_of entry b ≡ None → Fresh entry (changed_unless f b (after_add address b))
after_added (Some fault) entry address b none = inl none
after_added None entry address b none = by_place (pushed b.devices.entries (new_device address b.config) entry none)
  where
    by_place : (device_of entry (after_add address b) ≡ None) ⊎ (device_of entry (after_add address b) ≡ Some (new_device address b.config)) → Fresh entry (after_add address b)
    by_place (inl still) = inl still
    by_place (inr new) = inr (address, b.config, new)

still_none : (entry : ℕ) (call : Call) (b : BusState) → device_of entry b ≡ None → length (after_call call b).devices.entries ≡ length b.devices.entries
    → device_of entry (after_call call b) ≡ None
still_none entry call b none same =
    nothing_at (after_call call b).devices.entries entry (let past = is_past b.devices.entries entry none in omega (arith, past, same))

pub fresh : (call : Call) (entry : ℕ) (b : BusState) → device_of entry b ≡ None → Fresh entry (after_call call b)
fresh (Add address) entry b none = after_added (add_refusal address b) entry address b none
fresh call entry b none = inl (still_none entry call b none (counts (length b.devices.entries) call b tt refl))

pub fresh_out : (entry : ℕ) (call : Call) (b : BusState) → device_of entry b ≡ None → goes_out entry call b ≡ None
fresh_out entry call b none =
    asks_out (asked_at entry b) (asked_at entry (after_call call b)) None (ap (λ o. option_map_or asked o None) none) (by_fresh (fresh call entry b none))
  where
    by_fresh : Fresh entry (after_call call b) → asked_at entry (after_call call b) ≡ None
    by_fresh (inl still) = ap (λ o. option_map_or asked o None) still
    by_fresh (inr (address, config, new)) = ap (λ o. option_map_or asked o None) new

pub setting_of : (entry : ℕ) (d : Entry) (b : BusState) → Well b → device_of entry b ≡ Some d → d.controller.session.config.poll_between_orders ≡ b.config.poll_between_orders
setting_of entry d b well at = let kept = well.devices entry d at in ap (λ (c : ControllerConfig). c.poll_between_orders) kept.config

pub polls_stand : (b : BusState) → Well b → PollsStandBetween b
polls_stand b well on entry first last between goes_first goes_last = by_device (device_of entry b) refl
  where
    by_device : (o : Option Entry) → device_of entry b ≡ o → heard_along entry (between ++ last ∷ []) (after_call first b) ≡ true
    by_device None none = not_some (goes_out entry first b) (fresh_out entry first b none) goes_first
    by_device (Some d) at =
        let c = comes entry first d b well at in
        let some = sym (ap (λ (o : Option Command). is_some o) (out_is entry first d c.device b at c.there)) ∙ goes_first in
        heard_by entry last between (after_call first b) (well_call first b well) c.device c.there
        (let o = c.owing in o.owes (setting_of entry d b well at ∙ on) some) goes_last

-- ---- each order has its place

none_accepted : (entry : ℕ) (call : Call) (b : BusState) → device_of entry b ≡ None → accepted_in entry call b ≡ None
none_accepted entry (Submit at c) b none = by_same (at == entry) refl
  where
    by_same : (t : Bool) → (at == entry) ≡ t → (if t && is_none (submit_refusal_at at c b) then Some c else None) ≡ None
    by_same false apart = refl
    by_same true same =
        ap (λ n. if is_none (submit_refusal_at n c b) then Some c else None) (eqb-true at entry same)
        ∙ ap (λ o. if is_none (submit_refusal_of entry c o b) then Some c else None) none
none_accepted entry _ b none = refl

none_back : (entry : ℕ) (call : Call) (b : BusState) → device_of entry b ≡ None → taken_back_in entry call b ≡ None
none_back entry (Withdraw at) b none = by_same (at == entry) refl
  where
    by_same : (t : Bool) → (at == entry) ≡ t → (if t then given (withdrawal_at at b) else None) ≡ None
    by_same false apart = refl
    by_same true same = ap (λ n. given (withdrawal_at n b)) (eqb-true at entry same) ∙ ap (λ o. given (withdrawal_of o)) none
none_back entry _ b none = refl

pub one_place : (entry : ℕ) (call : Call) (b : BusState) → Well b
    → (listed (goes_out entry call b) ++ listed (taken_back_in entry call b)) ++ waiting_orders entry (after_call call b)
    ≡ waiting_orders entry b ++ listed (accepted_in entry call b)
one_place entry call b well = by_device (device_of entry b) refl
  where
    none_waits : Fresh entry (after_call call b) → waiting_orders entry (after_call call b) ≡ []
    none_waits (inl still) = ap (λ o. option_map_or waits o []) still
    none_waits (inr (address, config, new)) = ap (λ o. option_map_or waits o []) new

    by_device : (o : Option Entry) → device_of entry b ≡ o
        → (listed (goes_out entry call b) ++ listed (taken_back_in entry call b)) ++ waiting_orders entry (after_call call b)
        ≡ waiting_orders entry b ++ listed (accepted_in entry call b)
    by_device None none =
        ap (λ o. (listed o ++ listed (taken_back_in entry call b)) ++ waiting_orders entry (after_call call b)) (fresh_out entry call b none)
        ∙ ap (λ o. listed o ++ waiting_orders entry (after_call call b)) (none_back entry call b none)
        ∙ none_waits (fresh call entry b none)
        ∙ sym (ap (λ o. waiting_orders entry b ++ listed o) (none_accepted entry call b none) ∙ append-nil (waiting_orders entry b) ∙ ap (λ o. option_map_or waits o []) none)
    by_device (Some d) at =
        let c = comes entry call d b well at in
        ap (λ l. (listed (goes_out entry call b) ++ listed (taken_back_in entry call b)) ++ l) (waiting_is entry c.device (after_call call b) c.there)
        ∙ c.place
        ∙ sym (ap (λ l. l ++ listed (accepted_in entry call b)) (waiting_is entry d b at))

-- two stretches in a row are one
both_places : (a b last now next w more : List Command) → a ++ next ≡ w ++ now → b ++ last ≡ next ++ more → (a ++ b) ++ last ≡ w ++ (now ++ more)
both_places a b last now next w more e f =
    append_assoc a b last ∙ (ap (λ l. a ++ l) f ∙ (sym (append_assoc a next more) ∙ (ap (λ l. l ++ more) e ∙ append_assoc w now more)))

pub keep_their_places : (b : BusState) → Well b → OrdersKeepTheirPlaces b
keep_their_places b well entry [] = sym (append-nil (waiting_orders entry b))
keep_their_places b well entry (call ∷ calls) =
    both_places (listed (goes_out entry call b) ++ listed (taken_back_in entry call b)) (left entry calls (after_call call b))
    (waiting_orders entry (after_calls calls (after_call call b))) (listed (accepted_in entry call b)) (waiting_orders entry (after_call call b)) (waiting_orders entry b)
    (accepted entry calls (after_call call b)) (one_place entry call b well)
    (keep_their_places (after_call call b) (well_call call b well) entry calls)
