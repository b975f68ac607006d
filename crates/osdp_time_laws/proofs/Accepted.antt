-- An order from its acceptance on: what is left of the exchange that is outstanding then.
use Rattle.osdp_time_laws.proofs.Common.{◌≡◌, ◌∙◌, ap, sym, subst, inl, ℕ, zero, suc, ◌+◌, ◌-◌, ◌*◌, ◌≤◌, true, List, [], ◌∷◌, length, Option, Some, None, refl, arith, mul-zero, suc-mul, length-append, Command, ControllerConfig, ControllerFault, Session, State, Waiting, Pausing, IsState, Machine, after_submit, changed_unless, is_outstanding, submit_refusal, Call, Submit, after_call, after_calls, AcceptedOrdersGoOut, WaitsItsTime, order_time}
use Rattle.std.proofs.lemmas.Nat.{mul-le}
use Rattle.osdp_time_laws.proofs.Beginnings.{on_from, one_less, whole, whole_is}
use Rattle.osdp_time_laws.proofs.Duties.{due_anew}
use Rattle.osdp_time_laws.proofs.Orders.{first_fits_order, next_product, orders}
use Rattle.osdp_time_laws.proofs.Phases.{Holds, Phase}

-- a pause follows a BUSY
some_busy : (sends busies sent : ℕ) → 1 ≤ sent → sent ≤ sends * busies + 0 → 1 ≤ busies
some_busy sends zero sent some few = absurd (let none : sends * 0 ≡ 0 = mul-zero sends in omega arith)
some_busy sends (suc busies) sent some few = omega arith

-- arithmetic on moments alone: of the sends and of the BUSY answers some are left
sends_fit : (g wait late a b x y : ℕ) → a ≤ x → b ≤ y → (g + wait) + late + (a + b) ≤ g + (((wait + late) + x) + y)
sends_fit g wait late a b x y fewer less = omega arith

pause_fits : (g wait late s b y : ℕ) → b + ((wait + late) + s) ≤ y → (g + wait) + late + (s + b) ≤ g + (s + y)
pause_fits g wait late s b y less = omega arith

pause_near : (g wait late s b y : ℕ) → b + ((wait + late) + s) ≤ y → (g + wait) + late ≤ g + (s + y)
pause_near g wait late s b y less = omega arith

-- one BUSY less and its cost
one_busy : (left limit cost : ℕ) → left + 1 ≤ limit → left * cost + cost ≤ limit * cost
one_busy left limit cost less =
    subst (λ (n : ℕ). n ≤ limit * cost) (suc-mul left cost) (mul-le (suc left) cost limit cost (omega arith) (omega arith))

-- what is left of an outstanding exchange
pub phase_now : (late more : ℕ) (calls : List Call) (c : ControllerConfig) (g : ℕ) (state : State) → IsState c state → WaitsItsTime c g state
    → is_outstanding state ≡ true → c.sends ≡ more + 1 → Phase late (g + whole late more c.busy_limit c) c more (Unit {0}) calls state g
phase_now late more calls c g (Waiting until sends o) is near out many =
    let one = c.reply_wait + late in
    let pause = (c.busy_wait + late) + (one + more * one) in
    let few : (more + 1) - sends ≤ more = let some : 1 ≤ sends = is.0 in omega arith in
    let less : c.busy_limit - o.busies ≤ c.busy_limit = omega arith in
    let allowed : o.busies ≤ c.busy_limit = is.2.busies in
    let most : sends ≤ c.sends = is.1 in
    record {
      by_moment = g + c.reply_wait;
      busies_left = c.busy_limit - o.busies;
      sends_left = (more + 1) - sends;
      due = due_anew late until g c.reply_wait calls near;
      left = inl (omega arith);
      enough = omega arith;
      fits = sends_fit g c.reply_wait late (((more + 1) - sends) * one) ((c.busy_limit - o.busies) * pause) (more * one) (c.busy_limit * pause)
          (mul-le ((more + 1) - sends) one more one few (omega arith)) (mul-le (c.busy_limit - o.busies) pause c.busy_limit pause less (omega arith));
    }
phase_now late more calls c g (Pausing until o) is near out many =
    let one = c.reply_wait + late in
    let round = one + more * one in
    let pause = (c.busy_wait + late) + round in
    let some : 1 ≤ o.busies = some_busy c.sends o.busies o.sent is.some is.sent in
    let allowed : o.busies ≤ c.busy_limit = is.busies in
    let left = c.busy_limit - o.busies in
    let cost : left * pause + pause ≤ c.busy_limit * pause = one_busy left c.busy_limit pause (omega arith) in
    record {
      by_moment = g + c.busy_wait;
      busies_left = left;
      due = due_anew late until g c.busy_wait calls near;
      near = pause_near g c.busy_wait late round (left * pause) (c.busy_limit * pause) cost;
      left = inl (omega arith);
      fits = λ counts. pause_fits g c.busy_wait late round (left * pause) (c.busy_limit * pause) cost;
    }
phase_now late more calls c g _ is near out many = cc

-- where it is accepted
after_accepted : (f : Option ControllerFault) (command : Command) (m : Machine) → f ≡ None → changed_unless f m (after_submit command m) ≡ after_submit command m
after_accepted None command m is = refl
after_accepted (Some fault) command m is = cc

one_place : (j k : ℕ) → j + 1 ≡ suc k → j ≡ k
one_place j k same = omega arith

begins_in : (g n j w late : ℕ) → n ≡ g → n ≤ g + (j + (w + late))
begins_in g n j w late same = omega arith

due_in : (g n w late : ℕ) → n ≡ g → n ≤ g + w + late
due_in g n w late same = omega arith

in_it : (g n w : ℕ) → n ≡ g → n ≤ g + w
in_it g n w same = omega arith

pub accepted_orders_go_out : AcceptedOrdersGoOut
accepted_orders_go_out late command calls m a =
    let s = m.session in
    let c = s.config in
    let k = after_call (Submit command) m in
    let is : k ≡ after_submit command m = after_accepted (submit_refusal command m) command m a.accepted in
    let before = length m.waiting in
    let sends = one_less c.sends a.machine.session.config.sends.0 in
    let w = whole late sends.0 c.busy_limit c in
    let end = s.greatest + (before * (w + late) + (w + late)) in
    let same : k.session ≡ s = ap (λ (x : Machine). x.session) is in
    let moment : k.session.greatest ≡ s.greatest = ap (λ (x : Machine). x.session.greatest) is in
    let wait : length k.waiting ≡ before + 1 = ap (λ (x : Machine). length x.waiting) is ∙ length-append m.waiting (command ∷ []) in
    let holds : is_outstanding s.state ≡ true → Holds late (s.greatest + w) c sends.0 (Unit {0}) is_outstanding refl calls s =
    λ on. (on_from s.greatest w, λ so. (refl, phase_now late sends.0 calls c s.greatest s.state a.machine.session.state a.timely on sends.1)) in
    let last : (after_calls calls k).session.greatest ≤ end =
    orders late end c sends.0 sends.1 a.in_a_row (before + 1) calls k a.lasts a.in_time (
      begins_in s.greatest k.session.greatest (before * (w + late)) w late moment,
      λ so j left. let place : before ≡ j = one_place before j left in record {
        config = ap (λ (x : Session). x.config) same;
        wait = omega arith;
        by_end = s.greatest + w;
        fits = subst (λ (n : ℕ). s.greatest + w + late + n * (w + late) ≤ end) place (first_fits_order s.greatest w late (before * (w + late)));
        stage = (
          subst (λ (x : Session). is_outstanding x.state ≡ true → Holds late (s.greatest + w) c sends.0 (Unit {0}) is_outstanding refl calls x) (sym same) holds,
          λ none. (due_in s.greatest k.session.greatest w late moment, inl (omega arith, in_it s.greatest k.session.greatest w moment)),
        );
      },
    ) in
    subst (λ (g : ℕ). (after_calls calls k).session.greatest ≤ g + order_time c late before) (sym moment)
    (subst (λ (n : ℕ). (after_calls calls k).session.greatest ≤ s.greatest + (before + 1) * (n + late)) (whole_is late sends.0 c.busy_limit c sends.1)
    (subst (λ (n : ℕ). (after_calls calls k).session.greatest ≤ s.greatest + n) (sym (next_product before (w + late))) last))
