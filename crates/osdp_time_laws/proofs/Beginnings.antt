-- What an exchange, and a session, may take from its beginning on.
use Rattle.osdp_time_laws.proofs.Common.{◌≡◌, ◌∙◌, ◌⊎◌, ap, sym, subst, inl, inr, ℕ, zero, suc, ◌+◌, ◌*◌, ◌≤◌, Bool, true, ◌&&◌, ◌==◌, List, [], ◌∷◌, refl, arith, All, is_some, nat_le, nat_lt, add_comm, suc-mul, eqb-true, next_sequence, Command, ControllerConfig, Opening, Polling, Asking, Session, State, Closed, Quiet, Idle, Waiting, Pausing, IsMachine, IsState, Machine, after_begin, changed_unless, is_outstanding, refused_unless_closed, sent_in, later, seen, is_closed, Ticked, begins, gives_up, sends_frame, stays, ticks_in, tries_again, either_way, idle_way, Call, Begin, Tick, after_call, after_calls, KeepsTime, Stays, ExchangesEnd, GoesOn, IsNotBusy, LastsAtMost, OpeningsEnd, is_opening, is_quiet}
use Rattle.osdp_controller.specs.declared.exchange.Exchange.{Exchange}
use Rattle.osdp_time_laws.specs.Bounds.{exchange_time, opening_time, round_time}
use Rattle.osdp_time_laws.proofs.Duties.{due_anew}
use Rattle.osdp_time_laws.proofs.Ends.{ends, tick_at_moment}
use Rattle.osdp_time_laws.proofs.Phases.{Holds, Ready, Sent, later_within}

-- a number above 0 is one more than another
pub one_less : (n : ℕ) → 1 ≤ n → (k : ℕ) × (n ≡ k + 1)
one_less zero some = absurd (omega arith)
one_less (suc k) some = (k, omega arith)

-- the round of sends, by the sends after the first
pub round_is : (late more : ℕ) (c : ControllerConfig) → c.sends ≡ more + 1 → round_time c late ≡ (c.reply_wait + late) + more * (c.reply_wait + late)
round_is late more c many =
    let next : c.sends ≡ suc more = many ∙ omega arith in
    ap (λ (n : ℕ). n * (c.reply_wait + late)) next ∙ suc-mul more (c.reply_wait + late) ∙ add_comm (more * (c.reply_wait + late)) (c.reply_wait + late)

-- the longest exchange, likewise
abbrev pub whole : ℕ → ℕ → ℕ → ControllerConfig → ℕ
whole late more q c =
    (c.reply_wait + late) + more * (c.reply_wait + late) + q * ((c.busy_wait + late) + ((c.reply_wait + late) + more * (c.reply_wait + late)))

pub whole_is : (late more q : ℕ) (c : ControllerConfig) → c.sends ≡ more + 1 → whole late more q c ≡ exchange_time c late q
whole_is late more q c many = ap (λ (r : ℕ). r + q * ((c.busy_wait + late) + r)) (sym (round_is late more c many))

pub no_busy : (n p : ℕ) → n + 0 * p ≡ n
no_busy n p = omega arith

-- arithmetic on moments alone
sent_fits : (g wait late m q : ℕ) → (g + wait) + late + (m + q) ≤ g + (((wait + late) + m) + q)
sent_fits g wait late m q = omega arith

pub on_from : (g n : ℕ) → g ≤ g + n
on_from g n = omega arith

quiet_fits : (g wait late w : ℕ) → (g + wait) + late + w ≤ g + (wait + late + w)
quiet_fits g wait late w = omega arith

-- so many BUSY answers are allowed, or none is read
abbrev pub Few : ControllerConfig → ℕ → List Call → Type 0
Few c q calls = (0 + q ≡ c.busy_limit) ⊎ All IsNotBusy calls

-- ---- an exchange

abbrev pub Begins : Ticked → Type 0
Begins t = (is_some t.step.frame && sent_in t.session.state == 1) ≡ true

abbrev pub Begun : ℕ → ℕ → ℕ → List Call → Session → Ticked → Type 0
Begun late more q calls s t =
    Begins t → Holds late (s.greatest + whole late more q s.config) s.config more (Unit {0}) is_outstanding refl calls t.session

pub first_sent : (late more q until : ℕ) (calls : List Call) (s : Session) → Few s.config q calls → until ≤ s.greatest + s.config.reply_wait
    → Sent late (s.greatest + whole late more q s.config) s.config more (Unit {0}) until 1 0 s.greatest calls
first_sent late more q until calls s few before = record {
  by_moment = s.greatest + s.config.reply_wait;
  busies_left = q;
  sends_left = more;
  due = due_anew late until s.greatest s.config.reply_wait calls before;
  left = few;
  enough = omega arith;
  fits = sent_fits s.greatest s.config.reply_wait late (more * (s.config.reply_wait + late))
      (q * ((s.config.busy_wait + late) + ((s.config.reply_wait + late) + more * (s.config.reply_wait + late))));
}

pub begun_new : (late more q : ℕ) (calls : List Call) (x : Exchange) (number : ℕ) (s : Session) (w : List Command) → Few s.config q calls
    → Begun late more q calls s (begins x number s w)
begun_new late more q calls x number s w few =
    λ begins_so. (
      on_from s.greatest (whole late more q s.config),
      λ so. (refl, first_sent late more q (later s.config.reply_wait s) calls s few (later_within s.config.reply_wait s)),
    )

not_first : {A : Type 0} (sent : ℕ) → 1 ≤ sent → (true && (sent + 1 == 1)) ≡ true → A
not_first sent some h = absurd (let same : sent + 1 ≡ 1 = eqb-true (sent + 1) 1 h in omega arith)

pub begun_tick : (late more q : ℕ) (calls : List Call) (state : State) (s : Session) (w : List Command) → Few s.config q calls → IsState s.config state
    → Begun late more q calls s (ticks_in state s w)
begun_tick late more q calls Closed s w few is = λ h. cc
begun_tick late more q calls (Quiet until) s w few is =
    either_way (Begun late more q calls s) (nat_le until s.greatest) (begins Opening 0 s w) (stays s w)
    (λ b. begun_new late more q calls Opening 0 s w few) (λ b h. cc)
begun_tick late more q calls (Idle due) s w few is =
    idle_way (Begun late more q calls s) due s w (λ b. begun_new late more q calls Polling (next_sequence s.number) s w few) (λ b h. cc)
    (λ command rest has. begun_new late more q calls (Asking command) (next_sequence s.number) s rest few)
begun_tick late more q calls (Waiting until sends o) s w few is =
    either_way (Begun late more q calls s) (nat_le until s.greatest) (tries_again sends o s w) (stays s w)
    (λ b. either_way (Begun late more q calls s) (nat_lt sends s.config.sends) (sends_frame (sends + 1) o s w) (gives_up o s w)
    (λ f. not_first o.sent is.2.some) (λ f h. cc))
    (λ b h. cc)
begun_tick late more q calls (Pausing until o) s w few is =
    either_way (Begun late more q calls s) (nat_le until s.greatest) (sends_frame 1 o s w) (stays s w)
    (λ b. not_first o.sent is.some) (λ b h. cc)

exchange_ends : (late now q : ℕ) (calls : List Call) (m : Machine) → GoesOn late now calls m → Few m.session.config q calls
    → LastsAtMost (exchange_time m.session.config late q) (Tick now) calls m
exchange_ends late now q calls m goes few =
    let s = seen now m.session in
    let sends = one_less m.session.config.sends goes.machine.session.config.sends.0 in
    let first = begun_tick late sends.0 q calls m.session.state s m.waiting few goes.machine.session.state goes.begins in
    let after = after_calls calls (after_call (Tick now) m) in
    let last : after.session.greatest ≤ s.greatest + whole late sends.0 q m.session.config =
    ends late (s.greatest + whole late sends.0 q m.session.config) m.session.config sends.0 (Unit {0}) is_outstanding refl (λ until n o so. tt) sends.1
    calls (after_call (Tick now) m) (inl (λ due. refl)) goes.lasts goes.in_time first in
    subst (λ (g : ℕ). after.session.greatest ≤ g + exchange_time m.session.config late q) (sym (tick_at_moment now m))
    (subst (λ (n : ℕ). after.session.greatest ≤ s.greatest + n) (whole_is late sends.0 q m.session.config sends.1) last)

pub exchanges_end : (late now : ℕ) (calls : List Call) (m : Machine) → ExchangesEnd late now calls m
exchanges_end late now calls m = record {
  at_most = λ goes. exchange_ends late now m.session.config.busy_limit calls m goes (inl (omega arith));
  without_busy = λ goes none.
      subst (λ (n : ℕ). LastsAtMost n (Tick now) calls m)
      (no_busy (round_time m.session.config late) (m.session.config.busy_wait + late + round_time m.session.config late))
      (exchange_ends late now 0 calls m goes (inr none));
}

-- ---- an opening

begun_quiet : (state : State) (m new : Machine) → is_closed state ≡ true → changed_unless (refused_unless_closed state) m new ≡ new
begun_quiet Closed m new closed = refl
begun_quiet _ m new closed = cc

quiet_ready : (late end : ℕ) (more q : ℕ) (Counts : Type 0) (calls : List Call) (s : Session) → Few s.config q calls
    → s.greatest + s.config.quiet_wait + late ≤ end
    → (Counts → s.greatest + s.config.quiet_wait + late + whole late more q s.config ≤ end)
    → Ready late end s.config more Counts (later s.config.quiet_wait s) 0 s.greatest calls
quiet_ready late end more q Counts calls s few near fits = record {
  by_moment = s.greatest + s.config.quiet_wait;
  busies_left = q;
  due = due_anew late (later s.config.quiet_wait s) s.greatest s.config.quiet_wait calls (later_within s.config.quiet_wait s);
  near = near;
  left = few;
  fits = fits;
}

abbrev LastsFrom : ℕ → (State → Bool) → ℕ → List Call → Machine → Type 0
LastsFrom late test time calls k =
    Stays test calls k → KeepsTime late calls k → (after_calls calls k).session.greatest ≤ k.session.greatest + time

opening_ends : (late now : ℕ) (calls : List Call) (m : Machine) → IsMachine m
    → LastsFrom late is_opening (opening_time m.session.config late) calls (after_begin now m)
opening_ends late now calls m is stay in_time =
    let s = seen now m.session in
    let c = m.session.config in
    let sends = one_less c.sends is.session.config.sends.0 in
    let time = c.quiet_wait + late + whole late sends.0 c.busy_limit c in
    let near = on_from s.greatest time in
    let fits = quiet_fits s.greatest c.quiet_wait late (whole late sends.0 c.busy_limit c) in
    let last : (after_calls calls (after_begin now m)).session.greatest ≤ s.greatest + time =
    ends late (s.greatest + time) c sends.0 (Unit {0}) is_opening refl (λ until n o so. tt) sends.1 calls (after_begin now m) (inl (λ due. refl)) stay in_time
    (near, λ so. (refl, quiet_ready late (s.greatest + time) sends.0 c.busy_limit (Unit {0}) calls s (inl (omega arith)) (omega arith) (λ counts. fits))) in
    subst (λ (n : ℕ). (after_calls calls (after_begin now m)).session.greatest ≤ s.greatest + (c.quiet_wait + late + n))
    (whole_is late sends.0 c.busy_limit c sends.1) last

quiet_ends : (late now : ℕ) (calls : List Call) (m : Machine) → IsMachine m
    → LastsFrom late is_quiet (m.session.config.quiet_wait + late) calls (after_begin now m)
quiet_ends late now calls m is stay in_time =
    let s = seen now m.session in
    let c = m.session.config in
    let sends = one_less c.sends is.session.config.sends.0 in
    ends late (s.greatest + (c.quiet_wait + late)) c sends.0 ⊥ is_quiet refl (λ until n o so. cc) sends.1 calls (after_begin now m) (inl (λ due. refl)) stay in_time (
      on_from s.greatest (c.quiet_wait + late),
      λ so. (refl, quiet_ready late (s.greatest + (c.quiet_wait + late)) sends.0 c.busy_limit ⊥ calls s (inl (omega arith)) (omega arith) (λ counts. absurd counts)),
    )

-- a session that begins is quiet, where none stood
from_begin : (late now : ℕ) (test : State → Bool) (time : ℕ) (calls : List Call) (m : Machine) → is_closed m.session.state ≡ true
    → LastsFrom late test time calls (after_begin now m) → LastsFrom late test time calls (after_call (Begin now) m)
from_begin late now test time calls m closed from =
    subst (LastsFrom late test time calls) (sym (begun_quiet m.session.state m (after_begin now m) closed)) from

pub openings_end : (late now : ℕ) (calls : List Call) (m : Machine) → OpeningsEnd late now calls m
openings_end late now calls m = record {
  at_most = λ o. from_begin late now is_opening (opening_time m.session.config late) calls m o.begins (opening_ends late now calls m o.machine) o.lasts o.in_time;
  first_frame = λ o quiet.
      from_begin late now is_quiet (m.session.config.quiet_wait + late) calls m o.begins (quiet_ends late now calls m o.machine) quiet o.in_time;
}
