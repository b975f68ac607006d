-- An order in time: one exchange after the other.
use Rattle.osdp_time_laws.proofs.Common.{◌≡◌, ◌∙◌, ap, sym, subst, inl, ℕ, zero, suc, ◌+◌, ◌-◌, ◌*◌, ◌≤◌, ◌<◌, Bool, true, false, ◌&&◌, List, [], ◌∷◌, length, Option, Some, None, refl, arith, drop, if◌then◌else◌, max, nat_le, nat_lt, suc-mul, length-append, next_sequence, Command, ControllerConfig, Opening, Polling, Asking, ControllerFault, Session, State, Closed, Quiet, Idle, Waiting, Pausing, Heard, Machine, acts, after_begin, after_retarget, after_submit, changed_unless, is_outstanding, submit_refusal, seen, is_closed, is_idle, Ticked, begins, gives_up, sends_frame, stays, ticks_in, tries_again, either_way, asks_front, idle_way, is_poll_next, Call, Submit, Begin, Retarget, Withdraw, Tick, Hear, after_call, after_calls, hears_at_moment, submit_session, IsBy, IsOwed, KeepsTime, TicksBy, is_tick, order_time, OrdersGoOut, Waits, is_under_way, left_after}
use Rattle.std.specs.Prelude.{is_some, slice_get}
use Rattle.osdp_controller.specs.Held.{on_its_way}
use Rattle.osdp_controller_laws.proofs.Stepwise.{frames_in_steps}
use Rattle.osdp_controller_laws.proofs.Ticks.{takes_front}
use Rattle.osdp_time_laws.proofs.Beginnings.{begun_new, begun_tick, one_less, whole, whole_is}
use Rattle.osdp_time_laws.proofs.Duties.{Due, due_kept, due_seen}
use Rattle.osdp_time_laws.proofs.Ends.{begun_not, moved_not, step, tick_at_moment}
use Rattle.osdp_time_laws.proofs.Phases.{Holds}
use Rattle.osdp_time_laws.proofs.Silence.{frame_rests}

pub lives : (state : State) → is_under_way state ≡ true → is_closed state ≡ false
lives Closed so = cc
lives _ so = refl

-- what one more exchange costs
next_fits : (e late x j g end : ℕ) → g ≤ e + late → e + late + (j + (x + late)) ≤ end → (g + x) + late + j ≤ end
next_fits e late x j g end within fits = omega arith

not_idle : (state : State) → is_outstanding state ≡ true → is_idle state ≡ false
not_idle (Waiting until sends o) out = refl
not_idle (Pausing until o) out = refl
not_idle _ out = cc

pub at_rest : (state : State) → is_under_way state ≡ true → is_outstanding state ≡ false → is_idle state ≡ true
at_rest (Idle due) so none = refl
at_rest _ so none = cc

stands_out : (state : State) → is_outstanding state ≡ true → is_closed state ≡ false
stands_out (Waiting until sends o) out = refl
stands_out (Pausing until o) out = refl
stands_out _ out = cc

-- no command leaves but by a tick, and the front may be taken back: then the order has its place one sooner
submit_waits : (f : Option ControllerFault) (command : Command) (m : Machine) (n : ℕ) → n ≤ length m.waiting
    → n ≤ length (changed_unless f m (after_submit command m)).waiting
submit_waits None command m n some = let both = length-append m.waiting (command ∷ []) in omega arith
submit_waits (Some fault) command m n some = some

taken_back : (o : Option Command) (w : List Command) (j k : ℕ) → j + 1 ≤ length w
    → (if is_some (if is_some o then None else slice_get w 0) then suc j - 1 else suc j) ≡ suc k
    → (k ≤ j) × (k + 1 ≤ length (if is_some o then w else drop 1 w))
taken_back (Some c) w j k some left = let same : suc j ≡ suc k = left in (omega arith, omega arith)
taken_back None [] j k some left = absurd (omega arith)
taken_back None (c ∷ w) j k some left =
    let sooner : suc j - 1 ≡ suc k = left in
    let within : j + 1 ≤ suc (length w) = some in
    (omega arith, omega arith)

-- after a call that asks none the order waits on, with no more before it
goes_on : (call : Call) (m : Machine) (j k : ℕ) → is_closed m.session.state ≡ false → (is_tick call ≡ true → is_idle m.session.state ≡ false)
    → j + 1 ≤ length m.waiting → left_after call m (suc j) ≡ suc k → (k ≤ j) × (k + 1 ≤ length (after_call call m).waiting)
goes_on (Submit command) m j k stands busy some left =
    let same : suc j ≡ suc k = left in (omega arith, submit_waits (submit_refusal command m) command m (k + 1) (omega arith))
goes_on (Begin now) m j k stands busy some left =
    let same : suc j ≡ suc k = left in
    (omega arith, subst (λ (n : Machine). k + 1 ≤ length n.waiting) (sym (begun_not m.session.state m (after_begin now m) stands)) (omega arith))
goes_on (Retarget address) m j k stands busy some left =
    let same : suc j ≡ suc k = left in
    (omega arith, subst (λ (n : Machine). k + 1 ≤ length n.waiting) (sym (moved_not m.session.state address m (after_retarget address m) stands)) (omega arith))
goes_on Withdraw m j k stands busy some left = taken_back (on_its_way m.session.state) m.waiting j k some left
goes_on (Tick now) m j k stands busy some left =
    let same : suc j ≡ suc k = sym (ap (λ (b : Bool). if b then suc j - 1 else suc j) (busy refl)) ∙ left in
    (omega arith, subst (λ (w : List Command). k + 1 ≤ length w) (sym ((takes_front now m.session m.waiting).stay (busy refl))) (omega arith))
goes_on (Hear p now) m j k stands busy some left = let same : suc j ≡ suc k = left in (omega arith, omega arith)

less_product : (k j p : ℕ) → k ≤ j → k * p ≤ j * p
less_product zero j p le = omega arith
less_product (suc k) zero p le = absurd (omega (arith, le))
less_product (suc k) (suc j) p le =
    let rest : k * p ≤ j * p = less_product k j p (omega (arith, le)) in
    let one = suc-mul k p in
    let other = suc-mul j p in
    omega arith

fewer_fit : (e late p j k end : ℕ) → k ≤ j → e + late + j * p ≤ end → e + late + k * p ≤ end
fewer_fit e late p j k end le fits = let less = less_product k j p le in omega arith

-- the settings stay while the session goes on
abbrev SameConfig : Session → Ticked → Type 0
SameConfig s t = t.session.config ≡ s.config

tick_config : (state : State) (s : Session) (w : List Command) → SameConfig s (ticks_in state s w)
tick_config Closed s w = refl
tick_config (Quiet until) s w =
    either_way (SameConfig s) (nat_le until s.greatest) (begins Opening 0 s w) (stays s w) (λ b. refl) (λ b. refl)
tick_config (Idle due) s w = idle_way (SameConfig s) due s w (λ b. refl) (λ b. refl) (λ command rest has. refl)
tick_config (Waiting until sends o) s w =
    either_way (SameConfig s) (nat_le until s.greatest) (tries_again sends o s w) (stays s w)
    (λ b. either_way (SameConfig s) (nat_lt sends s.config.sends) (sends_frame (sends + 1) o s w) (gives_up o s w) (λ f. refl) (λ f. refl)) (λ b. refl)
tick_config (Pausing until o) s w =
    either_way (SameConfig s) (nat_le until s.greatest) (sends_frame 1 o s w) (stays s w) (λ b. refl) (λ b. refl)

-- an exchange ends: the settings are the same where the session goes on
rests_config : (call : Call) (m : Machine) → is_outstanding m.session.state ≡ true → is_idle (after_call call m).session.state ≡ true
    → (after_call call m).session.config ≡ m.session.config
rests_config (Submit command) m out idle = ap (λ (s : Session). s.config) (submit_session (submit_refusal command m) command m)
rests_config (Begin now) m out idle =
    ap (λ (k : Machine). k.session.config) (begun_not m.session.state m (after_begin now m) (stands_out m.session.state out))
rests_config (Retarget address) m out idle =
    ap (λ (k : Machine). k.session.config) (moved_not m.session.state address m (after_retarget address m) (stands_out m.session.state out))
rests_config Withdraw m out idle = refl
rests_config (Tick now) m out idle = tick_config m.session.state (seen now m.session) m.waiting
rests_config (Hear p now) m out idle = (frame_rests p now m.session out idle).0

-- orders go out one after the other
pub in_a_row : (s : Session) → s.config.poll_between_orders ≡ false → is_poll_next s ≡ false
in_a_row s alone = ap (λ (b : Bool). b && s.asked) alone

-- where nothing is outstanding, a command waits and no POLL comes first, a tick asks the command, at any moment
pub front_way : (P : Ticked → Type 0) (state : State) (s : Session) (w : List Command) → is_idle state ≡ true → is_poll_next s ≡ false → 1 ≤ length w
    → ((command : Command) (rest : List Command) → w ≡ command ∷ rest → P (begins (Asking command) (next_sequence s.number) s rest)) → P (ticks_in state s w)
front_way P (Idle due) s [] idle may some asked = absurd (omega arith)
front_way P (Idle due) s (command ∷ w) idle may some asked = subst P (sym (asks_front due s command w may)) (asked command w refl)
front_way P _ s w idle may some asked = cc

pub due_idle : (state : State) (s : Session) (w : List Command) → is_idle state ≡ true → is_poll_next s ≡ false → 1 ≤ length w
    → acts (ticks_in state s w).step ≡ true
due_idle state s w idle may some = front_way (λ (t : Ticked). acts t.step ≡ true) state s w idle may some (λ command rest has. refl)

left_one : (j : ℕ) (b : Bool) → b ≡ true → (if b then suc j - 1 else suc j) ≡ j
left_one j true same = omega arith
left_one j false same = cc

one_before : (before j : ℕ) → before + 1 ≡ suc j → before ≡ j
one_before before j same = omega arith

as_next : (n : ℕ) → n + 1 ≡ suc n
as_next n = omega arith

pub next_product : (n p : ℕ) → (n + 1) * p ≡ n * p + p
next_product n p = ap (λ (k : ℕ). k * p) (as_next n) ∙ suc-mul n p

module _ (late end : ℕ) (c : ControllerConfig) (more : ℕ) (many : c.sends ≡ more + 1) (alone : c.poll_between_orders ≡ false) where
  one_by_one : (s : Session) → s.config ≡ c → is_poll_next s ≡ false
  one_by_one s config = in_a_row s (ap (λ (k : ControllerConfig). k.poll_between_orders) config ∙ alone)

  -- the longest exchange, and what comes before the next
  abbrev pub x : ℕ
  x = whole late more c.busy_limit c

  -- the outstanding exchange ends by `e`; where none is, the next begins by `e` and so late
  abbrev pub Stage : ℕ → List Call → Session → Type 0
  Stage e calls s =
      (is_outstanding s.state ≡ true → Holds late e c more (Unit {0}) is_outstanding refl calls s)
      × (is_outstanding s.state ≡ false → Due late e 0 s.greatest calls)

  -- so many commands wait up to the order, with it
  pub record Under (j : ℕ) (calls : List Call) (m : Machine) : Type 0 where
    pub config : m.session.config ≡ c
    pub wait : j + 1 ≤ length m.waiting
    pub by_end : ℕ
    pub fits : by_end + late + j * (x + late) ≤ end
    pub stage : Stage by_end calls m.session

  abbrev pub Order : ℕ → List Call → Machine → Type 0
  Order left calls m =
      (m.session.greatest ≤ end) × (is_under_way m.session.state ≡ true → (j : ℕ) → left ≡ suc j → Under j calls m)

  within_end : (e rest g : ℕ) → g ≤ e → e + late + rest ≤ end → g ≤ end
  within_end e rest g near fits = omega arith

  due_in_end : (e rest g : ℕ) → g ≤ e + late → e + late + rest ≤ end → g ≤ end
  due_in_end e rest g near fits = omega arith

  -- while an exchange is outstanding
  module _ (e : ℕ) where
    abbrev Out : List Call → Session → Type 0
    Out calls s = Holds late e c more (Unit {0}) is_outstanding refl calls s

    config_by : (b : Bool) (call : Call) (calls : List Call) (m : Machine) → is_outstanding (after_call call m).session.state ≡ b
        → is_outstanding m.session.state ≡ true → m.session.config ≡ c → Out calls (after_call call m).session
        → is_under_way (after_call call m).session.state ≡ true → (after_call call m).session.config ≡ c
    config_by true call calls m is out config holds so = (holds.1 is).0
    config_by false call calls m is out config holds so = rests_config call m out (at_rest (after_call call m).session.state so is) ∙ config

    out_step : (j : ℕ) (call : Call) (calls : List Call) (m : Machine) → is_outstanding m.session.state ≡ true → m.session.config ≡ c
        → j + 1 ≤ length m.waiting → e + late + j * (x + late) ≤ end
        → ((at : ℕ) → IsOwed at call m → TicksBy (at + late) (call ∷ calls)) → Out (call ∷ calls) m.session
        → Order (left_after call m (suc j)) calls (after_call call m)
    out_step j call calls m out config wait fits owed holds =
        let after = step late e c more (Unit {0}) is_outstanding refl (λ until n o so. tt) many call calls m (inl (λ due. refl)) out owed holds in
        let on : (k : ℕ) → left_after call m (suc j) ≡ suc k → (k ≤ j) × (k + 1 ≤ length (after_call call m).waiting) =
        λ k left. goes_on call m j k (stands_out m.session.state out) (λ tick. not_idle m.session.state out) wait left in (
          within_end e (j * (x + late)) (after_call call m).session.greatest after.0 fits,
          λ so k left. record {
            config = config_by (is_outstanding (after_call call m).session.state) call calls m refl out config after so;
            wait = (on k left).1;
            by_end = e;
            fits = fewer_fit e late (x + late) j k end (on k left).0 fits;
            stage = (λ on. after, λ none. (omega (arith, after.0), inl (omega arith, after.0)));
          },
        )

    -- while none is
    due_then : (call : Call) (calls : List Call) (m : Machine) (next : ℕ) → is_closed m.session.state ≡ false → m.session.greatest ≤ next
        → ((limit : ℕ) → m.session.greatest ≤ limit → IsBy limit call → next ≤ limit)
        → ((at : ℕ) → m.session.greatest ≤ at → at ≤ next → TicksBy (at + late) (call ∷ calls))
        → Due late e 0 m.session.greatest (call ∷ calls) → Due late e 0 next (call ∷ calls)
    due_then call calls m next stands on by_limit duty due =
        due_seen late e 0 m.session.greatest next call calls on by_limit (λ at not_before not_after zero_so. duty at not_before not_after) due

    abbrev GoesOn : ℕ → Call → Machine → Type 0
    GoesOn j call m = (k : ℕ) → left_after call m (suc j) ≡ suc k → (k ≤ j) × (k + 1 ≤ length (after_call call m).waiting)

    idle_others : (j : ℕ) (call : Call) (calls : List Call) (m : Machine) → is_tick call ≡ false → is_outstanding (after_call call m).session.state ≡ false
        → (after_call call m).session.config ≡ c → GoesOn j call m → e + late + j * (x + late) ≤ end
        → Due late e 0 (after_call call m).session.greatest (call ∷ calls) → Order (left_after call m (suc j)) calls (after_call call m)
    idle_others j call calls m other still config on fits due = (
      due_in_end e (j * (x + late)) (after_call call m).session.greatest due.0 fits,
      λ so k left. record {
        config = config;
        wait = (on k left).1;
        by_end = e;
        fits = fewer_fit e late (x + late) j k end (on k left).0 fits;
        stage = (
          λ on. absurd (let none : is_outstanding (after_call call m).session.state ≡ false = still in cc),
          λ none. due_kept late e 0 (after_call call m).session.greatest call calls other due,
        );
      },
    )

    idle_same : (j : ℕ) (call : Call) (calls : List Call) (m : Machine) → is_tick call ≡ false → (after_call call m).session ≡ m.session
        → is_outstanding m.session.state ≡ false → is_idle m.session.state ≡ true → m.session.config ≡ c → is_closed m.session.state ≡ false
        → GoesOn j call m → e + late + j * (x + late) ≤ end → Due late e 0 m.session.greatest (call ∷ calls)
        → Order (left_after call m (suc j)) calls (after_call call m)
    idle_same j call calls m other same still idle config stands on fits due =
        idle_others j call calls m other (subst (λ (s : Session). is_outstanding s.state ≡ false) (sym same) still)
        (subst (λ (s : Session). s.config ≡ c) (sym same) config) on fits
        (subst (λ (s : Session). Due late e 0 s.greatest (call ∷ calls)) (sym same) due)

    -- the front command is asked
    abbrev Asked : ℕ → List Call → ℕ → Ticked → Type 0
    Asked j calls greatest t =
        (t.session.config ≡ c) × (j ≤ length t.waiting) × Holds late (greatest + x) c more (Unit {0}) is_outstanding refl calls t.session

    idle_asks : (j : ℕ) (calls : List Call) (state : State) (s : Session) (w : List Command) → is_idle state ≡ true → s.config ≡ c → j + 1 ≤ length w
        → Asked j calls s.greatest (ticks_in state s w)
    idle_asks j calls state s w idle config wait =
        let allowed : c.busy_limit ≡ s.config.busy_limit = ap (λ (k : ControllerConfig). k.busy_limit) (sym config) in
        let limit : 0 + c.busy_limit ≡ s.config.busy_limit = omega arith in
        front_way (Asked j calls s.greatest) state s w idle (one_by_one s config) (omega arith) (λ command rest has. (
          config,
          (let counted : length w ≡ suc (length rest) = ap (λ (l : List Command). length l) has in omega arith),
          subst (λ (k : ControllerConfig). Holds late (s.greatest + whole late more c.busy_limit k) k more (Unit {0}) is_outstanding refl calls
              (begins (Asking command) (next_sequence s.number) s rest).session) config
              (begun_new late more c.busy_limit calls (Asking command) (next_sequence s.number) s rest (inl limit) refl),
        ))

    idle_tick : (j now : ℕ) (calls : List Call) (m : Machine) → is_idle m.session.state ≡ true → m.session.config ≡ c
        → j + 1 ≤ length m.waiting → e + late + j * (x + late) ≤ end → max m.session.greatest now ≤ e + late
        → Order (left_after (Tick now) m (suc j)) calls (after_call (Tick now) m)
    idle_tick j now calls m idle config wait fits within =
        let s = seen now m.session in
        let asked = idle_asks j calls m.session.state s m.waiting idle config wait in
        let moment = tick_at_moment now m in
        let left_j : left_after (Tick now) m (suc j) ≡ j = left_one j (is_idle m.session.state) idle in (
          subst (λ (g : ℕ). g ≤ end) (sym moment) (due_in_end e (j * (x + late)) s.greatest within fits),
          λ so k left. let place : j ≡ suc k = sym left_j ∙ left in record {
            config = asked.0;
            wait = let some : j ≤ length (after_call (Tick now) m).waiting = asked.1 in omega arith;
            by_end = s.greatest + x;
            fits = next_fits e late x (k * (x + late)) s.greatest end within
                (subst (λ (n : ℕ). e + late + n ≤ end) (suc-mul k (x + late)) (subst (λ (n : ℕ). e + late + n * (x + late) ≤ end) place fits));
            stage = (λ on. asked.2, λ none. let near : (after_call (Tick now) m).session.greatest ≤ s.greatest + x = asked.2.0 in (omega arith, inl (omega arith, near)));
          },
        )

    duty_idle : (call : Call) (calls : List Call) (m : Machine) → is_idle m.session.state ≡ true → m.session.config ≡ c → 1 ≤ length m.waiting
        → ((at : ℕ) → IsOwed at call m → TicksBy (at + late) (call ∷ calls))
        → (at : ℕ) → m.session.greatest ≤ at → at ≤ (after_call call m).session.greatest → TicksBy (at + late) (call ∷ calls)
    duty_idle call calls m idle config some owed at not_before not_after =
        owed at (record {
          not_before = not_before;
          not_after = not_after;
          due = due_idle m.session.state (seen at m.session) m.waiting idle (one_by_one (seen at m.session) config) some;
        })

    moved_due : (call : Call) (calls : List Call) (m : Machine) (now : ℕ) → (after_call call m).session.greatest ≡ max m.session.greatest now
        → ((limit : ℕ) → IsBy limit call → now ≤ limit) → is_idle m.session.state ≡ true → m.session.config ≡ c → is_closed m.session.state ≡ false → 1 ≤ length m.waiting
        → ((at : ℕ) → IsOwed at call m → TicksBy (at + late) (call ∷ calls)) → Due late e 0 m.session.greatest (call ∷ calls)
        → Due late e 0 (max m.session.greatest now) (call ∷ calls)
    moved_due call calls m now moment by_now idle config stands some owed due =
        due_then call calls m (max m.session.greatest now) stands (omega arith)
        (λ limit within by_limit. let now_by : now ≤ limit = by_now limit by_limit in omega arith)
        (λ at not_before not_after. duty_idle call calls m idle config some owed at not_before (subst (λ (g : ℕ). at ≤ g) (sym moment) not_after)) due

    idle_step : (j : ℕ) (call : Call) (calls : List Call) (m : Machine) → is_under_way m.session.state ≡ true → is_outstanding m.session.state ≡ false
        → m.session.config ≡ c → j + 1 ≤ length m.waiting → e + late + j * (x + late) ≤ end
        → ((at : ℕ) → IsOwed at call m → TicksBy (at + late) (call ∷ calls)) → Due late e 0 m.session.greatest (call ∷ calls)
        → Order (left_after call m (suc j)) calls (after_call call m)
    idle_step j (Submit command) calls m so still config wait fits owed due =
        idle_same j (Submit command) calls m refl (submit_session (submit_refusal command m) command m) still (at_rest m.session.state so still) config
        (lives m.session.state so) (λ k left. goes_on (Submit command) m j k (lives m.session.state so) (λ tick. cc) wait left) fits due
    idle_step j (Begin now) calls m so still config wait fits owed due =
        let same = begun_not m.session.state m (after_begin now m) (lives m.session.state so) in
        idle_same j (Begin now) calls m refl (ap (λ (k : Machine). k.session) same) still (at_rest m.session.state so still) config
        (lives m.session.state so) (λ k left. goes_on (Begin now) m j k (lives m.session.state so) (λ tick. cc) wait left) fits due
    idle_step j (Retarget address) calls m so still config wait fits owed due =
        let same = moved_not m.session.state address m (after_retarget address m) (lives m.session.state so) in
        idle_same j (Retarget address) calls m refl (ap (λ (k : Machine). k.session) same) still (at_rest m.session.state so still) config
        (lives m.session.state so) (λ k left. goes_on (Retarget address) m j k (lives m.session.state so) (λ tick. cc) wait left) fits due
    idle_step j Withdraw calls m so still config wait fits owed due =
        idle_same j Withdraw calls m refl refl still (at_rest m.session.state so still) config
        (lives m.session.state so) (λ k left. goes_on Withdraw m j k (lives m.session.state so) (λ tick. cc) wait left) fits due
    idle_step j (Tick now) calls m so still config wait fits owed due =
        let idle = at_rest m.session.state so still in
        idle_tick j now calls m idle config wait fits
        (moved_due (Tick now) calls m now (tick_at_moment now m) (λ limit is. is) idle config (lives m.session.state so) (omega arith) owed due).0
    idle_step j (Hear p now) calls m so still config wait fits owed due =
        let idle = at_rest m.session.state so still in
        let same : (after_call (Hear p now) m).session ≡ seen now m.session = ap (λ (h : Heard). h.session) ((frames_in_steps p now m.session).not_outstanding still) in
        idle_others j (Hear p now) calls m refl (subst (λ (s : Session). is_outstanding s.state ≡ false) (sym same) still)
        (subst (λ (s : Session). s.config ≡ c) (sym same) config) (λ k left. goes_on (Hear p now) m j k (lives m.session.state so) (λ tick. cc) wait left) fits
        (subst (λ (s : Session). Due late e 0 s.greatest (Hear p now ∷ calls)) (sym same)
        (moved_due (Hear p now) calls m now (hears_at_moment p now m.session) (λ limit is. is) idle config (lives m.session.state so) (omega arith) owed due))

  -- one call, and all of them
  order_by : (b : Bool) (j : ℕ) (call : Call) (calls : List Call) (m : Machine) → is_outstanding m.session.state ≡ b → is_under_way m.session.state ≡ true
      → ((at : ℕ) → IsOwed at call m → TicksBy (at + late) (call ∷ calls)) → Under j (call ∷ calls) m
      → Order (left_after call m (suc j)) calls (after_call call m)
  order_by true j call calls m is so owed u = out_step u.by_end j call calls m is u.config u.wait u.fits owed (u.stage.0 is)
  order_by false j call calls m is so owed u = idle_step u.by_end j call calls m so is u.config u.wait u.fits owed (u.stage.1 is)

  pub orders : (left : ℕ) (calls : List Call) (m : Machine) → Waits left calls m → KeepsTime late calls m → Order left calls m
      → (after_calls calls m).session.greatest ≤ end
  orders left [] m waits in_time order = order.0
  orders zero (call ∷ calls) m waits in_time order = absurd (let some : 1 ≤ 0 = waits.0 in omega arith)
  orders (suc j) (call ∷ calls) m waits in_time order =
      orders (left_after call m (suc j)) calls (after_call call m) waits.2 in_time.1
      (order_by (is_outstanding m.session.state) j call calls m refl waits.1 in_time.0 (order.1 waits.1 j refl))

pub first_fits_order : (g w late j : ℕ) → (g + w) + late + j ≤ g + (j + (w + late))
first_fits_order g w late j = omega arith

begins_within : (g n : ℕ) (late j w : ℕ) → n ≤ g + w → n ≤ g + (j + (w + late))
begins_within g n late j w near = omega arith

pub orders_go_out : OrdersGoOut
orders_go_out late now before calls m o =
    let s = seen now m.session in
    let c = m.session.config in
    let k = after_call (Tick now) m in
    let sends = one_less c.sends o.machine.session.config.sends.0 in
    let w = whole late sends.0 c.busy_limit c in
    let end = s.greatest + (before * (w + late) + (w + late)) in
    let first = begun_tick late sends.0 c.busy_limit calls m.session.state s m.waiting (inl (omega arith)) o.machine.session.state o.begins in
    let near : k.session.greatest ≤ s.greatest + w = first.0 in
    let last : (after_calls calls k).session.greatest ≤ end =
    orders late end c sends.0 sends.1 o.in_a_row (before + 1) calls k o.lasts o.in_time (
      begins_within s.greatest k.session.greatest late (before * (w + late)) w near,
      λ so j left. let place : before ≡ j = one_before before j left in record {
        config = tick_config m.session.state s m.waiting;
        wait = let some : before < length k.waiting = o.place in omega arith;
        by_end = s.greatest + w;
        fits = subst (λ (n : ℕ). s.greatest + w + late + n * (w + late) ≤ end) place (first_fits_order s.greatest w late (before * (w + late)));
        stage = (λ on. first, λ none. (omega arith, inl (omega arith, near)));
      },
    ) in
    subst (λ (g : ℕ). (after_calls calls k).session.greatest ≤ g + order_time c late before) (sym (tick_at_moment now m))
    (subst (λ (n : ℕ). (after_calls calls k).session.greatest ≤ s.greatest + (before + 1) * (n + late)) (whole_is late sends.0 c.busy_limit c sends.1)
    (subst (λ (n : ℕ). (after_calls calls k).session.greatest ≤ s.greatest + n) (sym (next_product before (w + late))) last))
