-- How long a controller waits after each of its calls.
use Rattle.osdp_controller_laws.proofs.Common.{◌≡◌, ◌∙◌, ap, sym, subst, refl, arith, ℕ, ◌+◌, ◌-◌, ◌^◌, ◌<◌, Bool, true, false, List, [], ◌∷◌, Option, Some, None, if◌then◌else◌, is_some, min, nat_le, nat_lt, le-ltb, Packet, next_sequence, Command, ReplyMeaning, Opening, Polling, Outstanding, Session, State, Closed, Quiet, Idle, Waiting, Pausing, meaning_of, Heard, hears, hears_busy, loses, Machine, acts, after_begin, changed_unless, is_outstanding, refused_unless_closed, numbered_in, later, seen, is_closed, is_idle, moment_of, Ticked, begins, gives_up, sends_frame, stays, ticks_in, tries_again, either_way, Hear, Tick, after_call}
use Rattle.osdp_controller.specs.declared.report.LostCause.TheVariants as causes
use Rattle.osdp_controller_laws.specs.Waits.{IsDueAfter, WaitsAsSet, so_long_after}
use Rattle.osdp_controller_laws.proofs.Frames.{OfEach, either_frame, of_pause, of_wait}
use Rattle.osdp_controller_laws.proofs.Stepwise.{frames_in_steps, may_wait}
use Rattle.osdp_controller.proofs.Idling.{idle_way}
use Rattle.osdp_controller.specs.Sessions.{is_poll_next}
use Rattle.std.specs.Prelude.{◌⊎◌}

-- where one branch sends or tells something and the other doesn't, the test says which
acts_by : (b : Bool) (x y : Ticked) → acts x.step ≡ true → acts y.step ≡ false → acts (if b then x else y).step ≡ b
acts_by true x y p q = p
acts_by false x y p q = q

-- no command is to be asked at once: none waits, or a POLL has to come first
abbrev MayWait : Session → List Command → Type 0
MayWait s waiting = (waiting ≡ []) ⊎ (is_poll_next s ≡ true)

-- a tick is due once the moment is reached that the state waits for, where no command is to be asked at once
due_in : (state : State) (s : Session) (waiting : List Command) (moment : ℕ) → moment_of state ≡ Some moment → (is_idle state ≡ true → MayWait s waiting)
    → acts (ticks_in state s waiting).step ≡ nat_le moment s.greatest
due_in Closed s waiting moment is none = absurd cc
due_in (Quiet until) s waiting moment is none =
    let same : until ≡ moment = cc in
    acts_by (nat_le until s.greatest) (begins Opening 0 s waiting) (stays s waiting) refl refl ∙ ap (λ t. nat_le t s.greatest) same
due_in (Idle due) s waiting moment is none =
    let same : due ≡ moment = cc in
    ap (λ (t : Ticked). acts t.step) (may_wait due s waiting (none refl))
    ∙ acts_by (nat_le due s.greatest) (begins Polling (next_sequence s.number) s waiting) (stays s waiting) refl refl ∙ ap (λ t. nat_le t s.greatest) same
due_in (Waiting until sends o) s waiting moment is none =
    let same : until ≡ moment = cc in
    acts_by (nat_le until s.greatest) (tries_again sends o s waiting) (stays s waiting)
    (either_way (λ (t : Ticked). acts t.step ≡ true) (nat_lt sends s.config.sends) (sends_frame (sends + 1) o s waiting) (gives_up o s waiting) (λ h. refl) (λ h. refl))
    refl
    ∙ ap (λ t. nat_le t s.greatest) same
due_in (Pausing until o) s waiting moment is none =
    let same : until ≡ moment = cc in
    acts_by (nat_le until s.greatest) (sends_frame 1 o s waiting) (stays s waiting) refl refl ∙ ap (λ t. nat_le t s.greatest) same

-- the state waits for the moment that comes so long after the greatest one seen
abbrev WaitsFor : ℕ → Session → Type 0
WaitsFor wait s = moment_of s.state ≡ Some (min (s.greatest + wait) (2 ^ 64 - 1))

due_after : (wait : ℕ) (m : Machine) → WaitsFor wait m.session → (is_idle m.session.state ≡ true → MayWait m.session m.waiting) → IsDueAfter wait m
due_after wait m waits none = λ at. due_in m.session.state (seen at m.session) m.waiting (so_long_after wait m) waits none

-- ---- a frame goes out

abbrev SentWaits : ℕ → Ticked → Type 0
SentWaits wait t = is_some t.step.frame ≡ true → WaitsFor wait t.session × (is_idle t.session.state ≡ false)

sent_waits : (state : State) (s : Session) (w : List Command) → SentWaits s.config.reply_wait (ticks_in state s w)
sent_waits Closed s w = λ h. cc
sent_waits (Quiet until) s w =
    either_way (SentWaits s.config.reply_wait) (nat_le until s.greatest) (begins Opening 0 s w) (stays s w) (λ b h. (refl, refl)) (λ b h. cc)
sent_waits (Idle due) s w = idle_way (SentWaits s.config.reply_wait) due s w (λ b h. (refl, refl)) (λ b h. cc) (λ command rest e h. (refl, refl))
sent_waits (Waiting until sends o) s w =
    either_way (SentWaits s.config.reply_wait) (nat_le until s.greatest) (tries_again sends o s w) (stays s w)
    (λ b. either_way (SentWaits s.config.reply_wait) (nat_lt sends s.config.sends) (sends_frame (sends + 1) o s w) (gives_up o s w)
    (λ c h. (refl, refl)) (λ c h. cc))
    (λ b h. cc)
sent_waits (Pausing until o) s w =
    either_way (SentWaits s.config.reply_wait) (nat_le until s.greatest) (sends_frame 1 o s w) (stays s w) (λ b h. (refl, refl)) (λ b h. cc)

-- ---- an exchange ends

abbrev RestWaits : ℕ → Heard → Type 0
RestWaits wait h = is_idle h.session.state ≡ true → WaitsFor wait h.session

not_idle : (state : State) → is_outstanding state ≡ true → is_idle state ≡ true → ⊥
not_idle Closed out idle = cc
not_idle _ out idle = cc

each_waits : (s : Session) → is_outstanding s.state ≡ true → OfEach (RestWaits s.config.poll_interval) s
each_waits s out =
    record { ignored = λ idle. absurd (not_idle s.state out idle); rested = λ told idle. refl; moved = λ d command idle. cc; lost = λ cause o idle. cc }

numbered_waits : (state : State) (a : ReplyMeaning) (s : Session) → is_outstanding s.state ≡ true → RestWaits s.config.poll_interval (numbered_in state a s)
numbered_waits (Waiting until sends o) a s out =
    of_wait (RestWaits s.config.poll_interval) s (each_waits s out) a sends o (λ idle. cc) (λ idle. cc)
numbered_waits (Pausing until o) a s out = of_pause (RestWaits s.config.poll_interval) s (each_waits s out) a o
numbered_waits _ a s out = λ idle. absurd (not_idle s.state out idle)

rest_waits : (p : Packet) (now : ℕ) (s : Session) → is_outstanding s.state ≡ true → RestWaits s.config.poll_interval (hears p now s)
rest_waits p now s out =
    either_frame (RestWaits s.config.poll_interval) p now s (λ from number. numbered_waits s.state (meaning_of p) (seen now s) out)
    (λ idle. absurd (not_idle s.state out idle))

-- ---- BUSY

pauses : (o : Outstanding) (s : Session) → o.busies < s.config.busy_limit
    → hears_busy o s ≡ record { session = record s { state = Pausing (later s.config.busy_wait s) (record o { busies = o.busies + 1 }) }; report = None }
pauses o s less =
    let few : nat_lt s.config.busy_limit (o.busies + 1) ≡ false = le-ltb s.config.busy_limit (o.busies + 1) (omega arith) in
    ap (λ b. if b then loses causes.TooBusy o s
    else record { session = record s { state = Pausing (later s.config.busy_wait s) (record o { busies = o.busies + 1 }) }; report = None }) few

-- what holds of the machine after a frame, by what was heard
abbrev HeardDue : ℕ → Machine → Heard → Type 0
HeardDue wait m h = IsDueAfter wait (record m { session = h.session })

-- ---- a session begins

begins_quiet : (state : State) (now : ℕ) (m : Machine) → is_closed state ≡ true
    → changed_unless (refused_unless_closed state) m (after_begin now m) ≡ after_begin now m
begins_quiet Closed now m closed = refl
begins_quiet _ now m closed = cc

pub waits_as_set : (now : ℕ) (m : Machine) → WaitsAsSet now m
waits_as_set now m = record {
  reply = λ p sent.
      let waits = sent_waits m.session.state (seen now m.session) m.waiting (ap (λ (o : Option Packet). is_some o) sent) in
      due_after m.session.config.reply_wait (after_call (Tick now) m) waits.0 (λ idle. absurd (let other = waits.1 in cc));
  poll = λ p out idle none.
      due_after m.session.config.poll_interval (after_call (Hear p now) m) (rest_waits p now m.session out idle) (λ h. none);
  busy = λ p until sends o is comes number less.
      let s = seen now m.session in
      let heard = (frames_in_steps p now m.session).busy until sends o is comes number ∙ pauses o s less in
      subst (HeardDue m.session.config.busy_wait m) (sym heard)
      (due_after m.session.config.busy_wait
      (record m { session = record s { state = Pausing (later s.config.busy_wait s) (record o { busies = o.busies + 1 }) } }) refl (λ h. absurd cc));
  quiet = λ closed.
      subst (IsDueAfter m.session.config.quiet_wait) (sym (begins_quiet m.session.state now m closed))
      (due_after m.session.config.quiet_wait (after_begin now m) refl (λ h. absurd cc));
}
