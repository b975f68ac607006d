-- What a controller tells of events, session by session: as it hears a packet, and as it ticks.
use Rattle.osdp_calls.proofs.Common.{◌≡◌, ◌≤◌, ℕ, ◌+◌, ◌==◌, leb, ltb, Bool, true, false, cond, List, [], ◌∷◌, ◌++◌, Option, Some, None, refl, sym, subst, ap, ◌∙◌, arith, append-nil, append_assoc, is_true, is_false, bytes_eq, Packet, next_sequence, Command, Communication, Event, Reply, said_by, Heard, answered, answered_unread, com_of, command_answered, comset_of, hears, hears_busy, hears_in, ignores, is_ack, is_from_reader, is_numbered, loses, moved_by, opening_answered, pausing_hears, pd_id_of, poll_told, rests, waiting_hears, Report, idle_way, Session, State, Closed, Quiet, Idle, Waiting, Pausing, Remembered, event_bytes, may_be_again, remembers, both, events_of, is_told_again, marked}
use Rattle.std.specs.Prelude.{◌&&◌, not}
use Rattle.osdp_msg.specs.Events.{event_in}
use Rattle.osdp_msg.specs.declared.reply_fields.PdId.{PdId}
use Rattle.osdp_controller.specs.Sessions.{frame_of, later, seen}
use Rattle.osdp_controller.specs.Ticking.{Ticked, begins, gives_up, sends_frame, stays, ticks, ticks_in, tries_again}
use Rattle.osdp_controller.specs.declared.exchange.Exchange.{Exchange}
use Rattle.osdp_controller.specs.declared.exchange.Exchange.TheVariants.{Opening, Polling, Asking}
use Rattle.osdp_controller.specs.declared.exchange.Outstanding.{Outstanding}
use Rattle.osdp_controller.specs.declared.meaning.ReplyMeaning.{ReplyMeaning}
use Rattle.osdp_controller.specs.declared.meaning.ReplyMeaning.TheVariants.{NotTaken, Damaged, NumberRefused, Plain, Unreadable}
use Rattle.osdp_controller.specs.declared.report.LostCause.TheVariants as causes
use Rattle.osdp_controller.specs.declared.report.Report.TheVariants as report
use Rattle.osdp_calls.specs.Told.{reports_of}

-- ---- what has been told of an entry

-- of reports those of the entry, one after the other
abbrev pub those : {X : Type 0} → (Report → X → X) → ℕ → List (ℕ × Report) → X → X
those next k [] x = x
those next k (said ∷ more) x = those next k more (cond (said.0 == k) (next said.1 x) x)

pub those_then : {X : Type 0} (next : Report → X → X) (k : ℕ) (xs ys : List (ℕ × Report)) (x : X)
    → those next k (xs ++ ys) x ≡ those next k ys (those next k xs x)
those_then next k [] ys x = refl
those_then next k (said ∷ xs) ys x = those_then next k xs ys (cond (said.0 == k) (next said.1 x) x)

-- a report, if there is one
abbrev pub by_report : {X : Type 0} → (Report → X → X) → Option Report → X → X
by_report next None x = x
by_report next (Some r) x = next r x

-- its events, each with its mark, and what is remembered of them
pub record Told : Type 0 where
  pub marks : List (Event × Bool)
  pub memory : Remembered

abbrev pub next : Report → Told → Told
next (report.Event e) x = record {
  marks = x.marks ++ (e, may_be_again (report.Event e) x.memory) ∷ [];
  memory = remembers (report.Event e) x.memory;
}
next (report.Opened id) x = record { marks = x.marks; memory = record x.memory { in_session = false } }
next _ x = x

-- .. and its events, each with its session
abbrev pub also_told : ℕ → Report → List (ℕ × Event) → List (ℕ × Event)
also_told session (report.Event e) all = all ++ (session, e) ∷ []
also_told session _ all = all

also_first : (session : ℕ) (r : Report) (all : List (ℕ × Event)) (rs : List Report)
    → also_told session r all ++ events_of session rs ≡ all ++ events_of session (r ∷ rs)
also_first session (report.Event e) all rs = append_assoc all ((session, e) ∷ []) (events_of session rs)
also_first session _ all rs = refl

pub all_also : (session k : ℕ) (told : List (ℕ × Report)) (all : List (ℕ × Event))
    → those (also_told session) k told all ≡ all ++ events_of session (reports_of k told)
all_also session k [] all = sym (append-nil all)
all_also session k (said ∷ more) all =
    all_also session k more (cond (said.0 == k) (also_told session said.1 all) all) ∙ either (said.0 == k)
  where
    either : (b : Bool) → cond b (also_told session said.1 all) all ++ events_of session (reports_of k more)
        ≡ all ++ events_of session (cond b (said.1 ∷ []) [] ++ reports_of k more)
    either true = also_first session said.1 all (reports_of k more)
    either false = refl

-- ---- what holds of an entry by its controller's state

abbrev bytes_of : Option (ℕ × Event) → List ℕ
bytes_of None = []
bytes_of (Some (before, e)) = event_bytes e

-- the last event was told in this session; it was told in no later one
abbrev is_of : ℕ → Option (ℕ × Event) → Bool
is_of session None = false
is_of session (Some (before, e)) = before == session

abbrev IsUpTo : ℕ → Option (ℕ × Event) → Type 0
IsUpTo session None = Unit {0}
IsUpTo session (Some (before, e)) = before ≤ session

-- the marks are those of the events that were told, and the last of these is remembered
pub record Knows (session : ℕ) (all : List (ℕ × Event)) (x : Told) : Type 0 where
  pub last : Option (ℕ × Event)
  pub marks : (more : List (ℕ × Event)) → marked None (all ++ more) ≡ x.marks ++ marked last more
  pub bytes : x.memory.bytes ≡ bytes_of last
  pub up_to : IsUpTo session last

-- the session has opened: what is remembered says whether it has told an event
abbrev HasOpened : Option ℕ → ℕ → Option (ℕ × Event) → Bool → Type 0
HasOpened begun session last told = (begun ≡ None) × (told ≡ is_of session last)

abbrev ByExchange : Exchange → Option ℕ → ℕ → Option (ℕ × Event) → Bool → Type 0
ByExchange Opening begun session last told = (begun ≡ None) × (is_of session last ≡ false)
ByExchange Polling begun session last told = HasOpened begun session last told
ByExchange (Asking command) begun session last told = HasOpened begun session last told

abbrev ByState : State → Option ℕ → ℕ → Option (ℕ × Event) → Bool → Type 0
ByState Closed begun session last told = Unit {0}
ByState (Quiet until) begun session last told = (moment : ℕ) × (begun ≡ Some moment)
ByState (Idle due) begun session last told = HasOpened begun session last told
ByState (Waiting until sends o) begun session last told = ByExchange o.exchange begun session last told
ByState (Pausing until o) begun session last told = ByExchange o.exchange begun session last told

abbrev pub Agrees : ℕ → State → Option ℕ → List (ℕ × Event) → Told → Type 0
Agrees session state begun all x = (known : Knows session all x) × ByState state begun session known.last x.memory.in_session

-- ---- an event is told

same_mark : (last : Option (ℕ × Event)) (session : ℕ) (e : Event)
    → (not (is_of session last) && bytes_eq (event_bytes e) (bytes_of last)) ≡ is_told_again last session e
same_mark None session e = refl
same_mark (Some (before, other)) session e = refl

event_told : (session : ℕ) (e : Event) (begun : Option ℕ) (all : List (ℕ × Event)) (x : Told) (known : Knows session all x)
    → HasOpened begun session known.last x.memory.in_session → (due : ℕ) → Agrees session (Idle due) begun (also_told session (report.Event e) all) (next (report.Event e) x)
event_told session e begun all x known (none, told) due = (
  record {
    last = Some (session, e);
    marks = λ more.
        ap (marked None) (append_assoc all ((session, e) ∷ []) more) ∙ known.marks ((session, e) ∷ more)
        ∙ ap (λ b. x.marks ++ (e, b) ∷ marked (Some (session, e)) more) (sym mark)
        ∙ sym (append_assoc x.marks ((e, may_be_again (report.Event e) x.memory) ∷ []) (marked (Some (session, e)) more));
    bytes = refl;
    up_to = omega arith;
  },
  (none, sym (is_true session session refl)),
)
  where
    mark : may_be_again (report.Event e) x.memory ≡ is_told_again known.last session e
    mark =
        ap (λ b. not b && bytes_eq (event_bytes e) x.memory.bytes) told
        ∙ ap (λ bs. not (is_of session known.last) && bytes_eq (event_bytes e) bs) known.bytes ∙ same_mark known.last session e

-- ---- a packet is heard

module _ (session : ℕ) (begun : Option ℕ) (all : List (ℕ × Event)) (x : Told) where
  abbrev After : Heard → Type 0
  After h = Agrees session h.session.state begun (by_report (also_told session) h.report all) (by_report next h.report x)

  abbrev Before : State → Type 0
  Before state = Agrees session state begun all x

  -- .. with what stands by this exchange
  abbrev With : Exchange → Type 0
  With y = (known : Knows session all x) × ByExchange y begun session known.last x.memory.in_session

  busy_so : (o : Outstanding) (s : Session) → With o.exchange → After (hears_busy o s)
  busy_so o s w =
      let paused = later s.config.busy_wait s in
      both After (ltb s.config.busy_limit (o.busies + 1)) (loses causes.TooBusy o s)
      (record { session = record s { state = Pausing paused (record o { busies = o.busies + 1 }) }; report = None }) (w.0, tt) w

  opened_so : (id : Option PdId) (s : Session) → Before s.state → With Opening → After (opening_answered id s)
  opened_so None s h w = h
  opened_so (Some id) s h (known, (none, earlier)) =
      (record { last = known.last; marks = known.marks; bytes = known.bytes; up_to = known.up_to }, (none, sym earlier))

  polled_so : (event : Option Event) (a : Reply) (s : Session) → With Polling → After (rests (poll_told a event) s)
  polled_so (Some e) a s (known, opened) = event_told session e begun all x known opened (later s.config.poll_interval s)
  polled_so None a s w = both (λ (r : Option Report). After (rests r s)) (is_ack a) None (Some (report.PollAnswered a)) w w

  command_so : (to : Option Communication) (c : Command) (a : Reply) (s : Session) → With Polling → After (command_answered to c a s)
  command_so None c a s w = w
  command_so (Some d) c a s w = (w.0, tt)

  answered_so : (y : Exchange) (a : Reply) (s : Session) → Before s.state → With y → After (answered y a s)
  answered_so Opening a s h w = opened_so (pd_id_of a) s h w
  answered_so Polling a s h w = polled_so (event_in a) a s w
  answered_so (Asking c) a s h w = command_so (moved_by (comset_of c) (com_of a)) c a s w

  unread_so : (y : Exchange) (code : ℕ) (s : Session) → Before s.state → With y → After (answered_unread y code s)
  unread_so Opening code s h w = h
  unread_so Polling code s h w = w
  unread_so (Asking c) code s h w = w

  waiting_so : (a : ReplyMeaning) (k : ℕ) (o : Outstanding) (s : Session) → Before s.state → With o.exchange → After (waiting_hears a k o s)
  waiting_so NotTaken k o s h w = busy_so o s w
  waiting_so Damaged k o s h w = w
  waiting_so NumberRefused k o s h w = (h.0, tt)
  waiting_so (Plain a) k o s h w = answered_so o.exchange a s h w
  waiting_so (Unreadable code) k o s h w = unread_so o.exchange code s h w

  pausing_so : (a : ReplyMeaning) (o : Outstanding) (s : Session) → Before s.state → With o.exchange → After (pausing_hears a o s)
  pausing_so NotTaken o s h w = h
  pausing_so Damaged o s h w = h
  pausing_so NumberRefused o s h w = (h.0, tt)
  pausing_so (Plain a) o s h w = answered_so o.exchange a s h w
  pausing_so (Unreadable code) o s h w = unread_so o.exchange code s h w

  inside_so : (state : State) (number : ℕ) (a : ReplyMeaning) (s : Session) → s.state ≡ state → Before s.state → After (hears_in state number a s)
  inside_so (Waiting until k o) number a s is h =
      both After (is_numbered number a s) (waiting_hears a k o s) (ignores s) (waiting_so a k o s h (subst Before is h)) h
  inside_so (Pausing until o) number a s is h =
      both After (is_numbered number a s) (pausing_hears a o s) (ignores s) (pausing_so a o s h (subst Before is h)) h
  inside_so _ number a s is h = h

  pub heard_marks : (p : Packet) (now : ℕ) (s : Session) → Before s.state → After (hears p now s)
  heard_marks p now s h =
      both After (is_from_reader p s) (hears_in s.state p.sequence (said_by p) (seen now s)) (ignores (seen now s))
      (inside_so s.state p.sequence (said_by p) (seen now s) refl h) h

-- ---- a controller ticks: where its session was to begin, it begins with what is sent

abbrev pub begun_after : Option Packet → Option ℕ → Option ℕ
begun_after (Some p) begun = None
begun_after None begun = begun

abbrev pub session_after : Option Packet → Option ℕ → ℕ → ℕ
session_after (Some p) (Some moment) session = 1 + session
session_after _ _ session = session

-- the last event is of an earlier session then
earlier_now : (session : ℕ) (last : Option (ℕ × Event)) → IsUpTo session last → (is_of (1 + session) last ≡ false) × IsUpTo (1 + session) last
earlier_now session None up_to = (refl, tt)
earlier_now session (Some (before, e)) up_to =
    (is_false before (1 + session) (λ (same : before ≡ 1 + session). absurd (omega (arith, up_to, same))), omega (arith, up_to))

module _ (session : ℕ) (begun : Option ℕ) (all : List (ℕ × Event)) (x : Told) where
  abbrev AfterTick : Ticked → Type 0
  AfterTick t = Agrees (session_after t.step.frame begun session) t.session.state (begun_after t.step.frame begun)
      (by_report (also_told session) t.step.report all) (by_report next t.step.report x)

  opens_so : (s : Session) (w : List Command) → Knows session all x → (moment : ℕ) → begun ≡ Some moment → AfterTick (begins Opening 0 s w)
  opens_so s w known moment is =
      let now = earlier_now session known.last known.up_to in
      subst (λ o. Agrees (session_after (Some (frame_of Opening (record s { number = 0; asked = false }))) o session) (begins Opening 0 s w).session.state None all x) (sym is)
      (record { last = known.last; marks = known.marks; bytes = known.bytes; up_to = now.1 }, (refl, now.0))

  none_of : (y : Exchange) → (known : Knows session all x) → ByExchange y begun session known.last x.memory.in_session → begun ≡ None
  none_of Opening known by = by.0
  none_of Polling known by = by.0
  none_of (Asking c) known by = by.0

  -- a session that has begun goes on
  sends_so : (k : ℕ) (o : Outstanding) (s : Session) (w : List Command) → Agrees session (Waiting 0 k o) begun all x → AfterTick (sends_frame k o s w)
  sends_so k o s w h =
      let none = none_of o.exchange h.0 h.1 in
      subst (λ b. Agrees (session_after (Some (frame_of o.exchange s)) b session) (sends_frame k o s w).session.state None all x) (sym none)
      (subst (λ b. Agrees session (sends_frame k o s w).session.state b all x) none h)

  tick_in : (state : State) (s : Session) (w : List Command) → Agrees session state begun all x → s.state ≡ state → AfterTick (ticks_in state s w)
  tick_in Closed s w h is = subst (λ st. Agrees session st begun all x) (sym is) h
  tick_in (Quiet until) s w h is =
      both AfterTick (leb until s.greatest) (begins Opening 0 s w) (stays s w) (opens_so s w h.0 h.1.0 h.1.1)
      (subst (λ st. Agrees session st begun all x) (sym is) h)
  tick_in (Idle due) s w h is =
      idle_way AfterTick due s w
      (λ e. sends_so 1 (record { exchange = Polling; busies = 0; sent = 0 }) (record s { number = next_sequence s.number; asked = false }) w h)
      (λ e. subst (λ st. Agrees session st begun all x) (sym is) h)
      (λ c rest e. sends_so 1 (record { exchange = Asking c; busies = 0; sent = 0 }) (record s { number = next_sequence s.number; asked = true }) rest h)
  tick_in (Waiting until k o) s w h is =
      both AfterTick (leb until s.greatest) (tries_again k o s w) (stays s w)
      (both AfterTick (ltb k s.config.sends) (sends_frame (k + 1) o s w) (gives_up o s w) (sends_so (k + 1) o s w h) (h.0, tt))
      (subst (λ st. Agrees session st begun all x) (sym is) h)
  tick_in (Pausing until o) s w h is =
      both AfterTick (leb until s.greatest) (sends_frame 1 o s w) (stays s w) (sends_so 1 o s w h)
      (subst (λ st. Agrees session st begun all x) (sym is) h)

  pub tick_marks : (now : ℕ) (s : Session) (w : List Command) → Agrees session s.state begun all x → AfterTick (ticks now s w)
  tick_marks now s w h = tick_in s.state (seen now s) w h refl
