-- What one call does from each state, and what a whole exchange comes to.
use Rattle.osdp_controller_laws.proofs.Common.{◌≡◌, ◌∙◌, ap, sym, subst, inl, inr, ℕ, ◌+◌, Bool, true, false, List, [], ◌∷◌, Option, Some, None, refl, le-leb, lt-leb, lt-ltb, le-ltb, eq-eqb, ne_eqb, Packet, next_sequence, Command, Communication, Reply, PdIdReply, ReplyMeaning, NotTaken, Damaged, NumberRefused, Unreadable, Exchange, Opening, Polling, Asking, Outstanding, Report, Opened, Settled, Moved, Session, State, Closed, Quiet, Idle, Waiting, Pausing, meaning_of, is_not_taken, event_in, Heard, answered, answered_unread, com_of, command_answered, comset_of, hears, hears_in, ignores, is_from_reader, is_numbered, moved_by, poll_told, numbered_in, Comes, ComesNumbered, IsFromReader, exchange_in, Machine, is_outstanding, at_rest, frame_of, seen, Ticked, begins, gives_up, sends_frame, stays, ticks, ticks_in, tries_again, either_way}
use Rattle.std.specs.Prelude.{◌≢◌, ◌⊎◌, ◌&&◌, ◌||◌, ◌==◌, if◌then◌else◌, max, nat_lt, nat_le}
use Rattle.osdp_controller_laws.specs.Steps.{Exchanged, ExchangesInSteps, FramesInSteps, IsAheadAt, IsReachedAt, IsReplyTo, SendsItsFrame, TicksInSteps, moved_away}
use Rattle.osdp_controller_laws.proofs.Causes.{hears_answers, is_reader, of_reader}
use Rattle.osdp_controller_laws.proofs.Frames.{by_number, by_tests}
use Rattle.osdp_controller.proofs.Idling.{asks_front, idle_way, polls_alone, polls_first}
use Rattle.osdp_controller.specs.Exchanges.{is_order}
use Rattle.osdp_controller.specs.Sessions.{is_poll_next}
use Rattle.osdp_controller.specs.Ticking.{idle_ticks, polls}

if_true : {A : Type 0} (b : Bool) (x y : A) → b ≡ true → (if b then x else y) ≡ x
if_true true x y h = refl
if_true false x y h = cc

if_false : {A : Type 0} (b : Bool) (x y : A) → b ≡ false → (if b then x else y) ≡ y
if_false true x y h = cc
if_false false x y h = refl

-- ticks

by_state : (now : ℕ) (s : Session) (w : List Command) (state : State) → s.state ≡ state → ticks now s w ≡ ticks_in state (seen now s) w
by_state now s w state e = ap (λ (t : State). ticks_in t (seen now s) w) e

reached : (deadline now : ℕ) (s : Session) (x y : Ticked) → IsReachedAt deadline now s → (if nat_le deadline (max s.greatest now) then x else y) ≡ x
reached deadline now s x y h = if_true (nat_le deadline (max s.greatest now)) x y (le-leb deadline (max s.greatest now) h)

ahead : (deadline now : ℕ) (s : Session) (x y : Ticked) → IsAheadAt deadline now s → (if nat_le deadline (max s.greatest now) then x else y) ≡ y
ahead deadline now s x y h = if_false (nat_le deadline (max s.greatest now)) x y (lt-leb deadline (max s.greatest now) h)

-- a POLL comes next: none waits, or one has to come first
pub may_wait : (due : ℕ) (s : Session) (w : List Command) → (w ≡ []) ⊎ (is_poll_next s ≡ true) → idle_ticks w due s ≡ polls due s w
may_wait due s w (inl none) = rw none (polls_alone due s)
may_wait due s w (inr next) = polls_first due s w next

pub ticks_in_steps : (now : ℕ) (s : Session) (w : List Command) → TicksInSteps now s w
ticks_in_steps now s w = record {
  closed = λ e. by_state now s w Closed e;
  quiet = λ until e h. by_state now s w (Quiet until) e ∙ ahead until now s (begins Opening 0 (seen now s) w) (stays (seen now s) w) h;
  opens = λ until e h. by_state now s w (Quiet until) e ∙ reached until now s (begins Opening 0 (seen now s) w) (stays (seen now s) w) h;
  asks = λ due command rest e free f.
      by_state now s w (Idle due) e ∙ (ap (λ (l : List Command). ticks_in (Idle due) (seen now s) l) f ∙ asks_front due (seen now s) command rest free);
  rests = λ due e f h.
      by_state now s w (Idle due) e ∙ (may_wait due (seen now s) w f
      ∙ ahead due now s (begins Polling (next_sequence s.number) (seen now s) w) (stays (seen now s) w) h);
  polls = λ due e f h.
      by_state now s w (Idle due) e ∙ (may_wait due (seen now s) w f
      ∙ reached due now s (begins Polling (next_sequence s.number) (seen now s) w) (stays (seen now s) w) h);
  waits = λ until sends o e h.
      by_state now s w (Waiting until sends o) e ∙ ahead until now s (tries_again sends o (seen now s) w) (stays (seen now s) w) h;
  repeats = λ until sends o e h less.
      by_state now s w (Waiting until sends o) e ∙ (reached until now s (tries_again sends o (seen now s) w) (stays (seen now s) w) h
      ∙ if_true (nat_lt sends s.config.sends) (sends_frame (sends + 1) o (seen now s) w) (gives_up o (seen now s) w) (lt-ltb sends s.config.sends less));
  ends = λ until sends o e h all.
      by_state now s w (Waiting until sends o) e ∙ (reached until now s (tries_again sends o (seen now s) w) (stays (seen now s) w) h
      ∙ if_false (nat_lt sends s.config.sends) (sends_frame (sends + 1) o (seen now s) w) (gives_up o (seen now s) w) (le-ltb sends s.config.sends all));
  pauses = λ until o e h. by_state now s w (Pausing until o) e ∙ ahead until now s (sends_frame 1 o (seen now s) w) (stays (seen now s) w) h;
  goes_on = λ until o e h. by_state now s w (Pausing until o) e ∙ reached until now s (sends_frame 1 o (seen now s) w) (stays (seen now s) w) h;
}

-- frames

not_true : (b : Bool) → (b ≡ true → ⊥) → b ≡ false
not_true true h = absurd (h refl)
not_true false h = refl

of_others : (p : Packet) (now : ℕ) (s : Session) → (IsFromReader p s → ⊥) → hears p now s ≡ ignores (seen now s)
of_others p now s h =
    if_false (is_from_reader p s) (hears_in s.state p.sequence (meaning_of p) (seen now s)) (ignores (seen now s))
    (not_true (is_from_reader p s) (λ from. h (is_reader p s from)))

from_reader : (p : Packet) (now : ℕ) (s : Session) → is_from_reader p s ≡ true → hears p now s ≡ by_number p now s
from_reader p now s h = by_tests p now s ∙ if_true (is_from_reader p s) (by_number p now s) (ignores (seen now s)) h

either_number : (b : Bool) (x y : Heard) → x ≡ y → (if b then x else y) ≡ y
either_number true x y e = e
either_number false x y e = refl

-- what holds whether or not a frame comes from the reader
either_sender : (p : Packet) (now : ℕ) (s : Session) → by_number p now s ≡ ignores (seen now s) → hears p now s ≡ ignores (seen now s)
either_sender p now s e = by_tests p now s ∙ either_number (is_from_reader p s) (by_number p now s) (ignores (seen now s)) e

ignored_in : (state : State) (a : ReplyMeaning) (s : Session) → is_outstanding state ≡ false → numbered_in state a s ≡ ignores s
ignored_in (Waiting until sends o) a s h = cc
ignored_in (Pausing until o) a s h = cc
ignored_in _ a s h = refl

not_outstanding : (p : Packet) (now : ℕ) (s : Session) → is_outstanding s.state ≡ false → hears p now s ≡ ignores (seen now s)
not_outstanding p now s h =
    either_sender p now s
    (either_number (is_numbered p.sequence (meaning_of p) s) (numbered_in s.state (meaning_of p) (seen now s)) (ignores (seen now s))
    (ignored_in s.state (meaning_of p) (seen now s) h))

neither : (a b c : Bool) → a ≡ false → (b ≡ false) ⊎ (c ≡ false) → (a || b && c) ≡ false
neither true b c h k = cc
neither false true c h (inl k) = cc
neither false true c h (inr k) = k
neither false false c h k = refl

not_zero : (n : ℕ) (c : Bool) → (n ≢ 0) ⊎ (c ≡ false) → ((n == 0) ≡ false) ⊎ (c ≡ false)
not_zero n c (inl h) = inl (ne_eqb n 0 h)
not_zero n c (inr h) = inr h

of_another : (p : Packet) (now : ℕ) (s : Session) → p.sequence ≢ s.number → (p.sequence ≢ 0) ⊎ (is_not_taken (meaning_of p) ≡ false)
    → hears p now s ≡ ignores (seen now s)
of_another p now s h k =
    either_sender p now s
    (if_false (is_numbered p.sequence (meaning_of p) s) (numbered_in s.state (meaning_of p) (seen now s)) (ignores (seen now s))
    (neither (p.sequence == s.number) (p.sequence == 0) (is_not_taken (meaning_of p)) (ne_eqb p.sequence s.number h)
    (not_zero p.sequence (is_not_taken (meaning_of p)) k)))

-- an answer with the number of the exchange
numbered : (p : Packet) (now : ℕ) (s : Session) (state : State) (a : ReplyMeaning) → is_from_reader p s ≡ true → is_numbered p.sequence (meaning_of p) s ≡ true
    → s.state ≡ state → meaning_of p ≡ a → hears p now s ≡ numbered_in state a (seen now s)
numbered p now s state a from number e says =
    from_reader p now s from
    ∙ (if_true (is_numbered p.sequence (meaning_of p) s) (numbered_in s.state (meaning_of p) (seen now s)) (ignores (seen now s)) number
    ∙ (ap (λ (t : State). numbered_in t (meaning_of p) (seen now s)) e ∙ ap (λ (b : ReplyMeaning). numbered_in state b (seen now s)) says))

has_number : (n m : ℕ) (c : Bool) → n ≡ m → (n == m || c) ≡ true
has_number n m c e = let yes = eq-eqb n m e in rw yes refl

or_true : (a b : Bool) → b ≡ true → (a || b) ≡ true
or_true true b h = refl
or_true false b h = h

and_true : (a b : Bool) → a ≡ true → b ≡ true → (a && b) ≡ true
and_true true b h k = k
and_true false b h k = cc

busy_number : (p : Packet) (s : Session) → meaning_of p ≡ NotTaken → (p.sequence ≡ s.number) ⊎ (p.sequence ≡ 0) → is_numbered p.sequence (meaning_of p) s ≡ true
busy_number p s says (inl e) = has_number p.sequence s.number (p.sequence == 0 && is_not_taken (meaning_of p)) e
busy_number p s says (inr e) =
    or_true (p.sequence == s.number) (p.sequence == 0 && is_not_taken (meaning_of p))
    (and_true (p.sequence == 0) (is_not_taken (meaning_of p)) (eq-eqb p.sequence 0 e) (ap is_not_taken says))

own_number : (p : Packet) (s : Session) (x : Exchange) (a : ReplyMeaning) → ComesNumbered p s x a → is_numbered p.sequence (meaning_of p) s ≡ true
own_number p s x a is = has_number p.sequence s.number (p.sequence == 0 && is_not_taken (meaning_of p)) is.number

numbered_by : (p : Packet) (now : ℕ) (s : Session) (state : State) (x : Exchange) (a : ReplyMeaning) → ComesNumbered p s x a → s.state ≡ state
    → hears p now s ≡ numbered_in state a (seen now s)
numbered_by p now s state x a is e =
    let comes = is.comes in numbered p now s state a (of_reader p s comes.from_reader) (own_number p s x a is) e comes.says

-- a BUSY in a pause is ignored, whatever its number
busy_again : (p : Packet) (now : ℕ) (s : Session) (until : ℕ) (o : Outstanding) → s.state ≡ Pausing until o → Comes p s o.exchange NotTaken
    → hears p now s ≡ ignores (seen now s)
busy_again p now s until o e is =
    from_reader p now s (of_reader p s is.from_reader)
    ∙ either_number (is_numbered p.sequence (meaning_of p) s) (numbered_in s.state (meaning_of p) (seen now s)) (ignores (seen now s))
    (ap (λ (t : State). numbered_in t (meaning_of p) (seen now s)) e
    ∙ ap (λ (a : ReplyMeaning). numbered_in (Pausing until o) a (seen now s)) is.says)

unread_in : (state : State) (x : Exchange) (code : ℕ) (s : Session) → exchange_in state ≡ Some x → numbered_in state (Unreadable code) s ≡ answered_unread x code s
unread_in Closed x code s h = cc
unread_in state x code s h = cc

pub frames_in_steps : (p : Packet) (now : ℕ) (s : Session) → FramesInSteps p now s
frames_in_steps p now s = record {
  of_others = of_others p now s;
  not_outstanding = not_outstanding p now s;
  of_another = of_another p now s;
  busy = λ until sends o e is number.
      numbered p now s (Waiting until sends o) NotTaken (of_reader p s is.from_reader) (busy_number p s is.says number) e is.says;
  busy_again = busy_again p now s;
  damaged = λ until sends o e is. numbered_by p now s (Waiting until sends o) o.exchange Damaged is e;
  damaged_before = λ until o e is. numbered_by p now s (Pausing until o) o.exchange Damaged is e;
  refused = λ until sends o e is. numbered_by p now s (Waiting until sends o) o.exchange NumberRefused is e;
  refused_late = λ until o e is. numbered_by p now s (Pausing until o) o.exchange NumberRefused is e;
  unread = λ x code is.
      let comes = is.comes in numbered_by p now s s.state x (Unreadable code) is refl ∙ unread_in s.state x code (seen now s) comes.outstanding;
}

-- a whole exchange

-- the session that a new exchange leaves
abbrev sent : Exchange → ℕ → ℕ → Session → Session
sent x number now s = (begins x number (seen now s) []).session

heard_reply : (x : Exchange) (number now answered_at : ℕ) (s : Session) (q : Packet) (reply : Reply) → IsReplyTo number s q reply
    → hears q answered_at (sent x number now s) ≡ answered x reply (seen answered_at (sent x number now s))
heard_reply x number now answered_at s q reply is =
    let from = is.from_reader in
    hears_answers q answered_at (sent x number now s) x reply
    (record { comes = record { from_reader = record { reply = from.reply; address = from.address; without_block = from.without_block }; outstanding = refl; says = is.says }; number = is.sequence })

abbrev after_tick : Machine → Ticked → Machine
after_tick m t = record m { session = t.session; waiting = t.waiting }

abbrev after_frame : Machine → Heard → Machine
after_frame m h = record m { session = h.session }

exchanged : (x : Exchange) (number now answered_at : ℕ) (q : Packet) (reply : Reply) (report : Option Report) (left : Session → Session) (m : Machine)
    (rest : List Command) → ticks now m.session m.waiting ≡ begins x number (seen now m.session) rest → IsReplyTo number m.session q reply
    → answered x reply (seen answered_at (sent x number now m.session))
    ≡ record { session = left (seen answered_at (seen now (record m.session { number = number; asked = is_order x }))); report = report }
    → Exchanged x number now answered_at q report left m rest
exchanged x number now answered_at q reply report left m rest e is settled =
    let begun = begins x number (seen now m.session) rest in
    let heard = heard_reply x number now answered_at m.session q reply is ∙ settled in record {
      frame = ap (λ (t : Ticked). t.step.frame) e;
      told = ap (λ (t : Ticked). (hears q answered_at t.session).report) e ∙ ap (λ (h : Heard). h.report) heard;
      after =
          ap (λ (t : Ticked). after_frame (after_tick m t) (hears q answered_at t.session)) e
          ∙ ap (λ (h : Heard). after_frame (after_tick m begun) h) heard;
    }

command_told : (command : Command) (reply : Reply) (moved known : Option Communication) (s : Session) → moved ≡ known
    → command_answered moved command reply s ≡ command_answered known command reply s
command_told command reply moved known s e = ap (λ (d : Option Communication). command_answered d command reply s) e

pub exchanges_in_steps : (m : Machine) (now answered_at : ℕ) (q : Packet) → ExchangesInSteps m now answered_at q
exchanges_in_steps m now answered_at q =
    let steps = ticks_in_steps now m.session m.waiting in record {
      command = λ due command rest reply e free f is stays_there.
          exchanged (Asking command) (next_sequence m.session.number) now answered_at q reply (Some (Settled command reply)) at_rest m rest
          (steps.asks due command rest e free f) is
          (command_told command reply (moved_by (comset_of command) (com_of reply)) None
          (seen answered_at (sent (Asking command) (next_sequence m.session.number) now m.session)) stays_there);
      moving = λ due command rest reply answered e free f is moves.
          exchanged (Asking command) (next_sequence m.session.number) now answered_at q reply (Some (Moved command answered)) (moved_away answered) m rest
          (steps.asks due command rest e free f) is
          (command_told command reply (moved_by (comset_of command) (com_of reply)) (Some answered)
          (seen answered_at (sent (Asking command) (next_sequence m.session.number) now m.session)) moves);
      poll = λ due reply e f h is.
          exchanged Polling (next_sequence m.session.number) now answered_at q reply (poll_told reply (event_in reply)) at_rest m []
          (steps.polls due e (inl f) h ∙ ap (λ (l : List Command). begins Polling (next_sequence m.session.number) (seen now m.session) l) f) is refl;
      opening = λ until id e h is.
          exchanged Opening 0 now answered_at q (PdIdReply id) (Some (Opened id)) at_rest m m.waiting (steps.opens until e h) is refl;
    }

-- the frame of the exchange

abbrev SentOf : Ticked → Option Packet → Type 0
SentOf t None = Unit {0}
SentOf t (Some p) = (x : Exchange) × (exchange_in t.session.state ≡ Some x) × (p ≡ frame_of x t.session)

abbrev SendsOf : Ticked → Type 0
SendsOf t = SentOf t t.step.frame

sends_of : (state : State) (s : Session) (w : List Command) → SendsOf (ticks_in state s w)
sends_of Closed s w = tt
sends_of (Quiet until) s w =
    either_way SendsOf (nat_le until s.greatest) (begins Opening 0 s w) (stays s w) (λ b. (Opening, refl, refl)) (λ b. tt)
sends_of (Idle due) s w = idle_way SendsOf due s w (λ b. (Polling, refl, refl)) (λ b. tt) (λ command rest e. (Asking command, refl, refl))
sends_of (Waiting until sends o) s w =
    either_way SendsOf (nat_le until s.greatest) (tries_again sends o s w) (stays s w)
    (λ b. either_way SendsOf (nat_lt sends s.config.sends) (sends_frame (sends + 1) o s w) (gives_up o s w) (λ c. (o.exchange, refl, refl)) (λ c. tt))
    (λ b. tt)
sends_of (Pausing until o) s w =
    either_way SendsOf (nat_le until s.greatest) (sends_frame 1 o s w) (stays s w) (λ b. (o.exchange, refl, refl)) (λ b. tt)

pub sends_its_frame : (now : ℕ) (s : Session) (w : List Command) → SendsItsFrame now s w
sends_its_frame now s w p e = subst (SentOf (ticks_in s.state (seen now s) w)) e (sends_of s.state (seen now s) w)
