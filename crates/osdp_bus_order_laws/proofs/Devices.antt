-- What packets and ticks make of one device: its setting, its exchange, and what its last exchange was.
use Rattle.osdp_bus_order_laws.proofs.Common.{◌≡◌, ◌∙◌, ap, sym, subst, inl, inr, refl, ℕ, ◌+◌, Bool, true, false, List, [], ◌∷◌, Option, Some, None, ◌⊎◌, is_some, nat_le, nat_lt, Packet, Command, Exchange, Opening, Polling, Asking, next_sequence, Session, State, Closed, Quiet, Idle, Waiting, Pausing, Heard, hears, is_outstanding, is_closed, is_quiet, is_under_way, is_poll_next, acts, either_way, GoesOn, IsAnswered, asked_in, exchange_in, frame_ends, Entry, entry_hears, entry_ticks, holds, seen_by, Ticked, ticks_in, is_polling}
use Rattle.osdp_controller.proofs.Idling.{asks_front, poll_way, polls_alone, polls_first}
use Rattle.osdp_controller.specs.Ticking.{begins, gives_up, idle_ticks, sends_frame, stays, tries_again}
use Rattle.osdp_controller_laws.specs.Runs.{Hear as HearOf, Tick as TickOf}
use Rattle.osdp_controller_laws.proofs.InOrder.{none_outstanding}
use Rattle.osdp_controller_laws.proofs.OneCall.{keeps_settings}
use Rattle.osdp_controller_laws.proofs.Stepwise.{frames_in_steps}
use Rattle.osdp_controller_laws.proofs.Ticks.{takes_front}
use Rattle.osdp_bus_time_laws.proofs.Ordered.{not_idle}
use Rattle.osdp_bus_time_laws.proofs.Asking.{SameNext, heard_on, heard_same}
use Rattle.osdp_bus_order_laws.proofs.Hearing.{asked}

abbrev pub polls : Entry → Bool
polls d = is_polling (exchange_in d.controller.session.state)

abbrev pub closed : Entry → Bool
closed d = is_closed d.controller.session.state

abbrev pub waits : Entry → List Command
waits d = d.controller.waiting

abbrev pub next : Entry → Bool
next d = is_poll_next d.controller.session

-- no exchange of it begins
pub record Keeps (d e : Entry) : Type 0 where
  pub same : SameNext d.controller.session e.controller.session
  pub exchange : (exchange_in e.controller.session.state ≡ exchange_in d.controller.session.state) ⊎ (exchange_in e.controller.session.state ≡ None)
  pub on : is_under_way d.controller.session.state ≡ true → is_quiet e.controller.session.state ≡ false

not_quiet : (state : State) → is_under_way state ≡ true → is_quiet state ≡ false
not_quiet Closed under = cc
not_quiet (Quiet until) under = cc
not_quiet _ under = refl

pub keeps_same : (d e : Entry) → e.controller.session ≡ d.controller.session → Keeps d e
keeps_same d e same =
    subst (λ (s : Session). Keeps d (record e { controller = record e.controller { session = s } })) (sym same)
    (record { same = (refl, refl); exchange = inl refl; on = not_quiet d.controller.session.state })

either_then : (a b c : Option Exchange) → (b ≡ a) ⊎ (b ≡ None) → (c ≡ b) ⊎ (c ≡ None) → (c ≡ a) ⊎ (c ≡ None)
either_then a b c first (inr none) = inr none
either_then a b c (inl same) (inl still) = inl (still ∙ same)
either_then a b c (inr none) (inl still) = inr (still ∙ none)

keeps_then : (d e f : Entry) → Keeps d e → SameNext e.controller.session f.controller.session
    → (exchange_in f.controller.session.state ≡ exchange_in e.controller.session.state) ⊎ (exchange_in f.controller.session.state ≡ None)
    → (is_quiet e.controller.session.state ≡ false → is_quiet f.controller.session.state ≡ false) → Keeps d f
keeps_then d e f k (setting, order) exchange on = record {
  same = (setting ∙ k.same.0, order ∙ k.same.1);
  exchange = either_then (exchange_in d.controller.session.state) (exchange_in e.controller.session.state) (exchange_in f.controller.session.state) k.exchange exchange;
  on = λ under. on (k.on under);
}

-- ---- a packet

heard_exchange : (o : Option Exchange) (p : Packet) (now : ℕ) (s : Session) → exchange_in s.state ≡ o
    → (exchange_in (hears p now s).session.state ≡ exchange_in s.state) ⊎ (exchange_in (hears p now s).session.state ≡ None)
heard_exchange None p now s is =
    inl (ap (λ (h : Heard). exchange_in h.session.state) ((frames_in_steps p now s).not_outstanding (none_outstanding s.state is)))
heard_exchange (Some x) p now s is = by_end (frame_ends x p now s is)
  where
    by_end : GoesOn x (hears p now s).session.state (hears p now s).report ⊎ IsAnswered x (hears p now s).session.state (hears p now s).report
        → (exchange_in (hears p now s).session.state ≡ exchange_in s.state) ⊎ (exchange_in (hears p now s).session.state ≡ None)
    by_end (inl on) = inl (on.outstanding ∙ sym is)
    by_end (inr answered) = inr answered.ended

pub keeps_heard : (d e : Entry) (p : Packet) (now : ℕ) → Keeps d e → Keeps d (entry_hears p now e)
keeps_heard d e p now k =
    let s = e.controller.session in
    keeps_then d e (entry_hears p now e) k (heard_same p now s) (heard_exchange (exchange_in s.state) p now s refl) (heard_on p now s)

-- ---- a tick of a device that holds the line

abbrev TickKeeps : Session → State → Ticked → Type 0
TickKeeps s state t =
    SameNext s t.session × ((exchange_in t.session.state ≡ exchange_in state) ⊎ (exchange_in t.session.state ≡ None)) × (is_quiet t.session.state ≡ false)

tick_keeps : (state : State) (s : Session) (w : List Command) → is_outstanding state ≡ true → exchange_in s.state ≡ exchange_in state
    → is_quiet s.state ≡ false → TickKeeps s state (ticks_in state s w)
tick_keeps (Waiting until sends o) s w stands same quiet =
    let state = Waiting until sends o in
    either_way (TickKeeps s state) (nat_le until s.greatest) (tries_again sends o s w) (stays s w)
    (λ b. either_way (TickKeeps s state) (nat_lt sends s.config.sends) (sends_frame (sends + 1) o s w) (gives_up o s w)
    (λ more. ((refl, refl), inl refl, refl)) (λ more. ((refl, refl), inr refl, refl)))
    (λ b. ((refl, refl), inl same, quiet))
tick_keeps (Pausing until o) s w stands same quiet =
    let state = Pausing until o in
    either_way (TickKeeps s state) (nat_le until s.greatest) (sends_frame 1 o s w) (stays s w) (λ b. ((refl, refl), inl refl, refl)) (λ b. ((refl, refl), inl same, quiet))
tick_keeps _ s w stands same quiet = absurd cc

holder_on : (state : State) → is_outstanding state ≡ true → is_quiet state ≡ false
holder_on (Quiet until) stands = absurd cc
holder_on _ stands = refl

pub keeps_ticked : (d e : Entry) (g : ℕ) → holds e ≡ true → Keeps d e → Keeps d (entry_ticks g e)
keeps_ticked d e g stands k =
    let s = e.controller.session in
    let t = tick_keeps s.state (seen_by g s) e.controller.waiting stands refl (holder_on s.state stands) in
    keeps_then d e (entry_ticks g e) k t.0 t.1 (λ on. t.2)

-- what waits stays
pub holder_waits : (e : Entry) (g : ℕ) → holds e ≡ true → waits (entry_ticks g e) ≡ waits e
holder_waits e g stands = (takes_front g e.controller.session e.controller.waiting).stay (not_idle e.controller.session.state stands)

-- ---- a tick that begins an exchange

-- a POLL goes out, or the opening ID: no command waits, a POLL has to come first, or the session waited for its opening
pub record Polled (quiet poll_next : Bool) (w : List Command) (exchange : Option Exchange) (asks : Option Command) (after : List Command) : Type 0 where
  pub none : asks ≡ None
  pub waiting : after ≡ w
  pub poll : (is_polling exchange ≡ true) ⊎ (quiet ≡ true)
  pub why : (w ≡ []) ⊎ ((poll_next ≡ true) ⊎ (quiet ≡ true))

-- .. or the order that waited at the front, where no POLL has to come first
pub record Ordered (poll_next : Bool) (w : List Command) (asks : Option Command) (after : List Command) : Type 0 where
  pub command : Command
  pub asked : asks ≡ Some command
  pub front : w ≡ command ∷ after
  pub may : poll_next ≡ false

abbrev pub BegunIn : Bool → Bool → List Command → Session → List Command → Type 0
BegunIn quiet poll_next w t after =
    (t.asked ≡ is_some (asked_in t.state))
    × (Polled quiet poll_next w (exchange_in t.state) (asked_in t.state) after ⊎ Ordered poll_next w (asked_in t.state) after)

abbrev BegunTo : Bool → Session → List Command → Ticked → Type 0
BegunTo quiet s w t = acts t.step ≡ true → SameNext s (record t.session { asked = s.asked }) × BegunIn quiet (is_poll_next s) w t.session t.waiting

begun_idle : (b : Bool) (due : ℕ) (s : Session) (w : List Command) → is_poll_next s ≡ b → BegunTo false s w (idle_ticks w due s)
begun_idle true due s w is =
    subst (BegunTo false s w) (sym (polls_first due s w is))
    (poll_way (BegunTo false s w) due s w
    (λ b h. ((refl, refl), (refl, inl (record { none = refl; waiting = refl; poll = inl refl; why = inr (inl is) })))) (λ b h. cc))
begun_idle false due s [] is =
    subst (BegunTo false s []) (sym (polls_alone due s))
    (poll_way (BegunTo false s []) due s []
    (λ b h. ((refl, refl), (refl, inl (record { none = refl; waiting = refl; poll = inl refl; why = inl refl })))) (λ b h. cc))
begun_idle false due s (command ∷ rest) is =
    subst (BegunTo false s (command ∷ rest)) (sym (asks_front due s command rest is))
    (λ h. ((refl, refl), (refl, inr (record { command = command; asked = refl; front = refl; may = is }))))

begun_in : (state : State) (s : Session) (w : List Command) → is_outstanding state ≡ false → BegunTo (is_quiet state) s w (ticks_in state s w)
begun_in Closed s w free = λ h. cc
begun_in (Quiet until) s w free =
    either_way (BegunTo true s w) (nat_le until s.greatest) (begins Opening 0 s w) (stays s w)
    (λ b h. ((refl, refl), (refl, inl (record { none = refl; waiting = refl; poll = inr refl; why = inr (inr refl) })))) (λ b h. cc)
begun_in (Idle due) s w free = begun_idle (is_poll_next s) due s w refl
begun_in (Waiting until sends o) s w free = absurd cc
begun_in (Pausing until o) s w free = absurd cc

-- a device that begins an exchange
pub record Starts (f e : Entry) : Type 0 where
  pub setting : e.controller.session.config.poll_between_orders ≡ f.controller.session.config.poll_between_orders
  pub begun : BegunIn (is_quiet f.controller.session.state) (next f) (waits f) e.controller.session (waits e)

pub starts : (f : Entry) (g : ℕ) → holds f ≡ false
    → acts (ticks_in f.controller.session.state (seen_by g f.controller.session) f.controller.waiting).step ≡ true → Starts f (entry_ticks g f)
starts f g free due =
    let b = begun_in f.controller.session.state (seen_by g f.controller.session) f.controller.waiting free due in
    record { setting = b.0.0; begun = b.1 }
