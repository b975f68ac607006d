-- Room for what waits, however long each message is.
use Rattle.osdp_sim_laws.proofs.Common.{◌≡◌, ◌<◌, ◌≤◌, ◌+◌, ◌-◌, ◌*◌, ◌&&◌, ℕ, arith, Bool, true, false, ltb, leb, if◌then◌else◌, List, [], ◌∷◌, ◌++◌, length, drop, inl, inr, refl, sym, subst, ap, ◌∙◌, le-leb, lt-ltb, ltb-true, leb_tells, length-append, next_sequence, most_data, Command, Event, Machine, Ticked, begins, idle_way, gives_up, sends_frame, stays, ticks_in, tries_again, Session, State, Closed, Quiet, Idle, Waiting, Pausing, EventQueue, both, Each, HoldsAlong, SimStep, Issue, Queue}
use Rattle.std.proofs.lemmas.Bool.{and_parts, not-false, not-true}
use Rattle.std.specs.Option.{option_map_or}
use Rattle.osdp_msg.specs.CommandTable.{CommandFits, command_code, command_counts_agree, command_data, command_fault, command_length_allowed}
use Rattle.osdp_msg.specs.Events.{EventFits}
use Rattle.osdp_msg.proofs.Commands.{commands}
use Rattle.osdp_msg.proofs.Table.{bounded}
use Rattle.osdp_controller.specs.Held.{on_its_way}
use Rattle.osdp_controller.specs.Machine as controllers
use Rattle.osdp_controller.specs.declared.exchange.Exchange.TheVariants.{Asking, Opening}
use Rattle.osdp_reader.specs.Queue as reader
use Rattle.osdp_reader_laws.proofs.Places.{event_is_short}

-- ---- how long a message is

pub command_is_short : (c : Command) → CommandFits c → controllers.command_size c ≤ 1 + most_data
unfolding command_fault
command_is_short c fits =
    let code = command_code c in
    let bytes = command_data c in
    let well = commands.well code bytes c (record { code_is = refl; data_is = refl; fits = fits }) in
    let few = bounded (command_length_allowed code (length bytes)) (length bytes) (command_counts_agree code bytes) well in
    omega (arith, few)

-- a step's command or event has its fields in their ranges
abbrev pub OrderFits : SimStep → Type 0
OrderFits (Issue number command) = CommandFits command
OrderFits (Queue number event) = EventFits event
OrderFits _ = Unit {0}

-- so it is of each step of a run whose steps fit
pub orders_fit : {S : Type 0} (taking : SimStep → S → S) (Fits : SimStep → S → Type 0) → ((step : SimStep) (s : S) → Fits step s → OrderFits step)
    → (list : List SimStep) (s : S) → HoldsAlong taking Fits list s → Each OrderFits list
orders_fit taking Fits fits [] s along = tt
orders_fit taking Fits fits (step ∷ list) s along = (fits step s along.0, orders_fit taking Fits fits list (taking step s) along.1)

-- ---- what waits

-- No more than so many messages wait, with no more bytes than the longest of them would have, and there is room for as many as may wait.
pub record IsShort (k n size places room : ℕ) : Type 0 where
  pub few : n ≤ k
  pub bytes : size ≤ k * (1 + most_data)
  pub ample : room ≡ places * (1 + most_data)

abbrev pub ShortCommands : ℕ → Machine → Type 0
ShortCommands k m = IsShort k (length m.waiting) (controllers.bytes_waiting m.waiting) m.capacity m.room

abbrev pub ShortEvents : ℕ → EventQueue → Type 0
ShortEvents k q = IsShort k (length q.events) (reader.bytes_waiting q.events) q.capacity q.room

-- where there is no room for a message as many wait as may
no_room : (k n size places room more : ℕ) → IsShort k n size places room → more ≤ 1 + most_data
    → (ltb n places && leb more (room - size)) ≡ false → places ≤ k
no_room k n size places room more is fits refused = elim (leb_tells places n) [
  | inl full ↦ omega (arith, is.few, full.1)
  | inr place ↦ elim (leb_tells more (room - size)) [
    | inl left ↦ absurd (let e = sym refused ∙ ap (λ b. b && leb more (room - size)) (lt-ltb n places place.1) ∙ left.0 in cc)
    | inr less ↦ omega (arith, is.bytes, is.ample, fits, less.1)
  ]
]

-- the command that is on its way has room beside them
not_counted : (m : Machine) → m.room ≡ m.capacity * (1 + most_data) → controllers.bytes_on_its_way m ≡ 0
not_counted m ample =
    ap (λ (t : Bool). if t then 0 else option_map_or controllers.command_size (on_its_way m.session.state) 0) (le-leb (m.capacity * (1 + most_data)) m.room (omega (arith, ample)))

pub no_room_for_command : (k : ℕ) (c : Command) (m : Machine) → ShortCommands k m → CommandFits c → controllers.has_room c m ≡ false → m.capacity ≤ k
no_room_for_command k c m is fits refused =
    no_room k (length m.waiting) (0 + controllers.bytes_waiting m.waiting) m.capacity m.room (controllers.command_size c)
    (record { few = is.few; bytes = omega (arith, is.bytes); ample = is.ample }) (command_is_short c fits)
    (sym (ap (λ (n : ℕ). ltb (length m.waiting) m.capacity && leb (controllers.command_size c) (m.room - (n + controllers.bytes_waiting m.waiting))) (not_counted m is.ample)) ∙ refused)

pub no_room_for_event : (k : ℕ) (e : Event) (q : EventQueue) → ShortEvents k q → EventFits e → reader.lacks_room e q ≡ true → q.capacity ≤ k
no_room_for_event k e q is fits refused =
    no_room k (length q.events) (reader.bytes_waiting q.events) q.capacity q.room (reader.event_size e) is (event_is_short e fits)
    (not-true (reader.has_room e q) refused)

-- a message that has room has a place
pub place_for_command : (c : Command) (m : Machine) → controllers.has_room c m ≡ true → length m.waiting < m.capacity
place_for_command c m is =
    ltb-true (length m.waiting) m.capacity
    (and_parts (ltb (length m.waiting) m.capacity) (leb (controllers.command_size c) (m.room - controllers.bytes_kept m)) is).0

pub place_for_event : (e : Event) (q : EventQueue) → reader.lacks_room e q ≡ false → length q.events < q.capacity
place_for_event e q is =
    ltb-true (length q.events) q.capacity
    (and_parts (ltb (length q.events) q.capacity) (leb (reader.event_size e) (q.room - reader.bytes_waiting q.events)) (not-false (reader.has_room e q) is)).0

-- one more waits
commands_bytes : (cs ds : List Command) → controllers.bytes_waiting (cs ++ ds) ≡ controllers.bytes_waiting cs + controllers.bytes_waiting ds
commands_bytes [] ds = omega arith
commands_bytes (c ∷ cs) ds = let rest = commands_bytes cs ds in omega (arith, rest)

events_bytes : (es fs : List Event) → reader.bytes_waiting (es ++ fs) ≡ reader.bytes_waiting es + reader.bytes_waiting fs
events_bytes [] fs = omega arith
events_bytes (e ∷ es) fs = let rest = events_bytes es fs in omega (arith, rest)

pub one_more_command : (k : ℕ) (c : Command) (m : Machine) → CommandFits c → ShortCommands k m → ShortCommands (k + 1) (controllers.after_submit c m)
one_more_command k c m fits is = record {
  few = omega (arith, is.few, length-append m.waiting (c ∷ []));
  bytes = omega (arith, is.bytes, commands_bytes m.waiting (c ∷ []), command_is_short c fits);
  ample = is.ample;
}

pub one_more_event : (k : ℕ) (e : Event) (q : EventQueue) → EventFits e → ShortEvents k q → ShortEvents (k + 1) (reader.queued e q)
one_more_event k e q fits is = record {
  few = omega (arith, is.few, length-append q.events (e ∷ []));
  bytes = omega (arith, is.bytes, events_bytes q.events (e ∷ []), event_is_short e fits);
  ample = is.ample;
}

-- no more wait than before, with no more bytes, and there is room for as many
pub record IsFewer (count size places room count_now size_now places_now room_now : ℕ) : Type 0 where
  pub messages : count_now ≤ count
  pub bytes : size_now ≤ size
  pub capacity : places_now ≡ places
  pub ample : room_now ≡ room

abbrev pub FewCommands : Machine → Machine → Type 0
FewCommands m n =
    IsFewer (length m.waiting) (controllers.bytes_waiting m.waiting) m.capacity m.room (length n.waiting) (controllers.bytes_waiting n.waiting) n.capacity n.room

abbrev pub FewEvents : EventQueue → EventQueue → Type 0
FewEvents q p = IsFewer (length q.events) (reader.bytes_waiting q.events) q.capacity q.room (length p.events) (reader.bytes_waiting p.events) p.capacity p.room

pub same_few : {count size places room : ℕ} → IsFewer count size places room count size places room
same_few = record { messages = omega arith; bytes = omega arith; capacity = refl; ample = refl }

pub stay_short : {count size places room count_now size_now places_now room_now : ℕ} (k : ℕ) → IsFewer count size places room count_now size_now places_now room_now
    → IsShort k count size places room → IsShort k count_now size_now places_now room_now
stay_short k few is = record {
  few = omega (arith, is.few, few.messages);
  bytes = omega (arith, is.bytes, few.bytes);
  ample = few.ample ∙ is.ample ∙ ap (λ (n : ℕ). n * (1 + most_data)) (sym few.capacity);
}

-- ---- what a tick and a packet leave

-- a tick makes no command wait
abbrev pub Few : List Command → Ticked → Type 0
Few w t = (length t.waiting ≤ length w) × (controllers.bytes_waiting t.waiting ≤ controllers.bytes_waiting w)

as_many : (w : List Command) → (length w ≤ length w) × (controllers.bytes_waiting w ≤ controllers.bytes_waiting w)
as_many w = (omega arith, omega arith)

pub tick_few : (state : State) (s : Session) (w : List Command) → Few w (ticks_in state s w)
tick_few Closed s w = as_many w
tick_few (Quiet until) s w = both (Few w) (leb until s.greatest) (begins Opening 0 s w) (stays s w) (as_many w) (as_many w)
tick_few (Idle due) s w =
    idle_way (Few w) due s w (λ e. as_many w) (λ e. as_many w)
    (λ c rest e. subst (λ ws. Few ws (begins (Asking c) (next_sequence s.number) s rest)) (sym e) (omega arith, omega arith))
tick_few (Waiting until k o) s w =
    both (Few w) (leb until s.greatest) (tries_again k o s w) (stays s w)
    (both (Few w) (ltb k s.config.sends) (sends_frame (k + 1) o s w) (gives_up o s w) (as_many w) (as_many w)) (as_many w)
tick_few (Pausing until o) s w = both (Few w) (leb until s.greatest) (sends_frame 1 o s w) (stays s w) (as_many w) (as_many w)

-- .. and no packet makes an event wait
pub dropped : (b : Bool) (es : List Event)
    → (length (if b then drop 1 es else es) ≤ length es) × (reader.bytes_waiting (if b then drop 1 es else es) ≤ reader.bytes_waiting es)
dropped true [] = (omega arith, omega arith)
dropped true (e ∷ es) = (omega arith, omega arith)
dropped false es = (omega arith, omega arith)
