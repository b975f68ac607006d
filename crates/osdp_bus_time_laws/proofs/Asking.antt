-- An exchange of an entry takes the command that waits at the front.
use Rattle.osdp_bus_time_laws.proofs.Common.{◌≡◌, ◌∙◌, ap, sym, subst, inl, inr, ◌⊎◌, ℕ, Bool, true, false, ◌&&◌, max, List, [], ◌∷◌, Some, refl, Packet, Command, Polling, Session, State, Closed, Quiet, Idle, Waiting, Pausing, meaning_of, Heard, hears, is_idle, is_poll_next, idle_way, poll_way, polls_first, in_a_row, takes_front, is_quiet, is_under_way, Entry, BusState, device_of, entry_ticks, holds, BusTicked, ticks_with, Call, after_call, Begins, asking, begun_ticked, is_false, set_here, still_free, PollsElse, TakesTheFront}
use Rattle.osdp_controller.specs.declared.meaning.ReplyMeaning.{ReplyMeaning}
use Rattle.osdp_controller.specs.Machine.{acts, is_outstanding}
use Rattle.osdp_controller.specs.Private.{numbered_in}
use Rattle.osdp_controller.specs.Sessions.{seen}
use Rattle.osdp_controller.specs.Ticking.{Ticked, ticks_in}
use Rattle.osdp_controller_laws.specs.Commands.{asked_in, command_of}
use Rattle.osdp_controller_laws.specs.Laws.{exchange_in}
use Rattle.osdp_controller_laws.proofs.Frames.{OfEach, either_frame, of_pause, of_wait}
use Rattle.osdp_bus_time_laws.proofs.Places.{asking_place, one_device}

-- ---- no packet makes a session wait for its opening

abbrev NotQuiet : Heard → Type 0
NotQuiet h = is_quiet h.session.state ≡ false

each_on : (s : Session) → is_quiet s.state ≡ false → OfEach NotQuiet s
each_on s on = record { ignored = on; rested = λ told. refl; moved = λ d command. refl; lost = λ cause o. refl }

numbered_on : (state : State) (a : ReplyMeaning) (s : Session) → is_quiet s.state ≡ false → NotQuiet (numbered_in state a s)
numbered_on (Waiting until sends o) a s on = of_wait NotQuiet s (each_on s on) a sends o refl refl
numbered_on (Pausing until o) a s on = of_pause NotQuiet s (each_on s on) a o
numbered_on _ a s on = on

pub heard_on : (p : Packet) (now : ℕ) (s : Session) → is_quiet s.state ≡ false → NotQuiet (hears p now s)
heard_on p now s on = either_frame NotQuiet p now s (λ from number. numbered_on s.state (meaning_of p) (seen now s) on) on

-- ---- who begins an exchange and isn't quiet is at rest

begins_at_rest : (n : ℕ) (state : State) (s : Session) (w : List Command) → is_quiet state ≡ false → is_outstanding state ≡ false → acts (ticks_in state s w).step ≡ true
    → is_idle state ≡ true
begins_at_rest n (Idle at) s w on out due = refl
begins_at_rest n _ s w on out due = cc

not_quiet : (state : State) → is_under_way state ≡ true → is_quiet state ≡ false
not_quiet Closed under = cc
not_quiet (Quiet until) under = cc
not_quiet _ under = refl

-- no packet changes whether a POLL comes next: the setting, and whether the last exchange asked an order

abbrev pub SameNext : Session → Session → Type 0
SameNext s t = (t.config.poll_between_orders ≡ s.config.poll_between_orders) × (t.asked ≡ s.asked)

module _ (s : Session) where
  abbrev SameIn : Heard → Type 0
  SameIn h = SameNext s h.session

  each_same : (t : Session) → SameNext s t → OfEach SameIn t
  each_same t is = record { ignored = is; rested = λ told. is; moved = λ d command. is; lost = λ cause o. is }

  numbered_same : (state : State) (a : ReplyMeaning) (t : Session) → SameNext s t → SameIn (numbered_in state a t)
  numbered_same (Waiting until sends o) a t is = of_wait SameIn t (each_same t is) a sends o is is
  numbered_same (Pausing until o) a t is = of_pause SameIn t (each_same t is) a o
  numbered_same _ a t is = is

pub heard_same : (p : Packet) (now : ℕ) (s : Session) → SameNext s (hears p now s).session
heard_same p now s =
    either_frame (SameIn s) p now s (λ from number. numbered_same s s.state (meaning_of p) (seen now s) (refl, refl)) (refl, refl)

pub same_next : (s t : Session) → SameNext s t → is_poll_next t ≡ is_poll_next s
same_next s t (setting, asked) = ap (λ (b : Bool). b && t.asked) setting ∙ ap (λ (b : Bool). s.config.poll_between_orders && b) asked

abbrev OnItsWay : Bool → List Command → Entry → Type 0
OnItsWay next w d =
    (is_quiet d.controller.session.state ≡ false) × (is_poll_next d.controller.session ≡ next) × (d.controller.waiting ≡ w)

-- the device that begins, as it is asked, and what it leaves
record Beginning (call : Call) (b : BusState) (entry : ℕ) (next : Bool) (w : List Command) : Type 0 where
  now : ℕ
  device : Entry
  after : device_of entry (after_call call b) ≡ Some (entry_ticks now device)
  idle : is_idle device.controller.session.state ≡ true
  poll_next : is_poll_next device.controller.session ≡ next
  waits : device.controller.waiting ≡ w
  due : acts (ticks_in device.controller.session.state (seen now device.controller.session) device.controller.waiting).step ≡ true

beginning : (b : BusState) (call : Call) (entry : ℕ) (next : Bool) (w : List Command) (d : Entry) → device_of entry b ≡ Some d
    → is_under_way d.controller.session.state ≡ true → is_poll_next d.controller.session ≡ next → d.controller.waiting ≡ w → Begins call entry b
    → Beginning call b entry next w
beginning b call entry next w d there under is waits begun =
    let g = max b.greatest begun.now in
    let r = asking begun.now b in
    let f = begun.next.due.device in
    let asked = asking_place g (OnItsWay next w) (λ p e on. (
      heard_on p g e.controller.session on.0,
      same_next e.controller.session (hears p g e.controller.session).session (heard_same p g e.controller.session) ∙ on.1,
      on.2,
    )) entry begun.now b refl
    (d, there, (not_quiet d.controller.session.state under, is, waits)) in
    let one = one_device (device_of entry r) asked.0 f asked.1 begun.next.due.there in
    let on : OnItsWay next w f = subst (OnItsWay next w) one asked.2 in
    let free = is_false (holds f) (λ h. still_free begun.now b begun.free entry f begun.next.due.there h) in
    let after : after_call call b ≡ (ticks_with entry (Some f) r).bus =
    ap (λ t. after_call t b) begun.tick ∙ ap (λ (t : BusTicked). t.bus) (begun_ticked begun.now entry b begun.free begun.next) in record {
      now = r.greatest;
      device = f;
      after = ap (device_of entry) after ∙ set_here r.devices.entries entry f (entry_ticks r.greatest f) begun.next.due.there;
      idle = begins_at_rest r.greatest f.controller.session.state (seen r.greatest f.controller.session) f.controller.waiting on.0 free begun.next.due.due;
      poll_next = on.1;
      waits = on.2;
      due = begun.next.due.due;
    }

-- the front is asked where no POLL has to come first
pub asks_the_front : (b : BusState) (call : Call) (entry : ℕ) (command : Command) (rest : List Command) (d : Entry) → device_of entry b ≡ Some d
    → is_under_way d.controller.session.state ≡ true → is_poll_next d.controller.session ≡ false → d.controller.waiting ≡ command ∷ rest → Begins call entry b
    → (e : Entry) × (device_of entry (after_call call b) ≡ Some e) × (asked_in e.controller.session.state ≡ Some command) × (e.controller.waiting ≡ rest)
asks_the_front b call entry command rest d there under may waits begun =
    let own = beginning b call entry false (command ∷ rest) d there under may waits begun in
    let f = own.device in
    let front = (takes_front own.now f.controller.session f.controller.waiting).front command rest own.idle own.poll_next own.waits in
    (entry_ticks own.now f, own.after, ap command_of front.0, front.1)

pub takes_the_front : (b : BusState) → TakesTheFront b
takes_the_front b call entry command rest d there under alone waits begun =
    asks_the_front b call entry command rest d there under (in_a_row d.controller.session alone) waits begun

-- a POLL where one has to come first, or none waits; what waits stays
abbrev Polls : List Command → Ticked → Type 0
Polls w t = acts t.step ≡ true → (exchange_in t.session.state ≡ Some Polling) × (t.waiting ≡ w)

poll_tells : (state : State) (s : Session) (w : List Command) → is_idle state ≡ true → (w ≡ []) ⊎ (is_poll_next s ≡ true) → Polls w (ticks_in state s w)
poll_tells (Idle at) s w idle (inl none) =
    idle_way (Polls w) at s w (λ b h. (refl, refl)) (λ b h. cc) (λ command rest has h. absurd (let both : command ∷ rest ≡ [] = sym has ∙ none in cc))
poll_tells (Idle at) s w idle (inr next) =
    subst (Polls w) (sym (polls_first at s w next)) (poll_way (Polls w) at s w (λ b h. (refl, refl)) (λ b h. cc))
poll_tells _ s w idle why = cc

pub polls_when : (b : BusState) (call : Call) (entry : ℕ) (next : Bool) (w : List Command) (d : Entry) → device_of entry b ≡ Some d
    → is_under_way d.controller.session.state ≡ true → is_poll_next d.controller.session ≡ next → d.controller.waiting ≡ w → (w ≡ []) ⊎ (next ≡ true)
    → Begins call entry b
    → (e : Entry) × (device_of entry (after_call call b) ≡ Some e) × (exchange_in e.controller.session.state ≡ Some Polling) × (e.controller.waiting ≡ w)
polls_when b call entry next w d there under is waits why begun =
    let own = beginning b call entry next w d there under is waits begun in
    let f = own.device in
    let poll = poll_tells f.controller.session.state (seen own.now f.controller.session) f.controller.waiting own.idle (because own why) own.due in
    (entry_ticks own.now f, own.after, poll.0, poll.1 ∙ own.waits)
  where
    because : (own : Beginning call b entry next w) → (w ≡ []) ⊎ (next ≡ true) → (own.device.controller.waiting ≡ []) ⊎ (is_poll_next own.device.controller.session ≡ true)
    because own (inl none) = inl (own.waits ∙ none)
    because own (inr is) = inr (own.poll_next ∙ is)

pub polls_else : (b : BusState) → PollsElse b
polls_else b call entry d there under waits begun =
    polls_when b call entry (is_poll_next d.controller.session) [] d there under refl waits (inl refl) begun
