-- What the calls of a site come to, whatever is called.
use Rattle.std.specs.Prelude.{◌≡◌, ◌≢◌, ℕ, ◌+◌, ◌-◌, ◌≤◌, Bool, true, false, ◌&&◌, ◌||◌, nat_le, nat_lt, min, ◌^◌, if◌then◌else◌, List, [], ◌∷◌, ◌++◌, take, Option, Some, None, is_ok, is_some}
use Rattle.std.specs.List.{All, list_any}
use Rattle.osdp_msg.specs.declared.command.Command.{Command}
use Rattle.osdp_bus.specs.declared.entry.Entry.{Entry}
use Rattle.osdp_bus.specs.Buses.{BusState, device_of}
use Rattle.osdp_bus.specs.Machine.{after_submit_at, order_refusal_at}
use Rattle.osdp_controller.specs.declared.report.Report.{Report}
use Rattle.osdp_controller.specs.declared.report.Report.TheVariants as report
use Rattle.osdp_controller.specs.Held.{on_its_way}
use Rattle.osdp_controller.specs.Machine.{command_size}
use Rattle.osdp_site.specs.declared.place.Presence.TheVariants.{Online, Offline}
use Rattle.osdp_site.specs.Acting.{acts_at, refreshes, submits, waiting_at}
use Rattle.osdp_site.specs.Places.{PlaceState, after_wants, changed_unless, due_of, heeds, is_due, is_online, is_reached, is_refreshed, opens, wants_refusal}
use Rattle.osdp_site.specs.Sites.{Both, SiteState, acts, next_begin, place_of}
use Rattle.osdp_site.specs.States.{subject_of}

-- ---- what is submitted

-- what is submitted where an entry acts over a panel
abbrev pub sent : ℕ → BusState → PlaceState → List Command
sent entry b p = if is_online p.presence then take (submits entry (due_of p) b).count (due_of p) else []

abbrev pub refreshed : ℕ → BusState → PlaceState → PlaceState
refreshed entry b p = (refreshes entry (record { place = p; panel = b })).place

-- the same again and again, over whatever panel each time
abbrev pub sent_over : ℕ → List BusState → PlaceState → List Command
sent_over entry [] p = []
sent_over entry (b ∷ bs) p = sent entry b p ++ sent_over entry bs (refreshed entry b p)

abbrev pub refreshed_over : ℕ → List BusState → PlaceState → PlaceState
refreshed_over entry [] p = p
refreshed_over entry (b ∷ bs) p = refreshed_over entry bs (refreshed entry b p)

-- once a session has opened, each state that is wanted is submitted once, in the order in which they were wanted; what isn't yet is due. Where the site says
-- that it is done, all were submitted
pub record SubmittedOnce (entry now : ℕ) (bs : List BusState) (p : PlaceState) : Type 0 where
  pub order : sent_over entry bs (opens now p) ++ due_of (refreshed_over entry bs (opens now p)) ≡ p.wanted
  pub done : is_refreshed (refreshed_over entry bs (opens now p)) ≡ true → sent_over entry bs (opens now p) ≡ p.wanted

-- a panel takes some commands, one after the other, and refuses none
abbrev pub Takes : ℕ → List Command → BusState → BusState → Type 0
Takes entry [] b after = after ≡ b
Takes entry (c ∷ cs) b after = (order_refusal_at entry c b ≡ None) × Takes entry cs (after_submit_at entry c b) after

-- nothing is left, or the panel refuses the first of what is
abbrev pub StopsAt : ℕ → List Command → BusState → Type 0
StopsAt entry [] b = Unit {0}
StopsAt entry (c ∷ cs) b = order_refusal_at entry c b ≢ None

-- where a device is online, the panel takes what is submitted, and nothing else; it stops where the panel refuses something. Where it is offline nothing changes
pub record IsTaken (entry : ℕ) (b : BusState) (p : PlaceState) : Type 0 where
  pub takes : Takes entry (sent entry b p) b (refreshes entry (record { place = p; panel = b })).panel
  pub stops : is_online p.presence ≡ true → StopsAt entry (due_of (refreshed entry b p)) (refreshes entry (record { place = p; panel = b })).panel
  pub wanted : (refreshed entry b p).wanted ≡ p.wanted

-- ---- what is wanted

-- a call that concerns an entry: a state is wanted, a report heeded, or it acts over a panel
pub data Move : Type 0 where
  Wants : Command → Move
  Heeds : Report → ℕ → Move
  Acts : BusState → ℕ → Move

-- the entry after it, where the number of the entry and the pause of the site are these
abbrev pub after_move : ℕ → ℕ → Move → PlaceState → PlaceState
after_move entry pause (Wants c) p = changed_unless (wants_refusal c p) p (after_wants c p)
after_move entry pause (Heeds r now) p = heeds pause now r p
after_move entry pause (Acts b now) p = (acts_at entry now (record { place = p; panel = b })).place

abbrev pub after_moves : ℕ → ℕ → List Move → PlaceState → PlaceState
after_moves entry pause [] p = p
after_moves entry pause (m ∷ ms) p = after_moves entry pause ms (after_move entry pause m p)

-- a command says a state: so what lasts for a time is never wanted, and never submitted again
abbrev pub IsState : Command → Type 0
IsState c = is_ok (subject_of c) ≡ true

-- ---- what can go out

-- a panel has an entry, with a place for a command and room for so many bytes, where no other command takes any
abbrev pub has_room_in : ℕ → Option Entry → Bool
has_room_in bytes None = false
has_room_in bytes (Some d) = nat_le 1 d.controller.capacity && nat_le bytes d.controller.room

abbrev pub has_room : ℕ → ℕ → BusState → Bool
has_room entry bytes b = has_room_in bytes (device_of entry b)

-- commands of an entry take room: some wait, or one is on its way
abbrev pub is_on_its_way : Option Entry → Bool
is_on_its_way None = false
is_on_its_way (Some d) = is_some (on_its_way d.controller.session.state)

abbrev pub takes_room : ℕ → BusState → Bool
takes_room entry b = nat_lt 0 (waiting_at entry b) || is_on_its_way (device_of entry b)

-- each state that is wanted fits. Where the device is online, and after it has acted no command of it takes room in the panel, each was submitted
pub record WaitsForOthers (entry bytes : ℕ) (b : BusState) (p : PlaceState) : Type 0 where
  pub fits : All (λ c. command_size c ≤ bytes) p.wanted
  pub submitted : has_room entry bytes b ≡ true → is_online p.presence ≡ true
      → takes_room entry (refreshes entry (record { place = p; panel = b })).panel ≡ false → due_of (refreshed entry b p) ≡ []

-- ---- what is online

-- reports in the order in which they came, each with its moment
abbrev pub heeds_all : ℕ → List (Report × ℕ) → PlaceState → PlaceState
heeds_all pause [] p = p
heeds_all pause ((r, now) ∷ hs) p = heeds_all pause hs (heeds pause now r p)

-- a session has opened, or has ended
abbrev pub is_opening : Report → Bool
is_opening (report.Opened id) = true
is_opening _ = false

abbrev pub is_end : Report → Bool
is_end (report.Moved command answered) = true
is_end (report.Lost cause command) = true
is_end _ = false

abbrev pub NoOpening : Report × ℕ → Type 0
NoOpening h = is_opening h.0 ≡ false

abbrev pub NoEnd : Report × ℕ → Type 0
NoEnd h = is_end h.0 ≡ false

-- a device is online since the moment of the opening after which no session has ended, and offline since the moment of the end after which none has opened
pub record OnlineBetween (pause : ℕ) (before after : List (Report × ℕ)) (r : Report) (now : ℕ) (p : PlaceState) : Type 0 where
  pub online : is_opening r ≡ true → All NoEnd after → is_online (heeds_all pause before p).presence ≡ false
      → (heeds_all pause (before ++ (r, now) ∷ after) p).presence ≡ Online now
  pub offline : is_end r ≡ true → All NoOpening after → is_online (heeds_all pause before p).presence ≡ true
      → (heeds_all pause (before ++ (r, now) ∷ after) p).presence ≡ Offline now

-- ---- when sessions begin

-- after the end of a session none is due before the pause is over, and from then on one is
abbrev pub WaitsForThePause : ℕ → Report → ℕ → List (Report × ℕ) → PlaceState → Type 0
WaitsForThePause pause r ended after p =
    is_end r ≡ true → All NoEnd after → (at : ℕ) → is_due at (heeds_all pause ((r, ended) ∷ after) p) ≡ nat_le (min (ended + pause) (2 ^ 64 - 1)) at

-- when all have acted, no session is due any more
abbrev pub NoneIsDue : ℕ → Both → Type 0
NoneIsDue now x = (entry : ℕ) (p : PlaceState) → place_of entry (acts now x).site ≡ Some p → is_due now p ≡ false

-- the deadline of a site: at a moment some session is due exactly where that is reached
abbrev pub IsFirstBegin : ℕ → SiteState → Type 0
IsFirstBegin now s = list_any (is_due now) s.places ≡ is_reached now (next_begin s)
