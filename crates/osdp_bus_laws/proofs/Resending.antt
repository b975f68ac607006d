-- While an exchange holds the line its frame is the one that went out last.
use Rattle.osdp_bus_laws.proofs.Common.{◌≡◌, ◌∙◌, ap, sym, inl, inr, ℕ, ◌||◌, Bool, true, false, max, List, [], ◌∷◌, ◌++◌, length, Option, Some, None, refl, is_some, option_map, slice_get, slice_set, option_map_or, option_or, items, Packet, RunItem, Session, State, Closed, Waiting, Pausing, Machine, is_outstanding, refused_unless_closed, retarget_refusal, sent_in, frame_of, either_way, exchange_in, CallOf, TickOf, Hear, after_call_of, sent_by_of, was_closed, begins_with_frame, Entry, BusFault, BusState, Devices, device_of, has_report, holder, is_silent, new_bus, seen, entry_hears, entry_ticks, holds, is_taken_beside, step_of, after_bytes, ends_run, ends_silent, hears_bytes, hears_items, hears_with, add_refusal, after_add, after_begin_at, after_retarget_at, after_submit_at, begin_refusal_at, bus_fault, changed_unless, changes_entry, entry_begins, entry_retargets, entry_submits, entry_withdraws, new_device, retarget_refusal_at, retarget_refusal_of, submit_refusal_at, BusTicked, bus_ticks, is_due_at, next_due, stays, ticks_at, ticks_by, ticks_free, ticks_held, ticks_on, ticks_with, has_comset, Call, Add, Begin, Submit, Withdraw, Retarget, OnBytes, OnSilence, Tick, NextReport, after_call, after_calls, own_frame, asking, judged}
use Rattle.osdp_frame.specs.Spelling.{Spells, spelling}
use Rattle.osdp_frame.proofs.Spelled.{spelled_is}
use Rattle.osdp_controller_laws.proofs.Lasting.{Holds, holds_call, more}
use Rattle.osdp_bus_laws.specs.Resending.{HoldersSendTheSame, IsTheLastAgain, last_sent, sent_by}
use Rattle.osdp_bus_laws.proofs.Calling.{map_none, no_device, or_none, sound_call, sound_new}
use Rattle.osdp_bus_laws.proofs.Changing.{HoldsAlone}
use Rattle.osdp_bus_laws.proofs.Hearing.{items_keep}
use Rattle.osdp_bus_laws.proofs.OneDevice.{heard_holds}
use Rattle.osdp_bus_laws.proofs.Places.{IsAt, added, replaced}
use Rattle.osdp_bus_laws.proofs.Sending.{holders_send_their_frame}
use Rattle.osdp_bus_laws.proofs.Sound.{IsNobody, SoundBus, either_held, nobody, sound_run, sound_seen, sound_silent, still_nobody}
use Rattle.osdp_bus_laws.proofs.Turning.{frame_sent}

-- ---- one controller

abbrev pub framed : State → Session → Option Packet
framed state s = option_map (λ x. frame_of x s) (exchange_in state)

to_holds : (state : State) (s : Session) (q : Packet) → framed state s ≡ Some q → Holds q s.config (sent_in state) state s
to_holds (Waiting until sends o) s q h = (cc, refl, refl)
to_holds (Pausing until o) s q h = (cc, refl, refl)
to_holds _ s q h = tt

from_holds : (state : State) (s t : Session) (q : Packet) (n : ℕ) → is_outstanding state ≡ true → Holds q t.config n state s → framed state s ≡ Some q
from_holds (Waiting until sends o) s t q n h at = ap Some at.0
from_holds (Pausing until o) s t q n h at = ap Some at.0
from_holds _ s t q n h at = absurd cc

has_frame : (state : State) (s : Session) → is_outstanding state ≡ true → (q : Packet) × (framed state s ≡ Some q)
has_frame (Waiting until sends o) s h = (frame_of o.exchange s, refl)
has_frame (Pausing until o) s h = (frame_of o.exchange s, refl)
has_frame _ s h = absurd cc

framed_stands : (state : State) (s : Session) (q : Packet) → framed state s ≡ Some q → is_outstanding state ≡ true
framed_stands (Waiting until sends o) s q h = refl
framed_stands (Pausing until o) s q h = refl
framed_stands _ s q h = absurd cc

-- while its exchange stands its frame stays
kept_frame : (call : CallOf) (m : Machine) → is_outstanding m.session.state ≡ true → is_outstanding (after_call_of call m).session.state ≡ true
    → framed m.session.state m.session ≡ framed (after_call_of call m).session.state (after_call_of call m).session
kept_frame call m before after =
    let own = has_frame m.session.state m.session before in
    let later = holds_call own.0 m.session.config (sent_in m.session.state) call m before (to_holds m.session.state m.session own.0 own.1) in
    own.1
    ∙ sym (from_holds (after_call_of call m).session.state (after_call_of call m).session m.session own.0 (more (sent_in m.session.state) (sent_by_of call m)) after later.1)

frame_heard : (p : Packet) (now : ℕ) (d : Entry) → holds (entry_hears p now d) ≡ true → own_frame d ≡ own_frame (entry_hears p now d)
frame_heard p now d h = kept_frame (Hear p now) d.controller (heard_holds p now d h) h

frame_ticked : (now : ℕ) (d : Entry) → holds d ≡ true → holds (entry_ticks now d) ≡ true → own_frame d ≡ own_frame (entry_ticks now d)
frame_ticked now d before after = kept_frame (TickOf now) d.controller before after

-- ---- the devices: where nothing goes out, who holds the line held it before, with the same frame

abbrev SameFrame : ℕ → Entry → Devices → Type 0
SameFrame j f ds = (d : Entry) × (slice_get ds.entries j ≡ Some d) × (holds d ≡ true) × (own_frame d ≡ own_frame f)

abbrev KeepFrames : Devices → Devices → Type 0
KeepFrames ds es = (j : ℕ) (f : Entry) → slice_get es.entries j ≡ Some f → holds f ≡ true → SameFrame j f ds

keep : (ds : Devices) → KeepFrames ds ds
keep ds j f at h = (f, at, h, refl)

keep_on : (ds es fs : Devices) → KeepFrames ds es → KeepFrames es fs → KeepFrames ds fs
keep_on ds es fs before after j f at h =
    let later = after j f at h in
    let first = before j later.0 later.1 later.2 in
    (first.0, first.1, first.2, first.3 ∙ later.3)

-- a device changes
keep_set : (i : ℕ) (d e : Entry) (ds : Devices) → slice_get ds.entries i ≡ Some d → (holds e ≡ true → (holds d ≡ true) × (own_frame d ≡ own_frame e))
    → (j : ℕ) (f : Entry) → slice_get (slice_set ds.entries i e) j ≡ Some f → holds f ≡ true → SameFrame j f ds
keep_set i d e ds at same j f there h = by_place (replaced ds.entries i e j f there)
  where
    by_place : IsAt ds.entries i e j f → SameFrame j f ds
    by_place (inl (here, is)) =
        let before = same (sym (ap holds is) ∙ h) in
        (d, ap (slice_get ds.entries) here ∙ at, before.0, before.1 ∙ sym (ap own_frame is))
    by_place (inr (other, was)) = (f, was, h, refl)

keep_packet : (first : Devices) (now : ℕ) (p : Packet) (i : ℕ) (d : Entry) (ds : Devices) → slice_get ds.entries i ≡ Some d → KeepFrames first ds
    → KeepFrames first (hears_with p now i (Some d) ds)
keep_packet first now p i d ds at kept =
    keep_on first ds (hears_with p now i (Some d) ds) kept
    (keep_set i d (entry_hears p now d) ds at (λ h. (heard_holds p now d h, frame_heard p now d h)))

keep_items : (now : ℕ) (parts : List RunItem) (ds : Devices) → KeepFrames ds (hears_items now parts ds)
keep_items now parts ds = items_keep now (KeepFrames ds) (keep_packet ds now) parts ds (keep ds)

keep_run : (b : BusState) → KeepFrames b.devices (ends_run b).devices
keep_run b = keep_items b.greatest (items true b.held) b.devices

keep_silent : (b : BusState) → KeepFrames b.devices (ends_silent b).devices
keep_silent b = either_way (λ (c : BusState). KeepFrames b.devices c.devices) (is_silent b) (ends_run b) b (λ h. keep_run b) (λ h. keep b.devices)

keep_judged : (now : ℕ) (b : BusState) → KeepFrames b.devices (judged now b).devices
keep_judged now b = keep_silent (seen now b)

keep_asking : (now : ℕ) (b : BusState) → KeepFrames b.devices (asking now b).devices
keep_asking now b = keep_on b.devices (judged now b).devices (asking now b).devices (keep_judged now b) (keep_run (judged now b))

keep_bytes : (bytes : List ℕ) (now : ℕ) (b : BusState) → KeepFrames b.devices (after_bytes bytes now b).devices
keep_bytes [] now b = keep b.devices
keep_bytes (byte ∷ bytes) now b =
    let e = judged now b in
    keep_on b.devices e.devices (hears_bytes (byte ∷ bytes) e).devices (keep_judged now b)
    (keep_items e.greatest (items false (e.held ++ (byte ∷ bytes))) e.devices)

-- ---- the frame that went out last

abbrev LastIs : Option Packet → Devices → Type 0
LastIs last ds = (j : ℕ) (f : Entry) → slice_get ds.entries j ≡ Some f → holds f ≡ true → own_frame f ≡ last

still_last : (last : Option Packet) (ds es : Devices) → KeepFrames ds es → LastIs last ds → LastIs last es
still_last last ds es kept is j f at h =
    let before = kept j f at h in
    sym before.3 ∙ is j before.0 before.1 before.2

abbrev TickLast : Option Packet → BusTicked → Type 0
TickLast last t = LastIs (option_or t.sent last) t.bus.devices

-- a device ticks, and no other holds the line
ticked_last : (now : ℕ) (d : Entry) (last sent : Option Packet) → (step_of now d).frame ≡ sent → (holds d ≡ true → own_frame d ≡ last)
    → holds (entry_ticks now d) ≡ true → own_frame (entry_ticks now d) ≡ option_or sent last
ticked_last now d last (Some p) is before h = frame_sent now d p is
ticked_last now d last None is before h = by_held (holds d) refl
  where
    by_held : (b : Bool) → holds d ≡ b → own_frame (entry_ticks now d) ≡ last
    by_held true stands = sym (frame_ticked now d stands h) ∙ before stands
    by_held false free = absurd (
        let sent = begins_with_frame (TickOf now) d.controller free h in
        let none = ap (λ (o : Option Packet). is_some o) is in
        cc)

last_with : (last : Option Packet) (entry : ℕ) (o : Option Entry) (b : BusState) → device_of entry b ≡ o → HoldsAlone entry b.devices → LastIs last b.devices
    → TickLast last (ticks_with entry o b)
last_with last entry None b at alone is = is
last_with last entry (Some d) b at alone is = λ j f there h. by_place j f h (replaced b.devices.entries entry (entry_ticks b.greatest d) j f there)
  where
    by_place : (j : ℕ) (f : Entry) → holds f ≡ true → IsAt b.devices.entries entry (entry_ticks b.greatest d) j f
        → own_frame f ≡ option_or (step_of b.greatest d).frame last
    by_place j f h (inl (here, same)) =
        ap own_frame same ∙ ticked_last b.greatest d last (step_of b.greatest d).frame refl (λ stands. is entry d at stands) (sym (ap holds same) ∙ h)
    by_place j f h (inr (other, was)) = absurd (other (alone j f was h))

last_at : (last : Option Packet) (o : Option ℕ) (b : BusState) → ((i : ℕ) → o ≡ Some i → HoldsAlone i b.devices) → LastIs last b.devices → TickLast last (ticks_at o b)
last_at last None b alone is = is
last_at last (Some i) b alone is = last_with last i (device_of i b) b refl (alone i refl) is

last_free : (last : Option Packet) (b : BusState) → IsNobody b.devices → LastIs last b.devices → TickLast last (ticks_free b)
last_free last b nobody is =
    either_way (TickLast last) (has_report b) (stays b) (ticks_at (next_due b) b) (λ h. is)
    (λ none. last_at last (next_due b) b (λ i e j f at h. absurd (nobody j f at h)) is)

last_held : (last : Option Packet) (entry : ℕ) (b : BusState) → SoundBus b → LastIs last b.devices → TickLast last (ticks_held entry b)
last_held last entry b sound is =
    either_held (TickLast last) entry b is (λ none d at stands.
    last_with last entry (device_of entry b) b refl (λ j f there h. sound.devices.one j entry f d there at h stands) is)

last_by : (last : Option Packet) (o : Option ℕ) (b : BusState) → holder b ≡ o → SoundBus b → LastIs last b.devices → TickLast last (ticks_by o b)
last_by last None b none sound is =
    last_free last (ends_run b) (still_nobody b.greatest (items true b.held) b.devices (nobody b none)) (still_last last b.devices (ends_run b).devices (keep_run b) is)
last_by last (Some entry) b held sound is =
    either_way (TickLast last) (is_due_at entry b) (ticks_held entry (ends_run b)) (stays b)
    (λ h. last_held last entry (ends_run b) (sound_run b sound) (still_last last b.devices (ends_run b).devices (keep_run b) is)) (λ h. is)

last_tick : (last : Option Packet) (now : ℕ) (b : BusState) → SoundBus b → LastIs last b.devices → TickLast last (bus_ticks now b)
last_tick last now b sound is =
    let j = judged now b in
    either_way (TickLast last) (has_report b) (stays (seen now b)) (ticks_on j) (λ h. is)
    (λ h. last_by last (holder j) j refl (sound_silent (seen now b) (sound_seen now b sound)) (still_last last b.devices j.devices (keep_judged now b) is))

-- ---- each call

keep_changes : (entry : ℕ) (change : Entry → Entry) (b : BusState)
    → ((d : Entry) → device_of entry b ≡ Some d → holds (change d) ≡ true → (holds d ≡ true) × (own_frame d ≡ own_frame (change d)))
    → KeepFrames b.devices (changes_entry entry change b).devices
keep_changes entry change b same = by_device (device_of entry b) refl
  where
    by_device : (o : Option Entry) → device_of entry b ≡ o
        → KeepFrames b.devices (option_map_or (λ d. record b { devices = record b.devices { entries = slice_set b.devices.entries entry (change d) } }) o b).devices
    by_device None at = keep b.devices
    by_device (Some d) at = keep_set entry d (change d) b.devices at (same d at)

keep_unless : (f : Option BusFault) (b c : BusState) → (f ≡ None → KeepFrames b.devices c.devices) → KeepFrames b.devices (changed_unless f b c).devices
keep_unless None b c kept = kept refl
keep_unless (Some fault) b c kept = keep b.devices

keep_added : (address : ℕ) (b : BusState) → KeepFrames b.devices (after_add address b).devices
keep_added address b j f there h = by_place (added b.devices.entries (new_device address b.config) j f there)
  where
    by_place : IsAt b.devices.entries (length b.devices.entries) (new_device address b.config) j f → SameFrame j f b.devices
    by_place (inl (here, same)) = absurd (let stands = sym (ap holds same) ∙ h in cc)
    by_place (inr (other, was)) = (f, was, h, refl)

closed_holds : (state : State) → state ≡ Closed → is_outstanding state ≡ false
closed_holds state closed = ap is_outstanding closed

keep_retarget : (entry address : ℕ) (b : BusState) → retarget_refusal_at entry address b ≡ None → KeepFrames b.devices (after_retarget_at entry address b).devices
keep_retarget entry address b ok =
    keep_changes entry (entry_retargets address) b
    (λ d at h.
    let parts = or_none (option_map bus_fault (retarget_refusal address d.controller))
    (is_taken_beside entry address b.devices.entries || has_comset d.controller.waiting)
    (sym (ap (λ o. retarget_refusal_of entry address o b) at) ∙ ok) in
    let refusal = no_device (refused_unless_closed d.controller.session.state) address (map_none (retarget_refusal address d.controller) parts.0) in
    let free = closed_holds d.controller.session.state (was_closed d.controller.session.state refusal) in
    absurd (let both = sym free ∙ h in cc))

last_call : (last : Option Packet) (call : Call) (b : BusState) → SoundBus b → LastIs last b.devices
    → LastIs (option_or (sent_by call b) last) (after_call call b).devices
last_call last (Add address) b sound is =
    still_last last b.devices (after_call (Add address) b).devices
    (keep_unless (add_refusal address b) b (after_add address b) (λ ok. keep_added address b)) is
last_call last (Begin entry now) b sound is =
    still_last last b.devices (after_call (Begin entry now) b).devices
    (keep_unless (begin_refusal_at entry b) b (after_begin_at entry now b)
    (λ ok. keep_changes entry (entry_begins (max b.greatest now)) (seen now b) (λ d at h. absurd cc))) is
last_call last (Submit entry command) b sound is =
    still_last last b.devices (after_call (Submit entry command) b).devices
    (keep_unless (submit_refusal_at entry command b) b (after_submit_at entry command b)
    (λ ok. keep_changes entry (entry_submits command) b (λ d at h. (h, refl)))) is
last_call last (Withdraw entry) b sound is =
    still_last last b.devices (after_call (Withdraw entry) b).devices (keep_changes entry entry_withdraws b (λ d at h. (h, refl))) is
last_call last (Retarget entry address) b sound is =
    still_last last b.devices (after_call (Retarget entry address) b).devices
    (keep_unless (retarget_refusal_at entry address b) b (after_retarget_at entry address b) (keep_retarget entry address b)) is
last_call last (OnBytes bytes now) b sound is = still_last last b.devices (after_call (OnBytes bytes now) b).devices (keep_bytes bytes now b) is
last_call last (OnSilence now) b sound is = still_last last b.devices (after_call (OnSilence now) b).devices (keep_run (seen now b)) is
last_call last (Tick now) b sound is = last_tick last now b sound is
last_call last NextReport b sound is = is

last_calls : (calls : List Call) (last : Option Packet) (b : BusState) → SoundBus b → LastIs last b.devices
    → LastIs (last_sent calls b last) (after_calls calls b).devices
last_calls [] last b sound is = is
last_calls (call ∷ calls) last b sound is =
    last_calls calls (option_or (sent_by call b) last) (after_call call b) (sound_call call b sound) (last_call last call b sound is)

-- ---- the law

pub same_bytes : (p q : Packet) (before burst : List ℕ) → q ≡ p → Spells q before → Spells p burst → burst ≡ before
same_bytes p q before burst same first again = spelled_is p burst again ∙ ap spelling (sym same) ∙ sym (spelled_is q before first)

pub sends_the_same : HoldersSendTheSame
sends_the_same config calls is = record { last = last; again = again }
  where
    along : LastIs (last_sent calls (new_bus config) None) (after_calls calls (new_bus config)).devices
    along = last_calls calls None (new_bus config) (sound_new config is) (λ j f at h. absurd cc)

    last : (entry : ℕ) (d : Entry) → device_of entry (after_calls calls (new_bus config)) ≡ Some d → holds d ≡ true
        → (p : Packet) × (own_frame d ≡ Some p) × (last_sent calls (new_bus config) None ≡ Some p)
    last entry d at stands =
        let own = has_frame d.controller.session.state d.controller.session stands in
        (own.0, own.1, sym (along entry d at stands) ∙ own.1)

    again : (now entry : ℕ) (p : Packet) → holder (judged now (after_calls calls (new_bus config))) ≡ Some entry
        → (bus_ticks now (after_calls calls (new_bus config))).sent ≡ Some p → IsTheLastAgain p (last_sent calls (new_bus config) None)
    again now entry p held sent =
        let b = after_calls calls (new_bus config) in
        let own = holders_send_their_frame b now entry p held sent in
        let stands = framed_stands own.0.controller.session.state own.0.controller.session p own.2 in
        let frame = sym (still_last (last_sent calls (new_bus config) None) b.devices (asking now b).devices (keep_asking now b) along entry own.0 own.1 stands) ∙ own.2 in
        record {
          frame = frame;
          bytes = λ q before burst last first second. same_bytes p q before burst (let same : Some q ≡ Some p = sym last ∙ frame in cc) first second;
        }
