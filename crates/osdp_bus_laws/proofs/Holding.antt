-- The tick of a due holder is its own.
use Rattle.osdp_bus_laws.proofs.Common.{◌≡◌, ◌∙◌, ap, sym, subst, inl, inr, ℕ, ◌+◌, ◌||◌, ◌&&◌, Bool, true, false, List, Option, Some, None, refl, ◌⊎◌, if◌then◌else◌, is_some, nat_le, nat_lt, not, option_map_or, Packet, Command, NoReply, Report, Lost, Session, State, Waiting, Pausing, acts, is_outstanding, frame_of, seen_by, is_closed, Ticked, gives_up, sends_frame, stays_in, ticks_in, ticks, tries_again, either_way, asked_in, Entry, BusState, device_of, has_report, holder, seen, waiting_after, entry_ticks, holds, is_entry_due, BusTicked, bus_ticks, is_due_at, is_held_and_due, next_due, stays, ticks_at, ticks_by, ticks_held, ticks_on, ticks_with, IsDueEntry, asking, judged}
use Rattle.osdp_bus_laws.specs.Holding.{HoldersTick, HoldsAt, IsStillDue, SendsItsOwn, TellsItsEnd, TicksItsHolder}
use Rattle.osdp_bus_laws.proofs.Exchanging.{has_one_exchange}
use Rattle.osdp_bus_laws.proofs.Places.{is_false}
use Rattle.osdp_bus_laws.proofs.Resending.{framed}
use Rattle.osdp_bus_laws.proofs.Sound.{SoundBus, held_there, sound_run, sound_seen, sound_silent, sound_tick}
use Rattle.osdp_bus_laws.proofs.Turning.{set_here, set_other}

-- ---- one controller whose exchange is outstanding: its frame, or the end

abbrev Sent : State → Session → Ticked → Type 0
Sent state s t = (p : Packet) × (t.step.frame ≡ Some p) × (t.step.report ≡ None) × (framed state s ≡ Some p) × (is_outstanding t.session.state ≡ true)

abbrev GivenUp : State → Ticked → Type 0
GivenUp state t = (t.step.frame ≡ None) × (t.step.report ≡ Some (Lost NoReply (asked_in state))) × (is_closed t.session.state ≡ true)

abbrev OneOf : State → Session → Ticked → Type 0
OneOf state s t = acts t.step ≡ true → Sent state s t ⊎ GivenUp state t

one_of : (state : State) (s : Session) (w : List Command) → is_outstanding state ≡ true → OneOf state s (ticks_in state s w)
one_of (Waiting until sends o) s w stands =
    either_way (OneOf (Waiting until sends o) s) (nat_le until s.greatest) (tries_again sends o s w) (stays_in s w)
    (λ reached. either_way (OneOf (Waiting until sends o) s) (nat_lt sends s.config.sends) (sends_frame (sends + 1) o s w) (gives_up o s w)
    (λ again due. inl (frame_of o.exchange s, refl, refl, refl, refl)) (λ last due. inr (refl, refl, refl)))
    (λ ahead due. absurd cc)
one_of (Pausing until o) s w stands =
    either_way (OneOf (Pausing until o) s) (nat_le until s.greatest) (sends_frame 1 o s w) (stays_in s w)
    (λ reached due. inl (frame_of o.exchange s, refl, refl, refl, refl)) (λ ahead due. absurd cc)
one_of _ s w stands = absurd cc

-- ---- the holder

is_due_here : (entry : ℕ) (b : BusState) → is_due_at entry b ≡ true → IsDueEntry entry b
is_due_here entry b h = by_device (device_of entry b) refl h
  where
    by_device : (o : Option Entry) → device_of entry b ≡ o → option_map_or (is_entry_due b.greatest) o false ≡ true → IsDueEntry entry b
    by_device None at due = absurd cc
    by_device (Some d) at due = record { device = d; there = at; due = due }

due_there : (entry : ℕ) (b : BusState) → IsDueEntry entry b → is_due_at entry b ≡ true
due_there entry b is = ap (λ o. option_map_or (is_entry_due b.greatest) o false) is.there ∙ is.due

-- a tick where this entry holds the line
held_tick : (now entry : ℕ) (b : BusState) → HoldsAt now entry b
    → bus_ticks now b ≡ (if is_due_at entry (judged now b) then ticks_held entry (asking now b) else stays (judged now b))
held_tick now entry b is =
    ap (λ t. if t then stays (seen now b) else ticks_on (judged now b)) is.before ∙ ap (λ o. ticks_by o (judged now b)) is.held

due_tick : (now entry : ℕ) (b : BusState) → HoldsAt now entry b → IsDueEntry entry (judged now b) → bus_ticks now b ≡ ticks_held entry (asking now b)
due_tick now entry b is due =
    held_tick now entry b is
    ∙ ap (λ t. if t then ticks_held entry (asking now b) else stays (judged now b)) (due_there entry (judged now b) due)

sound_asking : (now : ℕ) (b : BusState) → SoundBus b → SoundBus (asking now b)
sound_asking now b sound = sound_run (judged now b) (sound_silent (seen now b) (sound_seen now b sound))

-- no report waits where an exchange stands
none_waits : (entry : ℕ) (d : Entry) (b : BusState) → SoundBus b → device_of entry b ≡ Some d → holds d ≡ true → has_report b ≡ false
none_waits entry d b sound at stands = is_false (has_report b) (λ h. let free = sound.devices.waits h entry d at in cc)

both : (x y : Bool) → x ≡ true → y ≡ true → (x && y) ≡ true
both true y h k = k
both false y h k = absurd cc

still_ticks : (entry : ℕ) (b : BusState) → SoundBus b → (still : IsStillDue entry b) → ticks_held entry b ≡ ticks_with entry (Some still.device) b
still_ticks entry b sound still =
    let d = still.device in
    ap (λ t. if t || not (is_held_and_due entry b) then stays b else ticks_at (Some entry) b) (none_waits entry d b sound still.there still.outstanding)
    ∙ ap (λ t. if not t then stays b else ticks_at (Some entry) b) held
    ∙ ap (λ o. ticks_with entry o b) still.there
  where
    held : is_held_and_due entry b ≡ true
    held = both (option_map_or holds (device_of entry b) false) (is_due_at entry b)
        (ap (λ o. option_map_or holds o false) still.there ∙ still.outstanding)
        (ap (λ o. option_map_or (is_entry_due b.greatest) o false) still.there ∙ still.due)

-- ---- its tick

module _ (now entry : ℕ) (b : BusState) (sound : SoundBus b) (is : HoldsAt now entry b) (due : IsDueEntry entry (judged now b)) (still : IsStillDue entry (asking now b)) where
  abbrev after : BusTicked
  after = ticks_with entry (Some still.device) (asking now b)

  ticked : bus_ticks now b ≡ after
  ticked = due_tick now entry b is due ∙ still_ticks entry (asking now b) (sound_asking now b sound) still

  abbrev later : Entry
  later = entry_ticks (asking now b).greatest still.device

  there_after : device_of entry after.bus ≡ Some later
  there_after = set_here (asking now b).devices.entries entry still.device later still.there

  none_before : has_report (asking now b) ≡ false
  none_before = none_waits entry still.device (asking now b) (sound_asking now b sound) still.there still.outstanding

  sends_own : Sent still.device.controller.session.state (seen_by (asking now b).greatest still.device.controller.session)
      (ticks (asking now b).greatest still.device.controller.session still.device.controller.waiting) → SendsItsOwn entry still.device after
  sends_own (p, sent, untold, own, stands) = record {
    frame = p;
    sent = sent;
    own = own;
    stands = record { device = later; there = there_after; outstanding = stands };
    untold = ap (λ r. is_some (waiting_after entry r (asking now b).devices.report)) untold ∙ none_before;
  }

  free_after : has_report after.bus ≡ true → holder after.bus ≡ None
  free_after some = (has_one_exchange after.bus (subst (λ (t : BusTicked). SoundBus t.bus) ticked (sound_tick now b sound))).waits some

  tells_end : GivenUp still.device.controller.session.state
      (ticks (asking now b).greatest still.device.controller.session still.device.controller.waiting) → TellsItsEnd entry still.device after
  tells_end (nothing, told, ended) =
      let waits = ap (λ r. waiting_after entry r (asking now b).devices.report) told in
      record {
        nothing = nothing;
        told = waits;
        after = later;
        there = there_after;
        closed = ended;
        free = free_after (ap (λ (o : Option (ℕ × Report)). is_some o) waits);
      }

  own_tick : Sent still.device.controller.session.state (seen_by (asking now b).greatest still.device.controller.session)
      (ticks (asking now b).greatest still.device.controller.session still.device.controller.waiting)
      ⊎ GivenUp still.device.controller.session.state (ticks (asking now b).greatest still.device.controller.session still.device.controller.waiting)
      → SendsItsOwn entry still.device after ⊎ TellsItsEnd entry still.device after
  own_tick (inl sent) = inl (sends_own sent)
  own_tick (inr ended) = inr (tells_end ended)

  pub ticks_its_holder : TicksItsHolder now entry still.device b
  ticks_its_holder =
      let s = still.device.controller.session in
      let g = (asking now b).greatest in
      let one = one_of s.state (seen_by g s) still.device.controller.waiting still.outstanding still.due in
      record {
        own = subst (λ (t : BusTicked). SendsItsOwn entry still.device t ⊎ TellsItsEnd entry still.device t) (sym ticked) (own_tick one);
        others = λ other apart. ap (λ (t : BusTicked). device_of other t.bus) ticked ∙ set_other (asking now b).devices.entries entry other later apart;
      }

-- ---- the law

not_still : (entry : ℕ) (b : BusState) → (IsStillDue entry b → ⊥) → ticks_held entry b ≡ stays b
not_still entry b never = either_way (λ (t : BusTicked). t ≡ stays b) (has_report b || not (is_held_and_due entry b)) (stays b) (ticks_at (Some entry) b) (λ h. refl)
    (λ h. absurd (by_holder (held_there entry b h).1))
  where
    by_holder : ((d : Entry) × (device_of entry b ≡ Some d) × (holds d ≡ true) × (is_entry_due b.greatest d ≡ true)) → ⊥
    by_holder (d, at, stands, due) = never (record { device = d; there = at; outstanding = stands; due = due })

pub holders_tick : (b : BusState) → SoundBus b → HoldersTick b
holders_tick b sound = record {
  not_due = λ now entry is never.
      held_tick now entry b is
      ∙ ap (λ t. if t then ticks_held entry (asking now b) else stays (judged now b))
      (is_false (is_due_at entry (judged now b)) (λ h. never (is_due_here entry (judged now b) h)));
  over = λ now entry is due never. due_tick now entry b is due ∙ not_still entry (asking now b) never;
  ticks = λ now entry is due still. ticks_its_holder now entry b sound is due still;
  waits = λ now h. ap (λ t. if t then stays (seen now b) else ticks_on (judged now b)) h;
  told = λ now none free some.
      ap (λ t. if t then stays (seen now b) else ticks_on (judged now b)) none
      ∙ ap (λ o. ticks_by o (judged now b)) free
      ∙ ap (λ t. if t then stays (asking now b) else ticks_at (next_due (asking now b)) (asking now b)) some;
}
