-- Moments from one call of a bus to the next, and the duties that begin at them.
use Rattle.osdp_bus_time_laws.proofs.Common.{◌≡◌, ◌∙◌, ap, inl, inr, ℕ, ◌≤◌, ◌||◌, Bool, true, false, max, List, [], ◌∷◌, Option, Some, None, refl, arith, ◌⊎◌, is_some, CallOf, BeginOf, TickOf, IsByOf, TicksBy, Entry, BusFault, BusState, device_of, has_report, holder, acts, holds, is_entry_due, begin_refusal_at, any_at, free_acts, free_ends, held_acts, held_ends, Call, Begin, OnBytes, OnSilence, Tick, after_call, moments_are_seen, DoneBy, IsBy, ends_duty}
use Rattle.osdp_frame.specs.Silence.{is_silent_for}

-- the moment that is seen after a call: the same, or the greater one of it and the moment of the call
abbrev Sees : Call → BusState → Type 0
Sees call b =
    ((after_call call b).greatest ≡ b.greatest)
    ⊎ ((now : ℕ) × ((after_call call b).greatest ≡ max b.greatest now) × ((limit : ℕ) → IsBy limit call → now ≤ limit))

begin_sees : (entry now : ℕ) (b : BusState) (f : Option BusFault) → begin_refusal_at entry b ≡ f → Sees (Begin entry now) b
begin_sees entry now b None is = inr (now, (moments_are_seen b).brought (Begin entry now) now (is, refl), λ limit by. by)
begin_sees entry now b (Some fault) is = inl ((moments_are_seen b).kept (Begin entry now) (λ at brings. let none = brings.0 in cc))

sees : (call : Call) (b : BusState) → Sees call b
sees (Begin entry now) b = begin_sees entry now b (begin_refusal_at entry b) refl
sees (OnBytes bytes now) b = inr (now, (moments_are_seen b).brought (OnBytes bytes now) now refl, λ limit by. by)
sees (OnSilence now) b = inr (now, (moments_are_seen b).brought (OnSilence now) now refl, λ limit by. by)
sees (Tick now) b = inr (now, (moments_are_seen b).brought (Tick now) now refl, λ limit by. by)
sees call b = inl ((moments_are_seen b).kept call (λ at brings. brings))

grows_by : (call : Call) (b : BusState) → Sees call b → b.greatest ≤ (after_call call b).greatest
grows_by call b (inl same) = omega arith
grows_by call b (inr (now, is, by)) = omega arith

pub grows : (call : Call) (b : BusState) → b.greatest ≤ (after_call call b).greatest
grows call b = grows_by call b (sees call b)

limit_by : (limit : ℕ) (call : Call) (b : BusState) → b.greatest ≤ limit → IsBy limit call → Sees call b → (after_call call b).greatest ≤ limit
limit_by limit call b before by (inl same) = omega arith
limit_by limit call b before by (inr (now, is, in_time)) = let near : now ≤ limit = in_time limit by in omega arith

pub within_limit : (limit : ℕ) (call : Call) (b : BusState) → b.greatest ≤ limit → IsBy limit call → (after_call call b).greatest ≤ limit
within_limit limit call b before by = limit_by limit call b before by (sees call b)

-- ---- the calls of a bus, as a controller's that bring their moments alone

abbrev pub as_tick : Bool → ℕ → CallOf
as_tick true now = TickOf now
as_tick false now = BeginOf now

pub by_tick : (ticks : Bool) (now limit : ℕ) → IsByOf limit (as_tick ticks now) → now ≤ limit
by_tick true now limit near = near
by_tick false now limit near = near

-- the last of them is given
module _ (end : List CallOf) (ended : (limit : ℕ) → TicksBy limit end) where
  abbrev pub ticks_of : List Call → BusState → List CallOf
  ticks_of [] b = end
  ticks_of (call ∷ calls) b = as_tick (ends_duty call b) (after_call call b).greatest ∷ ticks_of calls (after_call call b)

  done_one : (ticks : Bool) (limit now : ℕ) (rest : List CallOf) → now ≤ limit → (ticks ≡ false → TicksBy limit rest)
      → TicksBy limit (as_tick ticks now ∷ rest)
  done_one true limit now rest near on = (near, λ other. cc)
  done_one false limit now rest near on = (near, λ other. on refl)

  pub done_ticks : (limit : ℕ) (calls : List Call) (b : BusState) → b.greatest ≤ limit → DoneBy limit calls b → TicksBy limit (ticks_of calls b)
  done_ticks limit [] b before done = ended limit
  done_ticks limit (call ∷ calls) b before done =
      let near = within_limit limit call b before done.0 in
      done_one (ends_duty call b) limit (after_call call b).greatest (ticks_of calls (after_call call b)) near
      (λ other. done_ticks limit calls (after_call call b) near (done.1 other))

-- ---- when a tick does something

no_some : {X : Type 0} (o : Option X) → is_some o ≡ false → o ≡ None
no_some None h = refl
no_some (Some x) h = cc

abbrev pub bare : BusState → List ℕ → BusState
bare b held = record {
  config = b.config;
  devices = record { entries = b.devices.entries; report = None };
  held = held;
  last = b.last;
  greatest = b.greatest;
  first = b.first;
  remembered = b.remembered;
}

pub as_bare : (b : BusState) (held : List ℕ) → has_report b ≡ false → b.held ≡ held → b ≡ bare b held
as_bare b held none is =
    let nothing = no_some b.devices.report none in
    (λ i. record b { devices = record b.devices { report = nothing i }; held = is i })

-- where an entry holds the line and is due
pub acts_held : (b : BusState) (entry : ℕ) (d : Entry) (at : ℕ) → has_report b ≡ false → holder b ≡ Some entry → device_of entry b ≡ Some d → holds d ≡ true
    → is_entry_due (max b.greatest at) d ≡ true → acts at b ≡ true
acts_held b entry d at none held there stands due = by_held b.held refl
  where
    by_held : (l : List ℕ) → b.held ≡ l → acts at b ≡ true
    by_held [] is =
        ap (acts at) (as_bare b [] none is)
        ∙ held_acts b.config b.remembered b.devices.entries b.first b.last b.greatest at entry d held there stands ∙ due
    by_held (byte ∷ bytes) is =
        ap (acts at) (as_bare b (byte ∷ bytes) none is)
        ∙ held_ends b.config b.remembered b.devices.entries b.first b.last b.greatest at byte entry bytes d held there
        ∙ ap (λ t. t || is_silent_for b.config.gap b.last (max b.greatest at)) due

-- where nobody holds it and an entry is due
pub acts_free : (b : BusState) (entry : ℕ) (d : Entry) (at : ℕ) → has_report b ≡ false → holder b ≡ None → device_of entry b ≡ Some d
    → is_entry_due (max b.greatest at) d ≡ true → acts at b ≡ true
acts_free b entry d at none nobody there due = by_held b.held refl
  where
    by_held : (l : List ℕ) → b.held ≡ l → acts at b ≡ true
    by_held [] is =
        ap (acts at) (as_bare b [] none is)
        ∙ free_acts b.config b.remembered b.devices.entries b.first b.last b.greatest at nobody
        ∙ any_at (is_entry_due (max b.greatest at)) b.devices.entries entry d there due
    by_held (byte ∷ bytes) is =
        ap (acts at) (as_bare b (byte ∷ bytes) none is)
        ∙ free_ends b.config b.remembered b.devices.entries b.first b.last b.greatest at byte bytes nobody
