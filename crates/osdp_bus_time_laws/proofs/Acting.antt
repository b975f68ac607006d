-- A line on which no bytes are held acts once a moment is reached for which one of its controllers waits.
use Rattle.osdp_bus_time_laws.proofs.Common.{◌≡◌, ◌∙◌, ap, sym, ℕ, zero, suc, ◌≤◌, ◌||◌, Bool, true, false, max, List, [], ◌∷◌, Some, None, arith, list_any, State, Closed, is_outstanding, seen_by, is_idle, until_of, reached_in, Entry, BusState, device_of, has_report, holder, acts, holds, is_entry_due, new_device, free_acts, held_acts, Call, IsOwed, short_line}
use Rattle.osdp_bus_time_laws.proofs.Moments.{as_bare}

-- a controller with no command that waits while it is idle is due only once the moment is reached
pub reached_of : (at : ℕ) (b : BusState) (d : Entry) → (is_idle d.controller.session.state ≡ true → d.controller.waiting ≡ [])
    → d.controller.session.greatest ≤ b.greatest → is_entry_due (max b.greatest at) d ≡ true → until_of d.controller.session.state ≤ max b.greatest at
reached_of at b d rests seen due =
    let until : until_of d.controller.session.state ≤ max d.controller.session.greatest (max b.greatest at) =
    reached_in d.controller.session.state (seen_by (max b.greatest at) d.controller.session) d.controller.waiting rests due in
    omega arith

module _ (b : BusState) (none : b.held ≡ []) (untold : has_report b ≡ false) (at : ℕ) (so : acts at b ≡ true) where
  pub held_due : (entry : ℕ) (d : Entry) → holder b ≡ Some entry → device_of entry b ≡ Some d → holds d ≡ true → is_entry_due (max b.greatest at) d ≡ true
  held_due entry d held there stands =
      sym (ap (acts at) (as_bare b [] untold none)
      ∙ held_acts b.config b.remembered b.devices.entries b.first b.last b.greatest at entry d held there stands) ∙ so

  pub free_due : holder b ≡ None → list_any (is_entry_due (max b.greatest at)) b.devices.entries ≡ true
  free_due free =
      sym (ap (acts at) (as_bare b [] untold none) ∙ free_acts b.config b.remembered b.devices.entries b.first b.last b.greatest at free) ∙ so

-- ---- for runs that are written out

pub no_other : {A : Type 0} → true ≡ false → A
no_other h = cc

pub either_acts : (x y : Bool) → x ≡ false → (x || y) ≡ true → y ≡ true
either_acts false y none h = h
either_acts true y none h = cc

never_idle : (state : State) → is_outstanding state ≡ true → is_idle state ≡ true → {A : Type 0} → A
never_idle Closed out idle = cc
never_idle _ out idle = cc

-- a tick that is owed while an entry holds the line comes once the moment of this one is reached
pub owed_from : (call : Call) (b : BusState) (entry at : ℕ) (d : Entry) → b.held ≡ [] → has_report b ≡ false → holder b ≡ Some entry → device_of entry b ≡ Some d
    → holds d ≡ true → d.controller.session.greatest ≤ b.greatest → IsOwed at call b → until_of d.controller.session.state ≤ at
owed_from call b entry at d none untold held there stands seen owed =
    let due = held_due b none untold at (either_acts (has_report b) (acts at b) untold owed.due) entry d held there stands in
    let reached = reached_of at b d (λ idle. never_idle d.controller.session.state stands idle) seen due in
    let on : b.greatest ≤ at = owed.not_before in
    omega arith

-- the device of an entry of a list
abbrev pub device_in : List Entry → ℕ → Entry
device_in [] entry = new_device 0 short_line
device_in (d ∷ ds) zero = d
device_in (d ∷ ds) (suc entry) = device_in ds entry
