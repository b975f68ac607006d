-- What holds of a line whose packets are read in time, from call to call.
use Rattle.osdp_calls_time_laws.proofs.Common.{◌≡◌, ◌+◌, ◌≤◌, ◌<◌, ℕ, Bool, true, false, List, [], ◌∷◌, ◌++◌, length, Some, sym, subst, ap, ◌∙◌, arith, ◌^◌, slice_get, BusState, address_of, Entry, each_map, Each, site_at, begun_of, Burst, InUse, Opening, Station, concerns, AreWithin, Clock, Timed, WaitsTwice, clock_after, stamped}
use Rattle.osdp_bus_time_laws.proofs.Devices as bus_devices
use Rattle.osdp_calls_time_laws.proofs.Stamps.{IsStamped, SaidNow, WasSaid, is_stamped, stamp_is, stamped_length, stamped_same}

-- by when that was said which concerns a session that is to begin: by the panel before its `begin`, and by a device as long after it as a packet is held
abbrev pub latest : ℕ → Bool → ℕ → ℕ
latest w true began = began
latest w false began = began + w

abbrev pub of_entry : ℕ → ℕ → Opening
of_entry k address = record { entry = k; address = address; place = 0 }

abbrev pub Waits : ℕ → List Burst → List ℕ → ℕ → ℕ → ℕ → Type 0
Waits w said stamps k address began = (i : ℕ) (b : Burst) (m : ℕ) → site_at i said ≡ Some b → site_at i stamps ≡ Some m
    → concerns (of_entry k address) b ≡ true → m ≤ latest w b.by_panel began

-- what was said before an opening, and concerns it, is read no more from this moment on
abbrev pub IsPast : ℕ → List Burst → List ℕ → ℕ → Opening → Type 0
IsPast w said stamps now o = (i : ℕ) (b : Burst) (m : ℕ) → i < o.place → site_at i said ≡ Some b → site_at i stamps ≡ Some m
    → concerns o b ≡ true → m + w < now

-- a device's controller has seen no later moment, and has this quiet wait
pub record IsOf (q g : ℕ) (d : Entry) : Type 0 where
  pub seen : d.controller.session.greatest ≤ g
  pub waits : d.controller.session.config.quiet_wait ≡ q

-- what a bus keeps of itself
pub record IsKept (w start at : ℕ) (b : BusState) : Type 0 where
  pub patient : WaitsTwice w b.config
  pub clock : start + b.greatest ≤ at
  pub far : b.greatest + b.config.quiet_wait < 2 ^ 64
  pub kept : bus_devices.Each (IsOf b.config.quiet_wait b.greatest) b.devices

-- ---- more is said

pub past_later : (w at now : ℕ) (said : List Burst) (stamps : List ℕ) (os : List Opening) → now ≤ at → Each (IsPast w said stamps now) os
    → Each (IsPast w said stamps at) os
past_later w at now said stamps os le all =
    each_map (IsPast w said stamps now) (IsPast w said stamps at) (λ o past i b m lt is then con. let h = past i b m lt is then con in omega (arith, h, le)) os all

one_past : (w at now : ℕ) (old new : List Burst) (stamps : List ℕ) (o : Opening) → length stamps ≡ length old → o.place ≤ length old → now ≤ at
    → IsPast w old stamps now o → IsPast w (old ++ new) (stamped at (old ++ new) stamps) at o
one_past w at now old new stamps o same within le past i b m lt is then con = by_stamp (is_stamped at old new stamps same i b m is then)
  where
    by_stamp : IsStamped at old new stamps i b m → m + w < at
    by_stamp (WasSaid there stamp) = let h = past i b m lt there stamp con in omega (arith, h, le)
    by_stamp (SaidNow beyond now j there) = absurd (omega (arith, beyond, lt, within))

pub still_past : (w at now : ℕ) (old new : List Burst) (stamps : List ℕ) (os : List Opening) → length stamps ≡ length old → AreWithin (length old) os → now ≤ at
    → Each (IsPast w old stamps now) os → Each (IsPast w (old ++ new) (stamped at (old ++ new) stamps) at) os
still_past w at now old new stamps [] same within le all = tt
still_past w at now old new stamps (o ∷ os) same within le all =
    (one_past w at now old new stamps o same within.0 le all.0, still_past w at now old new stamps os same within.1 le all.1)

pub still_waits : (w at : ℕ) (old new : List Burst) (stamps : List ℕ) (k address began : ℕ) → length stamps ≡ length old → Waits w old stamps k address began
    → ((j : ℕ) (b : Burst) → site_at j new ≡ Some b → concerns (of_entry k address) b ≡ true → at ≤ latest w b.by_panel began)
    → Waits w (old ++ new) (stamped at (old ++ new) stamps) k address began
still_waits w at old new stamps k address began same waits in_time i b m is then con = by_stamp (is_stamped at old new stamps same i b m is then)
  where
    by_stamp : IsStamped at old new stamps i b m → m ≤ latest w b.by_panel began
    by_stamp (WasSaid there stamp) = waits i b m there stamp con
    by_stamp (SaidNow beyond now j there) = subst (λ x. x ≤ latest w b.by_panel began) (sym now) (in_time j b there con)

module _ {H : Type 0} where
  -- of each entry whose session is to begin
  abbrev pub AllWait : ℕ → ℕ → List ℕ → List Entry → List (Station H) → List Burst → Type 0
  AllWait w start stamps es ts said = (k : ℕ) (d : Entry) (began : ℕ) → slice_get es k ≡ Some d → begun_of (site_at k ts) ≡ Some began
      → Waits w said stamps k (address_of d) (start + began)

  pub record Runs (w : ℕ) (c : Clock) (l : InUse H) : Type 0 where
    pub stamps : length c.said ≡ length l.said
    pub past : (i m : ℕ) → site_at i c.said ≡ Some m → m ≤ c.now
    pub bus : IsKept w c.start c.now l.bus
    pub waits : AllWait w c.start c.said l.bus.devices.entries l.stations l.said
    pub opened : Each (IsPast w l.said c.said c.now) l.openings

  pub runs_on : (w : ℕ) (t : Timed H) (c : Clock) (l next : InUse H) → Runs w c l → c.now ≤ t.at → IsKept w t.start t.at next.bus
      → AllWait w t.start (stamped t.at next.said c.said) next.bus.devices.entries next.stations next.said
      → Each (IsPast w next.said (stamped t.at next.said c.said) t.at) next.openings → Runs w (clock_after t c next) next
  runs_on w t c l next r later is waits opened = record {
    stamps = stamped_length t.at next.said c.said;
    past = stamp_is (λ m. m ≤ t.at) t.at next.said c.said (omega arith) (λ i m there. let h = r.past i m there in omega (arith, h, later));
    bus = is;
    waits = waits;
    opened = opened;
  }

  -- nothing is said, and no session opens
  pub runs_silent : (w : ℕ) (t : Timed H) (c : Clock) (l next : InUse H) → Runs w c l → c.now ≤ t.at → IsKept w t.start t.at next.bus → next.said ≡ l.said
      → next.openings ≡ l.openings → AllWait w t.start c.said next.bus.devices.entries next.stations l.said → Runs w (clock_after t c next) next
  runs_silent w t c l next r later is said openings waits =
      let stamps : stamped t.at next.said c.said ≡ c.said = ap (λ bs. stamped t.at bs c.said) said ∙ stamped_same t.at l.said c.said r.stamps in
      runs_on w t c l next r later is
      (subst (λ (p : List ℕ × List Burst). AllWait w t.start p.0 next.bus.devices.entries next.stations p.1) (λ i. (sym stamps i, sym said i)) waits)
      (subst (λ (p : List ℕ × List Burst × List Opening). Each (IsPast w p.1 p.0 t.at) p.2) (λ i. (sym stamps i, sym said i, sym openings i))
      (past_later w t.at c.now l.said c.said l.openings later r.opened))
