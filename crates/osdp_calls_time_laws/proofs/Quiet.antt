-- What is read in time was said before no opening that it concerns.
use Rattle.osdp_calls_time_laws.proofs.Common.{◌≡◌, ◌≤◌, ◌+◌, ℕ, false, List, Some, ap, ◌∙◌, arith, and_parts, ltb-true, each_all, each_map, Each, site_at, Call, Next, OfPanel, Burst, InUse, Opening, concerns, is_before, is_past_for_device, is_past_for_panel, QuietOpening, and_false, any_false, Clock, at_length}
use Rattle.std.specs.Prelude.{◌==◌, ◌&&◌, nat_lt}
use Rattle.osdp_bus_laws.proofs.Places.{is_false}
use Rattle.osdp_calls_time_laws.proofs.Stamps.{there_is}
use Rattle.osdp_calls_time_laws.proofs.Waits.{IsPast, Runs}

-- what is read at this place, at this moment, was said no more than so long ago
abbrev pub ReadAt : ℕ → ℕ → List ℕ → ℕ → Type 0
ReadAt w at stamps i = (m : ℕ) → site_at i stamps ≡ Some m → at ≤ m + w

module _ {H : Type 0} (w : ℕ) (c : Clock) (l : InUse H) (r : Runs w c l) (at : ℕ) (later : c.now ≤ at) where
  not_before : (i : ℕ) (b : Burst) → site_at i l.said ≡ Some b → ReadAt w at c.said i → (o : Opening) → IsPast w l.said c.said c.now o
      → is_before o i b ≡ false
  not_before i b there read o past = is_false (is_before o i b) (λ is.
      let both = and_parts (nat_lt i o.place) (concerns o b) is in
      let inside = at_length i b l.said there in
      let same = r.stamps in
      let m = there_is i c.said (omega (arith, inside, same)) in
      let gone = past i b m.0 (ltb-true i o.place both.0) there m.1 both.1 in
      let soon = read m.0 m.1 in
      absurd (omega (arith, gone, soon, later)))

  pub panel_not_past : (i : ℕ) → ReadAt w at c.said i → (b : Burst) → site_at i l.said ≡ Some b → is_past_for_panel l.openings i b ≡ false
  panel_not_past i read b there =
      any_false (λ o. is_before o i b) l.openings
      (each_map (IsPast w l.said c.said c.now) (λ (o : Opening). is_before o i b ≡ false) (λ o past. not_before i b there read o past) l.openings r.opened)

  pub device_not_past : (k i : ℕ) → ReadAt w at c.said i → (b : Burst) → site_at i l.said ≡ Some b → is_past_for_device k l.openings i b ≡ false
  device_not_past k i read b there =
      any_false (λ o. (o.entry == k) && is_before o i b) l.openings
      (each_map (IsPast w l.said c.said c.now) (λ (o : Opening). ((o.entry == k) && is_before o i b) ≡ false)
      (λ o past. ap (λ x. (o.entry == k) && x) (not_before i b there read o past) ∙ and_false (o.entry == k)) l.openings r.opened)

  pub opens_quietly : (call : Call H) (places : List ℕ) → Each (ReadAt w at c.said) places → QuietOpening call places l
  opens_quietly (OfPanel call) places read =
      each_all (λ i. (b : Burst) → site_at i l.said ≡ Some b → is_past_for_panel l.openings i b ≡ false) places
      (each_map (ReadAt w at c.said) (λ i. (b : Burst) → site_at i l.said ≡ Some b → is_past_for_panel l.openings i b ≡ false)
      (λ i is. panel_not_past i is) places read)
  opens_quietly (Next k) places read =
      each_all (λ i. (b : Burst) → site_at i l.said ≡ Some b → is_past_for_device k l.openings i b ≡ false) places
      (each_map (ReadAt w at c.said) (λ i. (b : Burst) → site_at i l.said ≡ Some b → is_past_for_device k l.openings i b ≡ false)
      (λ i is. device_not_past k i is) places read)
  opens_quietly _ places read = tt
