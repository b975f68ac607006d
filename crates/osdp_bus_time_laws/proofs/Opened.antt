-- A session that begins has its opening ID handed out in its turn.
use Rattle.osdp_bus_time_laws.proofs.Common.{◌≡◌, ◌∙◌, ap, sym, subst, inl, ℕ, ◌+◌, ◌≤◌, max, Option, Some, None, refl, arith, slice_set, option_map_or, ControllerConfig, seen_by, later_within, Entry, BusState, device_of, seen, after_begin_at, begin_refusal_at, begin_refusal_of, changed_unless, changes_entry, entry_begins, Begin, after_call, set_here, OpeningsBegin, BeginsBy, others_of}
use Rattle.osdp_bus_time_laws.proofs.Devices.{Well, same_config, well_call}
use Rattle.osdp_bus_time_laws.proofs.Places.{AtPlace}
use Rattle.osdp_bus_time_laws.proofs.Turning.{Ready, ends_later, has_its_turn}

-- the device of an entry whose session begins
begun_at : (entry now : ℕ) (b : BusState) → begin_refusal_at entry b ≡ None
    → (d : Entry) × (device_of entry b ≡ Some d) × (after_call (Begin entry now) b
    ≡ changes_entry entry (entry_begins (max b.greatest now)) (seen now b))
begun_at entry now b accepted = by_device (device_of entry b) refl
  where
    by_device : (o : Option Entry) → device_of entry b ≡ o
        → (d : Entry) × (device_of entry b ≡ Some d) × (after_call (Begin entry now) b ≡ changes_entry entry (entry_begins (max b.greatest now)) (seen now b))
    by_device None none = absurd (let refused = sym (ap begin_refusal_of none) ∙ accepted in cc)
    by_device (Some d) there = (d, there, ap (λ f. changed_unless f b (after_begin_at entry now b)) accepted)

begins_there : (entry g : ℕ) (d : Entry) (b : BusState) → device_of entry b ≡ Some d → device_of entry (changes_entry entry (entry_begins g) b) ≡ Some (entry_begins g d)
begins_there entry g d b at =
    ap (λ o. device_of entry (changed o)) at ∙ set_here b.devices.entries entry d (entry_begins g d) at
  where
    changed : Option Entry → BusState
    changed o = option_map_or (λ f. record b { devices = record b.devices { entries = slice_set b.devices.entries entry (entry_begins g f) } }) o b

pub begun_there : (entry now : ℕ) (b : BusState) → begin_refusal_at entry b ≡ None → (d : Entry) × (device_of entry (after_call (Begin entry now) b) ≡ Some d)
begun_there entry now b accepted =
    let begun = begun_at entry now b accepted in
    (entry_begins (max b.greatest now) begun.0, ap (device_of entry) begun.2 ∙ begins_there entry (max b.greatest now) begun.0 (seen now b) begun.1)

quiet_wait_of : (quiet late others wait g : ℕ) → wait ≡ quiet → (g + wait) + late + others ≡ g + (quiet + late + others)
quiet_wait_of quiet late others wait g same = omega arith

pub openings_begin : (b : BusState) → Well b → OpeningsBegin b
openings_begin b well late time n entry now calls accepted keeps =
    let k = after_call (Begin entry now) b in
    let begun = begun_at entry now b accepted in
    let d = begun.0 in
    let g = max b.greatest now in
    let changed : k ≡ changes_entry entry (entry_begins g) (seen now b) = begun.2 in
    let there : device_of entry (changes_entry entry (entry_begins g) (seen now b)) ≡ Some (entry_begins g d) = begins_there entry g d (seen now b) begun.1 in
    let here : device_of entry k ≡ Some (entry_begins g d) = ap (device_of entry) changed ∙ there in
    let well_then = well_call (Begin entry now) b well in
    let kept = well_then.devices entry (entry_begins g d) here in
    let s = seen_by g d.controller.session in
    let wait = s.config.quiet_wait in
    let reached : s.greatest ≤ k.greatest = kept.reached in
    let settings : wait ≡ b.config.quiet_wait = ap (λ (c : ControllerConfig). c.quiet_wait) kept.config ∙ ap (λ c. c.quiet_wait) (same_config (Begin entry now) b) in
    let near = later_within wait s in
    let place : AtPlace entry (Ready (k.greatest + wait) 0) k.devices =
    (entry_begins g d, here, (refl, refl, omega arith, inl (omega arith))) in
    subst (λ (limit : ℕ). BeginsBy limit entry calls k) (quiet_wait_of b.config.quiet_wait late (others_of time late n entry) wait k.greatest settings)
    (has_its_turn late time n entry (k.greatest + wait) 0 calls k well_then keeps.in_time keeps.turns keeps.few (inl refl) (omega arith) place
    (λ holding out. ends_later (k.greatest + time holding) (k.greatest + wait + time holding) calls k (omega arith) (keeps.outstanding holding out)))
