-- The devices of a bus and the sites whose controllers they are, place by place.
use Rattle.osdp_bus_links.proofs.Common.{◌≡◌, ◌||◌, ℕ, zero, suc, ◌+◌, Bool, true, false, List, [], ◌∷◌, map, take, drop, Option, Some, None, refl, sym, ap, ◌∙◌, arith, slice_get, slice_set, Command, Communication, Report, freed_with, reserved_after, reserved_for, Site, asked_for, changed, freed_by, freed_for, site_at, device_of}
use Rattle.osdp_msg.specs.declared.command.Command.TheVariants as command
use Rattle.osdp_controller.specs.declared.report.Report.TheVariants as report
use Rattle.osdp_bus.specs.Entries as devices
use Rattle.osdp_shared_line.specs.Line as line

or_assoc : (a b c : Bool) → (a || b) || c ≡ a || (b || c)
or_assoc true b c = refl
or_assoc false b c = refl

module _ {H : Type 0} where
  pub get_device : (k : ℕ) (s : Site H) (ss : List (Site H)) → site_at k ss ≡ Some s → slice_get (map device_of ss) k ≡ Some (device_of s)
  get_device k s [] is = absurd cc
  get_device zero s (t ∷ ss) is = let same : t ≡ s = cc in ap (λ u. Some (device_of u)) same
  get_device (suc k) s (t ∷ ss) is = get_device k s ss is

  pub get_none : (k : ℕ) (ss : List (Site H)) → site_at k ss ≡ None → slice_get (map device_of ss) k ≡ None
  get_none k [] is = refl
  get_none zero (t ∷ ss) is = absurd cc
  get_none (suc k) (t ∷ ss) is = get_none k ss is

  pub set_device : (k : ℕ) (s : Site H) (ss : List (Site H)) → slice_set (map device_of ss) k (device_of s) ≡ map device_of (changed k s ss)
  set_device k s [] = refl
  set_device zero s (t ∷ ss) = refl
  set_device (suc k) s (t ∷ ss) = ap (λ ds. device_of t ∷ ds) (set_device k s ss)

  pub changed_same : (k : ℕ) (s : Site H) (ss : List (Site H)) → site_at k ss ≡ Some s → changed k s ss ≡ ss
  changed_same k s [] is = refl
  changed_same zero s (t ∷ ss) is = let same : t ≡ s = cc in ap (λ u. u ∷ ss) (sym same)
  changed_same (suc k) s (t ∷ ss) is = ap (λ us. t ∷ us) (changed_same k s ss is)

  -- ---- addresses that are taken

  pub taken_same : (a : ℕ) (ss : List (Site H)) → devices.is_taken a (map device_of ss) ≡ line.is_taken a ss
  taken_same a [] = refl
  taken_same a (s ∷ ss) = ap (λ b. line.takes_up a s || b) (taken_same a ss)

  beside_from : (k a : ℕ) (ss : List (Site H))
      → devices.is_taken a (take k (map device_of ss)) || devices.is_taken a (drop (suc k) (map device_of ss)) ≡ line.is_taken_beside k a ss
  beside_from zero a [] = refl
  beside_from (suc k) a [] = refl
  beside_from zero a (s ∷ ss) = taken_same a ss
  beside_from (suc k) a (s ∷ ss) =
      or_assoc (line.takes_up a s) (devices.is_taken a (take k (map device_of ss))) (devices.is_taken a (drop (suc k) (map device_of ss)))
      ∙ ap (λ b. line.takes_up a s || b) (beside_from k a ss)

  pub beside_same : (k a : ℕ) (ss : List (Site H)) → devices.is_taken_beside k a (map device_of ss) ≡ line.is_taken_beside k a ss
  beside_same k a ss =
      let next : k + 1 ≡ suc k = omega arith in
      ap (λ m. devices.is_taken a (take k (map device_of ss)) || devices.is_taken a (drop m (map device_of ss))) next ∙ beside_from k a ss

-- ---- the address that is kept

pub asked_same : (o : Option Communication) (r : Option ℕ) → reserved_for o r ≡ asked_for o r
asked_same None r = refl
asked_same (Some d) r = refl

done_same : (c : Command) (r : Option ℕ) → freed_with c r ≡ freed_for c r
done_same (command.Comset d) r = refl
done_same _ r = refl

pub freed_same : (o : Option Report) (r : Option ℕ) → reserved_after o r ≡ freed_by o r
freed_same None r = refl
freed_same (Some (report.Settled c a)) r = done_same c r
freed_same (Some (report.Moved c d)) r = done_same c r
freed_same (Some _) r = refl

-- ---- a bus of these sites
