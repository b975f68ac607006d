-- A site, and its calls.
use Rattle.std.specs.Prelude.{ℕ, zero, suc, min, List, [], ◌∷◌, length, replicate, Option, Some, None, slice_get, slice_set}
use Rattle.std.specs.Option.{option_map_or}
use Rattle.osdp_msg.specs.declared.command.Command.{Command}
use Rattle.osdp_bus.specs.Buses.{BusState}
use Rattle.osdp_controller.specs.declared.report.Report.{Report}
use Rattle.osdp_site.specs.declared.fault.SiteFault.{SiteFault}
use Rattle.osdp_site.specs.declared.fault.SiteFault.TheVariants.{NoEntry}
use Rattle.osdp_site.specs.declared.place.Presence.{Presence}
use Rattle.osdp_site.specs.declared.site.SiteConfig.{SiteConfig}
use Rattle.osdp_site.specs.Acting.{Acted, acts_at}
use Rattle.osdp_site.specs.Places.{PlaceState, after_wants, change_of, heeds, new_place, wants_refusal}

-- the pause from a session that has ended to the next, and what is kept of each entry
pub record SiteState : Type 0 where
  pub pause : ℕ
  pub places : List PlaceState

abbrev pub new_site : ℕ → SiteConfig → ℕ → SiteState
new_site entries c now = record { pause = c.pause; places = replicate entries (new_place c.room c.bytes now) }

abbrev pub place_of : ℕ → SiteState → Option PlaceState
place_of entry s = slice_get s.places entry

-- an entry is changed, where there is one of this number
abbrev pub changes : ℕ → (PlaceState → PlaceState) → SiteState → SiteState
changes entry change s = option_map_or (λ p. record s { places = slice_set s.places entry (change p) }) (place_of entry s) s

abbrev pub wants_refusal_at : ℕ → Command → SiteState → Option SiteFault
wants_refusal_at entry c s = option_map_or (wants_refusal c) (place_of entry s) (Some NoEntry)

abbrev pub wants_at : ℕ → Command → SiteState → SiteState
wants_at entry c s = changes entry (after_wants c) s

abbrev pub heeds_at : ℕ → ℕ → Report → SiteState → SiteState
heeds_at entry now r s = changes entry (heeds s.pause now r) s

-- what a report changes of whether a device is online
abbrev pub told_of : ℕ → ℕ → Report → PlaceState → Option Presence
told_of pause now r p = change_of p.presence (heeds pause now r p).presence

abbrev pub told_at : ℕ → ℕ → Report → SiteState → Option Presence
told_at entry now r s = option_map_or (told_of s.pause now r) (place_of entry s) None

-- a site, and its panel
pub record Both : Type 0 where
  pub site : SiteState
  pub panel : BusState

abbrev pub put_back : ℕ → SiteState → Acted → Both
put_back entry s x = record { site = record s { places = slice_set s.places entry x.place }; panel = x.panel }

abbrev pub acts_on : ℕ → ℕ → Both → Both
acts_on entry now x =
    option_map_or (λ p. put_back entry x.site (acts_at entry now (record { place = p; panel = x.panel }))) (place_of entry x.site) x

-- the first so many entries act, in their order
abbrev pub acts_first : ℕ → ℕ → Both → Both
acts_first zero now x = x
acts_first (suc n) now x = acts_on n now (acts_first n now x)

-- all do
abbrev pub acts : ℕ → Both → Both
acts now x = acts_first (length x.site.places) now x

-- the earlier of two moments, where there is one
abbrev pub earlier : Option ℕ → Option ℕ → Option ℕ
earlier None b = b
earlier (Some a) None = Some a
earlier (Some a) (Some b) = Some (min a b)

-- the earliest moment from which on a session is due
abbrev pub earliest_from : Option ℕ → List PlaceState → Option ℕ
earliest_from first [] = first
earliest_from first (p ∷ ps) = earliest_from (earlier first p.begins) ps

abbrev pub next_begin : SiteState → Option ℕ
next_begin s = earliest_from None s.places
