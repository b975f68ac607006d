-- A line is set up where each of its devices is as at the first start, and no two of them are at one address.
use Rattle.osdp_premises.proofs.Common.{◌≡◌, ◌≢◌, ◌<◌, ℕ, zero, suc, Bool, true, List, [], ◌∷◌, All, Some, refl, sym, ap, ◌∙◌, not, ◌==◌, ◌&&◌, and_parts, Decides-eqb, Decides-not, Each, IsSetUp, InUse, Station, bus_with, each_of, site_at}
use Rattle.std.specs.Prelude.{None, ◌++◌, map}
use Rattle.osdp_bus.specs.Settings.{IsBusConfig}
use Rattle.osdp_bus.specs.declared.config.BusConfig.{BusConfig}
use Rattle.osdp_link_laws.proofs.Lines.{each_of as each_from}
use Rattle.osdp_reader_laws.specs.Storing.{StoresItsOwn}
use Rattle.osdp_shared_line.proofs.Sites.{some_same}
use Rattle.osdp_calls.proofs.Nexts.{each_at}
use Rattle.osdp_calls.proofs.Setting.{address_of}
use Rattle.osdp_premises.proofs.Deciding.{each_decides}

module _ {H : Type 0} where
  -- a device that may stand there at set-up
  pub record MayStand (t : Station H) : Type 0 where
    pub address : address_of t < 127
    pub stores : StoresItsOwn t.reader
    pub place : (t.place ≡ 0) × (t.begun ≡ None)

  -- no two are at one address
  abbrev pub is_elsewhere : ℕ → Station H → Bool
  is_elsewhere a t = not (address_of t == a)

  abbrev pub are_apart : List (Station H) → Bool
  are_apart [] = true
  are_apart (t ∷ ts) = each_of (is_elsewhere (address_of t)) ts && are_apart ts

  elsewhere : (a k : ℕ) (t : Station H) (ts : List (Station H)) → each_of (is_elsewhere a) ts ≡ true → site_at k ts ≡ Some t → address_of t ≢ a
  elsewhere a k t ts is at =
      let away : All (λ (u : Station H). address_of u ≢ a) ts =
      (each_decides _ _ (λ u. Decides-not _ (Decides-eqb (address_of u) a)) ts).0 is in
      each_at (λ (u : Station H). address_of u ≢ a) k t ts (each_from (λ (u : Station H). address_of u ≢ a) ts away) at

  apart : (j k : ℕ) (s t : Station H) (ts : List (Station H)) → are_apart ts ≡ true → j ≢ k → site_at j ts ≡ Some s → site_at k ts ≡ Some t
      → address_of s ≢ address_of t
  apart j k s t [] all other at there = absurd (let e = at in cc)
  apart zero zero s t (u ∷ ts) all other at there = absurd (other refl)
  apart zero (suc k) s t (u ∷ ts) all other at there =
      let first = and_parts (each_of (is_elsewhere (address_of u)) ts) (are_apart ts) all in
      λ e. elsewhere (address_of u) k t ts first.0 there (sym e ∙ ap address_of (sym (some_same u s at)))
  apart (suc j) zero s t (u ∷ ts) all other at there =
      let first = and_parts (each_of (is_elsewhere (address_of u)) ts) (are_apart ts) all in
      λ e. elsewhere (address_of u) j s ts first.0 at (e ∙ ap address_of (sym (some_same u t there)))
  apart (suc j) (suc k) s t (u ∷ ts) all other at there =
      apart j k s t ts (and_parts (each_of (is_elsewhere (address_of u)) ts) (are_apart ts) all).1 (λ e. other (ap suc e)) at there

  pub set_up_of : (config : BusConfig) (others : List ℕ) (l : InUse H) → IsBusConfig config → l.bus ≡ bus_with config (map address_of l.stations ++ others)
      → Each MayStand l.stations → are_apart l.stations ≡ true → (l.said ≡ []) × (l.place ≡ 0) × (l.openings ≡ []) → IsSetUp l
  set_up_of config others l settings bus stand different empty = record {
    config = config;
    settings = settings;
    others = others;
    bus = bus;
    devices = λ k t at. (each_at MayStand k t l.stations stand at).address;
    apart = λ j k s t other at there. apart j k s t l.stations different other at there;
    stored = λ k t at. (each_at MayStand k t l.stations stand at).stores;
    place = λ k t at. (each_at MayStand k t l.stations stand at).place;
    said = empty.0;
    read = empty.1;
    openings = empty.2;
  }
