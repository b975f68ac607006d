-- What holds of the station at a place, where a station changes and where the panel calls.
use Rattle.osdp_calls.proofs.Common.{◌≡◌, ◌≢◌, ℕ, max, Bool, true, false, List, Option, Some, None, refl, sym, subst, ap, ◌∙◌, inl, inr, eqb_tells, ◌==◌, Packet, BusState, begin_refusal_at, changed_unless, bus_ticks, BusFault, site_at, at_changed, at_other, after_panel, asked_at, begins_session, begins_with, begun_of, change_at, changes_at, is_to_begin, last_of, noted, panel_says, said_at, InUse, Station}
use Rattle.osdp_bus_laws.specs.Calls as bus

module _ {A : Type 0} (get : ℕ → List A → Option A) where
  -- this holds of the one at a place
  abbrev pub IsAt : (A → Type 0) → ℕ → List A → Type 0
  IsAt P k xs = (x : A) × (get k xs ≡ Some x) × P x

  -- one changes, and no other: what holds of the one at a place then, whether or not it is that one
  pub one_so : (R : Bool → A → Type 0) (k i : ℕ) (change : A → A) (xs ys : List A) → ((x : A) → get i xs ≡ Some x → get i ys ≡ Some (change x))
      → (k ≢ i → get k ys ≡ get k xs) → ((x : A) → get i xs ≡ Some x → R false x → R true (change x)) → IsAt (R false) k xs → IsAt (R (i == k)) k ys
  one_so R k i change xs ys here others goes is = elim (eqb_tells i k) [
    | inl equal ↦
        let at : get i xs ≡ Some is.0 = subst (λ j. get j xs ≡ Some is.0) (sym equal.1) is.1 in
        subst (λ b. IsAt (R b) k ys) (sym equal.0)
        (change is.0, subst (λ j. get j ys ≡ Some (change is.0)) equal.1 (here is.0 at), goes is.0 at is.2)
    | inr differs ↦
        subst (λ b. IsAt (R b) k ys) (sym differs.0) (is.0, others (λ e. differs.1 (sym e)) ∙ is.1, is.2)
  ]

module _ {H : Type 0} where
  -- ---- a station changes

  station_here : (i : ℕ) (change : Station H → Station H) (ts : List (Station H)) (t : Station H) → site_at i ts ≡ Some t
      → site_at i (change_at i change ts) ≡ Some (change t)
  station_here i change ts t at = ap (λ o. site_at i (changes_at i change o ts)) at ∙ at_changed i (change t) t ts at

  pub station_other : (k i : ℕ) (change : Station H → Station H) (ts : List (Station H)) → k ≢ i → site_at k (change_at i change ts) ≡ site_at k ts
  station_other k i change ts differs = by_station (site_at i ts)
    where
      by_station : (o : Option (Station H)) → site_at k (changes_at i change o ts) ≡ site_at k ts
      by_station None = refl
      by_station (Some t) = at_other k i (change t) ts differs

  pub station_so : (R : Bool → Station H → Type 0) (k i : ℕ) (change : Station H → Station H) (ts : List (Station H))
      → ((t : Station H) → site_at i ts ≡ Some t → R false t → R true (change t))
      → IsAt site_at (R false) k ts → IsAt site_at (R (i == k)) k (change_at i change ts)
  station_so R k i change ts goes is =
      one_so site_at R k i change ts (change_at i change ts) (station_here i change ts) (station_other k i change ts) goes is

-- ---- the panel calls

module _ {H : Type 0} (R : Station H → Type 0) where
  -- what holds of a station stays whatever the panel does
  pub record Stays : Type 0 where
    pub begins_so : (moment : ℕ) (t : Station H) → R t → R (is_to_begin moment t)
    pub opens_so : (t : Station H) → R t → R (begins_session t)

  kept_so : (k i : ℕ) (change : Station H → Station H) (ts : List (Station H)) → ((t : Station H) → R t → R (change t))
      → IsAt site_at R k ts → IsAt site_at R k (change_at i change ts)
  kept_so k i change ts keeps is = station_so (λ b. R) k i change ts (λ t at holds. keeps t holds) is

  module _ (s : Stays) where
    begin_so : (k entry moment : ℕ) (fault : Option BusFault) (ts : List (Station H)) → IsAt site_at R k ts
        → IsAt site_at R k (changed_unless fault ts (change_at entry (is_to_begin moment) ts))
    begin_so k entry moment None ts is = kept_so k entry (is_to_begin moment) ts (s.begins_so moment) is
    begin_so k entry moment (Some fault) ts is = is

    noted_so : (k : ℕ) (call : bus.Call) (b : BusState) (ts : List (Station H)) → IsAt site_at R k ts → IsAt site_at R k (noted call b ts)
    noted_so k (bus.Begin entry now) b ts is = begin_so k entry (max b.greatest now) (begin_refusal_at entry b) ts is
    noted_so k _ b ts is = is

    opened_so : (k entry : ℕ) (p : Packet) (o : Option ℕ) (l : InUse H) → IsAt site_at R k l.stations → IsAt site_at R k (begins_with entry p o l).stations
    opened_so k entry p None l is = is
    opened_so k entry p (Some moment) l is = kept_so k entry begins_session l.stations s.opens_so is

    says_so : (k : ℕ) (o : Option ℕ) (p : Option Packet) (l : InUse H) → IsAt site_at R k l.stations → IsAt site_at R k (panel_says o p l).stations
    says_so k None p l is = is
    says_so k (Some entry) None l is = is
    says_so k (Some entry) (Some p) l is = opened_so k entry p (begun_of (site_at entry l.stations)) l is

    said_so : (k : ℕ) (call : bus.Call) (b : BusState) (l : InUse H) → IsAt site_at R k l.stations → IsAt site_at R k (said_at call b l).stations
    said_so k (bus.Tick now) b l is = says_so k (asked_at now b) (bus_ticks now b).sent l is
    said_so k _ b l is = is

    pub panel_so : (k : ℕ) (call : bus.Call) (places : List ℕ) (l : InUse H) → IsAt site_at R k l.stations → IsAt site_at R k (after_panel call places l).stations
    panel_so k call places l is =
        said_so k call l.bus (record l { bus = bus.after_call call l.bus; stations = noted call l.bus l.stations; place = last_of places l.place })
        (noted_so k call l.bus l.stations is)
