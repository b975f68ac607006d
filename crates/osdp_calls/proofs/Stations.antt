-- What changes a station and its site alone, and what calls come to.
use Rattle.osdp_calls.proofs.Common.{◌≡◌, ℕ, List, [], ◌∷◌, Some, refl, sym, subst, ◌∙◌, Command, device_of, Entry, Each, Answer, NetMoveFits, some_same, changes_at, on_station, InUse, Station}
use Rattle.osdp_shared_line.specs.Line as line
use Rattle.osdp_shared_line.specs.Line.{Net, NetMove, Site, after_net, changed, site_at}
use Rattle.osdp_calls.proofs.Losing.{IsLoss, IsPlain, Reaches, stays}
use Rattle.osdp_calls.proofs.Matching.{FoundAt, Match, Nobody, Somebody, changed_same, found, set_station}
use Rattle.osdp_calls.proofs.Same.{IsNetOf, IsSiteOf, sites_so}

module _ {H : Type 0} where
  -- the sites of a line in use
  abbrev pub Sites : InUse H → ℕ → Entry → Station H → Site H → Type 0
  Sites l = IsSiteOf l.openings l.said l.bus.greatest

  -- ---- the entry and the station of a site, and those of a station

  pub record OfSite (k : ℕ) (s : Site H) (l : InUse H) : Type 0 where
    pub device : Entry
    pub station : Station H
    pub entry : device_of k l.bus ≡ Some device
    pub there : site_at k l.stations ≡ Some station
    pub is : Sites l k device station s

  pub of_site : (k : ℕ) (s : Site H) (l : InUse H) (n : Net H) → IsNetOf l n → site_at k n.sites ≡ Some s → OfSite k s l
  of_site k s l n h at = by_found (found (Sites l) k l.bus.devices.entries l.stations n.sites h.sites)
    where
      by_found : FoundAt (Sites l) k k l.bus.devices.entries l.stations n.sites → OfSite k s l
      by_found (Nobody o a b c) = absurd (let e = sym c ∙ at in cc)
      by_found (Somebody d t s1 a b c has) =
          record { device = d; station = t; entry = a; there = b; is = subst (λ u. Sites l k d t u) (some_same s1 s (sym c ∙ at)) has }

  pub record OfStation (k : ℕ) (t : Station H) (l : InUse H) (n : Net H) : Type 0 where
    pub device : Entry
    pub site : Site H
    pub entry : device_of k l.bus ≡ Some device
    pub at : site_at k n.sites ≡ Some site
    pub is : Sites l k device t site

  pub of_station : (k : ℕ) (t : Station H) (l : InUse H) (n : Net H) → IsNetOf l n → site_at k l.stations ≡ Some t → OfStation k t l n
  of_station k t l n h there = by_found (found (Sites l) k l.bus.devices.entries l.stations n.sites h.sites)
    where
      by_found : FoundAt (Sites l) k k l.bus.devices.entries l.stations n.sites → OfStation k t l n
      by_found (Nobody o a b c) = absurd (let e = sym b ∙ there in cc)
      by_found (Somebody d t1 s a b c has) =
          record { device = d; site = s; entry = a; at = c; is = subst (λ u. Sites l k d u s) (some_same t1 t (sym b ∙ there)) has }

  -- ---- what changes a station

  -- a station changes, and its site is still that
  pub station_changes : (k : ℕ) (change : Station H → Station H) (l : InUse H) (n : Net H) → IsNetOf l n
      → ((d : Entry) (t : Station H) (s : Site H) → Sites l k d t s → Sites l k d (change t) s) → IsNetOf (on_station k change l) n
  station_changes k change l n h f = by_found (found (Sites l) k l.bus.devices.entries l.stations n.sites h.sites)
    where
      by_found : FoundAt (Sites l) k k l.bus.devices.entries l.stations n.sites → IsNetOf (on_station k change l) n
      by_found (Nobody o a b c) = subst (λ o. IsNetOf (record l { stations = changes_at k change o l.stations }) n) (sym b) h
      by_found (Somebody d t s a b c is) = subst (λ o. IsNetOf (record l { stations = changes_at k change o l.stations }) n) (sym b) (sites_so h
          (subst (λ ss. Match (Sites l) 0 l.bus.devices.entries (changed k (change t) l.stations) ss) (changed_same k s n.sites c)
          (set_station (Sites l) k d (change t) s l.bus.devices.entries l.stations n.sites h.sites a (f d t s is))))

  -- both change
  pub both_change : (k : ℕ) (change : Station H → Station H) (changes : Site H → Site H) (l : InUse H) (n : Net H) → IsNetOf l n
      → ((d : Entry) (t : Station H) (s : Site H) → Sites l k d t s → Sites l k d (change t) (changes s))
      → IsNetOf (on_station k change l) (line.change_at k (site_at k n.sites) changes n)
  both_change k change changes l n h f = by_found (found (Sites l) k l.bus.devices.entries l.stations n.sites h.sites)
    where
      by_found : FoundAt (Sites l) k k l.bus.devices.entries l.stations n.sites
          → IsNetOf (on_station k change l) (line.change_at k (site_at k n.sites) changes n)
      by_found (Nobody o a b c) =
          subst (λ o. IsNetOf (record l { stations = changes_at k change o l.stations }) (line.change_at k (site_at k n.sites) changes n)) (sym b)
          (subst (λ o. IsNetOf l (line.change_at k o changes n)) (sym c) h)
      by_found (Somebody d t s a b c is) =
          subst (λ o. IsNetOf (record l { stations = changes_at k change o l.stations }) (line.change_at k (site_at k n.sites) changes n)) (sym b)
          (subst (λ o. IsNetOf (record l { stations = changed k (change t) l.stations }) (line.change_at k o changes n)) (sym c) (sites_so h
          (set_station (Sites l) k d (change t) (changes s) l.bus.devices.entries l.stations n.sites h.sites a (f d t s is))))

  module _ (answer_of : H → Command → Answer) (after : H → Command → H) where
    -- what a call comes to: moves that fit
    pub record Refines (n : Net H) (l : InUse H) : Type 0 where
      pub net : Net H
      pub reached : Reaches answer_of after n net
      pub same : IsNetOf l net

    pub by_none : (l : InUse H) (n : Net H) → IsNetOf l n → Refines n l
    by_none l n same = record { net = n; reached = stays answer_of after n; same = same }

    -- .. moves of which this holds, too
    pub record Makes (Q : List (NetMove H) → Type 0) (n : Net H) (l : InUse H) : Type 0 where
      pub refines : Refines n l
      pub made : Q refines.reached.moves

    -- .. losses alone
    abbrev pub LosesTo : Net H → InUse H → Type 0
    LosesTo n l = Makes (Each IsLoss) n l

    -- what is no matter to the net
    pub makes_is : (Q : List (NetMove H) → Type 0) (l m : InUse H) (n : Net H) → Makes Q n l → ((k : Net H) → IsNetOf l k → IsNetOf m k) → Makes Q n m
    makes_is Q l m n x f =
        let r = x.refines in record { refines = record { net = r.net; reached = r.reached; same = f r.net r.same }; made = x.made }

    pub make_move : (Q : List (NetMove H) → Type 0) (move : NetMove H) (l : InUse H) (n : Net H) → Q (move ∷ []) → IsPlain move
        → NetMoveFits answer_of after move n → IsNetOf l (after_net answer_of after move n) → Makes Q n l
    make_move Q move l n made plain fits same = record {
      refines = record {
        net = after_net answer_of after move n;
        reached = record { moves = move ∷ []; fit = (fits, tt); run = refl; plain = (plain, tt) };
        same = same;
      };
      made = made;
    }

    pub make_none : (Q : List (NetMove H) → Type 0) (l : InUse H) (n : Net H) → Q [] → IsNetOf l n → Makes Q n l
    make_none Q l n made same = record {
      refines = record { net = n; reached = record { moves = []; fit = tt; run = refl; plain = tt }; same = same };
      made = made;
    }
