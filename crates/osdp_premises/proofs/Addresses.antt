-- The tests on addresses decide the premise on them.
use Rattle.osdp_premises.proofs.Common.{◌≡◌, ◌≢◌, ◌≤◌, ◌||◌, ◌⊎◌, ◌==◌, ℕ, not, Decides, List, length, Option, Some, None, refl, subst, ap, ◌∙◌, arith, inl, inr, ⊎_elim, cases_eq, Decides-and, Decides-eqb, Decides-like, Decides-not, Decides-or, Packet, Communication, comset_of, device_of, retarget_refusal_at, submit_refusal_at, Entry, BusFault, command_in, new_address, Sets, SetsReader, Somewhere, address_in, site_at, InUse, Station, ahead_of_device, IsAsked, IsFreeFor, IsNoOthers, IsOfOthers, IsSaid, IsThere, MayBeAt, PanelAddresses, PanelIsApart, unended_of, address_asked, are_other_addresses, differ, gives_no_others, is_apart_from, is_asked_to, is_free_for, is_free_of_others, is_no_others, is_of_others, is_ours_at, is_sent_to, is_there_with, may_be_at, panel_addresses, panel_is_apart, stands_at, some_same, at_length}
use Rattle.osdp_bus_laws.specs.Calls as bus
use Rattle.osdp_premises.proofs.Deciding.{always, each_decides, every_decides, if_decides, other_decides, some_decides, there_decides}

-- that number is there
number_decides : (a : ℕ) (o : Option ℕ) → Decides (is_there_with (λ to. to == a) o) (o ≡ Some a)
number_decides a o = Decides-like _ (λ h. h.1 ∙ ap (λ (x : ℕ). Some x) h.2) (λ e. (a, e, refl)) (there_decides _ _ (λ to. Decides-eqb to a) o)

-- an entry of a list that is not this one, or whose address is another
away_decides : (k a : ℕ) (q : ℕ × Packet) → Decides ((q.0 == k) || not (q.1.address == a)) (q.0 ≢ k → q.1.address ≢ a)
away_decides k a q = Decides-like _ to from
    (Decides-or _ _ (Decides-eqb q.0 k) (Decides-not _ (Decides-eqb q.1.address a)))
  where
    to : (q.0 ≡ k) ⊎ (q.1.address ≡ a → ⊥) → q.0 ≢ k → q.1.address ≢ a
    to (inl same) other = absurd (other same)
    to (inr away) other = away

    from : (q.0 ≢ k → q.1.address ≢ a) → (q.0 ≡ k) ⊎ (q.1.address ≡ a → ⊥)
    from all = ⊎_elim (λ same. inl same) (λ other. inr (all other)) (cases_eq q.0 k)

asked_decides : (a : ℕ) (d : Entry) → Decides (is_asked_to a d) (Somewhere (Sets a) (unended_of d))
asked_decides a d = some_decides _ _ (λ c. number_decides a (new_address c)) (unended_of d)

abbrev Differ : List ℕ → ℕ → ℕ → Type 0
Differ addresses k j = (a : ℕ) → site_at j addresses ≡ Some a → (b : ℕ) → site_at k addresses ≡ Some b → a ≢ b

differ_decides : (addresses : List ℕ) (k j : ℕ) → Decides (differ (site_at j addresses) (site_at k addresses)) (Differ addresses k j)
differ_decides addresses k j =
    if_decides _ _ (λ a. if_decides _ _ (λ b. Decides-not _ (Decides-eqb a b)) (site_at k addresses)) (site_at j addresses)

module _ {H : Type 0} where
  sent_decides : (a k : ℕ) (l : InUse H) (t : Station H)
      → Decides (is_sent_to a k l t) (Somewhere (λ (q : ℕ × Packet). (q.0 ≡ k) × SetsReader a q.1) (ahead_of_device k t.place l.openings l.said))
  sent_decides a k l t =
      some_decides _ _ (λ q. Decides-and _ _ (Decides-eqb q.0 k) (number_decides a (address_in (command_in q.1))))
      (ahead_of_device k t.place l.openings l.said)

  stands_decides : (a : ℕ) (t : Station H) → Decides (stands_at a t) (t.reader.config.address ≡ a)
  stands_decides a t = Decides-eqb t.reader.config.address a

  may_decides : (a k : ℕ) (l : InUse H) → Decides (may_be_at a k l) (MayBeAt a k l)
  may_decides a k l =
      Decides-like _ to from
      (Decides-or _ _ (there_decides _ _ (stands_decides a) (site_at k l.stations))
      (Decides-or _ _ (there_decides _ _ (λ t. there_decides _ _ (asked_decides a) (device_of k l.bus)) (site_at k l.stations))
      (there_decides _ _ (sent_decides a k l) (site_at k l.stations))))
    where
      to : ((t : Station H) × (site_at k l.stations ≡ Some t) × (t.reader.config.address ≡ a))
          ⊎ (((t : Station H) × (site_at k l.stations ≡ Some t) × ((d : Entry) × (device_of k l.bus ≡ Some d) × Somewhere (Sets a) (unended_of d)))
          ⊎ ((t : Station H) × (site_at k l.stations ≡ Some t)
          × Somewhere (λ (q : ℕ × Packet). (q.0 ≡ k) × SetsReader a q.1) (ahead_of_device k t.place l.openings l.said))) → MayBeAt a k l
      to (inl h) = IsThere h.0 h.1 h.2
      to (inr (inl h)) = IsAsked h.0 h.2.0 h.1 h.2.1 h.2.2
      to (inr (inr h)) = IsSaid h.0 h.1 h.2

      from : MayBeAt a k l → ((t : Station H) × (site_at k l.stations ≡ Some t) × (t.reader.config.address ≡ a))
          ⊎ (((t : Station H) × (site_at k l.stations ≡ Some t) × ((d : Entry) × (device_of k l.bus ≡ Some d) × Somewhere (Sets a) (unended_of d)))
          ⊎ ((t : Station H) × (site_at k l.stations ≡ Some t)
          × Somewhere (λ (q : ℕ × Packet). (q.0 ≡ k) × SetsReader a q.1) (ahead_of_device k t.place l.openings l.said)))
      from (IsThere t at is) = inl (t, at, is)
      from (IsAsked t d there at is) = inr (inl (t, there, (d, at, is)))
      from (IsSaid t at is) = inr (inr (t, at, is))

  -- past all stations nobody is
  nobody_past : (a : ℕ) (l : InUse H) (j : ℕ) → length l.stations ≤ j → MayBeAt a j l → ⊥
  nobody_past a l j above (IsThere t at is) = let below = at_length j t l.stations at in absurd (omega (arith, above, below))
  nobody_past a l j above (IsAsked t d there at is) = let below = at_length j t l.stations there in absurd (omega (arith, above, below))
  nobody_past a l j above (IsSaid t at is) = let below = at_length j t l.stations at in absurd (omega (arith, above, below))

  -- an entry of ours is at an address
  abbrev OursAt : ℕ → ℕ → InUse H → Type 0
  OursAt a j l = (t : Station H) × (site_at j l.stations ≡ Some t)
      × ((d : Entry) × (device_of j l.bus ≡ Some d) × (d.controller.session.config.address ≡ a))

  ours_decides : (a j : ℕ) (l : InUse H) → Decides (is_ours_at a j l) (OursAt a j l)
  ours_decides a j l =
      there_decides _ _ (λ t. there_decides _ _ (λ d. Decides-eqb d.controller.session.config.address a) (device_of j l.bus)) (site_at j l.stations)

  pub no_others_decides : (k a : ℕ) (l : InUse H) → Decides (is_no_others k a l) (IsNoOthers k a l)
  no_others_decides k a l =
      other_decides k (length l.stations) _ _ (λ j. Decides-not _ (may_decides a j l)) (λ j above. nobody_past a l j above)

  pub others_decides : (l : InUse H) (p : Packet) → Decides (is_of_others l p) (IsOfOthers l p)
  others_decides l p =
      let a = p.address in
      Decides-like _ (λ h. record {
        to_one = h.0;
        entries = λ j t d there at same. h.1.0 j (t, there, (d, at, same));
        devices = h.1.1;
      })
      (λ (r : IsOfOthers l p). (r.to_one, ((λ j held. r.entries j held.0 held.2.0 held.1 held.2.1 held.2.2), r.devices)))
      (Decides-and _ _ (Decides-not _ (Decides-eqb a 127))
      (Decides-and _ _ (every_decides (length l.stations) _ _ (λ j. Decides-not _ (ours_decides a j l))
      (λ j above held. let below = at_length j held.0 l.stations held.1 in absurd (omega (arith, above, below))))
      (every_decides (length l.stations) _ _ (λ j. Decides-not _ (may_decides a j l)) (λ j above. nobody_past a l j above))))

  gives_decides : (k : ℕ) (refused : Option BusFault) (asked : Option Communication) (l : InUse H)
      → Decides (gives_no_others k refused (address_asked asked) l)
      (refused ≡ None → (c : Communication) → asked ≡ Some c → IsNoOthers k c.address l)
  gives_decides k (Some fault) asked l = always (λ none. absurd (let e = none in cc))
  gives_decides k None None l = always (λ e c none. absurd (let x = none in cc))
  gives_decides k None (Some c) l = Decides-like _ (λ h e other same. subst (λ (x : Communication). IsNoOthers k x.address l) (some_same c other same) h)
      (λ all. all refl c refl) (no_others_decides k c.address l)

  goes_decides : (k : ℕ) (refused : Option BusFault) (address : ℕ) (l : InUse H)
      → Decides (gives_no_others k refused (Some address) l) (refused ≡ None → IsNoOthers k address l)
  goes_decides k (Some fault) address l = always (λ none. absurd (let e = none in cc))
  goes_decides k None address l =
      Decides-like _ (λ h e. h) (λ all. all refl) (no_others_decides k address l)

  pub panel_decides : (call : bus.Call) (l : InUse H) → Decides (panel_addresses call l) (PanelAddresses call l)
  panel_decides (bus.Submit k command) l =
      if_decides _ _ (λ t. gives_decides k (submit_refusal_at k command l.bus) (comset_of command) l) (site_at k l.stations)
  panel_decides (bus.Retarget k address) l =
      if_decides _ _ (λ t. goes_decides k (retarget_refusal_at k address l.bus) address l) (site_at k l.stations)
  panel_decides _ l = always tt

  pub free_decides : (k a : ℕ) (l : InUse H) (t : Station H) → Decides (is_free_for k a l t) (IsFreeFor k a t l)
  free_decides k a l t =
      Decides-like _ (λ h. record { entries = λ j u d other there at same. h.0 j other (u, there, (d, at, same)); devices = h.1.0; said = h.1.1 })
      (λ (r : IsFreeFor k a t l). ((λ j other held. r.entries j held.0 held.2.0 other held.1 held.2.1 held.2.2), (r.devices, r.said)))
      (Decides-and _ _ (other_decides k (length l.stations) _ _ (λ j. Decides-not _ (ours_decides a j l))
      (λ j above held. let below = at_length j held.0 l.stations held.1 in absurd (omega (arith, above, below))))
      (Decides-and _ _ (no_others_decides k a l)
      (each_decides _ _ (away_decides k a) (ahead_of_device k t.place l.openings l.said))))

  -- ---- a panel that is made anew

  abbrev Apart : List ℕ → InUse H → ℕ → ℕ → Type 0
  Apart addresses l k j = (a : ℕ) → site_at k addresses ≡ Some a → (t : Station H) → site_at j l.stations ≡ Some t
      → (t.reader.config.address ≡ a → ⊥)
      × (Somewhere (λ (q : ℕ × Packet). (q.0 ≡ j) × SetsReader a q.1) (ahead_of_device j t.place l.openings l.said) → ⊥)

  from_decides : (j : ℕ) (l : InUse H) (a : ℕ) → Decides (is_apart_from j l a) ((t : Station H) → site_at j l.stations ≡ Some t
      → (t.reader.config.address ≡ a → ⊥)
      × (Somewhere (λ (q : ℕ × Packet). (q.0 ≡ j) × SetsReader a q.1) (ahead_of_device j t.place l.openings l.said) → ⊥))
  from_decides j l a =
      if_decides _ _ (λ t. Decides-and _ _ (Decides-not _ (stands_decides a t)) (Decides-not _ (sent_decides a j l t))) (site_at j l.stations)

  -- of an entry of ours
  abbrev OwnAddress : List ℕ → InUse H → ℕ → Type 0
  OwnAddress addresses l k = (u : Station H) → site_at k l.stations ≡ Some u → (j : ℕ) → j ≢ k → (t : Station H) → site_at j l.stations ≡ Some t
      → Differ addresses k j

  abbrev FreeAddress : List ℕ → InUse H → ℕ → Type 0
  FreeAddress addresses l k = (u : Station H) → site_at k l.stations ≡ Some u → (j : ℕ) → j ≢ k → Apart addresses l k j

  own_decides : (addresses : List ℕ) (l : InUse H) (k : ℕ) → Decides (are_other_addresses addresses l k) (OwnAddress addresses l k)
  own_decides addresses l k =
      if_decides _ _ (λ u. other_decides k (length l.stations) _ _ (λ j. if_decides _ _ (λ t. differ_decides addresses k j) (site_at j l.stations))
      (λ j above t there. let below = at_length j t l.stations there in absurd (omega (arith, above, below)))) (site_at k l.stations)

  free_address_decides : (addresses : List ℕ) (l : InUse H) (k : ℕ) → Decides (is_free_of_others addresses l k) (FreeAddress addresses l k)
  free_address_decides addresses l k =
      if_decides _ _ (λ u. other_decides k (length l.stations) _ _ (λ j. if_decides _ _ (from_decides j l) (site_at k addresses))
      (λ j above a at t there. let below = at_length j t l.stations there in absurd (omega (arith, above, below)))) (site_at k l.stations)

  pub apart_decides : (addresses : List ℕ) (l : InUse H) → Decides (panel_is_apart addresses l) (PanelIsApart addresses l)
  apart_decides addresses l =
      Decides-like _ (λ h. record {
        own = λ j k a b t u other at there tj uk. h.0 k u uk j other t tj a at b there;
        there = λ j k a t u other at tj uk. (h.1 k u uk j other a at t tj).0;
        said = λ j k a t u other at tj uk. (h.1 k u uk j other a at t tj).1;
      })
      (λ (r : PanelIsApart addresses l). (
        (λ k u uk j other t tj a at b there. r.own j k a b t u other at there tj uk),
        (λ k u uk j other a at t tj. (r.there j k a t u other at tj uk, r.said j k a t u other at tj uk)),
      ))
      (Decides-and _ _ (every_decides (length l.stations) _ _ (own_decides addresses l)
      (λ k above u uk. let below = at_length k u l.stations uk in absurd (omega (arith, above, below))))
      (every_decides (length l.stations) _ _ (free_address_decides addresses l)
      (λ k above u uk. let below = at_length k u l.stations uk in absurd (omega (arith, above, below)))))
