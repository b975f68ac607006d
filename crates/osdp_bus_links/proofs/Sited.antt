-- What the panel may still read was said by readers that are there.
use Rattle.osdp_bus_links.proofs.Common.{◌≡◌, ℕ, zero, suc, Bool, true, false, cond, List, [], ◌∷◌, map, Option, Some, None, refl, sym, subst, inl, inr, eqb_tells, Packet, Command, comset_of, Answer, Delivered, Delivery, Lost, Repeated, after_move, each_append, each_map, Each, Net, NetMove, Queue, Reopen, SetBusy, Site, Submit, Tick, ToPanel, ToReader, after_net, changed, first_gets, gets, is_told, left_by, link_of, run, site_at, tagged, own, gets_one, own_first, own_rest, IsScheduled}
use Rattle.osdp_link_laws.specs.Link as link
use Rattle.osdp_shared_line.specs.Line as line

-- what is one's own after the front
own_tail : (P : Packet → Type 0) (k : ℕ) (p : ℕ × Packet) (ps : List (ℕ × Packet)) → Each P (own k (p ∷ ps)) → Each P (own k ps)
own_tail P k p ps all = elim (eqb_tells p.0 k) [
  | inl equal ↦ (subst (Each P) (own_first k p ps equal.1) all).1
  | inr differs ↦ subst (Each P) (own_rest k p ps differs.1) all
]

module _ {H : Type 0} where
  abbrev pub IsSited : List (Site H) → ℕ → Type 0
  IsSited ss k = (s : Site H) × (site_at k ss ≡ Some s)

  abbrev pub AreSited : Net H → Type 0
  AreSited n = Each (λ (q : ℕ × Packet). IsSited n.sites q.0) n.to_panel

  -- ---- they stay

  abbrev Stay : List (Site H) → List (Site H) → Type 0
  Stay ss next = (k : ℕ) → IsSited ss k → IsSited next k

  stay_changed : (i : ℕ) (new : Site H) (ss : List (Site H)) → Stay ss (changed i new ss)
  stay_changed i new [] k is = is
  stay_changed zero new (s ∷ ss) zero is = (new, refl)
  stay_changed zero new (s ∷ ss) (suc k) is = is
  stay_changed (suc i) new (s ∷ ss) zero is = (s, refl)
  stay_changed (suc i) new (s ∷ ss) (suc k) is = stay_changed i new ss k is

  stay_map : (f : Site H → Site H) (ss : List (Site H)) → Stay ss (map f ss)
  stay_map f [] k is = is
  stay_map f (s ∷ ss) zero is = (f s, refl)
  stay_map f (s ∷ ss) (suc k) is = stay_map f ss k is

  stay_got : (p : Packet) (now : ℕ) (ss : List (Site H)) → Stay ss (first_gets p now ss)
  stay_got p now ss = elim (gets_one p now ss) [
    | inl none ↦ subst (Stay ss) (sym none) (λ k is. is)
    | inr (i, s, at, one) ↦ subst (Stay ss) (sym one) (stay_changed i (gets p now s) ss)
  ]

  all_stay : (ss next : List (Site H)) (qs : List (ℕ × Packet)) → Stay ss next → Each (λ (q : ℕ × Packet). IsSited ss q.0) qs
      → Each (λ (q : ℕ × Packet). IsSited next q.0) qs
  all_stay ss next qs stay all =
      each_map (λ (q : ℕ × Packet). IsSited ss q.0) (λ (q : ℕ × Packet). IsSited next q.0) (λ q is. stay q.0 is) qs all

  -- what one of them says
  sited_tagged : (k : ℕ) (ss : List (Site H)) (ps : List Packet) → IsSited ss k → Each (λ (q : ℕ × Packet). IsSited ss q.0) (tagged k ps)
  sited_tagged k ss [] is = tt
  sited_tagged k ss (p ∷ ps) is = (is, sited_tagged k ss ps is)

  change_sited : (refused : Site H → Bool) (i : ℕ) (o : Option (Site H)) (change : Site H → Site H) (n : Net H) → AreSited n
      → AreSited (line.change_unless refused i o change n)
  change_sited refused i None change n all = all
  change_sited refused i (Some s) change n all = by_test (refused s)
    where
      by_test : (b : Bool) → AreSited (cond b n (record n { sites = changed i (change s) n.sites }))
      by_test true = all
      by_test false = all_stay n.sites (changed i (change s) n.sites) n.to_panel (stay_changed i (change s) n.sites) all

  panel_sited : (qs : List (ℕ × Packet)) (how : Delivery) (now : ℕ) (n : Net H) → n.to_panel ≡ qs → AreSited n → AreSited (line.to_panel qs how now n)
  panel_sited [] how now n is all = all
  panel_sited (q ∷ rest) Delivered now n is all =
      all_stay n.sites (first_gets q.1 now n.sites) rest (stay_got q.1 now n.sites) (subst (Each (λ (p : ℕ × Packet). IsSited n.sites p.0)) is all).1
  panel_sited (q ∷ rest) Lost now n is all = (subst (Each (λ (p : ℕ × Packet). IsSited n.sites p.0)) is all).1
  panel_sited (q ∷ rest) Repeated now n is all = all_stay n.sites (first_gets q.1 now n.sites) n.to_panel (stay_got q.1 now n.sites) all

  module _ (answer_of : H → Command → Answer) (after : H → Command → H) where
    tick_sited : (i now : ℕ) (o : Option (Site H)) (n : Net H) → AreSited n → AreSited (line.tick_at answer_of after i now o n)
    tick_sited i now None n all = all
    tick_sited i now (Some s) n all =
        let said = tagged i (after_move answer_of after (link.Tick now) (link_of s [] [])).to_reader in
        let u = line.ticks answer_of after now s in
        all_stay (changed i u n.sites) (map (is_told said) (changed i u n.sites)) n.to_panel (stay_map (is_told said) (changed i u n.sites))
        (all_stay n.sites (changed i u n.sites) n.to_panel (stay_changed i u n.sites) all)

    heard_sited : (i : ℕ) (p : Packet) (t : Site H) (n : Net H) → IsSited n.sites i → AreSited n → AreSited (line.hears_at answer_of after i p t n)
    heard_sited i p t n here all =
        let l = link.reader_gets answer_of after p (link_of t [] []) in
        let next = changed i (left_by t l) n.sites in
        let stay = stay_changed i (left_by t l) n.sites in
        each_append (λ (q : ℕ × Packet). IsSited next q.0) n.to_panel (tagged i l.to_controller) (all_stay n.sites next n.to_panel stay all)
        (sited_tagged i next l.to_controller (stay i here))

    read_sited : (i : ℕ) (ps : List (ℕ × Packet)) (how : Delivery) (s : Site H) (n : Net H) → IsSited n.sites i → AreSited n
        → AreSited (line.reads_at answer_of after i ps how s n)
    read_sited i [] how s n here all = all
    read_sited i (p ∷ rest) Delivered s n here all = heard_sited i p.1 (record s { coming = rest }) n here all
    read_sited i (p ∷ rest) Lost s n here all =
        all_stay n.sites (changed i (record s { coming = rest }) n.sites) n.to_panel (stay_changed i (record s { coming = rest }) n.sites) all
    read_sited i (p ∷ rest) Repeated s n here all = heard_sited i p.1 s n here all

    reading_sited : (i : ℕ) (how : Delivery) (o : Option (Site H)) (n : Net H) → site_at i n.sites ≡ o → AreSited n
        → AreSited (line.to_reader answer_of after i how o n)
    reading_sited i how None n at all = all
    reading_sited i how (Some s) n at all = read_sited i s.coming how s n (s, at) all

    move_sited : (move : NetMove H) (n : Net H) → IsScheduled move → AreSited n → AreSited (after_net answer_of after move n)
    move_sited (Submit i c) n scheduled all =
        change_sited (λ s. line.is_comset_refused i (comset_of c) s n.sites) i (site_at i n.sites) (line.submits answer_of after c) n all
    move_sited (Queue i e) n scheduled all = change_sited (λ s. false) i (site_at i n.sites) (line.calls answer_of after (link.Queue e)) n all
    move_sited (SetBusy i busy) n scheduled all = change_sited (λ s. false) i (site_at i n.sites) (line.calls answer_of after (link.SetBusy busy)) n all
    move_sited (Tick i now) n scheduled all = tick_sited i now (site_at i n.sites) n all
    move_sited (ToReader i how) n scheduled all = reading_sited i how (site_at i n.sites) n refl all
    move_sited (ToPanel how now) n scheduled all = panel_sited n.to_panel how now n refl all
    move_sited (Reopen i now) n scheduled all = change_sited (λ s. false) i (site_at i n.sites) (line.calls answer_of after (link.Reopen now)) n all
    move_sited _ n scheduled all = absurd scheduled

    pub all_sited : (moves : List (NetMove H)) (n : Net H) → Each IsScheduled moves → AreSited n → AreSited (run answer_of after moves n)
    all_sited [] n scheduled all = all
    all_sited (move ∷ moves) n scheduled all = all_sited moves (after_net answer_of after move n) scheduled.1 (move_sited move n scheduled.0 all)

  -- ---- so what holds of all that each of them said holds of all

  pub each_own : (P : Packet → Type 0) (ss : List (Site H)) (ps : List (ℕ × Packet)) → Each (λ (q : ℕ × Packet). IsSited ss q.0) ps
      → ((k : ℕ) (s : Site H) → site_at k ss ≡ Some s → Each P (own k ps)) → Each (λ (q : ℕ × Packet). P q.1) ps
  each_own P ss [] sited own_are = tt
  each_own P ss (p ∷ ps) sited own_are = (
    (subst (Each P) (own_first p.0 p ps refl) (own_are p.0 sited.0.0 sited.0.1)).0,
    each_own P ss ps sited.1 (λ k s is. own_tail P k p ps (own_are k s is)),
  )
