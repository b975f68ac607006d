-- What is said and read keeps all sites apart.
use Rattle.osdp_shared_line.proofs.Common.{◌≡◌, ◌≢◌, ◌⊎◌, ◌<◌, ℕ, suc, Bool, true, false, cond, List, [], ◌∷◌, ◌++◌, Option, Some, None, IfSome, refl, sym, subst, ap, ◌∙◌, inl, inr, append_assoc, arith, eqb_tells, append-nil, ◌==◌, map, option_to_list, Packet, CommandFits, Command, seen, ticks_in, Answer, Delivered, Delivery, Lost, Repeated, ReadsWhatIsAsked, each_append, each_map, each_rest, Each, IsAsked, IsNameOf, IsSaid, IsThere, MayComeTo, Sets, SetsReader, Somewhere, outstanding_command, unended, Net, Site, address_of, changed, first_gets, gets, is_told, left_by, link_of, site_at, tagged}
use Rattle.osdp_controller.specs.Hearing as controller
use Rattle.osdp_reader.specs.Table as reader
use Rattle.osdp_link_laws.specs.Link as link
use Rattle.osdp_shared_line.specs.Line as line
use Rattle.osdp_shared_line.proofs.Apart.{Apart, IsAfter, IsAway, IsClosed, IsKept, IsOwnComset, IsToClosed, IsToDevice, NamesGo, Ordered, all_left, each_any, each_tagged, one_changes, ordered_more, others_ordered, own_ordered, reader_address, with_panel}
use Rattle.osdp_shared_line.proofs.Changing.{Nothing, One, Quietly, fewer, quietly, same}
use Rattle.osdp_shared_line.proofs.Controllers.{AreLeft, IsSent, hears_well, ticks_well}
use Rattle.osdp_shared_line.proofs.Hearing.{by_address, closed_hears, silent}
use Rattle.osdp_shared_line.proofs.Lists.{nowhere, somewhere_front, somewhere_split}
use Rattle.osdp_shared_line.proofs.Readers.{IsForAll, IsFrom, ReadsWell, reads_well}
use Rattle.osdp_shared_line.proofs.Sites.{at_changed, changed_from, map_from, some_same}

module _ {H : Type 0} (answer_of : H → Command → Answer) (after : H → Command → H) where
  -- ---- what a controller sends is said to every reader

  module _ (i : ℕ) (said : List Packet) (t : Site H) (n : Net H) (at : site_at i n.sites ≡ Some t)
      (sent : Each (IsSent (address_of t) (unended t)) said) (a : Apart n) where
    abbrev Told : List (Site H)
    Told = map (is_told (tagged i said)) n.sites

    -- no new name
    told_names : (k : ℕ) (u : Site H) → site_at k n.sites ≡ Some u → (b : ℕ) → IsNameOf b k (is_told (tagged i said) u) → IsNameOf b k u
    told_names k u is b (inl here) = inl here
    told_names k u is b (inr (IsThere there)) = inr (IsThere there)
    told_names k u is b (inr (IsAsked asked)) = inr (IsAsked asked)
    told_names k u is b (inr (IsSaid found)) =
        elim (somewhere_split (IsOwnComset k b) u.coming (tagged i said) found) [
          | inl old ↦ inr (IsSaid old)
          | inr new ↦ new_name said sent new
        ]
      where
        new_name : (ps : List Packet) → Each (IsSent (address_of t) (unended t)) ps → Somewhere (IsOwnComset k b) (tagged i ps) → IsNameOf b k u
        new_name [] all found = absurd found
        new_name (p ∷ ps) all (inl (mine, sets)) =
            let here : site_at k n.sites ≡ Some t = subst (λ j. site_at j n.sites ≡ Some t) mine at in
            subst (IsNameOf b k) (some_same t u (sym here ∙ is)) (inr (IsAsked (all.0.1 b sets)))
        new_name (p ∷ ps) all (inr rest) = new_name ps all.1 rest

    -- one of another site goes nowhere near this reader
    told_kept : (k : ℕ) (u : Site H) → site_at k n.sites ≡ Some u → IsKept k (is_told (tagged i said) u)
    told_kept k u is = record {
      device = h.device;
      fits = h.fits;
      devices = each_append IsToDevice u.coming (tagged i said) h.devices (each_tagged IsToDevice i said
          (each_map (IsSent (address_of t) (unended t)) (λ p. p.address < 127) (λ p sends. subst (λ b. b < 127) (sym sends.0) (a.kept i t at).device) said sent));
      away = each_append (IsAway k (reader_address u)) u.coming (tagged i said) h.away (each_tagged (IsAway k (reader_address u)) i said
          (each_map (IsSent (address_of t) (unended t)) (λ p. IsAway k (reader_address u) (i, p))
          (λ p sends other e. a.names i k t u other at is (address_of t) (inl refl) (inr (IsThere (e ∙ sends.0)))) said sent));
      order = elim (eqb_tells i k) [
        | inl equal ↦ ordered_more k u.coming (tagged i said)
            (subst (λ j. Each (λ q. Each (IsAfter k q) (tagged j said)) u.coming) (sym equal.1)
            (each_any (λ q. Each (IsAfter k q) (tagged k said)) (λ q. each_tagged (IsAfter k q) k said
            (each_any (λ p. IsAfter k q (k, p)) (λ p mine other to sets e. other refl) said)) u.coming))
            (subst (λ j. Ordered k (tagged j said)) (sym equal.1) (own_ordered k said)) h.order
        | inr differs ↦ ordered_more k u.coming (tagged i said)
            (each_map (λ q. IsOwnComset k (address_of t) q → ⊥) (λ q. Each (IsAfter k q) (tagged i said))
            (λ q none. each_tagged (IsAfter k q) i said (each_map (IsSent (address_of t) (unended t)) (λ p. IsAfter k q (i, p))
            (λ p sends mine other to sets e. none (mine, subst (λ b. SetsReader b q.1) (sym e ∙ sends.0) sets)) said sent)) u.coming
            (nowhere (IsOwnComset k (address_of t)) u.coming
            (λ found. a.names i k t u differs.1 at is (address_of t) (inl refl) (inr (IsSaid found)))))
            (others_ordered k i said differs.1) h.order
      ];
      stored = h.stored;
    }
      where
        h : IsKept k u
        h = a.kept k u is

    all_told : Apart (record n { sites = Told })
    all_told = record {
      names = λ j k u v other here there b mine its.
          let old = map_from (is_told (tagged i said)) j u n.sites here in
          let far = map_from (is_told (tagged i said)) k v n.sites there in
          a.names j k old.0 far.0 other old.1 far.1 b
          (told_names j old.0 old.1 b (subst (IsNameOf b j) old.2 mine)) (told_names k far.0 far.1 b (subst (IsNameOf b k) far.2 its));
      kept = λ k u is.
          let old = map_from (is_told (tagged i said)) k u n.sites is in
          subst (IsKept k) (sym old.2) (told_kept k old.0 old.1);
      panel = each_map (IsToClosed n.sites) (IsToClosed Told) (λ q closed k u other is here.
          let old = map_from (is_told (tagged i said)) k u n.sites is in
          subst IsClosed (sym old.2) (closed k old.0 other old.1 (sym (ap address_of old.2) ∙ here))) n.to_panel a.panel;
    }

  pub ticking : ReadsWhatIsAsked → (i now : ℕ) (o : Option (Site H)) (n : Net H) → site_at i n.sites ≡ o → Apart n
      → Apart (line.tick_at answer_of after i now o n)
  ticking reads i now None n at a = a
  ticking reads i now (Some s) n at a =
      let t = line.ticks answer_of after now s in
      let h = a.kept i s at in
      let well = ticks_well reads s.controller.session.state (seen now s.controller.session) s.controller.waiting refl h.fits in
      let next : Net H = record n { sites = changed i t n.sites } in
      all_told i (option_to_list (ticks_in s.controller.session.state (seen now s.controller.session) s.controller.waiting).step.frame) t next
      (at_changed i t s n.sites at)
      (each_map (IsSent (address_of s) (unended t)) (IsSent (address_of t) (unended t)) (λ p sends. (sends.0 ∙ sym well.address, sends.1))
      (option_to_list (ticks_in s.controller.session.state (seen now s.controller.session) s.controller.waiting).step.frame) well.sent)
      (quietly i s t n at (record {
        address = well.address;
        left = well.left;
        reader = refl;
        stored = refl;
        closed = λ is. ap (λ q. (ticks_in q (seen now s.controller.session) s.controller.waiting).session.state) is ∙ is;
        coming = Nothing refl;
      }) a)

  -- ---- a reader hears a packet

  -- u is the site with what is left to read
  hearing : (i : ℕ) (p : Packet) (s u : Site H) (n : Net H) → site_at i n.sites ≡ Some s → Quietly s u → p.address < 127
      → ((to : ℕ) → SetsReader to p → MayComeTo to i s × Each (IsAway i to) u.coming) ⊎ (reader_address u ≢ p.address) → Apart n
      → Apart (line.hears_at answer_of after i p u n)
  hearing i p s u n at quiet device sets a = by_address (reader_address u) p.address sets heard unheard
    where
      o : reader.Outcome H
      o = reader.hears answer_of after u.reader p

      l : link.Link H
      l = link.reader_gets answer_of after p (link_of u [] [])

      t : Site H
      t = left_by u l

      before : Apart (record n { sites = changed i u n.sites })
      before = quietly i s u n at quiet a

      unheard : reader_address u ≢ p.address → Apart (line.hears_at answer_of after i p u n)
      unheard other =
          let none = silent answer_of after p (link_of u [] []) device other in
          subst (λ v. Apart (record n { sites = changed i (left_by u v) n.sites; to_panel = n.to_panel ++ tagged i v.to_controller })) (sym none)
          (subst (λ qs. Apart (record n { sites = changed i u n.sites; to_panel = qs })) (sym (append-nil n.to_panel)) before)

      heard : ((to : ℕ) → SetsReader to p → MayComeTo to i s × Each (IsAway i to) u.coming) → reader_address u ≡ p.address
          → Apart (line.hears_at answer_of after i p u n)
      heard goes here = with_panel (record n { sites = changed i t n.sites }) (n.to_panel ++ tagged i l.to_controller)
          (each_append (IsToClosed (changed i t n.sites)) n.to_panel (tagged i l.to_controller) changes.panel
          (each_tagged (IsToClosed (changed i t n.sites)) i l.to_controller (replies o.reply well.said))) changes
        where
          h : IsKept i u
          h = before.kept i u (at_changed i u s n.sites at)

          well : ReadsWell IsForAll (reader_address u) p o
          well = reads_well IsForAll answer_of after u.reader p (sym here) h.stored

          names : NamesGo i s t n.sites
          names b (inl is) = inl (inl (sym quiet.address ∙ is))
          names b (inr (IsThere is)) = elim well.goes [
            | inl stays ↦ inl (inr (IsThere (sym quiet.reader ∙ sym stays ∙ is)))
            | inr went ↦ inl (inr (goes b (subst (λ to. SetsReader to p) is went)).0)
          ]
          names b (inr (IsAsked is)) = inl (inr (IsAsked (subst (Somewhere (Sets b)) (sym quiet.left.1)
              (let rest = somewhere_in quiet.left.0 (unended u) is in rest))))
            where
              somewhere_in : (xs ys : List Command) → Somewhere (Sets b) ys → Somewhere (Sets b) (xs ++ ys)
              somewhere_in [] ys found = found
              somewhere_in (x ∷ xs) ys found = inr (somewhere_in xs ys found)
          names b (inr (IsSaid is)) = inl (inr (IsSaid (fewer (IsOwnComset i b) s.coming u.coming quiet.coming is)))

          kept : IsKept i t
          kept = record {
            device = h.device;
            fits = h.fits;
            devices = h.devices;
            away = elim well.goes [
              | inl stays ↦ subst (λ b. Each (IsAway i b) u.coming) (sym stays) h.away
              | inr went ↦ (goes o.reader.config.address went).1
            ];
            order = h.order;
            stored = well.stored;
          }

          changes : Apart (record n { sites = changed i t n.sites })
          changes = one_changes i s t n at names kept (inr (quiet.address, quiet.closed)) a

          replies : (r : Option Packet) → IfSome r (IsFrom IsForAll (reader_address u))
              → Each (λ q. IsToClosed (changed i t n.sites) (i, q)) (option_to_list r)
          replies None from = tt
          replies (Some q) from = (
            λ k v other is at_it. absurd (elim from [
              | inl here ↦ elim (changed_from k i t s v n.sites at is) [
                | inl mine ↦ other mine.0
                | inr there ↦ a.names k i v s other there.1 at q.address (inl at_it) (inr (IsThere (sym quiet.reader ∙ sym here)))
              ]
              | inr all ↦ let device = (changes.kept k v is).device in omega (arith, device, at_it, all)
            ]),
            tt,
          )

  -- the front: of its own controller, which may send it elsewhere, or of another, which is not for it
  reading : (how : Delivery) (ps : List (ℕ × Packet)) (i : ℕ) (s : Site H) (n : Net H) → s.coming ≡ ps → site_at i n.sites ≡ Some s → Apart n
      → Apart (line.reads_at answer_of after i ps how s n)
  reading how [] i s n is at a = a
  reading how (p ∷ rest) i s n is at a = by_delivery how
    where
      left : Site H
      left = record s { coming = rest }

      read : Quietly s left
      read = record {
        address = refl;
        left = all_left (unended s);
        reader = refl;
        stored = refl;
        closed = λ closed. closed;
        coming = One 0 (ap (link.lost_at 0) (sym is));
      }

      h : IsKept i s
      h = a.kept i s at

      device : p.1.address < 127
      device = (subst (Each IsToDevice) is h.devices).0

      to_here : (cs : List (ℕ × Packet)) → ((to : ℕ) → p.0 ≡ i → SetsReader to p.1 → Each (IsAway i to) cs)
          → ((to : ℕ) → SetsReader to p.1 → MayComeTo to i s × Each (IsAway i to) cs) ⊎ (reader_address s ≢ p.1.address)
      to_here cs clear =
          elim (eqb_tells p.0 i) [
            | inl mine ↦ inl (λ to sets. (IsSaid (subst (Somewhere (IsOwnComset i to)) (sym is) (inl (mine.1, sets))), clear to mine.1 sets))
            | inr other ↦ inr ((subst (Each (IsAway i (reader_address s))) is h.away).0 other.1)
          ]

      clear_rest : (to : ℕ) → p.0 ≡ i → SetsReader to p.1 → Each (IsAway i to) rest
      clear_rest to mine sets =
          each_map (IsAfter i p) (IsAway i to) (λ q after other e. after mine other to sets (sym e)) rest (subst (Ordered i) is h.order).0

      by_delivery : (how : Delivery) → Apart (line.reads_at answer_of after i (p ∷ rest) how s n)
      by_delivery Delivered = hearing i p.1 s left n at read device (to_here rest clear_rest) a
      by_delivery Lost = quietly i s left n at read a
      by_delivery Repeated =
          hearing i p.1 s s n at (same s) device
          (to_here s.coming (λ to mine sets. subst (Each (IsAway i to)) (sym is) ((λ other e. other mine), clear_rest to mine sets))) a

  pub to_reader : (i : ℕ) (how : Delivery) (o : Option (Site H)) (n : Net H) → site_at i n.sites ≡ o → Apart n → Apart (line.to_reader answer_of after i how o n)
  to_reader i how None n at a = a
  to_reader i how (Some s) n at a = reading how s.coming i s n refl at a

-- ---- the panel reads

module _ {H : Type 0} where
  -- nobody is at the packet's address, or the first who is gets it
  pub gets_one : (p : Packet) (now : ℕ) (ss : List (Site H)) → (first_gets p now ss ≡ ss)
      ⊎ ((i : ℕ) × (s : Site H) × (site_at i ss ≡ Some s) × (first_gets p now ss ≡ changed i (gets p now s) ss))
  gets_one p now [] = inl refl
  gets_one p now (s ∷ ss) = by_test (address_of s == p.address) (gets_one p now ss)
    where
      by_test : (here : Bool) → (first_gets p now ss ≡ ss)
          ⊎ ((i : ℕ) × (t : Site H) × (site_at i ss ≡ Some t) × (first_gets p now ss ≡ changed i (gets p now t) ss))
          → (cond here (gets p now s ∷ ss) (s ∷ first_gets p now ss) ≡ s ∷ ss)
          ⊎ ((i : ℕ) × (t : Site H) × (site_at i (s ∷ ss) ≡ Some t)
          × (cond here (gets p now s ∷ ss) (s ∷ first_gets p now ss) ≡ changed i (gets p now t) (s ∷ ss)))
      by_test true rest = inr (0, s, refl, refl)
      by_test false (inl none) = inl (ap (λ l. s ∷ l) none)
      by_test false (inr (i, t, at, is)) = inr (suc i, t, at, ap (λ l. s ∷ l) is)

  -- so each site was there before
  pub was_there : (p : Packet) (now k : ℕ) (t : Site H) (ss : List (Site H)) → site_at k (first_gets p now ss) ≡ Some t
      → (s : Site H) × (site_at k ss ≡ Some s)
  was_there p now k t ss is = elim (gets_one p now ss) [
    | inl none ↦ (t, subst (λ us. site_at k us ≡ Some t) none is)
    | inr (i, u, at, one) ↦ elim (changed_from k i (gets p now u) u t ss at (subst (λ us. site_at k us ≡ Some t) one is)) [
      | inl here ↦ (u, subst (λ j. site_at j ss ≡ Some u) (sym here.0) at)
      | inr there ↦ (t, there.1)
    ]
  ]

  getting : (p : Packet) (now : ℕ) (n : Net H) → Apart n → Apart (record n { sites = first_gets p now n.sites })
  getting p now n a =
      elim (gets_one p now n.sites) [
        | inl none ↦ subst (λ ss. Apart (record n { sites = ss })) (sym none) a
        | inr (i, s, at, is) ↦ subst (λ ss. Apart (record n { sites = ss })) (sym is) (gets_at i s at)
      ]
    where
      gets_at : (i : ℕ) (s : Site H) → site_at i n.sites ≡ Some s → Apart (record n { sites = changed i (gets p now s) n.sites })
      gets_at i s at = one_changes i s t n at names kept stays a
        where
          t : Site H
          t = gets p now s

          heard : controller.Heard
          heard = controller.hears p now s.controller.session

          well : AreLeft (option_to_list (outstanding_command s.controller.session.state)) (option_to_list (outstanding_command heard.session.state))
          well = (hears_well p now s.controller.session).left

          left : unended s ≡ well.0 ++ unended t
          left = ap (λ cs. cs ++ s.controller.waiting) well.1 ∙ append_assoc well.0 (option_to_list (outstanding_command heard.session.state)) s.controller.waiting

          h : IsKept i s
          h = a.kept i s at

          somewhere_in : (P : Command → Type 0) (xs ys : List Command) → Somewhere P ys → Somewhere P (xs ++ ys)
          somewhere_in P [] ys found = found
          somewhere_in P (x ∷ xs) ys found = inr (somewhere_in P xs ys found)

          names : NamesGo i s t n.sites
          names b (inl is) = elim (hears_well p now s.controller.session).goes [
            | inl still ↦ inl (inl (sym still ∙ is))
            | inr went ↦ inl (inr (IsAsked (somewhere_front (Sets b) (option_to_list (outstanding_command s.controller.session.state)) s.controller.waiting
                (subst (λ to. Somewhere (Sets to) (option_to_list (outstanding_command s.controller.session.state))) is went.2))))
          ]
          names b (inr (IsThere is)) = inl (inr (IsThere is))
          names b (inr (IsSaid is)) = inl (inr (IsSaid is))
          names b (inr (IsAsked is)) = inl (inr (IsAsked (subst (Somewhere (Sets b)) (sym left) (somewhere_in (Sets b) well.0 (unended t) is))))

          kept : IsKept i t
          kept = record {
            device = elim (hears_well p now s.controller.session).goes [
              | inl still ↦ subst (λ b. b < 127) (sym still) h.device
              | inr went ↦ went.1
            ];
            fits = each_rest CommandFits well.0 (unended t) (subst (Each CommandFits) left h.fits);
            devices = h.devices;
            away = h.away;
            order = h.order;
            stored = h.stored;
          }

          stays : IsClosed t ⊎ ((address_of t ≡ address_of s) × (IsClosed s → IsClosed t))
          stays = elim (hears_well p now s.controller.session).goes [
            | inl still ↦ inr (still, λ closed. ap (λ (g : controller.Heard). g.session.state) (closed_hears p now s.controller.session closed) ∙ closed)
            | inr went ↦ inl went.0
          ]

  pub to_panel : (qs : List (ℕ × Packet)) (how : Delivery) (now : ℕ) (n : Net H) → n.to_panel ≡ qs → Apart n → Apart (line.to_panel qs how now n)
  to_panel [] how now n is a = a
  to_panel (q ∷ rest) Delivered now n is a =
      let got = getting q.1 now n a in
      with_panel (record n { sites = first_gets q.1 now n.sites }) rest (subst (Each (IsToClosed (first_gets q.1 now n.sites))) is got.panel).1 got
  to_panel (q ∷ rest) Lost now n is a = with_panel n rest (subst (Each (IsToClosed n.sites)) is a.panel).1 a
  to_panel (q ∷ rest) Repeated now n is a = getting q.1 now n a
