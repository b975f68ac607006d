-- What a move of a schedule is to a site: each site was there before, and what is kept for its COMSET is what the moves of its link make of it.
use Rattle.osdp_bus_links.proofs.Common.{◌≡◌, ◌≢◌, ℕ, Bool, true, false, cond, eqb, List, [], ◌∷◌, Option, Some, None, refl, sym, subst, ap, ◌∙◌, inl, inr, eqb_tells, is_some, Packet, Command, Communication, Heard, comset_of, hears, seen, ControllerFault, Report, Closed, Answer, Delivered, Delivery, Lost, Move, Repeated, told_by_front, both, each_append, each_of, Each, Net, NetMove, Queue, Reopen, SetBusy, Site, Submit, Tick, ToPanel, ToReader, address_of, after_net, changed, first_gets, gets, is_comset_refused, is_told, link_of, site_at, tagged, HeardByOwn, front_to_panel, move_of, one_if, own, own_front, view, or_false, was_there, closed_hears, first_other, first_own, changed_from, map_from, own_first, some_same, IsScheduled}
use Rattle.osdp_msg.specs.declared.command.Command.TheVariants as command
use Rattle.osdp_controller.specs.Machine as controllers
use Rattle.osdp_controller.specs.declared.report.Report.TheVariants as report
use Rattle.osdp_link_laws.specs.Link as link
use Rattle.osdp_shared_line.specs.Line as line
use Rattle.osdp_shared_line.specs.Runs.{moves_at, moves_of}
use Rattle.osdp_shared_line.specs.Views as views
use Rattle.osdp_bus_links.proofs.Names.{IsUsual, MayAsk, MayMove, MayMoves, accepted_for, asked_for, freed_by, freed_for, reserved_after, reserved_after_moves}
use Rattle.osdp_bus_links.proofs.Reserved.{tick_frees_none}

-- ---- the address that is kept, as the line has it

asked_alike : (o : Option Communication) (r : Option ℕ) → line.asked_for o r ≡ asked_for o r
asked_alike None r = refl
asked_alike (Some d) r = refl

done_alike : (c : Command) (r : Option ℕ) → line.freed_for c r ≡ freed_for (comset_of c) r
done_alike (command.Comset d) r = refl
done_alike _ r = refl

freed_alike : (o : Option Report) (r : Option ℕ) → line.freed_by o r ≡ freed_by o r
freed_alike None r = refl
freed_alike (Some (report.Settled c a)) r = done_alike c r
freed_alike (Some (report.Moved c d)) r = done_alike c r
freed_alike (Some _) r = refl

accepted_alike : (fault : Option ControllerFault) (c : Command) (r : Option ℕ)
    → line.reserved_unless fault (line.asked_for (comset_of c) r) r ≡ accepted_for fault c r
accepted_alike None c r = asked_alike (comset_of c) r
accepted_alike (Some fault) c r = refl

none_of : (r : Option ℕ) → is_some r ≡ false → r ≡ None
none_of None is = refl
none_of (Some address) is = absurd cc

module _ {H : Type 0} (answer_of : H → Command → Answer) (after : H → Command → H) where
  -- ---- the moves of its link

  abbrev pub Fit : ℕ → Site H → Net H → List (Move H) → Type 0
  Fit k s n ms = MayMoves answer_of after ms (view k s n) s.reserved × Each IsUsual ms

  one_may : (i k : ℕ) (s : Site H) (n : Net H) (m : Move H) → MayMove m s.reserved → IsUsual m → Fit k s n (one_if i k m)
  one_may i k s n m may usual = both (Fit k s n) (eqb i k) (m ∷ []) [] ((may, tt), (usual, tt)) (tt, tt)

  may_ask : (o : Option Communication) (i : ℕ) (s : Site H) (ss : List (Site H)) → is_comset_refused i o s ss ≡ false → MayAsk o s.reserved
  may_ask None i s ss free = tt
  may_ask (Some d) i s ss free = none_of s.reserved (or_false (line.is_taken_beside i d.address ss) (is_some s.reserved) free).1

  reading_may : (ps : List (ℕ × Packet)) (how : Delivery) (k : ℕ) (s : Site H) (n : Net H) → Fit k s n (own_front k ps how)
  reading_may [] how k s n = (tt, tt)
  reading_may (p ∷ ps) how k s n = one_may p.0 k s n (link.ToReader how) tt tt

  panel_may : (qs : List (ℕ × Packet)) (how : Delivery) (now k : ℕ) (s : Site H) (n : Net H) → Fit k s n (front_to_panel k (address_of s) qs how now)
  panel_may [] how now k s n = (tt, tt)
  panel_may (q ∷ qs) how now k s n =
      both (Fit k s n) (eqb q.0 k) (views.own_reply (address_of s) q.1 how now) (views.other_reply (address_of s) q.1 how now)
      (both (Fit k s n) (eqb (address_of s) q.1.address) (link.ToController how now ∷ []) (views.lost how now) ((tt, tt), (tt, tt)) (lost_may how))
      (both (Fit k s n) (eqb (address_of s) q.1.address) (views.sees how now) [] (sees_may how) (tt, tt))
    where
      lost_may : (how : Delivery) → Fit k s n (views.lost how now)
      lost_may Delivered = ((tt, tt), (tt, tt))
      lost_may Lost = ((tt, tt), (tt, tt))
      lost_may Repeated = (tt, tt)

      sees_may : (how : Delivery) → Fit k s n (views.sees how now)
      sees_may Delivered = ((tt, tt), (tt, tt))
      sees_may Lost = (tt, tt)
      sees_may Repeated = ((tt, tt), (tt, tt))

  pub moves_may : (move : NetMove H) (k : ℕ) (s : Site H) (n : Net H) → IsScheduled move → Fit k s n (move_of k s move n)
  moves_may (Submit i c) k s n scheduled = by_test (is_comset_refused i (comset_of c) s n.sites) refl
    where
      by_test : (refused : Bool) → is_comset_refused i (comset_of c) s n.sites ≡ refused → Fit k s n (cond refused [] (one_if i k (link.Submit c)))
      by_test true test = (tt, tt)
      by_test false test = one_may i k s n (link.Submit c) (may_ask (comset_of c) i s n.sites test) tt
  moves_may (Queue i e) k s n scheduled = one_may i k s n (link.Queue e) tt tt
  moves_may (SetBusy i busy) k s n scheduled = one_may i k s n (link.SetBusy busy) tt tt
  moves_may (Tick i now) k s n scheduled = one_may i k s n (link.Tick now) tt tt
  moves_may (ToReader i how) k s n scheduled =
      both (Fit k s n) (eqb i k) (own_front k s.coming how) [] (reading_may s.coming how k s n) (tt, tt)
  moves_may (ToPanel how now) k s n scheduled = panel_may n.to_panel how now k s n
  moves_may (Reopen i now) k s n scheduled = one_may i k s n (link.Reopen now) tt tt
  moves_may _ k s n scheduled = absurd scheduled

  -- ---- the site before, and what is kept for it

  pub record Before (k : ℕ) (t : Site H) (n : Net H) (ms : Site H → List (Move H)) : Type 0 where
    pub site : Site H
    pub there : site_at k n.sites ≡ Some site
    pub reserved : t.reserved ≡ reserved_after_moves answer_of after (ms site) (view k site n) site.reserved

  -- it changes nothing that is kept, by itself
  abbrev Frees : Move H → ℕ → Net H → Type 0
  Frees m k n = (s : Site H) → reserved_after m (view k s n) s.reserved ≡ s.reserved

  one_frees : (i k : ℕ) (s t : Site H) (n : Net H) (m : Move H) → Frees m k n → t.reserved ≡ s.reserved
      → t.reserved ≡ reserved_after_moves answer_of after (one_if i k m) (view k s n) s.reserved
  one_frees i k s t n m frees is =
      both (λ ms. t.reserved ≡ reserved_after_moves answer_of after ms (view k s n) s.reserved) (eqb i k) (m ∷ []) [] (is ∙ sym (frees s)) is

  -- the site was there, and keeps what it kept
  abbrev Kept : ℕ → Site H → List (Site H) → Type 0
  Kept k t ss = (s : Site H) × (site_at k ss ≡ Some s) × (t.reserved ≡ s.reserved)

  kept_one : (i k : ℕ) (old new t : Site H) (ss : List (Site H)) → site_at i ss ≡ Some old → new.reserved ≡ old.reserved
      → site_at k (changed i new ss) ≡ Some t → Kept k t ss
  kept_one i k old new t ss at same is =
      elim (changed_from k i new old t ss at is) [
        | inl here ↦ (old, subst (λ j. site_at j ss ≡ Some old) (sym here.0) at, ap (λ (u : Site H). u.reserved) here.1 ∙ same)
        | inr there ↦ (t, there.1, refl)
      ]

  kept_change : (i k : ℕ) (o : Option (Site H)) (change : Site H → Site H) (t : Site H) (n : Net H) → site_at i n.sites ≡ o
      → ((s : Site H) → (change s).reserved ≡ s.reserved) → site_at k (line.change_at i o change n).sites ≡ Some t → Kept k t n.sites
  kept_change i k None change t n at same is = (t, is, refl)
  kept_change i k (Some s) change t n at same is = kept_one i k s (change s) t n.sites at (same s) is

  kept_tick : (i k now : ℕ) (o : Option (Site H)) (t : Site H) (n : Net H) → site_at i n.sites ≡ o
      → site_at k (line.tick_at answer_of after i now o n).sites ≡ Some t → Kept k t n.sites
  kept_tick i k now None t n at is = (t, is, refl)
  kept_tick i k now (Some s) t n at is =
      let said = tagged i (link.after_move answer_of after (link.Tick now) (link_of s [] [])).to_reader in
      let u = line.ticks answer_of after now s in
      let from = map_from (is_told said) k t (changed i u n.sites) is in
      let kept = kept_one i k s u from.0 n.sites at refl from.1 in
      (kept.0, kept.1, ap (λ (v : Site H). v.reserved) from.2 ∙ kept.2)

  kept_read : (i k : ℕ) (how : Delivery) (ps : List (ℕ × Packet)) (s t : Site H) (n : Net H) → site_at i n.sites ≡ Some s
      → site_at k (line.reads_at answer_of after i ps how s n).sites ≡ Some t → Kept k t n.sites
  kept_read i k how [] s t n at is = (t, is, refl)
  kept_read i k Delivered (p ∷ rest) s t n at is =
      let read = record s { coming = rest } in
      kept_one i k s (line.left_by read (link.reader_gets answer_of after p.1 (link_of read [] []))) t n.sites at refl is
  kept_read i k Lost (p ∷ rest) s t n at is = kept_one i k s (record s { coming = rest }) t n.sites at refl is
  kept_read i k Repeated (p ∷ rest) s t n at is =
      kept_one i k s (line.left_by s (link.reader_gets answer_of after p.1 (link_of s [] []))) t n.sites at refl is

  kept_reading : (i k : ℕ) (how : Delivery) (o : Option (Site H)) (t : Site H) (n : Net H) → site_at i n.sites ≡ o
      → site_at k (line.to_reader answer_of after i how o n).sites ≡ Some t → Kept k t n.sites
  kept_reading i k how None t n at is = (t, is, refl)
  kept_reading i k how (Some s) t n at is = kept_read i k how s.coming s t n at is

  -- a reader that reads changes nothing that is kept
  reading_frees : (i k : ℕ) (how : Delivery) (s t : Site H) (n : Net H) → t.reserved ≡ s.reserved
      → t.reserved ≡ reserved_after_moves answer_of after (cond (eqb i k) (own_front k s.coming how) []) (view k s n) s.reserved
  reading_frees i k how s t n is =
      both (λ ms. t.reserved ≡ reserved_after_moves answer_of after ms (view k s n) s.reserved) (eqb i k) (own_front k s.coming how) [] (front s.coming) is
    where
      front : (ps : List (ℕ × Packet)) → t.reserved ≡ reserved_after_moves answer_of after (own_front k ps how) (view k s n) s.reserved
      front [] = is
      front (p ∷ ps) = one_frees p.0 k s t n (link.ToReader how) (λ u. refl) is

  -- ---- a command

  none_if : (b : Bool) (i k : ℕ) (m : Move H) → eqb i k ≡ false → cond b [] (one_if i k m) ≡ []
  none_if true i k m away = refl
  none_if false i k m away = ap (λ mine. cond mine (m ∷ []) []) away

  some_if : (i k : ℕ) (m : Move H) → eqb i k ≡ true → one_if i k m ≡ m ∷ []
  some_if i k m same = ap (λ mine. cond mine (m ∷ []) []) same

  submitting : (i k : ℕ) (c : Command) (o : Option (Site H)) (t : Site H) (n : Net H) → site_at i n.sites ≡ o
      → site_at k (line.change_unless (λ s. is_comset_refused i (comset_of c) s n.sites) i o (line.submits answer_of after c) n).sites ≡ Some t
      → Before k t n (λ s. move_of k s (Submit i c) n)
  submitting i k c o t n at is = elim (eqb_tells i k) [
    | inl equal ↦ mine o equal.0 equal.1 at is
    | inr differs ↦ others o differs.0 differs.1 at is
  ]
    where
      refuses : Site H → Bool
      refuses s = is_comset_refused i (comset_of c) s n.sites

      none : (s : Site H) → eqb i k ≡ false → move_of k s (Submit i c) n ≡ []
      none s away = none_if (refuses s) i k (link.Submit c) away

      stays : (s : Site H) → site_at k n.sites ≡ Some s → t ≡ s → move_of k s (Submit i c) n ≡ []
          → Before k t n (λ s. move_of k s (Submit i c) n)
      stays s there same nothing = record {
        site = s;
        there = there;
        reserved = ap (λ (u : Site H). u.reserved) same
            ∙ sym (ap (λ ms. reserved_after_moves answer_of after ms (view k s n) s.reserved) nothing);
      }

      others : (o : Option (Site H)) → eqb i k ≡ false → i ≢ k → site_at i n.sites ≡ o
          → site_at k (line.change_unless refuses i o (line.submits answer_of after c) n).sites ≡ Some t → Before k t n (λ s. move_of k s (Submit i c) n)
      others None away other at is = stays t is refl (none t away)
      others (Some u) away other at is = by_test (refuses u) is
        where
          by_test : (b : Bool) → site_at k (cond b n (record n { sites = changed i (line.submits answer_of after c u) n.sites })).sites ≡ Some t
              → Before k t n (λ s. move_of k s (Submit i c) n)
          by_test true is = stays t is refl (none t away)
          by_test false is = elim (changed_from k i (line.submits answer_of after c u) u t n.sites at is) [
            | inl here ↦ absurd (other (sym here.0))
            | inr there ↦ stays t there.1 refl (none t away)
          ]

      mine : (o : Option (Site H)) → eqb i k ≡ true → i ≡ k → site_at i n.sites ≡ o
          → site_at k (line.change_unless refuses i o (line.submits answer_of after c) n).sites ≡ Some t → Before k t n (λ s. move_of k s (Submit i c) n)
      mine None same equal at is = absurd (let nobody = sym (subst (λ j. site_at j n.sites ≡ None) equal at) ∙ is in cc)
      mine (Some u) same equal at is = by_test (refuses u) refl is
        where
          here : site_at k n.sites ≡ Some u
          here = subst (λ j. site_at j n.sites ≡ Some u) equal at

          by_test : (b : Bool) → refuses u ≡ b
              → site_at k (cond b n (record n { sites = changed i (line.submits answer_of after c u) n.sites })).sites ≡ Some t
              → Before k t n (λ s. move_of k s (Submit i c) n)
          by_test true test is =
              stays u here (some_same t u (sym is ∙ here)) (ap (λ b. cond b [] (one_if i k (link.Submit c))) test)
          by_test false test is = elim (changed_from k i (line.submits answer_of after c u) u t n.sites at is) [
            | inl there ↦ record {
              site = u;
              there = here;
              reserved = ap (λ (v : Site H). v.reserved) there.1
                  ∙ accepted_alike (controllers.submit_refusal c u.controller) c u.reserved
                  ∙ sym (ap (λ ms. reserved_after_moves answer_of after ms (view k u n) u.reserved)
                  (ap (λ b. cond b [] (one_if i k (link.Submit c))) test ∙ some_if i k (link.Submit c) same));
            }
            | inr there ↦ absurd (there.0 (sym equal))
          ]

  -- ---- the panel reads

  module _ (n : Net H) (heard : HeardByOwn n) (q : ℕ × Packet) (rest : List (ℕ × Packet)) (front : n.to_panel ≡ q ∷ rest) (now : ℕ) where
    -- where it is read, and comes to a controller or to none
    got : (k : ℕ) (s t : Site H) → site_at k n.sites ≡ Some s → address_of s ≡ q.1.address → site_at k (first_gets q.1 now n.sites) ≡ Some t
        → t.reserved ≡ freed_by (hears q.1 now s.controller.session).report s.reserved
    got k s t at here is =
        let others : (j : ℕ) (u : Site H) → j ≢ k → site_at j n.sites ≡ Some u → address_of u ≢ q.1.address =
        λ j u other there e. heard.addresses j k u s other there at (e ∙ sym here) in
        ap (λ (v : Site H). v.reserved) (some_same t (gets q.1 now s) (sym is ∙ first_own q.1 now k s n.sites at here others))
        ∙ freed_alike (hears q.1 now s.controller.session).report s.reserved

    passed : (k : ℕ) (s t : Site H) → site_at k n.sites ≡ Some s → address_of s ≢ q.1.address → site_at k (first_gets q.1 now n.sites) ≡ Some t
        → t.reserved ≡ s.reserved
    passed k s t at other is = ap (λ (v : Site H). v.reserved) (some_same t s (sym is ∙ first_other q.1 now k s n.sites at other))

    -- .. as its link's moves have it, however it comes
    abbrev Comes : Delivery → ℕ → Site H → Site H → Type 0
    Comes how k s t = t.reserved ≡ reserved_after_moves answer_of after (front_to_panel k (address_of s) (q ∷ rest) how now) (view k s n) s.reserved

    lost_frees : (how : Delivery) (k : ℕ) (s t : Site H) → t.reserved ≡ s.reserved
        → t.reserved ≡ reserved_after_moves answer_of after (views.lost how now) (view k s n) s.reserved
    lost_frees Delivered k s t is = is
    lost_frees Lost k s t is = is
    lost_frees Repeated k s t is = is

    sees_frees : (how : Delivery) (k : ℕ) (s t : Site H) → t.reserved ≡ s.reserved
        → t.reserved ≡ reserved_after_moves answer_of after (views.sees how now) (view k s n) s.reserved
    sees_frees Delivered k s t is = is ∙ sym (tick_frees_none s.reserved s.controller.session.state (seen now s.controller.session) s.controller.waiting)
    sees_frees Lost k s t is = is
    sees_frees Repeated k s t is = is ∙ sym (tick_frees_none s.reserved s.controller.session.state (seen now s.controller.session) s.controller.waiting)

    -- a report of what was in front
    told_front : (how : Delivery) (k : ℕ) (s t : Site H) → q.0 ≡ k → how ≢ Lost
        → t.reserved ≡ freed_by (hears q.1 now s.controller.session).report s.reserved
        → t.reserved ≡ reserved_after_moves answer_of after (link.ToController how now ∷ []) (view k s n) s.reserved
    told_front how k s t mine through is =
        subst (λ ps. t.reserved ≡ freed_by (told_by_front how ps now s.controller.session) s.reserved)
        (sym (ap (own k) front ∙ own_first k q rest mine)) (by_delivery how through)
      where
        by_delivery : (how : Delivery) → how ≢ Lost
            → t.reserved ≡ freed_by (told_by_front how (q.1 ∷ own k rest) now s.controller.session) s.reserved
        by_delivery Delivered through = is
        by_delivery Lost through = absurd (through refl)
        by_delivery Repeated through = is

    came : (how : Delivery) (k : ℕ) (s t : Site H) → how ≢ Lost → site_at k n.sites ≡ Some s → site_at k (first_gets q.1 now n.sites) ≡ Some t
        → Comes how k s t
    came how k s t through at is = elim (eqb_tells q.0 k) [
      | inl equal ↦ subst (Reserves (view k s n) t s) (sym (ap (λ b. cond b mine others) equal.0)) (own_reply equal.1)
      | inr differs ↦ subst (Reserves (view k s n) t s) (sym (ap (λ b. cond b mine others) differs.0)) (other_reply differs.1)
    ]
      where
        Reserves : link.Link H → Site H → Site H → List (Move H) → Type 0
        Reserves l t s ms = t.reserved ≡ reserved_after_moves answer_of after ms l s.reserved

        mine : List (Move H)
        mine = views.own_reply (address_of s) q.1 how now

        others : List (Move H)
        others = views.other_reply (address_of s) q.1 how now

        own_reply : q.0 ≡ k → Reserves (view k s n) t s mine
        own_reply is_mine = elim (eqb_tells (address_of s) q.1.address) [
          | inl here ↦ subst (Reserves (view k s n) t s) (sym (ap (λ b. cond b (link.ToController how now ∷ []) (views.lost how now)) here.0))
              (told_front how k s t is_mine through (got k s t at here.1 is))
          | inr away ↦ subst (Reserves (view k s n) t s) (sym (ap (λ b. cond b (link.ToController how now ∷ []) (views.lost how now)) away.0))
              (lost_frees how k s t (passed k s t at away.1 is))
        ]

        other_reply : q.0 ≢ k → Reserves (view k s n) t s others
        other_reply other = elim (eqb_tells (address_of s) q.1.address) [
          | inl here ↦
              let all = each_of (λ (p : ℕ × Packet). (j : ℕ) (u : Site H) → j ≢ p.0 → site_at j n.sites ≡ Some u → address_of u ≡ p.1.address
              → u.controller.session.state ≡ Closed) n.to_panel heard.controllers in
              let closed = (subst (Each (λ (p : ℕ × Packet). (j : ℕ) (u : Site H) → j ≢ p.0 → site_at j n.sites ≡ Some u → address_of u ≡ p.1.address
              → u.controller.session.state ≡ Closed)) front all).0 k s (λ e. other (sym e)) at here.1 in
              subst (Reserves (view k s n) t s) (sym (ap (λ b. cond b (views.sees how now) []) here.0))
              (sees_frees how k s t (got k s t at here.1 is
              ∙ ap (λ (h : Heard). freed_by h.report s.reserved) (closed_hears q.1 now s.controller.session closed)))
          | inr away ↦ subst (Reserves (view k s n) t s) (sym (ap (λ b. cond b (views.sees how now) []) away.0)) (passed k s t at away.1 is)
        ]

    comes : (how : Delivery) (k : ℕ) (t : Site H) → site_at k (line.to_panel (q ∷ rest) how now n).sites ≡ Some t
        → (s : Site H) × (site_at k n.sites ≡ Some s) × Comes how k s t
    comes Delivered k t is = let old = was_there q.1 now k t n.sites is in (old.0, old.1, came Delivered k old.0 t (λ e. cc) old.1 is)
    comes Repeated k t is = let old = was_there q.1 now k t n.sites is in (old.0, old.1, came Repeated k old.0 t (λ e. cc) old.1 is)
    comes Lost k t is = (
      t,
      is,
      both (Reserves t) (eqb q.0 k) (views.own_reply (address_of t) q.1 Lost now) (views.other_reply (address_of t) q.1 Lost now)
          (both (Reserves t) (eqb (address_of t) q.1.address) (link.ToController Lost now ∷ []) (views.lost Lost now) refl refl)
          (both (Reserves t) (eqb (address_of t) q.1.address) (views.sees Lost now) [] refl refl),
    )
      where
        Reserves : Site H → List (Move H) → Type 0
        Reserves t ms = t.reserved ≡ reserved_after_moves answer_of after ms (view k t n) t.reserved

  reading_panel : (qs : List (ℕ × Packet)) (how : Delivery) (now k : ℕ) (t : Site H) (n : Net H) → HeardByOwn n → n.to_panel ≡ qs
      → site_at k (line.to_panel qs how now n).sites ≡ Some t → Before k t n (λ s. front_to_panel k (address_of s) qs how now)
  reading_panel [] how now k t n heard front is = record { site = t; there = is; reserved = refl }
  reading_panel (q ∷ rest) how now k t n heard front is =
      let c = comes n heard q rest front now how k t is in record { site = c.0; there = c.1; reserved = c.2 }

  -- ---- a move

  kept_so : (k : ℕ) (t : Site H) (n : Net H) (i : ℕ) (m : Move H) → Frees m k n → Kept k t n.sites → Before k t n (λ s. one_if i k m)
  kept_so k t n i m frees kept = record { site = kept.0; there = kept.1; reserved = one_frees i k kept.0 t n m frees kept.2 }

  pub before : (move : NetMove H) (k : ℕ) (t : Site H) (n : Net H) → IsScheduled move → HeardByOwn n
      → site_at k (after_net answer_of after move n).sites ≡ Some t → Before k t n (λ s. move_of k s move n)
  before (Submit i c) k t n scheduled heard is = submitting i k c (site_at i n.sites) t n refl is
  before (Queue i e) k t n scheduled heard is =
      kept_so k t n i (link.Queue e) (λ s. refl) (kept_change i k (site_at i n.sites) (line.calls answer_of after (link.Queue e)) t n refl (λ s. refl) is)
  before (SetBusy i busy) k t n scheduled heard is =
      kept_so k t n i (link.SetBusy busy) (λ s. refl) (kept_change i k (site_at i n.sites) (line.calls answer_of after (link.SetBusy busy)) t n refl (λ s. refl) is)
  before (Tick i now) k t n scheduled heard is =
      kept_so k t n i (link.Tick now)
      (λ s. tick_frees_none s.reserved s.controller.session.state (seen now s.controller.session) s.controller.waiting)
      (kept_tick i k now (site_at i n.sites) t n refl is)
  before (ToReader i how) k t n scheduled heard is =
      let kept = kept_reading i k how (site_at i n.sites) t n refl is in
      record { site = kept.0; there = kept.1; reserved = reading_frees i k how kept.0 t n kept.2 }
  before (ToPanel how now) k t n scheduled heard is = reading_panel n.to_panel how now k t n heard refl is
  before (Reopen i now) k t n scheduled heard is =
      kept_so k t n i (link.Reopen now) (λ s. refl) (kept_change i k (site_at i n.sites) (line.calls answer_of after (link.Reopen now)) t n refl (λ s. refl) is)
  before _ k t n scheduled heard is = absurd scheduled

  -- ---- of a list of moves

  pub moves_usual : (moves : List (NetMove H)) (k : ℕ) (n : Net H) → Each IsScheduled moves → Each IsUsual (moves_of answer_of after k moves n)
  moves_usual [] k n scheduled = tt
  moves_usual (move ∷ moves) k n scheduled =
      let next = after_net answer_of after move n in
      each_append IsUsual (moves_at answer_of after k (site_at k n.sites) move n) (moves_of answer_of after k moves next) (by_site (site_at k n.sites))
      (moves_usual moves k next scheduled.1)
    where
      by_site : (o : Option (Site H)) → Each IsUsual (moves_at answer_of after k o move n)
      by_site None = tt
      by_site (Some s) = (moves_may move k s n scheduled.0).1
