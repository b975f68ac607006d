-- Each move of all is a move of one site's link, or none, where nobody else hears what is in front.
use Rattle.std.proofs.Common.{◌≡◌, ◌≢◌, ◌<◌, ◌+◌, ℕ, zero, suc, Bool, true, false, cond, ◌==◌, List, [], ◌∷◌, ◌++◌, Option, Some, None, refl, sym, subst, ap, ◌∙◌, inl, inr, arith}
use Rattle.osdp_shared_line.proofs.Common.{eqb_tells, append-nil, option_map, option_to_list, Room, Packet, Command, Event, comset_of, seen, ticks_in, ControllerConfig, ControllerFault, Closed, Answer, lacks_room, Delivered, Delivery, Link, Lost, Move, Repeated, after_move, lost_at, each_map, each_of, is_false, is_true, Each, LoseToPanel, LoseToReader, Net, Queue, Reopen, RestartPanel, RestartReader, Retarget, SetBusy, SetHandler, Site, Submit, Tick, ToPanel, ToReader, Withdraw, LapseEvent, WithdrawEvent, address_of, after_net, calls, changed, gets, is_comset_refused, is_retarget_refused, is_told, link_of, left_by, restarts, site_at, tagged, EachMoveIsItsOwn, IsMoved, IsQuiet, front_to_panel, move_of, one_if, own, own_front, own_place, view}
use Rattle.osdp_controller.specs.Hearing as controller
use Rattle.osdp_controller.specs.Machine as controllers
use Rattle.osdp_link_laws.specs.Link as link
use Rattle.osdp_shared_line.specs.Line as line
use Rattle.osdp_shared_line.specs.Views as views
use Rattle.osdp_shared_line.proofs.Hearing.{closed_hears, first_other, first_own, silent}
use Rattle.osdp_shared_line.proofs.Sites.{at_changed, at_map, at_other, lost_own, own_append, own_first, own_lost, own_mine, own_none, own_others, own_rest, some_same}

module _ {H : Type 0} where
  pub one_is : (i k : ℕ) (m : Move H) → i ≡ k → one_if i k m ≡ m ∷ []
  one_is i k m is = ap (λ b. cond b (m ∷ []) []) (is_true i k is)

  pub one_not : (i k : ℕ) (m : Move H) → i ≢ k → one_if i k m ≡ []
  one_not i k m other = ap (λ b. cond b (m ∷ []) []) (is_false i k other)

module _ {H : Type 0} (answer_of : H → Command → Answer) (after : H → Command → H) where
  abbrev Moves : ℕ → Site H → List (Move H) → Net H → Net H → Type 0
  Moves k s ms n next = IsMoved answer_of after k s ms n next

  -- the site that is there now, and its link after these moves
  becomes : (k : ℕ) (s t : Site H) (ms ns : List (Move H)) (n next : Net H) → ms ≡ ns → site_at k next.sites ≡ Some t
      → view k t next ≡ link.run answer_of after ns (view k s n) → Moves k s ms n next
  becomes k s t ms ns n next same is moved = record {
    site = t;
    there = is;
    moved = moved ∙ sym (ap (λ l. link.run answer_of after l (view k s n)) same);
  }

  -- ---- a site changes, and nothing on the line

  changes : (i k : ℕ) (s : Site H) (m : Move H) (refused : Site H → Bool) (change : Site H → Site H) (n : Net H) (none : Bool) → (i ≡ k → none ≡ refused s)
      → site_at k n.sites ≡ Some s → view k (change s) n ≡ after_move answer_of after m (view k s n)
      → Moves k s (cond none [] (one_if i k m)) n (line.change_unless refused i (site_at i n.sites) change n)
  changes i k s m refused change n none agrees is same =
      elim (eqb_tells i k) [
        | inl equal ↦ here equal.1
        | inr differs ↦ elsewhere (site_at i n.sites) differs.1
      ]
    where
      by_test : (b : Bool) → Moves k s (cond b [] (one_if k k m)) n (cond b n (record n { sites = changed k (change s) n.sites }))
      by_test true = becomes k s s [] [] n n refl is refl
      by_test false =
          becomes k s (change s) (one_if k k m) (m ∷ []) n (record n { sites = changed k (change s) n.sites }) (one_is k k m refl)
          (at_changed k (change s) s n.sites is) same

      here : i ≡ k → Moves k s (cond none [] (one_if i k m)) n (line.change_unless refused i (site_at i n.sites) change n)
      here equal =
          subst (λ b. Moves k s (cond b [] (one_if i k m)) n (line.change_unless refused i (site_at i n.sites) change n)) (sym (agrees equal))
          (subst (λ j. Moves k s (cond (refused s) [] (one_if j k m)) n (line.change_unless refused j (site_at j n.sites) change n)) (sym equal)
          (subst (λ o. Moves k s (cond (refused s) [] (one_if k k m)) n (line.change_unless refused k o change n)) (sym is) (by_test (refused s))))

      not_mine : (b : Bool) → i ≢ k → cond b [] (one_if i k m) ≡ []
      not_mine true other = refl
      not_mine false other = one_not i k m other

      elsewhere : (o : Option (Site H)) → i ≢ k → Moves k s (cond none [] (one_if i k m)) n (line.change_unless refused i o change n)
      elsewhere None other = becomes k s s (cond none [] (one_if i k m)) [] n n (not_mine none other) is refl
      elsewhere (Some t) other = tested (refused t)
        where
          tested : (b : Bool) → Moves k s (cond none [] (one_if i k m)) n (cond b n (record n { sites = changed i (change t) n.sites }))
          tested true = becomes k s s (cond none [] (one_if i k m)) [] n n (not_mine none other) is refl
          tested false =
              becomes k s s (cond none [] (one_if i k m)) [] n (record n { sites = changed i (change t) n.sites }) (not_mine none other)
              (at_other k i (change t) n.sites (λ e. other (sym e)) ∙ is) refl

  -- .. which the bus never refuses
  changes_always : (i k : ℕ) (s : Site H) (m : Move H) (change : Site H → Site H) (n : Net H) → site_at k n.sites ≡ Some s
      → view k (change s) n ≡ after_move answer_of after m (view k s n)
      → Moves k s (one_if i k m) n (line.change_at i (site_at i n.sites) change n)
  changes_always i k s m change n is same = changes i k s m (λ t. false) change n false (λ e. refl) is same

  -- ---- calls don't look at the line

  submitted : (fault : Option ControllerFault) (c : Command) (s : Site H) (ps qs : List Packet)
      → link_of (left_by s (link.submits fault c (link_of s [] []))) ps qs ≡ link.submits fault c (link_of s ps qs)
  submitted None c s ps qs = refl
  submitted (Some fault) c s ps qs = refl

  queued : (full : Bool) (e : Event) (s : Site H) (ps qs : List Packet)
      → link_of (left_by s (link.queues full e (link_of s [] []))) ps qs ≡ link.queues full e (link_of s ps qs)
  queued true e s ps qs = refl
  queued false e s ps qs = refl

  retargeted : (fault : Option ControllerFault) (address : ℕ) (s : Site H) (ps qs : List Packet)
      → link_of (left_by s (link.retargets fault address (link_of s [] []))) ps qs ≡ link.retargets fault address (link_of s ps qs)
  retargeted None address s ps qs = refl
  retargeted (Some fault) address s ps qs = refl

  -- .. but for a session that begins again
  reopened : (fault : Option ControllerFault) (now k : ℕ) (s : Site H) (n : Net H) → (fault ≡ None → IsQuiet k s n)
      → link_of (left_by s (link.reopens fault [] [] now (link_of s [] []))) (own k s.coming) (own k n.to_panel)
      ≡ link.reopens fault (own k s.coming) (own k n.to_panel) now (view k s n)
  reopened (Some fault) now k s n quiet = refl
  reopened None now k s n quiet =
      let q = quiet refl in
      let there = own_none k s.coming (each_of (λ (p : ℕ × Packet). p.0 ≢ k) s.coming q.coming) in
      let back = own_none k n.to_panel (each_map (λ (p : ℕ × Packet). (p.0 ≢ k) × (p.1.address ≢ address_of s)) (λ (p : ℕ × Packet). p.0 ≢ k)
      (λ p is. is.0) n.to_panel
      (each_of (λ (p : ℕ × Packet). (p.0 ≢ k) × (p.1.address ≢ address_of s)) n.to_panel q.to_panel)) in
      ap (λ ps. link_of (left_by s (link.reopens None [] [] now (link_of s [] []))) ps (own k n.to_panel)) there
      ∙ ap (λ qs. link_of (left_by s (link.reopens None [] [] now (link_of s [] []))) [] qs) back
      ∙ sym (ap (λ ps. link.reopens None ps (own k n.to_panel) now (link_of s ps (own k n.to_panel))) there
      ∙ ap (λ qs. link.reopens None [] qs now (link_of s [] qs)) back)

  -- ---- ticks

  ticking : (i k : ℕ) (s : Site H) (now : ℕ) (n : Net H) → site_at k n.sites ≡ Some s
      → Moves k s (one_if i k (link.Tick now)) n (line.tick_at answer_of after i now (site_at i n.sites) n)
  ticking i k s now n is =
      elim (eqb_tells i k) [
        | inl equal ↦ subst (λ j. Moves k s (one_if j k (link.Tick now)) n (line.tick_at answer_of after j now (site_at j n.sites) n)) (sym equal.1)
            (subst (λ o. Moves k s (one_if k k (link.Tick now)) n (line.tick_at answer_of after k now o n)) (sym is) here)
        | inr differs ↦ elsewhere (site_at i n.sites) differs.1
      ]
    where
      here : Moves k s (one_if k k (link.Tick now)) n (line.tick_at answer_of after k now (Some s) n)
      here =
          let l = after_move answer_of after (link.Tick now) (link_of s [] []) in
          let t = is_told (tagged k l.to_reader) (line.ticks answer_of after now s) in
          becomes k s t (one_if k k (link.Tick now)) (link.Tick now ∷ []) n (line.tick_at answer_of after k now (Some s) n) (one_is k k (link.Tick now) refl)
          (at_map (is_told (tagged k l.to_reader)) k (line.ticks answer_of after now s) (changed k (line.ticks answer_of after now s) n.sites)
          (at_changed k (line.ticks answer_of after now s) s n.sites is))
          (ap (λ ps. link_of t ps (own k n.to_panel))
          (own_append k s.coming (tagged k l.to_reader) ∙ ap (λ ps. own k s.coming ++ ps) (own_mine k l.to_reader)))

      elsewhere : (o : Option (Site H)) → i ≢ k → Moves k s (one_if i k (link.Tick now)) n (line.tick_at answer_of after i now o n)
      elsewhere None other = becomes k s s (one_if i k (link.Tick now)) [] n n (one_not i k (link.Tick now) other) is refl
      elsewhere (Some u) other =
          let l = after_move answer_of after (link.Tick now) (link_of u [] []) in
          becomes k s (is_told (tagged i l.to_reader) s) (one_if i k (link.Tick now)) [] n (line.tick_at answer_of after i now (Some u) n)
          (one_not i k (link.Tick now) other)
          (at_map (is_told (tagged i l.to_reader)) k s (changed i (line.ticks answer_of after now u) n.sites)
          (at_other k i (line.ticks answer_of after now u) n.sites (λ e. other (sym e)) ∙ is))
          (ap (λ ps. link_of s ps (own k n.to_panel))
          (own_append k s.coming (tagged i l.to_reader)
          ∙ ap (λ ps. own k s.coming ++ ps) (own_others k i l.to_reader (λ e. other (sym e)))
          ∙ append-nil (own k s.coming)))

  -- ---- a reader reads

  -- it hears what its own controller said
  hears_own : (k : ℕ) (p : Packet) (s t : Site H) (n : Net H) → site_at k n.sites ≡ Some s
      → let l = link.reader_gets answer_of after p (link_of t [] []) in
      let next = line.hears_at answer_of after k p t n in
      (site_at k next.sites ≡ Some (left_by t l))
      × (view k (left_by t l) next ≡ link.reader_gets answer_of after p (link_of t (own k t.coming) (own k n.to_panel)))
  hears_own k p s t n is =
      let l = link.reader_gets answer_of after p (link_of t [] []) in (
        at_changed k (left_by t l) s n.sites is,
        ap (λ qs. link_of (left_by t l) (own k t.coming) qs)
            (own_append k n.to_panel (tagged k l.to_controller) ∙ ap (λ qs. own k n.to_panel ++ qs) (own_mine k l.to_controller)),
      )

  -- .. or what another did, and is silent
  hears_other : (k : ℕ) (p : Packet) (s t : Site H) (n : Net H) → site_at k n.sites ≡ Some s → p.address < 127 → t.reader.config.address ≢ p.address
      → let next = line.hears_at answer_of after k p t n in
      (site_at k next.sites ≡ Some t) × (own k next.to_panel ≡ own k n.to_panel)
  hears_other k p s t n is device other =
      let quiet = silent answer_of after p (link_of t [] []) device other in
      let l = link.reader_gets answer_of after p (link_of t [] []) in (
        at_changed k (left_by t l) s n.sites is ∙ ap (λ v. Some (left_by t v)) quiet,
        own_append k n.to_panel (tagged k l.to_controller)
            ∙ ap (λ v. own k n.to_panel ++ own k (tagged k v.to_controller)) quiet
            ∙ append-nil (own k n.to_panel),
      )

  reading_here : (how : Delivery) (ps : List (ℕ × Packet)) (k : ℕ) (s : Site H) (n : Net H) → s.coming ≡ ps → site_at k n.sites ≡ Some s
      → Each (λ (p : ℕ × Packet). p.1.address < 127) ps → Each (λ (p : ℕ × Packet). p.0 ≢ k → s.reader.config.address ≢ p.1.address) ps
      → Moves k s (own_front k ps how) n (line.reads_at answer_of after k ps how s n)
  reading_here how [] k s n coming is devices away = becomes k s s [] [] n n refl is refl
  reading_here how (p ∷ rest) k s n coming is devices away =
      elim (eqb_tells p.0 k) [
        | inl equal ↦ mine how equal.1
        | inr differs ↦ foreign how differs.1
      ]
    where
      front : p.0 ≡ k → view k s n ≡ link_of s (p.1 ∷ own k rest) (own k n.to_panel)
      front here = ap (λ ps. link_of s ps (own k n.to_panel)) (ap (own k) coming ∙ own_first k p rest here)

      by_view : (how : Delivery) (here : p.0 ≡ k) (l : Link H)
          → l ≡ link.to_reader answer_of after (p.1 ∷ own k rest) how (link_of s (p.1 ∷ own k rest) (own k n.to_panel))
          → l ≡ link.run answer_of after (link.ToReader how ∷ []) (view k s n)
      by_view how here l same = same ∙ ap (λ v. after_move answer_of after (link.ToReader how) v) (sym (front here))

      kept : Site H
      kept = record s { coming = rest }

      mine : (how : Delivery) → p.0 ≡ k → Moves k s (one_if p.0 k (link.ToReader how)) n (line.reads_at answer_of after k (p ∷ rest) how s n)
      mine Delivered here =
          let heard = hears_own k p.1 s kept n is in
          becomes k s _ (one_if p.0 k (link.ToReader Delivered)) (link.ToReader Delivered ∷ []) n (line.hears_at answer_of after k p.1 kept n)
          (one_is p.0 k (link.ToReader Delivered) here) heard.0 (by_view Delivered here _ heard.1)
      mine Lost here =
          becomes k s kept (one_if p.0 k (link.ToReader Lost)) (link.ToReader Lost ∷ []) n (record n { sites = changed k kept n.sites })
          (one_is p.0 k (link.ToReader Lost) here) (at_changed k kept s n.sites is) (by_view Lost here _ refl)
      mine Repeated here =
          let heard = hears_own k p.1 s s n is in
          becomes k s _ (one_if p.0 k (link.ToReader Repeated)) (link.ToReader Repeated ∷ []) n (line.hears_at answer_of after k p.1 s n)
          (one_is p.0 k (link.ToReader Repeated) here) heard.0
          (by_view Repeated here _ (heard.1 ∙ ap (link.reader_gets answer_of after p.1) (front here)))

      left : p.0 ≢ k → own k rest ≡ own k s.coming
      left other = sym (ap (own k) coming ∙ own_rest k p rest other)

      none : p.0 ≢ k → (how : Delivery) → one_if {H = H} p.0 k (link.ToReader how) ≡ []
      none other how = one_not p.0 k (link.ToReader how) other

      foreign : (how : Delivery) → p.0 ≢ k → Moves k s (one_if p.0 k (link.ToReader how)) n (line.reads_at answer_of after k (p ∷ rest) how s n)
      foreign Delivered other =
          let heard = hears_other k p.1 s kept n is devices.0 (away.0 other) in
          becomes k s kept (one_if p.0 k (link.ToReader Delivered)) [] n (line.hears_at answer_of after k p.1 kept n) (none other Delivered) heard.0
          (ap (λ ps. link_of s ps (own k (line.hears_at answer_of after k p.1 kept n).to_panel)) (left other)
          ∙ ap (λ qs. link_of s (own k s.coming) qs) heard.1)
      foreign Lost other =
          becomes k s kept (one_if p.0 k (link.ToReader Lost)) [] n (record n { sites = changed k kept n.sites }) (none other Lost)
          (at_changed k kept s n.sites is) (ap (λ ps. link_of s ps (own k n.to_panel)) (left other))
      foreign Repeated other =
          let heard = hears_other k p.1 s s n is devices.0 (away.0 other) in
          becomes k s s (one_if p.0 k (link.ToReader Repeated)) [] n (line.hears_at answer_of after k p.1 s n) (none other Repeated) heard.0
          (ap (λ qs. link_of s (own k s.coming) qs) heard.1)

  -- another reader reads
  hears_elsewhere : (i k : ℕ) (p : Packet) (s t : Site H) (n : Net H) → i ≢ k → site_at k n.sites ≡ Some s
      → Moves k s [] n (line.hears_at answer_of after i p t n)
  hears_elsewhere i k p s t n other is =
      let l = link.reader_gets answer_of after p (link_of t [] []) in
      becomes k s s [] [] n (line.hears_at answer_of after i p t n) refl (at_other k i (left_by t l) n.sites (λ e. other (sym e)) ∙ is)
      (ap (λ qs. link_of s (own k s.coming) qs)
      (own_append k n.to_panel (tagged i l.to_controller)
      ∙ ap (λ qs. own k n.to_panel ++ qs) (own_others k i l.to_controller (λ e. other (sym e)))
      ∙ append-nil (own k n.to_panel)))

  reads_elsewhere : (how : Delivery) (ps : List (ℕ × Packet)) (i k : ℕ) (s t : Site H) (n : Net H) → i ≢ k → site_at k n.sites ≡ Some s
      → Moves k s [] n (line.reads_at answer_of after i ps how t n)
  reads_elsewhere how [] i k s t n other is = becomes k s s [] [] n n refl is refl
  reads_elsewhere Delivered (p ∷ rest) i k s t n other is = hears_elsewhere i k p.1 s (record t { coming = rest }) n other is
  reads_elsewhere Lost (p ∷ rest) i k s t n other is =
      becomes k s s [] [] n (record n { sites = changed i (record t { coming = rest }) n.sites }) refl
      (at_other k i (record t { coming = rest }) n.sites (λ e. other (sym e)) ∙ is) refl
  reads_elsewhere Repeated (p ∷ rest) i k s t n other is = hears_elsewhere i k p.1 s t n other is

  reading : (how : Delivery) (i k : ℕ) (s : Site H) (n : Net H) → site_at k n.sites ≡ Some s
      → Each (λ (p : ℕ × Packet). p.1.address < 127) s.coming → Each (λ (p : ℕ × Packet). p.0 ≢ k → s.reader.config.address ≢ p.1.address) s.coming
      → Moves k s (cond (i == k) (own_front k s.coming how) []) n (line.to_reader answer_of after i how (site_at i n.sites) n)
  reading how i k s n is devices away =
      elim (eqb_tells i k) [
        | inl equal ↦ subst (λ b. Moves k s (cond b (own_front k s.coming how) []) n (line.to_reader answer_of after i how (site_at i n.sites) n)) (sym equal.0)
            (subst (λ j. Moves k s (own_front k s.coming how) n (line.to_reader answer_of after j how (site_at j n.sites) n)) (sym equal.1)
            (subst (λ o. Moves k s (own_front k s.coming how) n (line.to_reader answer_of after k how o n)) (sym is)
            (reading_here how s.coming k s n refl is devices away)))
        | inr differs ↦ subst (λ b. Moves k s (cond b (own_front k s.coming how) []) n (line.to_reader answer_of after i how (site_at i n.sites) n)) (sym differs.0)
            (elsewhere (site_at i n.sites) differs.1)
      ]
    where
      elsewhere : (o : Option (Site H)) → i ≢ k → Moves k s [] n (line.to_reader answer_of after i how o n)
      elsewhere None other = becomes k s s [] [] n n refl is refl
      elsewhere (Some t) other = reads_elsewhere how t.coming i k s t n other is

  -- ---- the panel reads

  -- a controller that is closed sees the moment alone
  sees_alone : (p : Packet) (now k : ℕ) (s : Site H) (qs : List Packet) → s.controller.session.state ≡ Closed
      → link_of (gets p now s) (own k s.coming) qs ≡ after_move answer_of after (link.Tick now) (link_of s (own k s.coming) qs)
  sees_alone p now k s qs closed =
      ap (λ (h : controller.Heard). link_of (left_by s (record (link_of s [] []) {
        controller = record s.controller { session = h.session };
      })) (own k s.coming) qs) (closed_hears p now s.controller.session closed)
      ∙ sym (ap (λ state. link.ticked (ticks_in state (seen now s.controller.session) s.controller.waiting) (link_of s (own k s.coming) qs)) closed
      ∙ ap (λ ps. link_of (left_by s (record (link_of s [] []) {
        controller = record s.controller { session = seen now s.controller.session };
      })) ps qs) (append-nil (own k s.coming)))

  coming_to_panel : (how : Delivery) (now : ℕ) (qs : List (ℕ × Packet)) (k : ℕ) (s : Site H) (n : Net H) → n.to_panel ≡ qs → site_at k n.sites ≡ Some s
      → Each (λ (q : ℕ × Packet). (j : ℕ) (t : Site H) → j ≢ q.0 → site_at j n.sites ≡ Some t → address_of t ≡ q.1.address → t.controller.session.state ≡ Closed) qs
      → ((j : ℕ) (t : Site H) → j ≢ k → site_at j n.sites ≡ Some t → address_of t ≢ address_of s)
      → Moves k s (front_to_panel k (address_of s) qs how now) n (line.to_panel qs how now n)
  coming_to_panel how now [] k s n line_is is closed apart = becomes k s s [] [] n n refl is refl
  coming_to_panel how now (q ∷ rest) k s n line_is is closed apart =
      elim (eqb_tells q.0 k) [
        | inl equal ↦ subst (λ b. Moves k s (cond b (views.own_reply (address_of s) q.1 how now) (views.other_reply (address_of s) q.1 how now)) n
            (line.to_panel (q ∷ rest) how now n)) (sym equal.0) (elim (eqb_tells (address_of s) q.1.address) [
              | inl at ↦ subst (λ b. Moves k s (cond b (link.ToController how now ∷ []) (views.lost how now)) n (line.to_panel (q ∷ rest) how now n)) (sym at.0)
                  (mine how equal.1 at.1)
              | inr gone ↦ subst (λ b. Moves k s (cond b (link.ToController how now ∷ []) (views.lost how now)) n (line.to_panel (q ∷ rest) how now n)) (sym gone.0)
                  (lost how equal.1 gone.1)
            ])
        | inr differs ↦ subst (λ b. Moves k s (cond b (views.own_reply (address_of s) q.1 how now) (views.other_reply (address_of s) q.1 how now)) n
            (line.to_panel (q ∷ rest) how now n)) (sym differs.0) (elim (eqb_tells (address_of s) q.1.address) [
              | inl at ↦ subst (λ b. Moves k s (cond b (views.sees how now) []) n (line.to_panel (q ∷ rest) how now n)) (sym at.0)
                  (sees how differs.1 at.1)
              | inr away ↦ subst (λ b. Moves k s (cond b (views.sees how now) []) n (line.to_panel (q ∷ rest) how now n)) (sym away.0)
                  (foreign how differs.1 away.1)
            ])
      ]
    where
      front : q.0 ≡ k → view k s n ≡ link_of s (own k s.coming) (q.1 ∷ own k rest)
      front here = ap (λ qs. link_of s (own k s.coming) qs) (ap (own k) line_is ∙ own_first k q rest here)

      by_view : (how : Delivery) (here : q.0 ≡ k) (l : Link H)
          → l ≡ link.to_controller (q.1 ∷ own k rest) how now (link_of s (own k s.coming) (q.1 ∷ own k rest))
          → l ≡ link.run answer_of after (link.ToController how now ∷ []) (view k s n)
      by_view how here l same = same ∙ ap (λ v. after_move answer_of after (link.ToController how now) v) (sym (front here))

      alone : address_of s ≡ q.1.address → (j : ℕ) (t : Site H) → j ≢ k → site_at j n.sites ≡ Some t → address_of t ≢ q.1.address
      alone at j t other there e = apart j t other there (e ∙ sym at)

      mine : (how : Delivery) → q.0 ≡ k → address_of s ≡ q.1.address → Moves k s (link.ToController how now ∷ []) n (line.to_panel (q ∷ rest) how now n)
      mine Delivered here at =
          becomes k s (gets q.1 now s) (link.ToController Delivered now ∷ []) (link.ToController Delivered now ∷ []) n
          (line.to_panel (q ∷ rest) Delivered now n) refl (first_own q.1 now k s n.sites is at (alone at)) (by_view Delivered here _ refl)
      mine Lost here at =
          becomes k s s (link.ToController Lost now ∷ []) (link.ToController Lost now ∷ []) n (line.to_panel (q ∷ rest) Lost now n) refl is
          (by_view Lost here _ refl)
      mine Repeated here at =
          becomes k s (gets q.1 now s) (link.ToController Repeated now ∷ []) (link.ToController Repeated now ∷ []) n
          (line.to_panel (q ∷ rest) Repeated now n) refl (first_own q.1 now k s n.sites is at (alone at))
          (by_view Repeated here _ (ap (λ ps. link_of (gets q.1 now s) (own k s.coming) ps) (ap (own k) line_is ∙ own_first k q rest here)))

      lost : (how : Delivery) → q.0 ≡ k → address_of s ≢ q.1.address → Moves k s (views.lost how now) n (line.to_panel (q ∷ rest) how now n)
      lost Delivered here gone =
          becomes k s s (link.ToController Lost now ∷ []) (link.ToController Lost now ∷ []) n (line.to_panel (q ∷ rest) Delivered now n) refl
          (first_other q.1 now k s n.sites is gone) (by_view Lost here _ refl)
      lost Lost here gone =
          becomes k s s (link.ToController Lost now ∷ []) (link.ToController Lost now ∷ []) n (line.to_panel (q ∷ rest) Lost now n) refl is
          (by_view Lost here _ refl)
      lost Repeated here gone =
          becomes k s s [] [] n (line.to_panel (q ∷ rest) Repeated now n) refl (first_other q.1 now k s n.sites is gone) refl

      left : q.0 ≢ k → view k s (record n { to_panel = rest }) ≡ view k s n
      left other = ap (λ qs. link_of s (own k s.coming) qs) (sym (ap (own k) line_is ∙ own_rest k q rest other))

      sees : (how : Delivery) → q.0 ≢ k → address_of s ≡ q.1.address → Moves k s (views.sees how now) n (line.to_panel (q ∷ rest) how now n)
      sees Delivered other at =
          becomes k s (gets q.1 now s) (link.Tick now ∷ []) (link.Tick now ∷ []) n (line.to_panel (q ∷ rest) Delivered now n) refl
          (first_own q.1 now k s n.sites is at (alone at))
          (sees_alone q.1 now k s (own k rest) (closed.0 k s (λ e. other (sym e)) is at) ∙ ap (after_move answer_of after (link.Tick now)) (left other))
      sees Lost other at = becomes k s s [] [] n (line.to_panel (q ∷ rest) Lost now n) refl is (left other)
      sees Repeated other at =
          becomes k s (gets q.1 now s) (link.Tick now ∷ []) (link.Tick now ∷ []) n (line.to_panel (q ∷ rest) Repeated now n) refl
          (first_own q.1 now k s n.sites is at (alone at))
          (sees_alone q.1 now k s (own k n.to_panel) (closed.0 k s (λ e. other (sym e)) is at))

      foreign : (how : Delivery) → q.0 ≢ k → address_of s ≢ q.1.address → Moves k s [] n (line.to_panel (q ∷ rest) how now n)
      foreign Delivered other away =
          becomes k s s [] [] n (line.to_panel (q ∷ rest) Delivered now n) refl (first_other q.1 now k s n.sites is away) (left other)
      foreign Lost other away = becomes k s s [] [] n (line.to_panel (q ∷ rest) Lost now n) refl is (left other)
      foreign Repeated other away =
          becomes k s s [] [] n (line.to_panel (q ∷ rest) Repeated now n) refl (first_other q.1 now k s n.sites is away) refl

  -- ---- losses out of the middle

  loses_to_reader : (o : Option ℕ) (s : Site H) (ps qs : List Packet)
      → link_of s (lost_own o ps) qs ≡ link.run answer_of after (option_to_list (option_map link.LoseToReader o)) (link_of s ps qs)
  loses_to_reader None s ps qs = refl
  loses_to_reader (Some place) s ps qs = refl

  loses_to_panel : (o : Option ℕ) (s : Site H) (ps qs : List Packet)
      → link_of s ps (lost_own o qs) ≡ link.run answer_of after (option_to_list (option_map link.LoseToController o)) (link_of s ps qs)
  loses_to_panel None s ps qs = refl
  loses_to_panel (Some place) s ps qs = refl

  losing : (place i k : ℕ) (s : Site H) (n : Net H) → site_at k n.sites ≡ Some s
      → Moves k s (move_of k s (LoseToReader i place) n) n (after_net answer_of after (LoseToReader i place) n)
  losing place i k s n is =
      elim (eqb_tells i k) [
        | inl equal ↦ subst (λ b. Moves k s (cond b mine []) n (after_net answer_of after (LoseToReader i place) n)) (sym equal.0)
            (subst (λ j. Moves k s mine n (after_net answer_of after (LoseToReader j place) n)) (sym equal.1)
            (subst (λ o. Moves k s mine n (line.change_at k o lose n)) (sym is) here))
        | inr differs ↦ subst (λ b. Moves k s (cond b mine []) n (after_net answer_of after (LoseToReader i place) n)) (sym differs.0)
            (elsewhere (site_at i n.sites) differs.1)
      ]
    where
      mine : List (Move H)
      mine = option_to_list (option_map link.LoseToReader (own_place k place s.coming))

      lose : Site H → Site H
      lose t = record t { coming = lost_at place t.coming }

      here : Moves k s mine n (record n { sites = changed k (lose s) n.sites })
      here =
          becomes k s (lose s) mine mine n (record n { sites = changed k (lose s) n.sites }) refl (at_changed k (lose s) s n.sites is)
          (ap (λ ps. link_of s ps (own k n.to_panel)) (own_lost k place s.coming)
          ∙ loses_to_reader (own_place k place s.coming) s (own k s.coming) (own k n.to_panel))

      elsewhere : (o : Option (Site H)) → i ≢ k → Moves k s [] n (line.change_at i o lose n)
      elsewhere None other = becomes k s s [] [] n n refl is refl
      elsewhere (Some t) other =
          becomes k s s [] [] n (record n { sites = changed i (lose t) n.sites }) refl (at_other k i (lose t) n.sites (λ e. other (sym e)) ∙ is) refl

  -- ---- the panel restarts

  at_restart : (m i k : ℕ) (settings : ℕ → ControllerConfig × Room) (s : Site H) (ss : List (Site H)) → i ≡ m + k → site_at k ss ≡ Some s
      → site_at k (line.all_restart answer_of after m settings ss) ≡ Some (restarts answer_of after (settings i) s)
  at_restart m i k settings s [] at is = absurd cc
  at_restart m i zero settings s (t ∷ ss) at is =
      let here : m ≡ i = omega (arith, at) in
      ap (λ j. Some (restarts answer_of after (settings j) t)) here ∙ ap (λ u. Some (restarts answer_of after (settings i) u)) (some_same t s is)
  at_restart m i (suc k) settings s (t ∷ ss) at is = at_restart (suc m) i k settings s ss (omega (arith, at)) is

  -- ---- a move

  pub each_is_its_own : EachMoveIsItsOwn answer_of after
  each_is_its_own n (Submit i c) heard quiet k s is =
      changes i k s (link.Submit c) (λ t. is_comset_refused i (comset_of c) t n.sites) (line.submits answer_of after c) n
      (is_comset_refused i (comset_of c) s n.sites) (λ e. refl) is
      (submitted (controllers.submit_refusal c s.controller) c s (own k s.coming) (own k n.to_panel))
  each_is_its_own n (Queue i e) heard quiet k s is =
      changes_always i k s (link.Queue e) (calls answer_of after (link.Queue e)) n is
      (queued (lacks_room e s.reader.queue) e s (own k s.coming) (own k n.to_panel))
  each_is_its_own n (SetBusy i busy) heard quiet k s is = changes_always i k s (link.SetBusy busy) (calls answer_of after (link.SetBusy busy)) n is refl
  each_is_its_own n (WithdrawEvent i) heard quiet k s is = changes_always i k s link.WithdrawEvent (calls answer_of after link.WithdrawEvent) n is refl
  each_is_its_own n (LapseEvent i) heard quiet k s is = changes_always i k s link.LapseEvent (calls answer_of after link.LapseEvent) n is refl
  each_is_its_own n (SetHandler i h) heard quiet k s is = changes_always i k s (link.SetHandler h) (calls answer_of after (link.SetHandler h)) n is refl
  each_is_its_own n (Withdraw i) heard quiet k s is = changes_always i k s link.Withdraw (line.withdraws answer_of after) n is refl
  each_is_its_own n (Retarget i address) heard quiet k s is =
      changes i k s (link.Retarget address) (λ t. is_retarget_refused i address t n.sites) (line.retargets answer_of after address) n
      (is_retarget_refused i address s n.sites) (λ e. refl) is
      (retargeted (controllers.retarget_refusal address s.controller) address s (own k s.coming) (own k n.to_panel))
  each_is_its_own n (Tick i now) heard quiet k s is = ticking i k s now n is
  each_is_its_own n (ToReader i how) heard quiet k s is =
      reading how i k s n is
      (each_of (λ (p : ℕ × Packet). p.1.address < 127) s.coming (heard.devices k s is))
      (each_of (λ (p : ℕ × Packet). p.0 ≢ k → s.reader.config.address ≢ p.1.address) s.coming (heard.readers k s is))
  each_is_its_own n (ToPanel how now) heard quiet k s is =
      coming_to_panel how now n.to_panel k s n refl is
      (each_of (λ (q : ℕ × Packet). (j : ℕ) (t : Site H) → j ≢ q.0 → site_at j n.sites ≡ Some t → address_of t ≡ q.1.address
      → t.controller.session.state ≡ Closed) n.to_panel heard.controllers)
      (λ j t other there. heard.addresses j k t s other there is)
  each_is_its_own n (LoseToReader i place) heard quiet k s is = losing place i k s n is
  each_is_its_own n (LoseToPanel place) heard quiet k s is =
      let ms = option_to_list (option_map link.LoseToController (own_place k place n.to_panel)) in
      becomes k s s ms ms n (record n { to_panel = lost_at place n.to_panel }) refl is
      (ap (λ qs. link_of s (own k s.coming) qs) (own_lost k place n.to_panel)
      ∙ loses_to_panel (own_place k place n.to_panel) s (own k s.coming) (own k n.to_panel))
  each_is_its_own n (Reopen i now) heard quiet k s is =
      elim (eqb_tells i k) [
        | inl equal ↦
            changes_always i k s (link.Reopen now) (calls answer_of after (link.Reopen now)) n is
            (reopened (controllers.begin_refusal s.controller) now k s n
            (λ may. subst (λ j. IsQuiet j s n) equal.1 (quiet s (subst (λ j. site_at j n.sites ≡ Some s) (sym equal.1) is) may)))
        | inr differs ↦ elsewhere (site_at i n.sites) differs.1
      ]
    where
      elsewhere : (o : Option (Site H)) → i ≢ k → Moves k s (one_if i k (link.Reopen now)) n (line.change_at i o (calls answer_of after (link.Reopen now)) n)
      elsewhere None other = becomes k s s (one_if i k (link.Reopen now)) [] n n (one_not i k (link.Reopen now) other) is refl
      elsewhere (Some t) other =
          let u = calls answer_of after (link.Reopen now) t in
          becomes k s s (one_if i k (link.Reopen now)) [] n (record n { sites = changed i u n.sites }) (one_not i k (link.Reopen now) other)
          (at_other k i u n.sites (λ e. other (sym e)) ∙ is) refl
  each_is_its_own n (RestartReader i config h room) heard quiet k s is =
      changes_always i k s (link.RestartReader config h room) (calls answer_of after (link.RestartReader config h room)) n is refl
  each_is_its_own n (RestartPanel settings) heard quiet k s is =
      becomes k s (restarts answer_of after (settings k) s) (link.RestartController (settings k).0 (settings k).1 ∷ [])
      (link.RestartController (settings k).0 (settings k).1 ∷ []) n (after_net answer_of after (RestartPanel settings) n) refl
      (at_restart 0 k k settings s n.sites (omega arith) is) refl
