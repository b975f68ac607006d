-- What the moves of a step add for one of the sites: what its own link does in them.
use Rattle.osdp_sim_bus_laws.proofs.Common.{◌≡◌, ◌≢◌, ◌≤◌, ◌<◌, ◌+◌, ℕ, zero, suc, cond, List, [], ◌∷◌, ◌++◌, Option, Some, None, inl, inr, refl, sym, subst, ap, ◌∙◌, arith, append-nil, option_to_list, Packet, Command, Report, Answer, Delivered, Delivery, Lost, Repeated, each_of, Each, Net, NetMove, Site, ToPanel, site_at, own, view, report_for, one_ticks, each_reads, is_true, is_false}
use Rattle.std.proofs.lemmas.Bool.Decides.{eqb_tells}
use Rattle.osdp_controller.specs.Hearing.{Heard, hears}
use Rattle.osdp_controller.specs.Sessions.{seen}
use Rattle.osdp_controller.specs.Ticking.{ticks, ticks_in}
use Rattle.osdp_controller.specs.declared.state.State.TheVariants.{Closed}
use Rattle.osdp_bus.specs.Buses.{waiting_after}
use Rattle.osdp_reader.specs.Table as reader
use Rattle.osdp_link_laws.specs.Link as link
use Rattle.osdp_link_laws.specs.Link.{Link, Move}
use Rattle.osdp_link_laws.specs.Reports.{taken_as, taken_by, taken_by_front, told_by_front}
use Rattle.osdp_shared_line.specs.Line as line
use Rattle.osdp_shared_line.specs.Line.{Tick, ToReader, address_of}
use Rattle.osdp_shared_line.specs.Runs as runs
use Rattle.osdp_shared_line.specs.Views.{HeardByOwn, front_to_panel, lost, move_of, one_if, other_reply, own_front, own_reply, sees}
use Rattle.osdp_shared_line.proofs.Hearing.{closed_hears, for_reader}
use Rattle.osdp_shared_line.proofs.Sites.{at_other, own_first}
use Rattle.osdp_bus_links.specs.Links.{told_by_first, told_by_one, told_by_tick}
use Rattle.osdp_bus_links.proofs.Telling.{for_entry, for_others}
use Rattle.osdp_sim_laws.proofs.Accounts.{Added, added_by, all_added, and_nothing, nothing_added}

-- ---- a move for one site

pub one_if_same : {H : Type 0} (j k : ℕ) (m : Move H) → j ≡ k → one_if j k m ≡ m ∷ []
one_if_same j k m same = ap (λ b. cond b (m ∷ []) []) (is_true j k same)

pub one_if_other : {H : Type 0} (j k : ℕ) (m : Move H) → (j ≡ k → ⊥) → one_if j k m ≡ []
one_if_other j k m other = ap (λ b. cond b (m ∷ []) []) (is_false j k other)

-- ---- who is told

module _ {H : Type 0} where
  before_first : (m i : ℕ) (p : Packet) (g : ℕ) (ss : List (Site H)) → m < i → report_for m (told_by_first i p g ss) ≡ None
  before_first m i p g [] lt = refl
  before_first m i p g (s ∷ ss) lt =
      elim (eqb_tells (address_of s) p.address) [
        | inl here ↦
            ap (λ b. report_for m (cond b (waiting_after i (hears p g s.controller.session).report None) (told_by_first (i + 1) p g ss))) here.0
            ∙ for_others m i (hears p g s.controller.session).report (λ e. omega (arith, e, lt))
        | inr other ↦
            ap (λ b. report_for m (cond b (waiting_after i (hears p g s.controller.session).report None) (told_by_first (i + 1) p g ss))) other.0
            ∙ before_first m (i + 1) p g ss (omega (arith, lt))
      ]

  -- a controller at another address isn't told
  other_first : (i j : ℕ) (p : Packet) (g : ℕ) (t : Site H) (ss : List (Site H)) → site_at j ss ≡ Some t → address_of t ≢ p.address
      → report_for (i + j) (told_by_first i p g ss) ≡ None
  other_first i j p g t [] at other = absurd cc
  other_first i j p g t (s ∷ ss) at other =
      elim (eqb_tells (address_of s) p.address) [
        | inl here ↦
            ap (λ b. report_for (i + j) (cond b (waiting_after i (hears p g s.controller.session).report None) (told_by_first (i + 1) p g ss))) here.0
            ∙ for_others (i + j) i (hears p g s.controller.session).report (not_here j at here.1)
        | inr away ↦
            ap (λ b. report_for (i + j) (cond b (waiting_after i (hears p g s.controller.session).report None) (told_by_first (i + 1) p g ss))) away.0
            ∙ later j at (λ m found. other_first (i + 1) m p g t ss found other)
      ]
    where
      not_here : (j : ℕ) → site_at j (s ∷ ss) ≡ Some t → address_of s ≡ p.address → i + j ≢ i
      not_here zero at here e = let same : s ≡ t = cc in other (ap address_of (sym same) ∙ here)
      not_here (suc j) at here e = omega (arith, e)

      later : (j : ℕ) → site_at j (s ∷ ss) ≡ Some t → ((m : ℕ) → site_at m ss ≡ Some t → report_for (i + 1 + m) (told_by_first (i + 1) p g ss) ≡ None)
          → report_for (i + j) (told_by_first (i + 1) p g ss) ≡ None
      later zero at rest = before_first (i + 0) (i + 1) p g ss (omega arith)
      later (suc j) at rest =
          let next : i + suc j ≡ i + 1 + j = omega arith in
          ap (λ m. report_for m (told_by_first (i + 1) p g ss)) next ∙ rest j at

  -- the one that is at the address, alone, is
  own_first_told : (i j : ℕ) (p : Packet) (g : ℕ) (t : Site H) (ss : List (Site H)) → site_at j ss ≡ Some t → address_of t ≡ p.address
      → ((m : ℕ) (u : Site H) → m ≢ j → site_at m ss ≡ Some u → address_of u ≢ p.address)
      → report_for (i + j) (told_by_first i p g ss) ≡ (hears p g t.controller.session).report
  own_first_told i j p g t [] at here others = absurd cc
  own_first_told i zero p g t (s ∷ ss) at here others =
      let same : s ≡ t = cc in
      let is : i + 0 ≡ i = omega arith in
      ap (λ b. report_for (i + 0) (cond b (waiting_after i (hears p g s.controller.session).report None) (told_by_first (i + 1) p g ss)))
      (is_true (address_of s) p.address (ap address_of same ∙ here))
      ∙ for_entry (i + 0) i (hears p g s.controller.session).report is ∙ ap (λ (u : Site H). (hears p g u.controller.session).report) same
  own_first_told i (suc j) p g t (s ∷ ss) at here others =
      let next : i + suc j ≡ i + 1 + j = omega arith in
      ap (λ b. report_for (i + suc j) (cond b (waiting_after i (hears p g s.controller.session).report None) (told_by_first (i + 1) p g ss)))
      (is_false (address_of s) p.address (others zero s (λ e. omega (arith, e)) refl))
      ∙ ap (λ m. report_for m (told_by_first (i + 1) p g ss)) next
      ∙ own_first_told (i + 1) j p g t ss at here (λ m u other is. others (suc m) u (λ e. other (omega (arith, e))) is)

  -- what the front of the line to the panel tells, where it comes through
  abbrev pub told_by_burst : Net H → Delivery → List (ℕ × Packet) → ℕ → Option (ℕ × Report)
  told_by_burst n Delivered (q ∷ rest) g = told_by_first 0 q.1 g n.sites
  told_by_burst n Repeated (q ∷ rest) g = told_by_first 0 q.1 g n.sites
  told_by_burst n _ qs g = None

module _ {H : Type 0} (answer_of : H → Command → Answer) (after : H → Command → H) (k : ℕ) (t : Site H) (n : Net H) (at : site_at k n.sites ≡ Some t) where
  -- what these moves of its link add
  abbrev pub AddsBy : List (Move H) → Added → Type 0
  AddsBy ms x = all_added answer_of after ms (view k t n) ≡ x

  one_adds : (m : Move H) (x : Added) → added_by answer_of after m (view k t n) ≡ x → AddsBy (m ∷ []) x
  one_adds m x is = and_nothing (added_by answer_of after m (view k t n)) ∙ is

  -- what moves of all add for this site
  abbrev pub OwnAdds : List (NetMove H) → Added → Type 0
  OwnAdds ms x = AddsBy (runs.moves_of answer_of after k ms n) x

  pub one_own : (m : NetMove H) → runs.moves_of answer_of after k (m ∷ []) n ≡ move_of k t m n
  one_own m = append-nil (runs.moves_at answer_of after k (site_at k n.sites) m n) ∙ ap (λ o. runs.moves_at answer_of after k o m n) at

  pub one_own_adds : (m : NetMove H) (x : Added) → AddsBy (move_of k t m n) x → OwnAdds (m ∷ []) x
  one_own_adds m x is = ap (λ ms. all_added answer_of after ms (view k t n)) (one_own m) ∙ is

  -- ---- a tick

  abbrev pub telling : Option Report → Added
  telling r = record nothing_added { told = option_to_list r }

  pub tick_adds : (o : Option ℕ) (g : ℕ) → OwnAdds (one_ticks o g) (telling (report_for k (told_by_tick o g n.sites)))
  tick_adds None g = refl
  tick_adds (Some entry) g =
      let r = (ticks g t.controller.session t.controller.waiting).step.report in
      one_own_adds (Tick entry g) (telling (report_for k (told_by_one entry g (site_at entry n.sites))))
      (elim (eqb_tells entry k) [
        | inl same ↦
            let told : report_for k (told_by_one entry g (site_at entry n.sites)) ≡ r =
            ap (λ o. report_for k (told_by_one entry g o)) (ap (λ i. site_at i n.sites) same.1 ∙ at) ∙ for_entry k entry r (sym same.1) in
            ap (λ b. all_added answer_of after (cond b (link.Tick g ∷ []) []) (view k t n)) same.0
            ∙ one_adds (link.Tick g) (telling (report_for k (told_by_one entry g (site_at entry n.sites)))) (ap telling (sym told))
        | inr differs ↦
            ap (λ b. all_added answer_of after (cond b (link.Tick g ∷ []) []) (view k t n)) differs.0
            ∙ ap telling (sym (none_by (λ e. differs.1 (sym e)) (site_at entry n.sites)))
      ])
    where
      none_by : k ≢ entry → (o : Option (Site H)) → report_for k (told_by_one entry g o) ≡ None
      none_by other None = refl
      none_by other (Some s) = for_others k entry (ticks g s.controller.session s.controller.waiting).step.report other

  -- ---- the packet that comes to the panel

  from_zero : 0 + k ≡ k
  from_zero = omega arith

  -- the link of this site, with this on the way to the panel
  abbrev with_line : List (ℕ × Packet) → Link H
  with_line qs = line.link_of t (own k t.coming) (own k qs)

  abbrev LineAdds : List (Move H) → List (ℕ × Packet) → Added → Type 0
  LineAdds ms qs x = all_added answer_of after ms (with_line qs) ≡ x

  lost_adds : (how : Delivery) (g : ℕ) (qs : List Packet) → all_added answer_of after (lost how g) (line.link_of t (own k t.coming) qs) ≡ nothing_added
  lost_adds Delivered g [] = and_nothing nothing_added
  lost_adds Delivered g (q ∷ qs) = and_nothing nothing_added
  lost_adds Lost g [] = and_nothing nothing_added
  lost_adds Lost g (q ∷ qs) = and_nothing nothing_added
  lost_adds Repeated g qs = refl

  closed_silent : (g : ℕ) → t.controller.session.state ≡ Closed → (ticks g t.controller.session t.controller.waiting).step.report ≡ None
  closed_silent g closed = ap (λ state. (ticks_in state (seen g t.controller.session) t.controller.waiting).step.report) closed

  sees_adds : (how : Delivery) (g : ℕ) (qs : List (ℕ × Packet)) → t.controller.session.state ≡ Closed → LineAdds (sees how g) qs nothing_added
  sees_adds Delivered g qs closed = and_nothing (added_by answer_of after (link.Tick g) (with_line qs)) ∙ ap telling (closed_silent g closed)
  sees_adds Lost g qs closed = refl
  sees_adds Repeated g qs closed = and_nothing (added_by answer_of after (link.Tick g) (with_line qs)) ∙ ap telling (closed_silent g closed)

  front_alone : (how : Delivery) (p : Packet) (ps : List Packet) (g : ℕ)
      → told_by_front how (p ∷ ps) g t.controller.session ≡ told_by_front how (p ∷ []) g t.controller.session
  front_alone Delivered p ps g = refl
  front_alone Lost p ps g = refl
  front_alone Repeated p ps g = refl

  -- a closed controller tells nothing
  front_silent : (how : Delivery) (p : Packet) (g : ℕ) → t.controller.session.state ≡ Closed → told_by_front how (p ∷ []) g t.controller.session ≡ None
  front_silent Delivered p g closed = ap (λ (h : Heard). h.report) (closed_hears p g t.controller.session closed)
  front_silent Lost p g closed = refl
  front_silent Repeated p g closed = ap (λ (h : Heard). h.report) (closed_hears p g t.controller.session closed)

  module _ (heard : HeardByOwn n) where
    told_here : (p : Packet) (g : ℕ) → address_of t ≡ p.address → report_for k (told_by_first 0 p g n.sites) ≡ (hears p g t.controller.session).report
    told_here p g here =
        ap (λ m. report_for m (told_by_first 0 p g n.sites)) (sym from_zero)
        ∙ own_first_told 0 k p g t n.sites at here (λ m u other is e. heard.addresses m k u t other is at (e ∙ sym here))

    told_away : (p : Packet) (g : ℕ) → address_of t ≢ p.address → report_for k (told_by_first 0 p g n.sites) ≡ None
    told_away p g away = ap (λ m. report_for m (told_by_first 0 p g n.sites)) (sym from_zero) ∙ other_first 0 k p g t n.sites at away

    front_told : (how : Delivery) (q : ℕ × Packet) (rest : List (ℕ × Packet)) (g : ℕ) → address_of t ≡ q.1.address
        → report_for k (told_by_burst n how (q ∷ rest) g) ≡ told_by_front how (q.1 ∷ []) g t.controller.session
    front_told Delivered q rest g here = told_here q.1 g here
    front_told Lost q rest g here = refl
    front_told Repeated q rest g here = told_here q.1 g here

    front_untold : (how : Delivery) (q : ℕ × Packet) (rest : List (ℕ × Packet)) (g : ℕ) → address_of t ≢ q.1.address
        → report_for k (told_by_burst n how (q ∷ rest) g) ≡ None
    front_untold Delivered q rest g away = told_away q.1 g away
    front_untold Lost q rest g away = refl
    front_untold Repeated q rest g away = told_away q.1 g away

    -- one's own reply
    own_adds : (how : Delivery) (q : ℕ × Packet) (rest : List (ℕ × Packet)) (g : ℕ) → q.0 ≡ k
        → LineAdds (own_reply (address_of t) q.1 how g) (q ∷ rest) (telling (report_for k (told_by_burst n how (q ∷ rest) g)))
    own_adds how q rest g mine =
        elim (eqb_tells (address_of t) q.1.address) [
          | inl here ↦
              ap (λ b. all_added answer_of after (cond b (link.ToController how g ∷ []) (lost how g)) (with_line (q ∷ rest))) here.0
              ∙ and_nothing (added_by answer_of after (link.ToController how g) (with_line (q ∷ rest)))
              ∙ ap telling (ap (λ ps. told_by_front how ps g t.controller.session) (own_first k q rest mine) ∙ front_alone how q.1 (own k rest) g
              ∙ sym (front_told how q rest g here.1))
          | inr away ↦
              ap (λ b. all_added answer_of after (cond b (link.ToController how g ∷ []) (lost how g)) (with_line (q ∷ rest))) away.0
              ∙ lost_adds how g (own k (q ∷ rest)) ∙ ap telling (sym (front_untold how q rest g away.1))
        ]

    -- one of another reader
    other_adds : (how : Delivery) (q : ℕ × Packet) (rest : List (ℕ × Packet)) (g : ℕ) → (address_of t ≡ q.1.address → t.controller.session.state ≡ Closed)
        → LineAdds (other_reply (address_of t) q.1 how g) (q ∷ rest) (telling (report_for k (told_by_burst n how (q ∷ rest) g)))
    other_adds how q rest g closed =
        elim (eqb_tells (address_of t) q.1.address) [
          | inl here ↦
              ap (λ b. all_added answer_of after (cond b (sees how g) []) (with_line (q ∷ rest))) here.0
              ∙ sees_adds how g (q ∷ rest) (closed here.1) ∙ ap telling (sym (front_told how q rest g here.1 ∙ front_silent how q.1 g (closed here.1)))
          | inr away ↦
              ap (λ b. all_added answer_of after (cond b (sees how g) []) (with_line (q ∷ rest))) away.0 ∙ ap telling (sym (front_untold how q rest g away.1))
        ]

    none_by_burst : (how : Delivery) (g : ℕ) → told_by_burst n how [] g ≡ None
    none_by_burst Delivered g = refl
    none_by_burst Lost g = refl
    none_by_burst Repeated g = refl

    line_adds : (how : Delivery) (g : ℕ) (qs : List (ℕ × Packet)) → n.to_panel ≡ qs
        → LineAdds (front_to_panel k (address_of t) qs how g) qs (telling (report_for k (told_by_burst n how qs g)))
    line_adds how g [] is = ap (λ r. telling (report_for k r)) (sym (none_by_burst how g))
    line_adds how g (q ∷ rest) is =
        let controllers = subst (Each (λ (p : ℕ × Packet). (j : ℕ) (s : Site H) → j ≢ p.0 → site_at j n.sites ≡ Some s → address_of s ≡ p.1.address
        → s.controller.session.state ≡ Closed)) is (each_of _ n.to_panel heard.controllers) in
        elim (eqb_tells q.0 k) [
          | inl mine ↦
              ap (λ b. all_added answer_of after (cond b (own_reply (address_of t) q.1 how g) (other_reply (address_of t) q.1 how g)) (with_line (q ∷ rest))) mine.0
              ∙ own_adds how q rest g mine.1
          | inr other ↦
              ap (λ b. all_added answer_of after (cond b (own_reply (address_of t) q.1 how g) (other_reply (address_of t) q.1 how g)) (with_line (q ∷ rest))) other.0
              ∙ other_adds how q rest g (controllers.0 k t (λ e. other.1 (sym e)) at)
        ]

    pub panel_adds : (how : Delivery) (g : ℕ) → OwnAdds (ToPanel how g ∷ []) (telling (report_for k (told_by_burst n how n.to_panel g)))
    panel_adds how g = one_own_adds (ToPanel how g) (telling (report_for k (told_by_burst n how n.to_panel g))) (line_adds how g n.to_panel refl)

  -- ---- all readers read

  abbrev pub taking : List Command → Added
  taking commands = record nothing_added { taken = commands }

  taken_alone : (how : Delivery) (p : Packet) (ps : List Packet) → taken_by_front answer_of after how (p ∷ ps) t.reader ≡ taken_by_front answer_of after how (p ∷ []) t.reader
  taken_alone Delivered p ps = refl
  taken_alone Lost p ps = refl
  taken_alone Repeated p ps = refl

  -- a reader at another address takes nothing
  untaken : (p : Packet) → p.address < 127 → t.reader.config.address ≢ p.address → taken_by answer_of after p t.reader ≡ []
  untaken p device other =
      elim (for_reader t.reader p device) [
        | inl here ↦ absurd (other (sym here))
        | inr silent ↦ ap (λ kind. taken_as kind (reader.hears answer_of after t.reader p).command) silent
      ]

  front_untaken : (how : Delivery) (p : Packet) → p.address < 127 → t.reader.config.address ≢ p.address
      → taken_by_front answer_of after how (p ∷ []) t.reader ≡ []
  front_untaken Delivered p device other = untaken p device other
  front_untaken Lost p device other = refl
  front_untaken Repeated p device other = untaken p device other

  pub front_adds : (how : Delivery) (q : ℕ × Packet) (rest : List (ℕ × Packet)) → HeardByOwn n → t.coming ≡ q ∷ rest
      → AddsBy (own_front k t.coming how) (taking (taken_by_front answer_of after how (q.1 ∷ []) t.reader))
  front_adds how q rest heard coming =
      let away = subst (Each (λ (p : ℕ × Packet). p.0 ≢ k → t.reader.config.address ≢ p.1.address)) coming (each_of _ t.coming (heard.readers k t at)) in
      let device = subst (Each (λ (p : ℕ × Packet). p.1.address < 127)) coming (each_of _ t.coming (heard.devices k t at)) in
      ap (λ ps. all_added answer_of after (own_front k ps how) (view k t n)) coming
      ∙ elim (eqb_tells q.0 k) [
        | inl mine ↦
            ap (λ b. all_added answer_of after (cond b (link.ToReader how ∷ []) []) (view k t n)) mine.0
            ∙ and_nothing (added_by answer_of after (link.ToReader how) (view k t n))
            ∙ ap taking (ap (λ ps. taken_by_front answer_of after how ps t.reader) (ap (own k) coming ∙ own_first k q rest mine.1) ∙ taken_alone how q.1 (own k rest))
        | inr other ↦
            ap (λ b. all_added answer_of after (cond b (link.ToReader how ∷ []) []) (view k t n)) other.0
            ∙ ap taking (sym (front_untaken how q.1 device.0 (away.0 other.1)))
      ]

-- ---- which of the moves by which all read is one's own

module _ {H : Type 0} (answer_of : H → Command → Answer) (after : H → Command → H) (k : ℕ) (t : Site H) where
  other_reads : (i : ℕ) (how : Delivery) (o : Option (Site H)) (n : Net H) → k ≢ i → site_at k n.sites ≡ Some t
      → site_at k (line.to_reader answer_of after i how o n).sites ≡ Some t
  other_reads i how None n other at = at
  other_reads i how (Some s) n other at = by_coming s.coming how
    where
      by_coming : (ps : List (ℕ × Packet)) (how : Delivery) → site_at k (line.reads_at answer_of after i ps how s n).sites ≡ Some t
      by_coming [] how = at
      by_coming (p ∷ rest) Delivered = at_other k i _ n.sites other ∙ at
      by_coming (p ∷ rest) Lost = at_other k i _ n.sites other ∙ at
      by_coming (p ∷ rest) Repeated = at_other k i _ n.sites other ∙ at

  not_own : (i : ℕ) (how : Delivery) (o : Option (Site H)) (n : Net H) → k ≢ i → runs.moves_at answer_of after k o (ToReader i how) n ≡ []
  not_own i how None n other = refl
  not_own i how (Some s) n other = ap (λ b. cond b (own_front k s.coming how) []) (is_false i k (λ e. other (sym e)))

  rest_reads : (how : Delivery) (i count : ℕ) (n : Net H) → k < i → runs.moves_of answer_of after k (each_reads how i count) n ≡ []
  rest_reads how i zero n lt = refl
  rest_reads how i (suc count) n lt =
      ap (λ ms. ms ++ runs.moves_of answer_of after k (each_reads how (suc i) count) (line.after_net answer_of after (ToReader i how) n))
      (not_own i how (site_at k n.sites) n (λ e. omega (arith, e, lt)))
      ∙ rest_reads how (suc i) count (line.after_net answer_of after (ToReader i how) n) (omega (arith, lt))

  pub own_reads : (how : Delivery) (i count : ℕ) (n : Net H) → i ≤ k → k < i + count → site_at k n.sites ≡ Some t
      → runs.moves_of answer_of after k (each_reads how i count) n ≡ own_front k t.coming how
  own_reads how i zero n le lt at = absurd (omega (arith, le, lt))
  own_reads how i (suc count) n le lt at =
      let next = line.after_net answer_of after (ToReader i how) n in
      let more = runs.moves_of answer_of after k (each_reads how (suc i) count) next in
      elim (eqb_tells i k) [
        | inl same ↦
            ap (λ o. runs.moves_at answer_of after k o (ToReader i how) n ++ more) at
            ∙ ap (λ b. cond b (own_front k t.coming how) [] ++ more) same.0
            ∙ ap (λ ms. own_front k t.coming how ++ ms) (rest_reads how (suc i) count next (omega (arith, same.1))) ∙ append-nil (own_front k t.coming how)
        | inr differs ↦
            ap (λ ms. ms ++ more) (not_own i how (site_at k n.sites) n (λ e. differs.1 (sym e)))
            ∙ own_reads how (suc i) count next (omega (arith, le, differs.1)) (omega (arith, lt))
            (other_reads i how (site_at i n.sites) n (λ e. differs.1 (sym e)) at)
      ]
