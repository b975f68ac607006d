-- Over a round of one site every reader reads, and only that site's own reader answers.
use Rattle.osdp_shared_line.proofs.Common.{◌≡◌, ◌≢◌, ◌⊎◌, ◌<◌, ◌≤◌, ◌+◌, ℕ, zero, suc, true, false, cond, eqb, List, [], ◌∷◌, ◌++◌, Option, Some, None, IfSome, refl, sym, subst, ap, ◌∙◌, inl, inr, arith, eqb_tells, leb_tells, append-nil, option_to_list, Packet, Command, Answer, SaysWhatFitsIf, Delivered, Link, after_move, ReadsWhatIsAsked, Each, IsThere, NetMovesFit, in_front, Net, Site, ToReader, address_of, after_net, changed, left_by, link_of, run, site_at, tagged, all_read, IsMoved, own, own_front, view}
use Rattle.osdp_reader.specs.Table as reader
use Rattle.osdp_link_laws.specs.Link as link
use Rattle.osdp_shared_line.specs.Line as line
use Rattle.osdp_shared_line.proofs.Apart.{Apart, IsAway, IsKept, IsToDevice, reader_address}
use Rattle.osdp_shared_line.proofs.Hearing.{silent}
use Rattle.osdp_shared_line.proofs.Moving.{each_is_its_own, one_is, one_not}
use Rattle.osdp_shared_line.proofs.Readers.{IsForAll, IsFrom, IsNoAddress, StoresFrom, reads_well}
use Rattle.osdp_shared_line.proofs.Running.{apart_after, by_own}
use Rattle.osdp_shared_line.proofs.Sites.{changed_from, own_first, some_same}

module _ {H : Type 0} (answer_of : H → Command → Answer) (after : H → Command → H) (known : ReadsWhatIsAsked) where
  -- readers before this place have read; the others have this to read, which the controller of site i has said. What is said back comes from
  -- an address where no other controller is, and from its own controller's where it and the reader are together and what this stores is from
  -- there.
  pub record Between (place total i : ℕ) (o : Option Packet) (Together : Type 0) (n : Net H) : Type 0 where
    pub few : (m : ℕ) (u : Site H) → site_at m n.sites ≡ Some u → m < total
    pub unread : (m : ℕ) (u : Site H) → site_at m n.sites ≡ Some u → place ≤ m → u.coming ≡ tagged i (option_to_list o)
    pub read : (m : ℕ) (u : Site H) → site_at m n.sites ≡ Some u → m < place → u.coming ≡ []
    pub said : Option Packet
    pub panel : n.to_panel ≡ tagged i (option_to_list said)
    pub before : place ≤ i → said ≡ None
    pub mine : place ≤ i → (u : Site H) → site_at i n.sites ≡ Some u → Together → (reader_address u ≡ address_of u) × StoresFrom IsNoAddress u.reader
    pub away : IfSome said (λ q. (m : ℕ) (u : Site H) → m ≢ i → site_at m n.sites ≡ Some u → address_of u ≢ q.address)
    pub own : IfSome said (λ q. (u : Site H) → site_at i n.sites ≡ Some u → Together → address_of u ≡ q.address)

  -- ---- one reader reads

  module _ (place total i : ℕ) (o : Option Packet) (Together : Type 0) (n : Net H) (a : Apart n) (b : Between place total i o Together n) where
    abbrev Next : Net H → Type 0
    Next = Between (suc place) total i o Together

    -- nothing changes, and nothing was there to be read
    unchanged : ((u : Site H) → site_at place n.sites ≡ Some u → u.coming ≡ []) → Next n
    unchanged empty = record {
      few = b.few;
      unread = λ m u is le. b.unread m u is (omega (arith, le));
      read = λ m u is lt. elim (leb_tells place m) [
        | inl more ↦
            let above = more.1 in
            let same : m ≡ place = omega (arith, lt, above) in
            empty u (subst (λ j. site_at j n.sites ≡ Some u) same is)
        | inr less ↦ b.read m u is less.1
      ];
      said = b.said;
      panel = b.panel;
      before = λ le. b.before (omega (arith, le));
      mine = λ le. b.mine (omega (arith, le));
      away = b.away;
      own = b.own;
    }

    -- one site is another now, which has nothing more to read, with its controller where it was
    module _ (u t : Site H) (at : site_at place n.sites ≡ Some u) (none : t.coming ≡ []) (there : address_of t ≡ address_of u) where
      abbrev Sites : List (Site H)
      Sites = changed place t n.sites

      few : (m : ℕ) (v : Site H) → site_at m Sites ≡ Some v → m < total
      few m v is = elim (changed_from m place t u v n.sites at is) [
        | inl here ↦ subst (λ j. j < total) (sym here.0) (b.few place u at)
        | inr other ↦ b.few m v other.1
      ]

      unread : (m : ℕ) (v : Site H) → site_at m Sites ≡ Some v → suc place ≤ m → v.coming ≡ tagged i (option_to_list o)
      unread m v is le = elim (changed_from m place t u v n.sites at is) [
        | inl here ↦ let same = here.0 in absurd (omega (arith, same, le))
        | inr other ↦ b.unread m v other.1 (omega (arith, le))
      ]

      read : (m : ℕ) (v : Site H) → site_at m Sites ≡ Some v → m < suc place → v.coming ≡ []
      read m v is lt = elim (changed_from m place t u v n.sites at is) [
        | inl here ↦ ap (λ (w : Site H). w.coming) here.1 ∙ none
        | inr other ↦ elim (leb_tells place m) [
          | inl more ↦ absurd (other.0 (let above = more.1 in omega (arith, lt, above)))
          | inr less ↦ b.read m v other.1 less.1
        ]
      ]

      -- where the controllers of all are
      from : (m : ℕ) (v : Site H) → site_at m Sites ≡ Some v → (w : Site H) × (site_at m n.sites ≡ Some w) × (address_of v ≡ address_of w)
      from m v is = elim (changed_from m place t u v n.sites at is) [
        | inl here ↦ (u, subst (λ j. site_at j n.sites ≡ Some u) (sym here.0) at, ap address_of here.1 ∙ there)
        | inr other ↦ (v, other.1, refl)
      ]

      -- the reader of another site: it is silent
      silently : place ≢ i → (qs : List (ℕ × Packet)) → qs ≡ n.to_panel → Next (record n { sites = Sites; to_panel = qs })
      silently other qs same = record {
        few = few;
        unread = unread;
        read = read;
        said = b.said;
        panel = same ∙ b.panel;
        before = λ le. b.before (omega (arith, le));
        mine = λ le v is together. elim (changed_from i place t u v n.sites at is) [
          | inl here ↦ absurd (other (sym here.0))
          | inr there ↦ b.mine (omega (arith, le)) v there.1 together
        ];
        away = if_map b.said (λ q far m v differs is. let w = from m v is in subst (λ x. x ≢ q.address) (sym w.2) (far m w.0 differs w.1)) b.away;
        own = if_map b.said (λ q near v is together. let w = from i v is in w.2 ∙ near w.0 w.1 together) b.own;
      }
        where
          if_map : {A : Type 0} {P Q : A → Type 0} (x : Option A) → ((y : A) → P y → Q y) → IfSome x P → IfSome x Q
          if_map None f is = tt
          if_map (Some y) f is = f y is

      -- its own reader: it answers from where it was
      answering : place ≡ i → (r : Option Packet) → IfSome r (IsFrom IsForAll (reader_address u))
          → (StoresFrom IsNoAddress u.reader → IfSome r (IsFrom IsNoAddress (reader_address u))) → (qs : List (ℕ × Packet))
          → qs ≡ n.to_panel ++ tagged place (option_to_list r) → Next (record n { sites = Sites; to_panel = qs })
      answering here r from_here from_own qs same = record {
        few = few;
        unread = unread;
        read = read;
        said = r;
        panel = same
            ∙ ap (λ l. l ++ tagged place (option_to_list r)) (b.panel ∙ ap (λ x. tagged i (option_to_list x)) (b.before (omega (arith, here))))
            ∙ ap (λ j. tagged j (option_to_list r)) here;
        before = λ le. absurd (omega (arith, here, le));
        mine = λ le. absurd (omega (arith, here, le));
        away = away r from_here;
        own = own r from_own;
      }
        where
          its : site_at i n.sites ≡ Some u
          its = subst (λ j. site_at j n.sites ≡ Some u) here at

          away : (r : Option Packet) → IfSome r (IsFrom IsForAll (reader_address u))
              → IfSome r (λ q. (m : ℕ) (v : Site H) → m ≢ i → site_at m Sites ≡ Some v → address_of v ≢ q.address)
          away None is = tt
          away (Some q) is = λ m v differs there e.
              let w = from m v there in
              elim is [
                | inl mine ↦ a.names m i w.0 u differs w.1 its q.address (inl (sym w.2 ∙ e)) (inr (IsThere (sym mine)))
                | inr all ↦ let device = (a.kept m w.0 w.1).device in let same = w.2 in omega (arith, device, same, e, all)
              ]

          own : (r : Option Packet) → (StoresFrom IsNoAddress u.reader → IfSome r (IsFrom IsNoAddress (reader_address u)))
              → IfSome r (λ q. (v : Site H) → site_at i Sites ≡ Some v → Together → address_of v ≡ q.address)
          own None is = tt
          own (Some q) is = λ v there together.
              let w = from i v there in
              let mine = b.mine (omega (arith, here)) u its together in
              w.2 ∙ ap address_of (some_same w.0 u (sym w.1 ∙ its)) ∙ sym mine.0 ∙ elim (is mine.1) [ inl its_own ↦ sym its_own | inr none ↦ absurd none ]

    reads : (x : Option (Site H)) → site_at place n.sites ≡ x → Next (line.to_reader answer_of after place Delivered x n)
    reads None none = unchanged (λ u is. absurd cc)
    reads (Some u) at = front u at o (b.unread place u at (omega arith))
      where
        front : (u : Site H) → site_at place n.sites ≡ Some u → (x : Option Packet) → u.coming ≡ tagged i (option_to_list x)
            → Next (line.reads_at answer_of after place u.coming Delivered u n)
        front u at None coming =
            subst (λ ps. Next (line.reads_at answer_of after place ps Delivered u n)) (sym coming)
            (unchanged (λ v is. ap (λ (w : Site H). w.coming) (some_same v u (sym is ∙ at)) ∙ coming))
        front u at (Some p) coming = subst (λ ps. Next (line.reads_at answer_of after place ps Delivered u n)) (sym coming) heard
          where
            left : Site H
            left = record u { coming = [] }

            h : IsKept place u
            h = a.kept place u at

            device : p.address < 127
            device = (subst (Each IsToDevice) coming h.devices).0

            outcome : reader.Outcome H
            outcome = reader.hears answer_of after u.reader p

            l : Link H
            l = link.reader_gets answer_of after p (link_of left [] [])

            t : Site H
            t = left_by left l

            quiet : reader_address u ≢ p.address → l ≡ link_of left [] []
            quiet other = silent answer_of after p (link_of left [] []) device other

            said : (Others : ℕ → Type 0) → StoresFrom Others u.reader → IfSome outcome.reply (IsFrom Others (reader_address u))
            said Others stores = elim (eqb_tells (reader_address u) p.address) [
              | inl equal ↦ (reads_well Others answer_of after u.reader p (sym equal.1) stores).said
              | inr differs ↦ none_said outcome.reply (ap (λ (v : Link H). v.to_controller) (quiet differs.1))
            ]
              where
                none_said : (r : Option Packet) → option_to_list r ≡ [] → IfSome r (IsFrom Others (reader_address u))
                none_said None none = tt
                none_said (Some q) none = absurd cc

            heard : Next (line.hears_at answer_of after place p left n)
            heard = elim (eqb_tells place i) [
              | inl equal ↦ answering u t at refl refl equal.1 outcome.reply (said IsForAll h.stored) (said IsNoAddress) (n.to_panel ++ tagged place l.to_controller) refl
              | inr differs ↦ silently u t at refl refl differs.1 (n.to_panel ++ tagged place l.to_controller)
                  (ap (λ (v : Link H). n.to_panel ++ tagged place v.to_controller)
                  (quiet ((subst (Each (IsAway place (reader_address u))) coming h.away).0 (λ e. differs.1 (sym e))))
                  ∙ append-nil n.to_panel)
            ]

  -- ---- all of them read

  pub all_between : (place count last total i : ℕ) (o : Option Packet) (Together : Type 0) (n : Net H) → place + count ≡ last
      → NetMovesFit answer_of after (all_read place count) n → Apart n → Between place total i o Together n
      → Apart (run answer_of after (all_read place count) n) × Between last total i o Together (run answer_of after (all_read place count) n)
  all_between place zero last total i o Together n ends fits a b =
      let same : place ≡ last = omega (arith, ends) in
      (a, subst (λ c. Between c total i o Together n) same b)
  all_between place (suc count) last total i o Together n ends fits a b =
      all_between (suc place) count last total i o Together (after_net answer_of after (ToReader place Delivered) n) (omega (arith, ends)) fits.1
      (apart_after answer_of after known (ToReader place Delivered) n fits.0 a) (reads place total i o Together n a b (site_at place n.sites) refl)

  -- ---- what that is to each site

  -- what was said to another's reader alone
  others_front : (k i : ℕ) (o : Option Packet) → i ≢ k → own_front {H = H} k (tagged i (option_to_list o)) Delivered ≡ []
  others_front k i None other = refl
  others_front k i (Some p) other = one_not i k (link.ToReader Delivered) other

  pub record IsSeen (k : ℕ) (l : Link H) (n : Net H) : Type 0 where
    pub site : Site H
    pub there : site_at k n.sites ≡ Some site
    pub seen : view k site n ≡ l

  -- nothing, where the reader has read already, or what is said is none of its own
  pub reads_none : (place count total i : ℕ) (o : Option Packet) (Together : Type 0) (n : Net H) (k : ℕ) (s : Site H) → site_at k n.sites ≡ Some s
      → NetMovesFit answer_of after (all_read place count) n → Apart n → Between place total i o Together n → (i ≢ k) ⊎ (k < place)
      → IsSeen k (view k s n) (run answer_of after (all_read place count) n)
  reads_none place zero total i o Together n k s is fits a b why = record { site = s; there = is; seen = refl }
  reads_none place (suc count) total i o Together n k s is fits a b why =
      let next = after_net answer_of after (ToReader place Delivered) n in
      let m = each_is_its_own answer_of after n (ToReader place Delivered) (by_own n a) tt k s is in
      let rest = reads_none (suc place) count total i o Together next k m.site m.there fits.1
      (apart_after answer_of after known (ToReader place Delivered) n fits.0 a)
      (reads place total i o Together n a b (site_at place n.sites) refl)
      (elim why [ inl other ↦ inl other | inr lt ↦ inr (omega (arith, lt)) ]) in
      record {
        site = rest.site;
        there = rest.there;
        seen = rest.seen ∙ m.moved ∙ ap (λ ms. link.run answer_of after ms (view k s n)) (none (eqb_tells place k));
      }
    where
      none : ((eqb place k ≡ true) × (place ≡ k)) ⊎ ((eqb place k ≡ false) × (place ≢ k)) → cond (eqb place k) (own_front {H = H} k s.coming Delivered) [] ≡ []
      none (inl equal) =
          ap (λ c. cond c (own_front k s.coming Delivered) []) equal.0
          ∙ ap (λ ps. own_front k ps Delivered) (b.unread k s is (let here = equal.1 in omega (arith, here)))
          ∙ others_front k i o (elim why [ inl other ↦ other | inr lt ↦ let here = equal.1 in absurd (omega (arith, here, lt)) ])
      none (inr differs) = ap (λ c. cond c (own_front k s.coming Delivered) []) differs.0

  -- the own reader reads what its controller said
  pub reads_own : (place count total i : ℕ) (o : Option Packet) (Together : Type 0) (n : Net H) (s : Site H) → site_at i n.sites ≡ Some s
      → place ≤ i → i < place + count → NetMovesFit answer_of after (all_read place count) n → Apart n → Between place total i o Together n
      → SaysWhatFitsIf answer_of after Delivered (own i s.coming) s.reader
      × IsSeen i (after_move answer_of after (link.ToReader Delivered) (view i s n)) (run answer_of after (all_read place count) n)
  reads_own place zero total i o Together n s is le lt fits a b = absurd (omega (arith, le, lt))
  reads_own place (suc count) total i o Together n s is le lt fits a b =
      by_test (eqb_tells place i)
      (λ above. reads_own (suc place) count total i o Together next m.site m.there above (omega (arith, lt)) fits.1 apart between)
    where
      next : Net H
      next = after_net answer_of after (ToReader place Delivered) n

      m : IsMoved answer_of after i s (cond (eqb place i) (own_front i s.coming Delivered) []) n next
      m = each_is_its_own answer_of after n (ToReader place Delivered) (by_own n a) tt i s is

      apart : Apart next
      apart = apart_after answer_of after known (ToReader place Delivered) n fits.0 a

      between : Between (suc place) total i o Together next
      between = reads place total i o Together n a b (site_at place n.sites) refl

      -- its front, or none
      front : (ps : List (ℕ × Packet)) (x : Option Packet) → ps ≡ tagged i (option_to_list x)
          → link.run answer_of after (own_front i ps Delivered) (link_of s (own i ps) (own i n.to_panel))
          ≡ link.to_reader answer_of after (own i ps) Delivered (link_of s (own i ps) (own i n.to_panel))
      front ps None is = subst (λ l. link.run answer_of after (own_front i l Delivered) (link_of s (own i l) (own i n.to_panel))
          ≡ link.to_reader answer_of after (own i l) Delivered (link_of s (own i l) (own i n.to_panel))) (sym is) refl
      front ps (Some p) is = subst (λ l. link.run answer_of after (own_front i l Delivered) (link_of s (own i l) (own i n.to_panel))
          ≡ link.to_reader answer_of after (own i l) Delivered (link_of s (own i l) (own i n.to_panel))) (sym is)
          (ap (λ ms. link.run answer_of after ms (link_of s (own i ((i, p) ∷ [])) (own i n.to_panel))) (one_is i i (link.ToReader Delivered) refl))

      says : (ps : List (ℕ × Packet)) (x : Option Packet) → ps ≡ tagged i (option_to_list x)
          → SaysWhatFitsIf answer_of after Delivered (in_front ps) s.reader → SaysWhatFitsIf answer_of after Delivered (own i ps) s.reader
      says ps None is fits = subst (λ l. SaysWhatFitsIf answer_of after Delivered (own i l) s.reader) (sym is) tt
      says ps (Some p) is fits =
          subst (λ l. SaysWhatFitsIf answer_of after Delivered (own i l) s.reader) (sym is)
          (subst (λ l. SaysWhatFitsIf answer_of after Delivered l s.reader) (sym (own_first i (i, p) [] refl))
          (subst (λ l. SaysWhatFitsIf answer_of after Delivered (in_front l) s.reader) is fits))

      coming : s.coming ≡ tagged i (option_to_list o)
      coming = b.unread i s is le

      by_test : ((eqb place i ≡ true) × (place ≡ i)) ⊎ ((eqb place i ≡ false) × (place ≢ i))
          → (suc place ≤ i → SaysWhatFitsIf answer_of after Delivered (own i m.site.coming) m.site.reader
          × IsSeen i (after_move answer_of after (link.ToReader Delivered) (view i m.site next)) (run answer_of after (all_read (suc place) count) next))
          → SaysWhatFitsIf answer_of after Delivered (own i s.coming) s.reader
          × IsSeen i (after_move answer_of after (link.ToReader Delivered) (view i s n)) (run answer_of after (all_read (suc place) count) next)
      by_test (inl equal) later =
          let rest = reads_none (suc place) count total i o Together next i m.site m.there fits.1 apart between (inr (let here = equal.1 in omega (arith, here))) in (
            says s.coming o coming (fits.0 s (subst (λ j. site_at j n.sites ≡ Some s) (sym equal.1) is)),
            record {
              site = rest.site;
              there = rest.there;
              seen = rest.seen ∙ m.moved ∙ ap (λ c. link.run answer_of after (cond c (own_front i s.coming Delivered) []) (view i s n)) equal.0
                  ∙ front s.coming o coming;
            },
          )
      by_test (inr differs) later =
          let same : view i m.site next ≡ view i s n =
          m.moved ∙ ap (λ c. link.run answer_of after (cond c (own_front i s.coming Delivered) []) (view i s n)) differs.0 in
          let rest = later (beyond differs.1) in (
            subst (λ (l : Link H). SaysWhatFitsIf answer_of after Delivered l.to_reader l.reader) same rest.0,
            record {
              site = rest.1.site;
              there = rest.1.there;
              seen = rest.1.seen ∙ ap (after_move answer_of after (link.ToReader Delivered)) same;
            },
          )
        where
          beyond : place ≢ i → suc place ≤ i
          beyond other = elim (leb_tells (suc place) i) [ inl more ↦ more.1 | inr less ↦ absurd (other (let below = less.1 in omega (arith, le, below))) ]
