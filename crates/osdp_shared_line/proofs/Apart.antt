-- Names and lines: what is kept of every site and of the line, so that nobody else hears what a site says.
use Rattle.osdp_shared_line.proofs.Common.{◌≡◌, ◌≢◌, ◌⊎◌, ◌<◌, ℕ, zero, suc, List, [], ◌∷◌, ◌++◌, Some, refl, sym, subst, ap, ◌∙◌, inl, inr, Packet, CommandFits, Command, Closed, lost_at, each_append, each_map, Each, AreApart, IsAsked, IsNameOf, IsSaid, IsThere, MayComeTo, Sets, SetsReader, Somewhere, unended, Net, Site, address_of, changed, site_at, tagged}
use Rattle.osdp_shared_line.proofs.Controllers.{AreLeft}
use Rattle.osdp_shared_line.proofs.Lists.{each_kept, somewhere_rest}
use Rattle.osdp_shared_line.proofs.Readers.{StoresOwn}
use Rattle.osdp_shared_line.proofs.Sites.{changed_from}

-- ---- the order of what is said to a reader

abbrev pub IsOwnComset : ℕ → ℕ → ℕ × Packet → Type 0
IsOwnComset k to p = (p.0 ≡ k) × SetsReader to p.1

-- what takes this reader to another address stands after all that others said to that address
abbrev pub IsAfter : ℕ → ℕ × Packet → ℕ × Packet → Type 0
IsAfter k p q = p.0 ≡ k → q.0 ≢ k → (to : ℕ) → SetsReader to p.1 → q.1.address ≢ to

abbrev pub Ordered : ℕ → List (ℕ × Packet) → Type 0
Ordered k [] = Unit {0}
Ordered k (p ∷ ps) = Each (IsAfter k p) ps × Ordered k ps

pub ordered_lost : (k place : ℕ) (ps : List (ℕ × Packet)) → Ordered k ps → Ordered k (lost_at place ps)
ordered_lost k place [] order = tt
ordered_lost k zero (p ∷ ps) order = order.1
ordered_lost k (suc place) (p ∷ ps) order = (each_kept (IsAfter k p) place ps order.0, ordered_lost k place ps order.1)

-- more at the end, to where nothing before it takes the reader
pub ordered_more : (k : ℕ) (ps qs : List (ℕ × Packet)) → Each (λ p. Each (IsAfter k p) qs) ps → Ordered k qs → Ordered k ps → Ordered k (ps ++ qs)
ordered_more k [] qs all last order = last
ordered_more k (p ∷ ps) qs all last order = (each_append (IsAfter k p) ps qs order.0 all.0, ordered_more k ps qs all.1 last order.1)

-- one's own may stand everywhere
pub own_after : (k : ℕ) (p : ℕ × Packet) (qs : List Packet) → Each (IsAfter k p) (tagged k qs)
own_after k p [] = tt
own_after k p (q ∷ qs) = ((λ mine other to sets e. other refl), own_after k p qs)

pub own_ordered : (k : ℕ) (qs : List Packet) → Ordered k (tagged k qs)
own_ordered k [] = tt
own_ordered k (q ∷ qs) = (own_after k (k, q) qs, own_ordered k qs)

-- none of another takes this reader anywhere
pub others_ordered : (k i : ℕ) (qs : List Packet) → i ≢ k → Ordered k (tagged i qs)
others_ordered k i [] other = tt
others_ordered k i (q ∷ qs) other = (far qs, others_ordered k i qs other)
  where
    far : (rs : List Packet) → Each (IsAfter k (i, q)) (tagged i rs)
    far [] = tt
    far (r ∷ rs) = ((λ mine. absurd (other mine)), far rs)

pub each_tagged : (P : ℕ × Packet → Type 0) (i : ℕ) (qs : List Packet) → Each (λ q. P (i, q)) qs → Each P (tagged i qs)
each_tagged P i [] all = tt
each_tagged P i (q ∷ qs) all = (all.0, each_tagged P i qs all.1)

-- what stands after the one in front, which takes this reader there, goes nowhere near
pub each_any : {A : Type 0} (P : A → Type 0) → ((x : A) → P x) → (xs : List A) → Each P xs
each_any P f [] = tt
each_any P f (x ∷ xs) = (f x, each_any P f xs)

abbrev pub IsAway : ℕ → ℕ → ℕ × Packet → Type 0
IsAway k here q = q.0 ≢ k → here ≢ q.1.address

abbrev pub IsToDevice : ℕ × Packet → Type 0
IsToDevice q = q.1.address < 127

pub all_left : (cs : List Command) → AreLeft cs cs
all_left cs = ([], refl)

module _ {H : Type 0} where
  abbrev pub reader_address : Site H → ℕ
  reader_address s = s.reader.config.address

  abbrev pub IsClosed : Site H → Type 0
  IsClosed s = s.controller.session.state ≡ Closed

  -- ---- one site

  pub record IsKept (k : ℕ) (s : Site H) : Type 0 where
    pub device : address_of s < 127
    pub fits : Each CommandFits (unended s)
    pub devices : Each IsToDevice s.coming
    pub away : Each (IsAway k (reader_address s)) s.coming
    pub order : Ordered k s.coming
    pub stored : StoresOwn s.reader

  -- ---- all of them

  -- a controller at the address of what another's reader said is closed
  abbrev pub IsToClosed : List (Site H) → ℕ × Packet → Type 0
  IsToClosed ss q = (k : ℕ) (s : Site H) → k ≢ q.0 → site_at k ss ≡ Some s → address_of s ≡ q.1.address → IsClosed s

  pub record Apart (n : Net H) : Type 0 where
    pub names : AreApart n.sites
    pub kept : (k : ℕ) (s : Site H) → site_at k n.sites ≡ Some s → IsKept k s
    pub panel : Each (IsToClosed n.sites) n.to_panel

  -- ---- one site changes

  -- it is another one afterwards, and all others are as they were
  abbrev pub ChangesOne : ℕ → Site H → List (Site H) → List (Site H) → Type 0
  ChangesOne i t ss next = (k : ℕ) (u : Site H) → site_at k next ≡ Some u → ((k ≡ i) × (u ≡ t)) ⊎ ((k ≢ i) × (site_at k ss ≡ Some u))

  pub changes_one : (i : ℕ) (s t : Site H) (ss : List (Site H)) → site_at i ss ≡ Some s → ChangesOne i t ss (changed i t ss)
  changes_one i s t ss at k u is = changed_from k i t s u ss at is

  -- a name of the site that was none before is free
  abbrev pub NamesGo : ℕ → Site H → Site H → List (Site H) → Type 0
  NamesGo i s t ss = (a : ℕ) → IsNameOf a i t → IsNameOf a i s ⊎ ((j : ℕ) (u : Site H) → j ≢ i → site_at j ss ≡ Some u → IsNameOf a j u → ⊥)

  -- its controller stays where it is, and closed where it was, or is closed
  abbrev pub Stays : Site H → Site H → Type 0
  Stays s t = IsClosed t ⊎ ((address_of t ≡ address_of s) × (IsClosed s → IsClosed t))

  apart_from_one : (i : ℕ) (s t : Site H) (ss : List (Site H)) → site_at i ss ≡ Some s → NamesGo i s t ss → AreApart ss
      → (k : ℕ) (u : Site H) → k ≢ i → site_at k ss ≡ Some u → (a : ℕ) → IsNameOf a i t → IsNameOf a k u → ⊥
  apart_from_one i s t ss at names apart k u other is a mine its =
      elim (names a mine) [
        | inl old ↦ apart k i u s other is at a its old
        | inr free ↦ free k u other is its
      ]

  pub names_one : (i : ℕ) (s t : Site H) (ss next : List (Site H)) → site_at i ss ≡ Some s → ChangesOne i t ss next → NamesGo i s t ss
      → AreApart ss → AreApart next
  names_one i s t ss next at from names apart j k u v other here there a mine its =
      elim (from j u here) [
        | inl first ↦ elim (from k v there) [
          | inl both ↦ absurd (other (first.0 ∙ sym both.0))
          | inr second ↦ apart_from_one i s t ss at names apart k v second.0 second.1 a
              (subst (λ w. IsNameOf a i w) first.1 (subst (λ l. IsNameOf a l u) first.0 mine)) its
        ]
        | inr first ↦ elim (from k v there) [
          | inl second ↦ apart_from_one i s t ss at names apart j u first.0 first.1 a
              (subst (λ w. IsNameOf a i w) second.1 (subst (λ l. IsNameOf a l v) second.0 its)) mine
          | inr second ↦ apart j k u v other first.1 second.1 a mine its
        ]
      ]

  pub kept_one : (i : ℕ) (t : Site H) (ss next : List (Site H)) → ChangesOne i t ss next → IsKept i t
      → ((k : ℕ) (s : Site H) → site_at k ss ≡ Some s → IsKept k s) → (k : ℕ) (u : Site H) → site_at k next ≡ Some u → IsKept k u
  kept_one i t ss next from kept all k u is =
      elim (from k u is) [
        | inl here ↦ subst (λ j. IsKept j u) (sym here.0) (subst (IsKept i) (sym here.1) kept)
        | inr there ↦ all k u there.1
      ]

  pub panel_one : (i : ℕ) (s t : Site H) (ss next : List (Site H)) (qs : List (ℕ × Packet)) → site_at i ss ≡ Some s → ChangesOne i t ss next
      → Stays s t → Each (IsToClosed ss) qs → Each (IsToClosed next) qs
  panel_one i s t ss next qs at from stays all = each_map (IsToClosed ss) (IsToClosed next) each qs all
    where
      each : (q : ℕ × Packet) → IsToClosed ss q → IsToClosed next q
      each q closed k u other is here =
          elim (from k u is) [
            | inl mine ↦ subst IsClosed (sym mine.1) (elim stays [
              | inl shut ↦ shut
              | inr still ↦ still.1 (closed i s (λ e. other (mine.0 ∙ e)) at (sym still.0 ∙ sym (ap address_of mine.1) ∙ here))
            ])
            | inr there ↦ closed k u other there.1 here
          ]

  -- all of it
  pub one_changes : (i : ℕ) (s t : Site H) (n : Net H) → site_at i n.sites ≡ Some s → NamesGo i s t n.sites → IsKept i t → Stays s t → Apart n
      → Apart (record n { sites = changed i t n.sites })
  one_changes i s t n at names kept stays a =
      let next = changed i t n.sites in
      let from = changes_one i s t n.sites at in
      record {
        names = names_one i s t n.sites next at from names a.names;
        kept = kept_one i t n.sites next from kept a.kept;
        panel = panel_one i s t n.sites next n.to_panel at from stays a.panel;
      }

  pub with_panel : (n : Net H) (qs : List (ℕ × Packet)) → Each (IsToClosed n.sites) qs → Apart n → Apart (record n { to_panel = qs })
  with_panel n qs panel a = record { names = a.names; kept = a.kept; panel = panel }

  -- ---- names that stay

  -- the reader where it was, no more commands unended, and no more to read
  pub names_less : (i : ℕ) (s t : Site H) (a : ℕ) → reader_address t ≡ reader_address s → AreLeft (unended s) (unended t)
      → ((P : ℕ × Packet → Type 0) → Somewhere P t.coming → Somewhere P s.coming) → MayComeTo a i t → MayComeTo a i s
  names_less i s t a same left fewer (IsThere is) = IsThere (sym same ∙ is)
  names_less i s t a same left fewer (IsAsked is) =
      IsAsked (subst (Somewhere (Sets a)) (sym left.1) (somewhere_rest (Sets a) left.0 (unended t) is))
  names_less i s t a same left fewer (IsSaid is) = IsSaid (fewer (λ q. (q.0 ≡ i) × SetsReader a q.1) is)
