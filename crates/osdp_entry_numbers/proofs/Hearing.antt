-- What comes in, by other numbers: a packet reaches the same entry, and the same is told of it.
use Rattle.osdp_entry_numbers.proofs.Common.{◌≡◌, ℕ, false, arith, List, [], ◌∷◌, ◌++◌, map, slice_get, Option, Some, None, refl, sym, subst, ap, ◌∙◌, inl, eqb-true, map-append, option_map, Packet, RunItem, PacketItem, SkippedItem, RefusedItem, Heard, acts, is_outstanding, Report, Devices, waiting_after, address_of, entry_hears, first_from, holds, is_at, is_entry_due, reserved_after, told_of, hears_at, hears_items, hears_packet, hears_with, Entry, told_at, told_by_entry, told_by_item, told_by_items, told_with, IsFound, found, Sound, sound_item, AreNumbers, IsIdle, Numbers, renumbers}
use Rattle.osdp_controller.specs.Sessions.{seen}
use Rattle.osdp_controller.specs.Ticking.{ticks_in}
use Rattle.osdp_entry_numbers.proofs.Entries.{AreUnder, FirstUnder, IsFirst, IsIdleFirst, IsOnlyOne, IsUnder, first_of, present, set_idle, set_under}
use Rattle.osdp_link_laws.proofs.Hearing.{closed_hears}

pub record UnderDevices (n : Numbers) (ds es : Devices) : Type 0 where
  pub entries : AreUnder n ds.entries es.entries
  pub report : es.report ≡ option_map (renumbers n.ordered) ds.report

-- the one is the other by other numbers, and tells the same
pub record SameHeard (n : Numbers) (ds es : Devices) (tells others : List (ℕ × Report)) : Type 0 where
  pub under : UnderDevices n ds es
  pub told : tells ≡ map (renumbers n.ordered) others

pub told_under : (n : Numbers) (i : ℕ) (o : Option Report) → told_at (n.ordered i) o ≡ map (renumbers n.ordered) (told_at i o)
told_under n i None = refl
told_under n i (Some report) = refl

pub waits_under : (n : Numbers) (i : ℕ) (o : Option Report) (old new : Option (ℕ × Report)) → new ≡ option_map (renumbers n.ordered) old
    → waiting_after (n.ordered i) o new ≡ option_map (renumbers n.ordered) (waiting_after i o old)
waits_under n i None old new same = same
waits_under n i (Some report) old new same = refl

-- ---- an idle entry

told_nothing : (p : Packet) (now : ℕ) (g : Entry) → IsIdle g → told_of p now g ≡ None
told_nothing p now g is = ap (λ (h : Heard). h.report) (closed_hears p now g.controller.session is.closed)

idle_hears : (p : Packet) (now : ℕ) (g : Entry) → IsIdle g → IsIdle (entry_hears p now g)
idle_hears p now g is =
    let quiet = closed_hears p now g.controller.session is.closed in
    record {
      closed = ap (λ (h : Heard). h.session.state) quiet ∙ is.closed;
      waiting = is.waiting;
      reserved = ap (λ (h : Heard). reserved_after h.report g.reserved) quiet ∙ is.reserved;
    }

pub idle_holds : (g : Entry) → IsIdle g → holds g ≡ false
idle_holds g is = ap is_outstanding is.closed

pub idle_due : (now : ℕ) (g : Entry) → IsIdle g → is_entry_due now g ≡ false
idle_due now g is = ap (λ st. acts (ticks_in st (seen now g.controller.session) g.controller.waiting).step) is.closed

module _ (n : Numbers) (are : AreNumbers n) where
  only_one : (address : ℕ) (es : Devices) → Sound es → IsOnlyOne (is_at address) es.entries
  only_one address es sound i j d e at there this that =
      sound.apart address i j d e at there (inl (eqb-true (address_of d) address this)) (inl (eqb-true (address_of e) address that))

  pub packet_same : (p : Packet) (now : ℕ) (ds es : Devices) → Sound es → UnderDevices n ds es
      → SameHeard n (hears_packet p now ds) (hears_packet p now es) (told_by_item now (PacketItem p) es) (told_by_item now (PacketItem p) ds)
  packet_same p now ds es sound u = by_first (first_from 0 (is_at p.address) ds.entries) (first_from 0 (is_at p.address) es.entries)
      (first_of n are ds.entries es.entries u.entries (is_at p.address) (only_one p.address es sound))
    where
      Goal : Option ℕ → Option ℕ → Type 0
      Goal o q = SameHeard n (hears_at p now o ds) (hears_at p now q es) (told_by_entry p now q es) (told_by_entry p now o ds)

      by_entry : (i : ℕ) (o q : Option Entry) → slice_get ds.entries i ≡ o → IsUnder o q → (first_from 0 (is_at p.address) ds.entries) ≡ Some i
          → SameHeard n (hears_with p now i o ds) (hears_with p now (n.ordered i) q es) (told_with p now (n.ordered i) q) (told_with p now i o)
      by_entry i None q none under first = absurd (nobody (first_from 0 (is_at p.address) ds.entries) (found (is_at p.address) 0 ds.entries) first)
        where
          nobody : (x : Option ℕ) → IsFound (is_at p.address) 0 ds.entries x → x ≡ Some i → ⊥
          nobody None f is = absurd (let e = is in cc)
          nobody (Some j) (k, (d, (at, there, passes))) is =
              let j_is : j ≡ i = cc in
              let same : slice_get ds.entries i ≡ Some d = ap (slice_get ds.entries) (let e : i ≡ k = omega (arith, at, j_is) in e) ∙ there in
              absurd (let both = sym none ∙ same in cc)
      by_entry i (Some d) q at under first =
          subst (λ x. SameHeard n (hears_with p now i (Some d) ds) (hears_with p now (n.ordered i) x es) (told_with p now (n.ordered i) x) (told_with p now i (Some d)))
          (sym (present d (Some d) q refl under)) (record {
            under = record {
              entries = set_under n are ds.entries es.entries u.entries i d (entry_hears p now d) at;
              report = waits_under n i (told_of p now d) ds.report es.report u.report;
            };
            told = told_under n i (told_of p now d);
          })

      by_own : (o : Option ℕ) → first_from 0 (is_at p.address) ds.entries ≡ o → Goal o (option_map n.ordered o)
      by_own None is = record { under = u; told = refl }
      by_own (Some i) is = by_entry i (slice_get ds.entries i) (slice_get es.entries (n.ordered i)) refl (u.entries i) is

      by_idle : (k : ℕ) (g : Entry) → slice_get es.entries k ≡ Some g → slice_get ds.entries (n.own k) ≡ None → IsIdle g → Goal None (Some k)
      by_idle k g here nobody idle =
          let quiet = told_nothing p now g idle in
          subst (λ x. SameHeard n ds (hears_with p now k x es) (told_with p now k x) []) (sym here) (record {
            under = record {
              entries = set_idle n are ds.entries es.entries u.entries k g (entry_hears p now g) here nobody (idle_hears p now g idle);
              report = ap (λ r. waiting_after k r es.report) quiet ∙ u.report;
            };
            told = ap (told_at k) quiet;
          })

      by_first : (o q : Option ℕ) → FirstUnder n (is_at p.address) ds.entries es.entries (first_from 0 (is_at p.address) ds.entries) (first_from 0 (is_at p.address) es.entries)
          → Goal (first_from 0 (is_at p.address) ds.entries) (first_from 0 (is_at p.address) es.entries)
      by_first o q (IsFirst is) =
          subst (Goal (first_from 0 (is_at p.address) ds.entries)) (sym is) (by_own (first_from 0 (is_at p.address) ds.entries) refl)
      by_first o q (IsIdleFirst k g none is here nobody idle passes) =
          subst (λ x. Goal x (first_from 0 (is_at p.address) es.entries)) (sym none) (subst (Goal None) (sym is) (by_idle k g here nobody idle))

  pub items_same : (now : ℕ) (parts : List RunItem) (ds es : Devices) → Sound es → UnderDevices n ds es
      → SameHeard n (hears_items now parts ds) (hears_items now parts es) (told_by_items now parts es) (told_by_items now parts ds)
  items_same now [] ds es sound u = record { under = u; told = refl }
  items_same now (SkippedItem byte ∷ parts) ds es sound u = items_same now parts ds es sound u
  items_same now (RefusedItem fault ∷ parts) ds es sound u = items_same now parts ds es sound u
  items_same now (PacketItem p ∷ parts) ds es sound u =
      let one = packet_same p now ds es sound u in
      let rest = items_same now parts (hears_packet p now ds) (hears_packet p now es) (sound_item now (PacketItem p) es sound) one.under in
      record {
        under = rest.under;
        told = (λ i. one.told i ++ rest.told i)
            ∙ sym (map-append (renumbers n.ordered) (told_by_item now (PacketItem p) ds) (told_by_items now parts (hears_packet p now ds)));
      }
