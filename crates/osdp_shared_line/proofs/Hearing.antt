-- Who hears a packet.
use Rattle.osdp_shared_line.proofs.Common.{◌≡◌, ◌≢◌, ◌⊎◌, ◌<◌, ℕ, zero, suc, Bool, true, false, cond, eqb, List, [], ◌∷◌, ◌++◌, Some, refl, sym, subst, ap, ◌∙◌, inl, inr, arith, eqb_tells, append-nil, ◌||◌, not, option_to_list, Packet, Command, meaning_of, seen, Session, Closed, ReaderState, kind_by_number, kind_of, outcome, Answer, Kind, Link, is_false, is_true, Site, address_of, first_gets, gets, site_at}
use Rattle.osdp_controller.specs.Hearing as controller
use Rattle.osdp_reader.specs.declared.kind.Kind.TheVariants as kind
use Rattle.osdp_link_laws.specs.Link as link

-- what is said to a reader comes to its address, or to another
pub by_address : {X R : Type 0} (here to : ℕ) → X ⊎ (here ≢ to) → (X → here ≡ to → R) → (here ≢ to → R) → R
by_address here to sets heard unheard =
    elim (eqb_tells here to) [
      | inl equal ↦ elim sets [ inl own ↦ heard own equal.1 | inr other ↦ absurd (other equal.1) ]
      | inr differs ↦ unheard differs.1
    ]

-- ---- controllers

module _ {H : Type 0} where
  -- a controller at another address gets nothing
  pub first_other : (p : Packet) (now : ℕ) (k : ℕ) (s : Site H) (ss : List (Site H)) → site_at k ss ≡ Some s → address_of s ≢ p.address
      → site_at k (first_gets p now ss) ≡ Some s
  first_other p now k s [] is other = absurd cc
  first_other p now k s (t ∷ ss) is other =
      elim (eqb_tells (address_of t) p.address) [
        | inl equal ↦ subst (λ b. site_at k (cond b (gets p now t ∷ ss) (t ∷ first_gets p now ss)) ≡ Some s) (sym equal.0) (found k is equal.1)
        | inr differs ↦ subst (λ b. site_at k (cond b (gets p now t ∷ ss) (t ∷ first_gets p now ss)) ≡ Some s) (sym differs.0)
            (passed k is (λ j here. first_other p now j s ss here other))
      ]
    where
      found : (k : ℕ) → site_at k (t ∷ ss) ≡ Some s → address_of t ≡ p.address → site_at k (gets p now t ∷ ss) ≡ Some s
      found zero is at = absurd (other (let same : t ≡ s = cc in ap address_of (sym same) ∙ at))
      found (suc k) is at = is

      passed : (k : ℕ) → site_at k (t ∷ ss) ≡ Some s → ((j : ℕ) → site_at j ss ≡ Some s → site_at j (first_gets p now ss) ≡ Some s)
          → site_at k (t ∷ first_gets p now ss) ≡ Some s
      passed zero is rest = is
      passed (suc k) is rest = rest k is

  -- the one that is at the packet's address, alone, gets it
  pub first_own : (p : Packet) (now : ℕ) (k : ℕ) (s : Site H) (ss : List (Site H)) → site_at k ss ≡ Some s → address_of s ≡ p.address
      → ((j : ℕ) (t : Site H) → j ≢ k → site_at j ss ≡ Some t → address_of t ≢ p.address) → site_at k (first_gets p now ss) ≡ Some (gets p now s)
  first_own p now k s [] is at others = absurd cc
  first_own p now zero s (t ∷ ss) is at others =
      let same : t ≡ s = cc in
      ap (λ b. site_at zero (cond b (gets p now t ∷ ss) (t ∷ first_gets p now ss))) (is_true (address_of t) p.address (ap address_of same ∙ at))
      ∙ ap (λ u. Some (gets p now u)) same
  first_own p now (suc k) s (t ∷ ss) is at others =
      ap (λ b. site_at (suc k) (cond b (gets p now t ∷ ss) (t ∷ first_gets p now ss))) (is_false (address_of t) p.address (others zero t (λ e. absurd (omega (arith, e))) refl))
      ∙ first_own p now k s ss is at (λ j u other there. others (suc j) u (λ e. other (omega (arith, e))) there)

-- one that is closed hears nothing: it sees the moment
pub closed_hears : (p : Packet) (now : ℕ) (s : Session) → s.state ≡ Closed → controller.hears p now s ≡ controller.ignores (seen now s)
closed_hears p now s closed =
    ap (λ state. cond (controller.is_from_reader p s) (controller.hears_in state p.sequence (meaning_of p) (seen now s)) (controller.ignores (seen now s))) closed
    ∙ either (controller.is_from_reader p s)
  where
    either : (b : Bool) → cond b (controller.ignores (seen now s)) (controller.ignores (seen now s)) ≡ controller.ignores (seen now s)
    either true = refl
    either false = refl

-- ---- readers

module _ {H : Type 0} where
  -- a packet to a device's address is for this reader, or it is silent
  pub for_reader : (r : ReaderState H) (p : Packet) → p.address < 127 → (p.address ≡ r.config.address) ⊎ (kind_of r p ≡ kind.Silent)
  for_reader r p device =
      elim (eqb_tells p.address r.config.address) [
        | inl equal ↦ inl equal.1
        | inr differs ↦ elim (eqb_tells p.address 127) [
          | inl far ↦ absurd (let is = far.1 in omega (arith, device, is))
          | inr near ↦ inr (silent p.reply (eqb p.address r.config.address) (eqb p.address 127) differs.0 near.0)
        ]
      ]
    where
      rest : Kind
      rest = cond p.block kind.Secured (cond (eqb p.sequence 0) (cond r.busy kind.Busy kind.Zero) (kind_by_number r.last p.sequence r.busy))

      silent : (reply here all : Bool) → here ≡ false → all ≡ false → cond (reply || not (here || all)) kind.Silent rest ≡ kind.Silent
      silent true here all h a = refl
      silent false true all h a = absurd cc
      silent false false true h a = absurd cc
      silent false false false h a = refl

  -- one at another address does nothing and says nothing
  module _ (answer_of : H → Command → Answer) (after : H → Command → H) where
    pub silent : (p : Packet) (l : Link H) → p.address < 127 → l.reader.config.address ≢ p.address
        → link.reader_gets answer_of after p l ≡ l
    silent p l device other =
        elim (for_reader l.reader p device) [
          | inl here ↦ absurd (other (sym here))
          | inr is ↦
              ap (λ k. let o = outcome answer_of after k l.reader p in
              record l {
                reader = o.reader;
                to_controller = l.to_controller ++ option_to_list o.reply;
              }) is
              ∙ ap (λ qs. record l { to_controller = qs }) (append-nil l.to_controller)
        ]
