-- Sites by their places, and what is one's own on the line.
use Rattle.osdp_shared_line.proofs.Common.{◌≡◌, ◌≢◌, ◌⊎◌, ℕ, zero, suc, Bool, true, false, cond, List, [], ◌∷◌, ◌++◌, Option, Some, None, refl, sym, subst, ap, ◌∙◌, inl, inr, eqb_tells, ◌==◌, map, option_map, Packet, lost_at, is_false, is_true, Each, changed, site_at, tagged, own, own_place}

pub some_same : {A : Type 0} (x y : A) → Some x ≡ Some y → x ≡ y
some_same x y same = cc

module _ {A : Type 0} where
  pub at_changed : (k : ℕ) (new old : A) (ss : List A) → site_at k ss ≡ Some old → site_at k (changed k new ss) ≡ Some new
  at_changed k new old [] is = absurd cc
  at_changed zero new old (s ∷ ss) is = refl
  at_changed (suc k) new old (s ∷ ss) is = at_changed k new old ss is

  pub at_other : (k j : ℕ) (new : A) (ss : List A) → k ≢ j → site_at k (changed j new ss) ≡ site_at k ss
  at_other k j new [] other = refl
  at_other zero zero new (s ∷ ss) other = absurd (other refl)
  at_other zero (suc j) new (s ∷ ss) other = refl
  at_other (suc k) zero new (s ∷ ss) other = refl
  at_other (suc k) (suc j) new (s ∷ ss) other = at_other k j new ss (λ e. other (ap suc e))

  pub at_map : (f : A → A) (k : ℕ) (s : A) (ss : List A) → site_at k ss ≡ Some s → site_at k (map f ss) ≡ Some (f s)
  at_map f k s [] is = absurd cc
  at_map f zero s (t ∷ ss) is = let same : t ≡ s = cc in ap (λ x. Some (f x)) same
  at_map f (suc k) s (t ∷ ss) is = at_map f k s ss is

  pub changed_from : (k i : ℕ) (new old t : A) (ss : List A) → site_at i ss ≡ Some old → site_at k (changed i new ss) ≡ Some t
      → ((k ≡ i) × (t ≡ new)) ⊎ ((k ≢ i) × (site_at k ss ≡ Some t))
  changed_from k i new old t ss at is =
      elim (eqb_tells k i) [
        | inl equal ↦
            let here : site_at i (changed i new ss) ≡ Some t = subst (λ j. site_at j (changed i new ss) ≡ Some t) equal.1 is in
            inl (equal.1, some_same t new (sym here ∙ at_changed i new old ss at))
        | inr differs ↦ inr (differs.1, sym (at_other k i new ss differs.1) ∙ is)
      ]

  pub map_from : (f : A → A) (k : ℕ) (t : A) (ss : List A) → site_at k (map f ss) ≡ Some t → (s : A) × (site_at k ss ≡ Some s) × (t ≡ f s)
  map_from f k t [] is = absurd cc
  map_from f zero t (s ∷ ss) is = (s, refl, some_same t (f s) (sym is))
  map_from f (suc k) t (s ∷ ss) is = map_from f k t ss is

pub own_append : (k : ℕ) (xs ys : List (ℕ × Packet)) → own k (xs ++ ys) ≡ own k xs ++ own k ys
own_append k [] ys = refl
own_append k (x ∷ xs) ys = by_test (x.0 == k) (own_append k xs ys)
  where
    by_test : (mine : Bool) → own k (xs ++ ys) ≡ own k xs ++ own k ys
        → cond mine (x.1 ∷ own k (xs ++ ys)) (own k (xs ++ ys)) ≡ cond mine (x.1 ∷ own k xs) (own k xs) ++ own k ys
    by_test true rest = ap (λ l. x.1 ∷ l) rest
    by_test false rest = rest

pub own_first : (k : ℕ) (p : ℕ × Packet) (ps : List (ℕ × Packet)) → p.0 ≡ k → own k (p ∷ ps) ≡ p.1 ∷ own k ps
own_first k p ps is = ap (λ b. cond b (p.1 ∷ own k ps) (own k ps)) (is_true p.0 k is)

pub own_rest : (k : ℕ) (p : ℕ × Packet) (ps : List (ℕ × Packet)) → p.0 ≢ k → own k (p ∷ ps) ≡ own k ps
own_rest k p ps other = ap (λ b. cond b (p.1 ∷ own k ps) (own k ps)) (is_false p.0 k other)

pub own_mine : (k : ℕ) (ps : List Packet) → own k (tagged k ps) ≡ ps
own_mine k [] = refl
own_mine k (p ∷ ps) = own_first k (k, p) (tagged k ps) refl ∙ ap (λ l. p ∷ l) (own_mine k ps)

pub own_others : (k j : ℕ) (ps : List Packet) → k ≢ j → own k (tagged j ps) ≡ []
own_others k j [] other = refl
own_others k j (p ∷ ps) other = own_rest k (j, p) (tagged j ps) (λ e. other (sym e)) ∙ own_others k j ps other

-- nothing is one's own
pub own_none : (k : ℕ) (ps : List (ℕ × Packet)) → Each (λ (p : ℕ × Packet). p.0 ≢ k) ps → own k ps ≡ []
own_none k [] none = refl
own_none k (p ∷ ps) none = own_rest k p ps none.0 ∙ own_none k ps none.1

-- ---- what is lost out of the middle

-- of one's own what stands at this place, if anything, is lost
abbrev pub lost_own : Option ℕ → List Packet → List Packet
lost_own None ps = ps
lost_own (Some place) ps = lost_at place ps

pub own_lost : (k place : ℕ) (ps : List (ℕ × Packet)) → own k (lost_at place ps) ≡ lost_own (own_place k place ps) (own k ps)
own_lost k place [] = refl
own_lost k zero (p ∷ ps) = by_test (p.0 == k)
  where
    by_test : (mine : Bool) → own k ps ≡ lost_own (cond mine (Some 0) None) (cond mine (p.1 ∷ own k ps) (own k ps))
    by_test true = refl
    by_test false = refl
own_lost k (suc place) (p ∷ ps) = by_test (p.0 == k) (own_place k place ps) (own_lost k place ps)
  where
    by_test : (mine : Bool) (o : Option ℕ) → own k (lost_at place ps) ≡ lost_own o (own k ps)
        → cond mine (p.1 ∷ own k (lost_at place ps)) (own k (lost_at place ps))
        ≡ lost_own (cond mine (option_map suc o) o) (cond mine (p.1 ∷ own k ps) (own k ps))
    by_test true None rest = ap (λ l. p.1 ∷ l) rest
    by_test true (Some i) rest = ap (λ l. p.1 ∷ l) rest
    by_test false o rest = rest
