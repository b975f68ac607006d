-- One row after a packet, and after damage.
use Rattle.osdp_tool_monitor_laws.proofs.Common.{◌≡◌, inl, inr, ◌<◌, ℕ, Bool, true, false, cond, eqb, List, length, get_or, set, Option, Some, None, refl, sym, subst, ap, ◌∙◌, cases_Bool, cond-false, cond-true, eqb-false, eqb-true, get_or-set_other, get_or-set_same, Packet, Found, Counts, after_damage, after_packet, counts_after, counts_after_damage, no_counts, Listening}

module _ (a : ℕ) where
  abbrev pub row : List Counts → Counts
  row cs = get_or cs a no_counts

  abbrev pub within_of : Listening → Type 0
  within_of l = a < length l.counts

  pub row_taken : (p : Packet) (clean copy : Bool) (found : Found) (cs : List Counts) → a < length cs
      → row (counts_after p clean copy found cs) ≡ cond (eqb p.address a) (after_packet p clean copy found (row cs)) (row cs)
  row_taken p clean copy found cs within = elim (cases_Bool (eqb p.address a)) [
    | inl same ↦
        subst (λ x. row (set cs x (after_packet p clean copy found (get_or cs x no_counts))) ≡ after_packet p clean copy found (row cs)) (sym (eqb-true p.address a same))
        (get_or-set_same cs a (after_packet p clean copy found (row cs)) no_counts within)
        ∙ sym (cond-true (eqb p.address a) (after_packet p clean copy found (row cs)) (row cs) same)
    | inr other ↦
        get_or-set_other cs p.address a (after_packet p clean copy found (get_or cs p.address no_counts)) no_counts (λ same. eqb-false p.address a other (sym same))
        ∙ sym (cond-false (eqb p.address a) (after_packet p clean copy found (row cs)) (row cs) other)
  ]

  abbrev pub is_at : Option ℕ → Bool
  is_at None = false
  is_at (Some b) = eqb b a

  pub row_hit : (o : Option ℕ) (cs : List Counts) → a < length cs → row (counts_after_damage o cs) ≡ cond (is_at o) (after_damage (row cs)) (row cs)
  row_hit None cs within = refl
  row_hit (Some b) cs within = elim (cases_Bool (eqb b a)) [
    | inl same ↦
        subst (λ x. row (set cs x (after_damage (get_or cs x no_counts))) ≡ after_damage (row cs)) (sym (eqb-true b a same))
        (get_or-set_same cs a (after_damage (row cs)) no_counts within)
        ∙ sym (cond-true (eqb b a) (after_damage (row cs)) (row cs) same)
    | inr other ↦
        get_or-set_other cs b a (after_damage (get_or cs b no_counts)) no_counts (λ same. eqb-false b a other (sym same))
        ∙ sym (cond-false (eqb b a) (after_damage (row cs)) (row cs) other)
  ]

  -- what damage leaves of a row
  pub undamaged : {X : Type 0} (f : Counts → X) → ((c : Counts) → f (after_damage c) ≡ f c) → (o : Option ℕ) (cs : List Counts) → a < length cs
      → f (row (counts_after_damage o cs)) ≡ f (row cs)
  undamaged {X} f same o cs within = ap f (row_hit o cs within) ∙ by_test (is_at o) (row cs)
    where
      by_test : (t : Bool) (c : Counts) → f (cond t (after_damage c) c) ≡ f c
      by_test true c = same c
      by_test false c = refl
