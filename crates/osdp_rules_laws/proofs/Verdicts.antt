-- What findings along a list come to.
use Rattle.osdp_rules_laws.proofs.Common.{◌≡◌, ◌≢◌, ◌⊎◌, inl, inr, List, [], ◌∷◌, refl, subst, ap, ◌∙◌}
use Rattle.std.specs.Prelude.{◌++◌, ◌↔◌}
use Rattle.osdp_rules.specs.Runs.{Sent}
use Rattle.osdp_rules.specs.Verdicts.{verdict_after}
use Rattle.osdp_rules.specs.declared.finding.Finding.{Finding}
use Rattle.osdp_rules.specs.declared.finding.Finding.TheVariants as finding
use Rattle.osdp_rules.specs.declared.verdict.Verdict.{Verdict}
use Rattle.osdp_rules.specs.declared.verdict.Verdict.TheVariants.{Unclear, Ok, Either, Broken}
use Rattle.osdp_rules_laws.specs.Lists.{Nowhere, Somewhere}
use Rattle.osdp_rules_laws.proofs.Answering.{Is}

-- ---- one finding more

broken_after : (v : Verdict) (e : Finding) → verdict_after v e ≡ Broken → (v ≡ Broken) ⊎ (e ≡ finding.Broken)
broken_after Broken e h = inl refl
broken_after Unclear finding.Broken h = inr refl
broken_after Ok finding.Broken h = inr refl
broken_after Either finding.Broken h = inr refl
broken_after v e h = absurd (cc h)

after_broken : (v : Verdict) → verdict_after v finding.Broken ≡ Broken
after_broken Broken = refl
after_broken v = refl

unbroken_after : (v : Verdict) (e : Finding) → verdict_after v e ≢ Broken → (v ≢ Broken) × (e ≢ finding.Broken)
unbroken_after v e h = (λ is. h (ap (λ w. verdict_after w e) is), λ is. h (ap (λ f. verdict_after v f) is ∙ after_broken v))

open_after : (v : Verdict) (e : Finding) → verdict_after v e ≡ Either → (v ≡ Either) ⊎ (e ≡ finding.Either)
open_after Either finding.Nothing h = inl refl
open_after Either finding.Kept h = inl refl
open_after v finding.Either h = inr refl
open_after v e h = absurd (cc h)

unopened_after : (v : Verdict) (e : Finding) → verdict_after v e ≢ Broken → verdict_after v e ≢ Either → (v ≢ Either) × (e ≢ finding.Either)
unopened_after Either finding.Nothing b h = absurd (h refl)
unopened_after Either finding.Kept b h = absurd (h refl)
unopened_after Either finding.Either b h = absurd (h refl)
unopened_after Either finding.Broken b h = absurd (b refl)
unopened_after Broken e b h = absurd (b refl)
unopened_after Unclear finding.Either b h = absurd (h refl)
unopened_after Ok finding.Either b h = absurd (h refl)
unopened_after v e b h = (λ is. cc is, λ is. cc is)

kept_after : (v : Verdict) (e : Finding) → verdict_after v e ≡ Ok → (v ≡ Ok) ⊎ (e ≡ finding.Kept)
kept_after Ok finding.Nothing h = inl refl
kept_after Ok finding.Kept h = inl refl
kept_after Unclear finding.Kept h = inr refl
kept_after Either finding.Nothing h = absurd (cc h)
kept_after Either finding.Kept h = absurd (cc h)
kept_after Either finding.Either h = absurd (cc h)
kept_after Either finding.Broken h = absurd (cc h)
kept_after v e h = absurd (cc h)

unclear_after : (v : Verdict) (e : Finding) → verdict_after v e ≡ Unclear → (v ≡ Unclear) × (e ≡ finding.Nothing)
unclear_after Unclear finding.Nothing h = (refl, refl)
unclear_after Ok finding.Nothing h = absurd (cc h)
unclear_after Ok finding.Kept h = absurd (cc h)
unclear_after Ok finding.Either h = absurd (cc h)
unclear_after Ok finding.Broken h = absurd (cc h)
unclear_after Either finding.Nothing h = absurd (cc h)
unclear_after Either finding.Kept h = absurd (cc h)
unclear_after Either finding.Either h = absurd (cc h)
unclear_after Either finding.Broken h = absurd (cc h)
unclear_after v e h = absurd (cc h)

pub after_nothing : (v : Verdict) → verdict_after v finding.Nothing ≡ v
after_nothing Broken = refl
after_nothing v = refl

-- ---- places

pub nowhere_somewhere : (At : List Sent → Sent → Type 0) (past xs : List Sent) → Somewhere At past xs → Nowhere At past xs → ⊥
nowhere_somewhere At past [] some none = some
nowhere_somewhere At past (x ∷ xs) (inl here) none = none.0 here
nowhere_somewhere At past (x ∷ xs) (inr later) none = nowhere_somewhere At (past ++ x ∷ []) xs later none.1

module _ (E : List Sent → Sent → Finding) (A : Finding → List Sent → Sent → Type 0)
    (is : (f : Finding) (past : List Sent) (x : Sent) → f ≢ finding.Nothing → Is (E past x) f (A f past x)) where
  -- the verdict after all of these
  abbrev pub along : Verdict → List Sent → List Sent → Verdict
  along v past [] = v
  along v past (x ∷ xs) = along (verdict_after v (E past x)) (past ++ x ∷ []) xs

  abbrev pub Means : Verdict → List Sent → List Sent → Verdict → Type 0
  Means v past xs Broken = (v ≡ Broken) ⊎ Somewhere (A finding.Broken) past xs
  Means v past xs Either =
      (v ≢ Broken) × Nowhere (A finding.Broken) past xs × ((v ≡ Either) ⊎ Somewhere (A finding.Either) past xs)
  Means v past xs Ok =
      (v ≢ Broken) × (v ≢ Either) × Nowhere (A finding.Broken) past xs × Nowhere (A finding.Either) past xs
      × ((v ≡ Ok) ⊎ Somewhere (A finding.Kept) past xs)
  Means v past xs Unclear =
      (v ≡ Unclear) × Nowhere (A finding.Broken) past xs × Nowhere (A finding.Either) past xs × Nowhere (A finding.Kept) past xs

  no_break : finding.Broken ≢ finding.Nothing
  no_break e = cc e

  no_open : finding.Either ≢ finding.Nothing
  no_open e = cc e

  no_kept : finding.Kept ≢ finding.Nothing
  no_kept e = cc e

  none : (v : Verdict) (past : List Sent) → Means v past [] v
  none Broken past = inl refl
  none Either past = (λ e. cc e, tt, inl refl)
  none Ok past = (λ e. cc e, λ e. cc e, tt, tt, inl refl)
  none Unclear past = (refl, tt, tt, tt)

  -- what a place doesn't show
  isn't : (f : Finding) (past : List Sent) (x : Sent) → f ≢ finding.Nothing → E past x ≢ f → A f past x → ⊥
  isn't f past x some other at = other ((is f past x some).shows at)

  one_more : (v : Verdict) (past : List Sent) (x : Sent) (xs : List Sent) (w : Verdict)
      → Means (verdict_after v (E past x)) (past ++ x ∷ []) xs w → Means v past (x ∷ xs) w
  one_more v past x xs Broken (inl here) = elim (broken_after v (E past x) here) [
    | inl before ↦ inl before
    | inr at ↦ inr (inl ((is finding.Broken past x no_break).means at))
  ]
  one_more v past x xs Broken (inr later) = inr (inr later)
  one_more v past x xs Either (unbroken, calm, some) =
      let un = unbroken_after v (E past x) unbroken in (
        un.0,
        (isn't finding.Broken past x no_break un.1, calm),
        elim some [
          | inl here ↦ elim (open_after v (E past x) here) [
            | inl before ↦ inl before
            | inr at ↦ inr (inl ((is finding.Either past x no_open).means at))
          ]
          | inr later ↦ inr (inr later)
        ],
      )
  one_more v past x xs Ok (unbroken, unopened, calm, closed, some) =
      let un = unbroken_after v (E past x) unbroken in
      let on = unopened_after v (E past x) unbroken unopened in (
        un.0,
        on.0,
        (isn't finding.Broken past x no_break un.1, calm),
        (isn't finding.Either past x no_open on.1, closed),
        elim some [
          | inl here ↦ elim (kept_after v (E past x) here) [
            | inl before ↦ inl before
            | inr at ↦ inr (inl ((is finding.Kept past x no_kept).means at))
          ]
          | inr later ↦ inr (inr later)
        ],
      )
  one_more v past x xs Unclear (here, calm, closed, silent) =
      let un = unclear_after v (E past x) here in (
        un.0,
        (isn't finding.Broken past x no_break (λ e. cc (e, un.1)), calm),
        (isn't finding.Either past x no_open (λ e. cc (e, un.1)), closed),
        (isn't finding.Kept past x no_kept (λ e. cc (e, un.1)), silent),
      )

  means : (v : Verdict) (past xs : List Sent) → Means v past xs (along v past xs)
  means v past [] = none v past
  means v past (x ∷ xs) =
      let next = verdict_after v (E past x) in
      one_more v past x xs (along next (past ++ x ∷ []) xs) (means next (past ++ x ∷ []) xs)

  -- ---- from the beginning of a scenario

  starts : (At : List Sent → Sent → Type 0) (past xs : List Sent) (v : Verdict) → Unclear ≢ v → (Unclear ≡ v) ⊎ Somewhere At past xs → Somewhere At past xs
  starts At past xs v other (inl here) = absurd (other here)
  starts At past xs v other (inr there) = there

  is_broken : (past xs : List Sent) (w : Verdict) → Means Unclear past xs w → Somewhere (A finding.Broken) past xs → w ≡ Broken
  is_broken past xs Broken m some = refl
  is_broken past xs Either m some = absurd (nowhere_somewhere (A finding.Broken) past xs some m.1)
  is_broken past xs Ok m some = absurd (nowhere_somewhere (A finding.Broken) past xs some m.2)
  is_broken past xs Unclear m some = absurd (nowhere_somewhere (A finding.Broken) past xs some m.1)

  is_open : (past xs : List Sent) (w : Verdict) → Means Unclear past xs w → Somewhere (A finding.Either) past xs
      → Nowhere (A finding.Broken) past xs → w ≡ Either
  is_open past xs Broken m some calm = absurd (nowhere_somewhere (A finding.Broken) past xs (starts (A finding.Broken) past xs Broken (λ e. cc e) m) calm)
  is_open past xs Either m some calm = refl
  is_open past xs Ok m some calm = absurd (nowhere_somewhere (A finding.Either) past xs some m.3)
  is_open past xs Unclear m some calm = absurd (nowhere_somewhere (A finding.Either) past xs some m.2)

  is_kept : (past xs : List Sent) (w : Verdict) → Means Unclear past xs w → Somewhere (A finding.Kept) past xs
      → Nowhere (A finding.Either) past xs → Nowhere (A finding.Broken) past xs → w ≡ Ok
  is_kept past xs Broken m some closed calm = absurd (nowhere_somewhere (A finding.Broken) past xs (starts (A finding.Broken) past xs Broken (λ e. cc e) m) calm)
  is_kept past xs Either m some closed calm = absurd (nowhere_somewhere (A finding.Either) past xs (starts (A finding.Either) past xs Either (λ e. cc e) m.2) closed)
  is_kept past xs Ok m some closed calm = refl
  is_kept past xs Unclear m some closed calm = absurd (nowhere_somewhere (A finding.Kept) past xs some m.3)

  is_unclear : (past xs : List Sent) (w : Verdict) → Means Unclear past xs w → Nowhere (A finding.Kept) past xs
      → Nowhere (A finding.Either) past xs → Nowhere (A finding.Broken) past xs → w ≡ Unclear
  is_unclear past xs Broken m silent closed calm = absurd (nowhere_somewhere (A finding.Broken) past xs (starts (A finding.Broken) past xs Broken (λ e. cc e) m) calm)
  is_unclear past xs Either m silent closed calm = absurd (nowhere_somewhere (A finding.Either) past xs (starts (A finding.Either) past xs Either (λ e. cc e) m.2) closed)
  is_unclear past xs Ok m silent closed calm = absurd (nowhere_somewhere (A finding.Kept) past xs (starts (A finding.Kept) past xs Ok (λ e. cc e) m.4) silent)
  is_unclear past xs Unclear m silent closed calm = refl

  means_at : (past xs : List Sent) (w : Verdict) → along Unclear past xs ≡ w → Means Unclear past xs w
  means_at past xs w e = subst (λ u. Means Unclear past xs u) e (means Unclear past xs)

  pub broken : (past xs : List Sent) → (along Unclear past xs ≡ Broken) ↔ Somewhere (A finding.Broken) past xs
  broken past xs = (
    λ e. starts (A finding.Broken) past xs Broken (λ f. cc f) (means_at past xs Broken e),
    λ some. is_broken past xs (along Unclear past xs) (means Unclear past xs) some,
  )

  pub left_open : (past xs : List Sent) → (along Unclear past xs ≡ Either)
      ↔ (Somewhere (A finding.Either) past xs × Nowhere (A finding.Broken) past xs)
  left_open past xs = (
    λ e. let m = means_at past xs Either e in (starts (A finding.Either) past xs Either (λ f. cc f) m.2, m.1),
    λ h. is_open past xs (along Unclear past xs) (means Unclear past xs) h.0 h.1,
  )

  pub ok : (past xs : List Sent) → (along Unclear past xs ≡ Ok)
      ↔ (Somewhere (A finding.Kept) past xs × Nowhere (A finding.Either) past xs × Nowhere (A finding.Broken) past xs)
  ok past xs = (
    λ e. let m = means_at past xs Ok e in (starts (A finding.Kept) past xs Ok (λ f. cc f) m.4, m.3, m.2),
    λ h. is_kept past xs (along Unclear past xs) (means Unclear past xs) h.0 h.1 h.2,
  )

  pub unclear : (past xs : List Sent) → (along Unclear past xs ≡ Unclear)
      ↔ (Nowhere (A finding.Kept) past xs × Nowhere (A finding.Either) past xs × Nowhere (A finding.Broken) past xs)
  unclear past xs = (
    λ e. let m = means_at past xs Unclear e in (m.3, m.2, m.1),
    λ h. is_unclear past xs (along Unclear past xs) (means Unclear past xs) h.0 h.1 h.2,
  )
