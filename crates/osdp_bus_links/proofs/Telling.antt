-- Which site is told the report that waits, and that its session ends exactly where that is told.
use Rattle.osdp_bus_links.proofs.Common.{◌≡◌, ◌≢◌, ◌||◌, ◌<◌, ◌+◌, ℕ, zero, suc, Bool, true, false, cond, List, [], ◌∷◌, ◌++◌, map, Option, Some, None, refl, sym, subst, ap, ◌∙◌, arith, append-nil, Packet, Report, Session, waiting_after, is_false, is_true, MayBring, Site, changed, is_told, site_at, some_same, IsNoRefusalOf, IsTold, TellsEach, TellsFrom, report_for}
use Rattle.osdp_controller.specs.States.{is_closed}
use Rattle.osdp_controller_laws.specs.Commands.{TellsEnds}
use Rattle.osdp_link_laws.proofs.Refusals.{refuses_none as none_refused}

-- ---- ends

abbrev pub EndsAreTold : Type 0
EndsAreTold = (now : ℕ) (s : Session) → TellsEnds now s

-- what a plain reply may bring refuses no number
pub refuses_none : (entry : ℕ) (r : Option Report) → MayBring r → IsNoRefusalOf (waiting_after entry r None)
refuses_none entry None may = tt
refuses_none entry (Some r) may = none_refused (Some r) may

-- ---- who is told

pub for_entry : (k entry : ℕ) (r : Option Report) → k ≡ entry → report_for k (waiting_after entry r None) ≡ r
for_entry k entry None is = refl
for_entry k entry (Some r) is = ap (λ b. cond b (Some r) None) (is_true entry k (sym is))

pub for_others : (k entry : ℕ) (r : Option Report) → k ≢ entry → report_for k (waiting_after entry r None) ≡ None
for_others k entry None other = refl
for_others k entry (Some r) other = ap (λ b. cond b (Some r) None) (is_false entry k (λ e. other (sym e)))

or_false : (b : Bool) → b ≡ (b || false)
or_false true = refl
or_false false = refl

module _ {H : Type 0} where
  -- nothing is said
  none_told : (s : Site H) → IsTold None [] s s
  none_told s = record {
    reader = refl;
    coming = sym (append-nil s.coming);
    closes = or_false (is_closed s.controller.session.state);
    once = λ is. refl;
  }

  nothing_from : (k : ℕ) (ss : List (Site H)) → TellsFrom k None [] ss ss
  nothing_from k [] = tt
  nothing_from k (s ∷ ss) = (none_told s, nothing_from (suc k) ss)

  pub told_nothing : (ss : List (Site H)) → TellsEach None [] ss ss
  told_nothing ss = nothing_from 0 ss

  -- those after the one that is told
  rest_from : (k entry : ℕ) (r : Option Report) (ss : List (Site H)) → entry < k → TellsFrom k (waiting_after entry r None) [] ss ss
  rest_from k entry r [] lt = tt
  rest_from k entry r (s ∷ ss) lt = (
    subst (λ o. IsTold o [] s s) (sym (for_others k entry r (λ e. absurd (omega (arith, lt, e))))) (none_told s),
    rest_from (suc k) entry r ss (omega (arith, lt)),
  )

  one_from : (k i entry : ℕ) (r : Option Report) (s t : Site H) (ss : List (Site H)) → entry ≡ k + i → site_at i ss ≡ Some s → IsTold r [] s t
      → TellsFrom k (waiting_after entry r None) [] ss (changed i t ss)
  one_from k i entry r s t [] at is told = absurd cc
  one_from k zero entry r s t (u ∷ ss) at is told =
      let here : k ≡ entry = omega (arith, at) in (
        subst (λ o. IsTold o [] u t) (sym (for_entry k entry r here)) (subst (λ v. IsTold r [] v t) (some_same s u (sym is)) told),
        rest_from (suc k) entry r ss (omega (arith, at)),
      )
  one_from k (suc i) entry r s t (u ∷ ss) at is told = (
    subst (λ o. IsTold o [] u u) (sym (for_others k entry r (λ e. absurd (omega (arith, at, e))))) (none_told u),
    one_from (suc k) i entry r s t ss (omega (arith, at)) is told,
  )

  -- one site is told
  pub told_one : (entry : ℕ) (r : Option Report) (s t : Site H) (ss : List (Site H)) → site_at entry ss ≡ Some s → IsTold r [] s t
      → TellsEach (waiting_after entry r None) [] ss (changed entry t ss)
  told_one entry r s t ss at is = one_from 0 entry entry r s t ss (omega arith) at is

  -- .. and something is said to all of them
  said_to : (said : List (ℕ × Packet)) (r : Option Report) (s t : Site H) → IsTold r [] s t → IsTold r said s (is_told said t)
  said_to said r s t is = record {
    reader = is.reader;
    coming = ap (λ ps. ps ++ said) (is.coming ∙ append-nil s.coming);
    closes = is.closes;
    once = is.once;
  }

  said_from : (k : ℕ) (r : Option (ℕ × Report)) (said : List (ℕ × Packet)) (ss ts : List (Site H)) → TellsFrom k r [] ss ts
      → TellsFrom k r said ss (map (is_told said) ts)
  said_from k r said [] [] told = tt
  said_from k r said [] (t ∷ ts) told = absurd told
  said_from k r said (s ∷ ss) [] told = absurd told
  said_from k r said (s ∷ ss) (t ∷ ts) told = (said_to said (report_for k r) s t told.0, said_from (suc k) r said ss ts told.1)

  pub said_to_each : (r : Option (ℕ × Report)) (said : List (ℕ × Packet)) (ss ts : List (Site H)) → TellsEach r [] ss ts
      → TellsEach r said ss (map (is_told said) ts)
  said_to_each r said ss ts told = said_from 0 r said ss ts told
