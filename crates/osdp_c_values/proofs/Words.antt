-- The machine words of a loose box: the pointer, and the allocator's handle after it.
use Rattle.osdp_c_values.proofs.Common.{◌≡◌, ℕ, List, [], ◌∷◌, ◌++◌, refl, subst, Ura, Args, Dict, a_type, impl, tnil, dcons, dnil, bare, Val, vptr, vstruct, vcons, vnil, of_list, has_ty, WT, never, fst∗, Logic, sem, RattleType, Valss, RawPtr, lone, Ptr, block_ptr, null_ptr, ptr_val, in_a_block, nothing, layout, bounded, Laws, within, shape, Al, handle_tells, Good, box_owns}
use mathlib.Core.Bool.{true, ◌&&◌}
use lib.Dec.{T}
use types.Kit.{Item, Goal, Seq, Step, step, ‵, ◌$◌, move, drop, fsplit, fjoin, fpick, fpack, feq_i, feq_l}
use Rattle.core.specs.declared.alloc.Allocator.{Ghosts}
use Rattle.std_alloc.proofs.BoxSteps.Form.{Bx}
use Rattle.std_alloc.proofs.ResultValues.{and_tt}
use Rattle.osdp_c_values.specs.contracts.loose.Loose as loose

-- a pointer's word and a handle's, as those of a struct of two fields
abbrev pub two_words : Val → Val → Val
two_words pointer handle = vstruct (vcons pointer (vcons handle vnil))

-- the box of a loose box, and what a call passes for the parameters of both
abbrev pub box_form : (T : RattleType) → Laws T → (A : RattleType) → Laws A → Ghosts A.Denot → Dict → Dict → Bx
box_form T L A LA g d dd = record { row = T; laws = L; al = record { row = A; laws = LA; g = g; d = d; drops = dd } }

abbrev pub generics : RattleType → RattleType → Dict → Dict → Dict → Args
generics T A d dx dd = bounded (a_type ∷ a_type ∷ []) (T, (A, tt)) (dcons d (dcons dx (dcons dd dnil)))

module _ (R Z : RattleType) (L : Laws Z) (g : Ghosts Z.Denot) where
  abbrev pub Loose : RattleType
  Loose = loose.the_row R Z g

  abbrev pub allocator : Al
  allocator = record { row = Z; laws = L; g = g; d = impl [] tnil dnil; drops = impl [] tnil dnil }

  pub words_fit : (b o : ℕ) (h : Val) → Good (layout Z) h → T (has_ty (layout Z) h && true) × WT (two_words (vptr b o) h)
  words_fit b o h fits = (and_tt (has_ty (layout Z) h) fits.0, (tt, (fits.1, tt)))

  module _ {M : Type 1} {𝓤 : Ura M} {𝓛 : Logic 𝓤} {K : Type 0} {Γ : List (Item 𝓤)} {G : Goal 𝓤 𝓛.H} where
    -- a loose box at hand: what lies at the pointer with the right to free it, and the handle
    pub loose_opens : K → (d : Loose.Denot) (vs : List Val)
        → ((b o : ℕ) (h : Val) → d.at ≡ block_ptr b o → vs ≡ two_words (vptr b o) h ∷ [] → Good (layout Z) h
        → Seq K 𝓛 (‵ (box_owns (g.dealloc_token d.alloc) R (block_ptr b o) d.value) ∷ ‵ (Z.own_val d.alloc (h ∷ [])) ∷ Γ) G)
        → Seq K 𝓛 (‵ (Loose.own_val d vs) ∷ Γ) G
    loose_opens t d vs next =
        fsplit t $ fpick t (λ vss. fsplit t $ feq_l t (λ struct_is. fsplit t $ feq_l t (λ pointer_is. fsplit t $
        handle_tells allocator t d.alloc vss.1.0 (λ h handle_is fits. move t (1 ∷ []) $ drop t $ move t (1 ∷ []) $
        in_a_block t d.at (λ p. box_owns (g.dealloc_token d.alloc) R p d.value) (fst∗ 𝓤 (never 𝓤) (sem 𝓛 (g.dealloc_token d.alloc (bare (lone R.mir)) null_ptr)))
        (λ b o at_is. next b o h at_is
        (subst (λ (p : Ptr). vs ≡ vstruct (of_list (ptr_val p ∷ h ∷ [])) ∷ []) at_is
        (subst (λ (ws : List Val). vs ≡ vstruct (of_list (ptr_val d.at ∷ (ws ++ []))) ∷ []) handle_is
        (subst (λ (ps : List Val). vs ≡ vstruct (of_list (ps ++ (vss.1.0 ++ []))) ∷ []) pointer_is struct_is))) fits)))))

    -- and together again
    pub loose_closes : K → (b o : ℕ) (h : Val) (a : Z.Denot) (x : R.Denot)
        → Step K 𝓛 (‵ (Loose.own_val (record { at = block_ptr b o; alloc = a; value = x }) (two_words (vptr b o) h ∷ [])) ∷ Γ) G
        (‵ (box_owns (g.dealloc_token a) R (block_ptr b o) x) ∷ ‵ (Z.own_val a (h ∷ [])) ∷ Γ) G
    loose_closes t b o h a x = step (λ next. let v : Val = two_words (vptr b o) h in
        nothing t $ move t (2 ∷ 0 ∷ []) $ fjoin t $ feq_i t (List Val) (vptr b o ∷ []) (vptr b o ∷ []) refl $ fjoin t $
        feq_i t (List Val) (v ∷ []) (v ∷ []) refl $ fjoin t $
        fpack t (Valss (RawPtr ∷ Z ∷ [])) (within (shape (loose.the_type R Z g)) (block_ptr b o, (a, tt)) (v ∷ [])) (vptr b o ∷ [], (h ∷ [], tt)) $
        fjoin t $ next)
