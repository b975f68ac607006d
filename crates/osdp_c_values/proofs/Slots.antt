-- The functions of a slot, whichever machine it has: they are proved once, for the code that each slot's own functions have.
use Rattle.osdp_c_values.proofs.Common.{◌≡◌, ℕ, List, [], ◌∷◌, ◌++◌, refl, sym, ap, subst, true≢false, Ura, Sym, Fn, Body, Callee, Local, value_local, local, ty_ptr, seq, assign, place, field, rv_opd, copy, aggregate, int, w64, return, bare, Val, vptr, vstruct, vcons, vnil, of_list, Lft, Fml, SProp, ent, emp, id⊢, never, fst∗, fact, fact_i, Running, MachineTables, tables, RawPtr, yes, under, hidden, RattleType, Valss, owns, Ptr, block_ptr, null_ptr, ptr_val, in_a_block, plain, types_at, lone, layout, Laws, nothing, heard, Owning, row, shape, within, exits_of, struct_layout, Ended, Clauses, closing, Meets, Stays, stay_dropped, walk_of, Goes-dropped, WpFn, Closed, Logic, sem, stop, fld, of_opd, lit, no_more, and_then, returns, enter, alloc_all, pass_all, free_all, look_at, get, get_in, sets, agg, sub, whole, Goes-blank, Ptr-Good, one, proved_at, leaves, box_owns}
use base.Stored.{Coded}
use denote.Struct.Field.{RawPtr-field, rows}
use denote.Struct.Values.{intos}
use denote.Triple.Entry.{alive}
use prog.Model.{Model}
use types.Kit.{‵, raw, ◌⊛◌, Item, Goal, Seq, Step, step, ◌$◌, ◌∵◌, !, qed, by, move, keep, drop, split, fsplit, fsplit3, fjoin, fpick, fpack, feq_i, feq_l, suffices, rewrite, use0, use1}
use Rattle.std.specs.Option.{IsSome}
use Rattle.std.specs.contracts.alloc.Global as heap
use Rattle.std.proofs.alloc.Global.TheLaws as heap_laws
use Rattle.std.specs.declared.alloc.Global.{Global}
use Rattle.std.specs.declared.option.Option.{Option}
use Rattle.std.specs.declared.option.Option.TheVariants.{None, Some}
use Rattle.std.specs.contracts.impls.GlobalAllocator.TheImpl.{ghosts}
use Rattle.osdp_c_values.specs.Owning.{slot_owns}
use Rattle.osdp_c_values.specs.contracts.loose.Loose as loose
use Rattle.osdp_c_values.proofs.Words.{two_words, Loose, words_fit, loose_opens, loose_closes}

-- the allocator of all machines
abbrev Z : RattleType
Z = heap.the_row

abbrev LZ : Laws Z
LZ = heap_laws.the_row_laws

-- what slots differ in: the name of the type, its record, the code of its values, and how they are lent
pub record Slot (R : RattleType) : Type 2 where
  pub name : Sym
  pub D : Type 0
  pub at : D → Ptr
  pub machine : D → Option R.Denot
  pub make : Ptr → Option R.Denot → D
  pub at_made : (p : Ptr) (m : Option R.Denot) → at (make p m) ≡ p
  pub machine_made : (p : Ptr) (m : Option R.Denot) → machine (make p m) ≡ m
  pub coded : Coded D
  pub shr_at : D → ℕ → ℕ → Lft → Fml

-- a function without lifetimes and type parameters
abbrev plain_function : ℕ → List Local → Body → Fn
plain_function params locals body =
    record { lifetimes = 0; outlives = []; ty_params = []; givens = 0; params = params; locals = locals; body = body }

module _ (R : RattleType) (F : Slot R) where
  abbrev pub the_type : Owning
  the_type = record {
    name = F.name;
    args = [];
    types = [];
    parts = RawPtr-field ∷ [];
    D = F.D;
    as_values = λ d. (F.at d, tt);
    coded = F.coded;
    heap = λ d. slot_owns R (F.at d) (F.machine d);
    exit = λ k. hidden (under (λ d. intos (RawPtr-field ∷ []) (F.at d, tt)) (exits_of k (rows (RawPtr-field ∷ []))));
    shr_at = F.shr_at;
  }

  abbrev pub S : RattleType
  S = row the_type

  abbrev Held : RattleType
  Held = Loose R Z LZ ghosts

  abbrev pub kept : Ptr → Val
  kept p = vstruct (vcons (ptr_val p) vnil)

  module _ {M : Type 1} {𝓤 : Ura M} {𝓛 : Logic 𝓤} {K : Type 0} {Γ : List (Item 𝓤)} {G : Goal 𝓤 𝓛.H} where
    -- the machine that a slot has, where it has one
    pub slot_opens : K → (p : Ptr) (m : Option R.Denot) → IsSome m
        → ((b o : ℕ) (a : Global) (x : R.Denot) → p ≡ block_ptr b o → m ≡ Some x
        → Seq K 𝓛 (‵ (box_owns (ghosts.dealloc_token a) R (block_ptr b o) x) ∷ Γ) G)
        → Seq K 𝓛 (‵ (slot_owns R p m) ∷ Γ) G
    slot_opens t p None wrong next = absurd (true≢false (sym wrong))
    slot_opens t p (Some x) some next =
        fpick t (λ a. in_a_block t p (λ q. box_owns (ghosts.dealloc_token a) R q x)
        (fst∗ 𝓤 (never 𝓤) (sem 𝓛 (ghosts.dealloc_token a (bare (lone R.mir)) null_ptr)))
        (λ b o at_is. next b o a x at_is refl))

    -- a slot is made of its pointer, and of what is owned there
    pub slot_closes : K → (p : Ptr) (m : Option R.Denot) → Step K 𝓛 (‵ (S.own_val (F.make p m) (kept p ∷ [])) ∷ Γ) G (‵ (slot_owns R p m) ∷ Γ) G
    slot_closes t p m = step (λ next. let r = F.make p m in
        rewrite t 0 (λ (q : Ptr). ‵ (slot_owns R q m)) (sym (F.at_made p m)) refl $
        rewrite t 0 (λ (n : Option R.Denot). ‵ (slot_owns R (F.at r) n)) (sym (F.machine_made p m)) refl $
        nothing t $ feq_i t (List Val) (ptr_val p ∷ []) (ptr_val (F.at r) ∷ []) (ap (λ (q : Ptr). ptr_val q ∷ []) (sym (F.at_made p m))) $ fjoin t $
        feq_i t (List Val) (kept p ∷ []) (kept p ∷ []) refl $ fjoin t $
        fpack t (Valss (RawPtr ∷ [])) (within (shape the_type) (F.at r, tt) (kept p ∷ [])) (ptr_val p ∷ [], tt) $ fjoin t $ next)

  abbrev slot_local : Local
  slot_local = local (struct_layout (shape the_type)) value_local

  abbrev loose_local : Local
  loose_local = local (struct_layout (shape (loose.the_type R Z ghosts))) value_local

  abbrev pointer : Local
  pointer = local ty_ptr value_local

  -- `none`: a null pointer, at which nothing is owned
  abbrev pub none_ended : Ended
  none_ended = record { signature = record { lifetimes = 0; outlives = []; params = []; result = plain (λ κs. S) }; kept = tt }

  abbrev pub none_function : Fn
  none_function = plain_function 0 (slot_local ∷ [])
      (seq (assign (place 0 []) (aggregate (int w64 0 ∷ []))) return)

  -- `of`: the pointer of a loose machine
  abbrev pub of_ended : Ended
  of_ended = record { signature = record { lifetimes = 0; outlives = []; params = plain (λ κs. Held) ∷ []; result = plain (λ κs. S) }; kept = (yes, tt) }

  abbrev pub of_function : Fn
  of_function = plain_function 1 (slot_local ∷ loose_local ∷ pointer ∷ pointer ∷ [])
      (seq (assign (place 2 []) (rv_opd (copy (place 1 (field 0 ∷ []))))) (seq (assign (place 3 []) (rv_opd (copy (place 2 []))))
      (seq (assign (place 0 []) (aggregate (copy (place 3 []) ∷ []))) return)))

  -- `into_loose`: the pointer of a machine that is there, with the allocator
  abbrev pub into_ended : Ended
  into_ended = record { signature = record { lifetimes = 0; outlives = []; params = plain (λ κs. S) ∷ plain (λ κs. Z) ∷ []; result = plain (λ κs. Held) }; kept = (yes, (yes, tt)) }

  abbrev pub into_function : Fn
  into_function = plain_function 2 (loose_local ∷ slot_local ∷ local (layout Z) value_local ∷ pointer ∷ pointer ∷ [])
      (seq (assign (place 3 []) (rv_opd (copy (place 1 (field 0 ∷ []))))) (seq (assign (place 4 []) (rv_opd (copy (place 3 []))))
      (seq (assign (place 0 []) (aggregate (copy (place 4 []) ∷ copy (place 2 []) ∷ []))) return)))

  module _ {M : Type 1} (𝓤 : Ura M) (𝓛 : Logic 𝓤) where
    abbrev pub none_clauses : Clauses 𝓤 none_ended
    none_clauses κs a = record { ghost = Unit {0}; requires = λ g. emp 𝓤; ensures = λ g r e. fact 𝓤 (F.machine r ≡ None) }

    abbrev pub of_clauses : Clauses 𝓤 of_ended
    of_clauses κs a = record { ghost = Unit {0}; requires = λ g. emp 𝓤; ensures = λ g r e. fact 𝓤 (F.machine r ≡ Some a.0.value) }

    abbrev pub into_clauses : Clauses 𝓤 into_ended
    into_clauses κs a = record { ghost = Unit {0}; requires = λ g. fact 𝓤 (IsSome (F.machine a.0)); ensures = λ g r e. fact 𝓤 (F.machine a.0 ≡ Some r.value) }

    module _ (𝓜 : Model 𝓤 𝓛.H) (𝓡 : Running 𝓤 𝓛.H 𝓜) (k : Callee) where
      abbrev 𝓣 : MachineTables 𝓤 𝓛.H 𝓜
      𝓣 = tables 𝓤 𝓛.H 𝓜 𝓡 𝓡.env

      pub none_meets : Closed 𝓤 𝓛.H 𝓣.C 𝓣.Λ k none_function → Meets 𝓛 none_ended.signature (𝓣.C k) (closing 𝓛 none_ended none_clauses)
      none_meets closed = let c = none_clauses in
          proved_at 𝓛 none_ended tt c 𝓜 𝓡 tt k none_function closed (λ z are.
          let κs = z.0.0 in let qs = z.0.1 in let Post : Val → SProp 𝓤 = (walk_of 𝓛 none_ended tt c).post z in let w : Val = kept null_ptr in
          let r = F.make null_ptr None in
          qed 𝓛 ((raw (alive 𝓛 none_ended.signature κs qs) ⊛ ‵ (owns (types_at none_ended.signature.params κs) z.0.3 z.0.4)) ∷ raw ((c κs z.0.3).requires z.1) ∷ []) ∵
          split ! $ enter ! 𝓣.C 𝓣.Λ none_function [] Post $ alloc_all ! (λ l. pass_all ! refl tt $
          sets ! (agg ! (and_then ! (lit ! tt) (no_more !))) refl (tt, ((Ptr-Good null_ptr).1, tt)) $
          nothing ! $ slot_closes ! null_ptr None $
          use0 𝓛 (raw (fact 𝓤 (F.machine r ≡ None))) (fact_i 𝓤 (F.machine r ≡ None) (emp 𝓤) (F.machine_made null_ptr None)) $ nothing ! $
          returns ! (look_at ! 0 refl) $ free_all ! refl $ keep ! (3 ∷ 0 ∷ 2 ∷ 1 ∷ []) $
          by ! (leaves 𝓛 none_ended tt c z w r tt tt)))

      pub of_meets : Closed 𝓤 𝓛.H 𝓣.C 𝓣.Λ k of_function → Meets 𝓛 of_ended.signature (𝓣.C k) (closing 𝓛 of_ended of_clauses)
      of_meets closed = let c = of_clauses in let S = of_ended.signature in
          let hs : Stays S.params of_ended.kept = (stay_dropped (plain (λ _. Held)) yes, tt) in
          proved_at 𝓛 of_ended hs c 𝓜 𝓡 (Goes-blank 𝓛 0 (plain (λ _. Held)) yes (λ κs x f. tt), tt) k of_function closed (λ z are.
          let κs = z.0.0 in let qs = z.0.1 in let v = z.0.3.0 in let a = v.alloc in
          let Post : Val → SProp 𝓤 = (walk_of 𝓛 of_ended hs c).post z in let Run : List Val → SProp 𝓤 = λ ws. WpFn 𝓤 𝓛.H 𝓣.C 𝓣.Λ of_function ws Post in
          qed 𝓛 ((raw (alive 𝓛 S κs qs) ⊛ ‵ (owns (types_at S.params κs) z.0.3 z.0.4)) ∷ raw ((c κs z.0.3).requires z.1) ∷ []) ∵
          split ! $ move ! (1 ∷ []) $ fsplit ! $ loose_opens R Z LZ ghosts ! v z.0.4.0 (λ b o h at_is words_are fits.
          let w : Val = two_words (vptr b o) h in let p = block_ptr b o in let m = Some v.value in let r = F.make p m in
          suffices ! (Run (w ∷ [])) (subst (λ (us : List Val). ent 𝓤 (Run (w ∷ [])) (Run us)) (sym (λ i. words_are i ++ [])) (id⊢ 𝓤 (Run (w ∷ [])))) $
          enter ! 𝓣.C 𝓣.Λ of_function (w ∷ []) Post $ alloc_all ! (λ l. pass_all ! refl (words_fit R Z LZ ghosts b o h fits, tt) $
          sets ! (of_opd ! (get_in ! (fld ! refl (stop !)) (sub ! 0 refl (whole !)))) refl (tt, tt) $
          sets ! (of_opd ! (get ! refl)) refl (tt, tt) $
          sets ! (agg ! (and_then ! (get ! refl) (no_more !))) refl (tt, (tt, tt)) $
          -- [the machine at the pointer; the handle; ..]
          fpack ! Global (λ g. box_owns (ghosts.dealloc_token g) R p v.value) a $ slot_closes ! p m $
          use0 𝓛 (raw (fact 𝓤 (F.machine r ≡ m))) (fact_i 𝓤 (F.machine r ≡ m) (emp 𝓤) (F.machine_made p m)) $ nothing ! $ nothing ! $ fjoin ! $
          returns ! (look_at ! 0 refl) $ free_all ! refl $ keep ! (5 ∷ 0 ∷ 2 ∷ 1 ∷ []) $
          by ! (leaves 𝓛 of_ended hs c z (kept p) r (tt, tt) (tt, tt)))))

      -- each of the allocator's handles stands for the one heap
      pub into_meets : Closed 𝓤 𝓛.H 𝓣.C 𝓣.Λ k into_function → Meets 𝓛 into_ended.signature (𝓣.C k) (closing 𝓛 into_ended into_clauses)
      into_meets closed = let c = into_clauses in let T = into_ended.signature in
          let hs : Stays T.params into_ended.kept = (stay_dropped (plain (λ _. S)) yes, (stay_dropped (plain (λ _. Z)) yes, tt)) in
          proved_at 𝓛 into_ended hs c 𝓜 𝓡 (Goes-blank 𝓛 0 (plain (λ _. S)) yes (λ κs x f. tt), (Goes-dropped 𝓛 0 (plain (λ _. Z)) yes (λ κs x f. refl), tt))
          k into_function closed (λ z are.
          let κs = z.0.0 in let qs = z.0.1 in let s = z.0.3.0 in let a = z.0.3.1.0 in let vs = z.0.4.0 in
          let Post : Val → SProp 𝓤 = (walk_of 𝓛 into_ended hs c).post z in let Run : List Val → SProp 𝓤 = λ ws. WpFn 𝓤 𝓛.H 𝓣.C 𝓣.Λ into_function ws Post in
          let h = one (layout Z) z.0.4.1.0 ((LZ.lawful 𝓛).typed a z.0.4.1.0 are.1.0) in
          qed 𝓛 ((raw (alive 𝓛 T κs qs) ⊛ ‵ (owns (types_at T.params κs) z.0.3 z.0.4)) ∷ raw (fact 𝓤 (IsSome (F.machine s))) ∷ []) ∵
          move ! (1 ∷ []) $ heard ! (IsSome (F.machine s)) (λ some. split ! $ move ! (1 ∷ []) $ fsplit3 ! $
          fsplit ! $ fpick ! (λ vss. fsplit ! $ feq_l ! (λ struct_is. fsplit ! $ feq_l ! (λ pointer_is. drop ! $
          slot_opens ! (F.at s) (F.machine s) some (λ b o g x at_is machine_is.
          -- [the machine at the pointer; the handle; ..]
          use1 𝓛 (‵ (box_owns (ghosts.dealloc_token a) R (block_ptr b o) x)) (id⊢ 𝓤 _) $
          move ! (1 ∷ 0 ∷ []) $ rewrite ! 0 (λ (us : List Val). ‵ (Z.own_val a us)) h.1 refl $ move ! (1 ∷ 0 ∷ []) $
          let word : Val = vstruct (vcons (vptr b o) vnil) in let made : Val = two_words (vptr b o) h.0 in
          let words_are : vs ≡ word ∷ [] = subst (λ (p : Ptr). vs ≡ vstruct (of_list (ptr_val p ∷ [])) ∷ []) at_is
          (subst (λ (ps : List Val). vs ≡ vstruct (of_list (ps ++ [])) ∷ []) pointer_is struct_is) in
          suffices ! (Run (word ∷ h.0 ∷ [])) (subst (λ (us : List Val). ent 𝓤 (Run (word ∷ h.0 ∷ [])) (Run us)) (sym (λ i. words_are i ++ (h.1 i ++ []))) (id⊢ 𝓤 (Run (word ∷ h.0 ∷ [])))) $
          enter ! 𝓣.C 𝓣.Λ into_function (word ∷ h.0 ∷ []) Post $ alloc_all ! (λ l. pass_all ! refl ((tt, (tt, tt)), (h.2, tt)) $
          sets ! (of_opd ! (get_in ! (fld ! refl (stop !)) (sub ! 0 refl (whole !)))) refl (tt, tt) $
          sets ! (of_opd ! (get ! refl)) refl (tt, tt) $
          sets ! (agg ! (and_then ! (get ! refl) (and_then ! (get ! refl) (no_more !)))) refl (words_fit R Z LZ ghosts b o h.0 h.2) $
          loose_closes R Z LZ ghosts ! b o h.0 a x $
          use0 𝓛 (raw (fact 𝓤 (F.machine s ≡ Some x))) (fact_i 𝓤 (F.machine s ≡ Some x) (emp 𝓤) machine_is) $
          nothing ! $ nothing ! $ fjoin ! $ nothing ! $ fjoin ! $
          returns ! (look_at ! 0 refl) $ free_all ! refl $ keep ! (4 ∷ 0 ∷ 2 ∷ 1 ∷ []) $
          by ! (leaves 𝓛 into_ended hs c z made (record { at = block_ptr b o; alloc = a; value = x }) (tt, (tt, tt)) (tt, (tt, tt))))))))))
