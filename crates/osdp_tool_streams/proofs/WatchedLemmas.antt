-- How a watched stream comes to have failed.
use Rattle.osdp_tool_streams.proofs.Common.{◌≡◌, ◌↔◌, ◌||◌, ◌⊎◌, zero, suc, Bool, true, false, List, [], ◌∷◌, refl, sym, inl, inr, arith, ◌∙◌, map, Contains, Call, FailedBySomeCall, WentThrough, has_failed, is_failed_call}
use Rattle.osdp_tool_streams.specs.declared.watch.Watched.{Watched}

either_failed : (before now after : Bool) → after ≡ (before || now) → after ≡ true → (before ≡ true) ⊎ (now ≡ true)
either_failed true now after is failed = inl refl
either_failed false now after is failed = inr (sym is ∙ failed)

failed_before : (before now after : Bool) → after ≡ (before || now) → before ≡ true → after ≡ true
failed_before true now after is failed = is
failed_before false now after is failed = cc

failed_now : (before now after : Bool) → after ≡ (before || now) → now ≡ true → after ≡ true
failed_now true now after is failed = is
failed_now false now after is failed = is ∙ failed

-- a call failed first, or one of the calls after it
Contains-first : (call : Bool) (calls : List Bool) → Contains (call ∷ calls) true → (call ≡ true) ⊎ Contains calls true
Contains-first call calls (zero, below, is) = inl is
Contains-first call calls (suc k, below, is) = inr (k, omega arith, is)

-- of calls that are known only by whether they failed
FailedByOne : {T : Type 0} → Watched T → List Bool → Watched T → Type 0
FailedByOne old calls new = (has_failed new ≡ true) ↔ ((has_failed old ≡ true) ⊎ Contains calls true)

-- one call, and then calls of which this holds
FailedByOne-first : {T : Type 0} (old next new : Watched T) (call : Bool) (calls : List Bool) → has_failed next ≡ (has_failed old || call)
    → FailedByOne next calls new → FailedByOne old (call ∷ calls) new
unfolding FailedByOne
FailedByOne-first old next new call calls noted later = (cause, effect)
  where
    cause : has_failed new ≡ true → (has_failed old ≡ true) ⊎ Contains (call ∷ calls) true
    cause failed = elim (later.0 failed) [
      | inl at_next ↦ elim (either_failed _ call _ noted at_next) [
        | inl before ↦ inl before
        | inr now ↦ inr (0, omega arith, now)
      ]
      | inr afterwards ↦ inr (suc afterwards.0, omega (arith, afterwards.1), afterwards.2)
    ]

    effect : (has_failed old ≡ true) ⊎ Contains (call ∷ calls) true → has_failed new ≡ true
    effect (inl before) = later.1 (inl (failed_before _ call _ noted before))
    effect (inr some) = elim (Contains-first call calls some) [
      | inl now ↦ later.1 (inl (failed_now _ call _ noted now))
      | inr afterwards ↦ later.1 (inr afterwards)
    ]

FailedByOne-none : {T : Type 0} (old new : Watched T) → has_failed new ≡ has_failed old → FailedByOne old [] new
unfolding FailedByOne
FailedByOne-none old new same = (λ failed. inl (sym same ∙ failed), effect)
  where
    effect : (has_failed old ≡ true) ⊎ Contains [] true → has_failed new ≡ true
    effect (inl failed) = same ∙ failed
    effect (inr (k, below, is)) = absurd (omega arith)

pub WentThrough-fails : {T E : Type 0} (old new : Watched T) (calls : List (Call E)) → WentThrough old calls new → FailedBySomeCall old calls new
unfolding FailedByOne
WentThrough-fails old new [] same = FailedByOne-none old new same
WentThrough-fails old new (call ∷ calls) (next, noted, through) =
    FailedByOne-first old next new (is_failed_call call) (map is_failed_call calls) noted (WentThrough-fails next new calls through)
