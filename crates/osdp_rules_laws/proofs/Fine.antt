-- Findings that break no rule, and what scenarios of such findings come to.
use Rattle.osdp_rules_laws.proofs.Common.{◌≡◌, ◌≢◌, Bool, true, false, cond, List, [], ◌∷◌, refl, subst, sym, false≢true, kept_if, Broken}
use Rattle.osdp_rules.specs.Verdicts.{verdict_after, verdict_along}
use Rattle.osdp_rules.specs.declared.finding.Finding.{Finding}
use Rattle.osdp_rules.specs.declared.verdict.Verdict.{Verdict}
use Rattle.osdp_rules.specs.declared.verdict.Verdict.TheVariants as verdict

abbrev pub IsFine : Finding → Type 0
IsFine Broken = ⊥
IsFine f = Unit {0}

pub fine_unbroken : (f : Finding) → IsFine f → f ≢ Broken
fine_unbroken f fine e = subst IsFine e fine

pub fine_true : (b : Bool) (x y : Finding) → b ≡ true → IsFine x → IsFine (cond b x y)
fine_true true x y e fine = fine
fine_true false x y e fine = absurd (false≢true e)

pub fine_false : (b : Bool) (x y : Finding) → b ≡ false → IsFine y → IsFine (cond b x y)
fine_false false x y e fine = fine
fine_false true x y e fine = absurd (false≢true (sym e))

pub fine_both : (b : Bool) (x y : Finding) → IsFine x → IsFine y → IsFine (cond b x y)
fine_both true x y first second = first
fine_both false x y first second = second

pub fine_kept : (b : Bool) → b ≡ true → IsFine (kept_if b)
fine_kept true e = tt
fine_kept false e = absurd (false≢true e)

pub broken_kept : (b : Bool) → b ≡ false → kept_if b ≡ Broken
broken_kept false e = refl
broken_kept true e = absurd (false≢true (sym e))

abbrev pub AreFine : List Finding → Type 0
AreFine [] = Unit {0}
AreFine (f ∷ fs) = IsFine f × AreFine fs

abbrev pub IsUnbroken : Verdict → Type 0
IsUnbroken verdict.Broken = ⊥
IsUnbroken v = Unit {0}

pub stays : (v : Verdict) (f : Finding) → IsUnbroken v → IsFine f → IsUnbroken (verdict_after v f)
stays verdict.Broken f unbroken fine = unbroken
stays verdict.Unclear Broken unbroken fine = fine
stays verdict.Ok Broken unbroken fine = fine
stays verdict.Either Broken unbroken fine = fine
stays verdict.Unclear f unbroken fine = tt
stays verdict.Ok f unbroken fine = tt
stays verdict.Either f unbroken fine = tt

stays_along : (v : Verdict) (fs : List Finding) → IsUnbroken v → AreFine fs → IsUnbroken (verdict_along v fs)
stays_along v [] unbroken fine = unbroken
stays_along v (f ∷ fs) unbroken fine = stays_along (verdict_after v f) fs (stays v f unbroken fine.0) fine.1

pub never_broken : (fs : List Finding) → AreFine fs → verdict_along verdict.Unclear fs ≢ verdict.Broken
never_broken fs fine e = subst IsUnbroken e (stays_along verdict.Unclear fs tt fine)
