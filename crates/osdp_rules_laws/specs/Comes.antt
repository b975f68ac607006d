-- What the verdict on a rule comes to, by a list of what was sent and heard.
use Rattle.std.specs.Prelude.{◌≡◌, ◌≢◌, ◌↔◌, ℕ, true, List, ◌∷◌, ◌++◌}
use Rattle.osdp_rules.specs.Runs.{Sent, verdict_on}
use Rattle.osdp_rules.specs.declared.aspect.Aspect.{Aspect}
use Rattle.osdp_rules.specs.declared.finding.Finding.{Finding}
use Rattle.osdp_rules.specs.declared.finding.Finding.TheVariants as finding
use Rattle.osdp_rules.specs.declared.verdict.Verdict.{Verdict}
use Rattle.osdp_rules.specs.declared.verdict.Verdict.TheVariants.{Unclear, Ok, Either, Broken}
use Rattle.osdp_rules_laws.specs.Lists.{Nowhere, Somewhere}
use Rattle.osdp_rules_laws.specs.Rules.{Shows}

-- a place by which the rule of the scenario is judged, and what it shows
abbrev pub Asked : ℕ → Aspect → Finding → List Sent → Sent → Type 0
Asked address aspect f past x = (x.asks ≡ true) × Shows address aspect f past x

-- A rule is broken exactly where a place of its scenario breaks it. It is left open where a place leaves it open, and none breaks it. It is ok where a place keeps it,
-- and none leaves it open or breaks it. It is unclear where no place shows anything of it.
pub record Comes (address : ℕ) (aspect : Aspect) (earlier scenario : List Sent) (v : Verdict) : Type 0 where
  pub broken : (v ≡ Broken) ↔ Somewhere (Asked address aspect finding.Broken) earlier scenario
  pub left_open : (v ≡ Either)
      ↔ (Somewhere (Asked address aspect finding.Either) earlier scenario × Nowhere (Asked address aspect finding.Broken) earlier scenario)
  pub ok : (v ≡ Ok)
      ↔ (Somewhere (Asked address aspect finding.Kept) earlier scenario × Nowhere (Asked address aspect finding.Either) earlier scenario
      × Nowhere (Asked address aspect finding.Broken) earlier scenario)
  pub unclear : (v ≡ Unclear)
      ↔ (Nowhere (Asked address aspect finding.Kept) earlier scenario × Nowhere (Asked address aspect finding.Either) earlier scenario
      × Nowhere (Asked address aspect finding.Broken) earlier scenario)

-- a rule is judged by the list of what was sent and heard alone, whatever that was in earlier scenarios
abbrev pub Judges : Aspect → Type 0
Judges aspect = (address : ℕ) (earlier scenario : List Sent) → Comes address aspect earlier scenario (verdict_on aspect address earlier scenario)

-- What breaks a rule at one place is found: whatever earlier scenarios had, whatever stands before it in its own, and whatever comes after.
abbrev pub FindsWhatBreaks : Type 0
FindsWhatBreaks = (address : ℕ) (aspect : Aspect) (earlier before : List Sent) (x : Sent) (after : List Sent) → x.asks ≡ true
    → Shows address aspect finding.Broken (earlier ++ before) x → verdict_on aspect address earlier (before ++ x ∷ after) ≡ Broken

-- A rule that no place of its scenario breaks is not accused.
abbrev pub AccusesNoOther : Type 0
AccusesNoOther = (address : ℕ) (aspect : Aspect) (earlier scenario : List Sent)
    → ((before : List Sent) (x : Sent) (after : List Sent) → scenario ≡ before ++ x ∷ after → x.asks ≡ true
    → Shows address aspect finding.Broken (earlier ++ before) x → ⊥)
    → verdict_on aspect address earlier scenario ≢ Broken
