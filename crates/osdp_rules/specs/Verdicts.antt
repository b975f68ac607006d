-- What the findings of a scenario come to.
use Rattle.std.specs.Prelude.{List, [], ◌∷◌}
use Rattle.osdp_rules.specs.declared.finding.Finding.{Finding}
use Rattle.osdp_rules.specs.declared.finding.Finding.TheVariants as finding
use Rattle.osdp_rules.specs.declared.verdict.Verdict.{Verdict}
use Rattle.osdp_rules.specs.declared.verdict.Verdict.TheVariants.{Ok, Either, Broken}

-- what broke a rule stays broken; what was left open is told
abbrev pub verdict_after : Verdict → Finding → Verdict
verdict_after Broken f = Broken
verdict_after v finding.Nothing = v
verdict_after v finding.Broken = Broken
verdict_after v finding.Either = Either
verdict_after Either finding.Kept = Either
verdict_after v finding.Kept = Ok

abbrev pub verdict_along : Verdict → List Finding → Verdict
verdict_along v [] = v
verdict_along v (f ∷ fs) = verdict_along (verdict_after v f) fs
