-- Times on the wire.
use Rattle.std.proofs.Common.{◌≡◌, ◌∙◌, ap, refl, ℕ, ◌+◌, ◌-◌, ◌*◌, ◌<◌, ◌≤◌, arith}
use Rattle.std.proofs.Math.Nat.{div-lt_iff_lt-mul}
use Rattle.osdp_plan.specs.Figures.{wire_time}
use Rattle.osdp_plan.specs.Wires.{AnswersWithinFigure, DefaultsAreTheMachines, IsLeastTime}

pub least_time : IsLeastTime
least_time rate bytes time some =
    let below = div-lt_iff_lt-mul {k = rate} {x = bytes * 10000 + (rate - 1)} {y = time + 1} some in (
      (λ within. let lt : wire_time rate bytes < time + 1 = omega (arith, within) in let past = below.0 lt in omega (arith, past, some)),
      (λ passed. let lt : bytes * 10000 + (rate - 1) < (time + 1) * rate = omega (arith, passed, some) in let within = below.1 lt in omega (arith, within)),
    )

-- fewer bytes take no longer
sooner : (rate fewer more : ℕ) → 0 < rate → fewer ≤ more → wire_time rate fewer ≤ wire_time rate more
sooner rate fewer more some less =
    let passed = (least_time rate more (wire_time rate more) some).0 (omega arith) in
    (least_time rate fewer (wire_time rate more) some).1 (omega (arith, passed, less))

twice : (longest : ℕ) → longest + longest ≡ longest * 2
twice longest = omega arith

pub within_figure : AnswersWithinFigure
within_figure = record {
  within = λ p e some is.
      let wire = sooner p.rate (e.packet + e.answer) (p.longest * 2) some (omega (arith, is.packet, is.answer)) in
      omega (arith, wire, is.thinks, is.held_there, is.held_back);
  reached = λ p.
      ap (λ (bytes : ℕ). wire_time p.rate bytes + p.answer + p.hold + p.hold) (twice p.longest) ∙ omega arith;
}

pub defaults : DefaultsAreTheMachines
defaults = refl
