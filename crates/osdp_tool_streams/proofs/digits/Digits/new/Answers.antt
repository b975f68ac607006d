use Rattle.osdp_tool_streams.proofs.Common.{refl, ◌∙◌, arith, length-set}
use Rattle.osdp_tool_streams.proofs.DigitValues.{value_set}
use Rattle.osdp_tool_streams.proofs.digits.Digits.new.Goals as goal

pub characters-init : goal.characters-init
characters-init c = (refl, λ character below. absurd (omega arith))

pub characters-preserved : goal.characters-preserved
characters-preserved c =
    let size = c.characters.invariant.0 in (
      length-set c.characters.values c.characters.character c.value.result ∙ size,
      value_set c.characters.values c.characters.character c.value.result (omega (arith, c.characters-test.true)) c.characters.invariant.1 c.value.ensures,
    )
