use Rattle.std.proofs.Common.{refl, ap, arith, ◌∙◌, ◌*◌, ◌^◌, bit_and}
use Rattle.osdp_check.proofs.Common.{one_shl, bit_xor}
use Rattle.osdp_check.specs.Crc.{product}
use Rattle.osdp_check.proofs.Places.{product_more}
use Rattle.osdp_check.proofs.powers.multiplied.Goals as goal

pub loop-place-init : goal.loop-place-init
unfolding product
loop-place-init c = refl

pub loop-place-preserved : goal.loop-place-preserved
loop-place-preserved c =
    let place = c.loop-place.place in
    let sum = c.loop-place.sum in
    ap (λ b. bit_xor sum (bit_and c.from.result b * c.from-in-loop-place.result)) (one_shl place 32 (omega arith))
    ∙ ap (λ n. bit_xor sum (bit_and n (2 ^ place) * c.from-in-loop-place.result)) c.from.ensures
    ∙ ap (λ f. bit_xor sum (bit_and c.args.number (2 ^ place) * f)) c.from-in-loop-place.ensures
    ∙ product_more c.args.number c.args.factor place sum c.loop-place.invariant
