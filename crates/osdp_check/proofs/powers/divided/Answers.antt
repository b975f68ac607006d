use Rattle.osdp_check.proofs.Common.{ap, ◌∙◌, ◌%◌, ◌^◌, bit_xor}
use Rattle.osdp_check.proofs.Places.{moved_by, halves_divided}
use Rattle.osdp_check.proofs.powers.divided.Goals as goal

pub returns : goal.returns
returns c =
    ap (λ n. bit_xor n (c.args.dividend % 2 ^ 16)) (c.over_byte-2.ensures ∙ ap (moved_by 8) c.over_byte.ensures)
    ∙ halves_divided c.args.dividend
