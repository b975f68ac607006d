use Rattle.osdp_tool_streams.proofs.Common.{◌*◌, length, arith, decode_step, decode_done, decode_err}
use Rattle.osdp_tool_streams.proofs.DigitValues.{pair_ok, pair_err, read_all, read_none}
use Rattle.osdp_tool_streams.proofs.digits.Digits.read.Goals as goal

pub returns-in_default : goal.returns-in_default
returns-in_default c =
    let place = c.pairs.place in
    let characters = c.args.characters.now in
    let refused = pair_err _ (c.in_default.ensures (2 * place)) in
    read_none characters c.pairs.bytes (length c.args.bytes.now) refused.0 c.requires
    (decode_err characters c.pairs.bytes place refused.0 (omega (arith, c.requires, c.pairs-test.true)) refused.1 c.pairs.invariant)

pub pairs-preserved : goal.pairs-preserved
pairs-preserved c =
    let place = c.pairs.place in
    decode_step c.args.characters.now c.pairs.bytes place c.in-Some.byte (omega (arith, c.requires, c.pairs-test.true))
    (omega (arith, c.pairs-test.true)) (pair_ok _ c.in-Some.byte (c.in-Some.ensures (2 * place))) c.pairs.invariant

pub returns : goal.returns
returns c =
    read_all c.args.characters.now c.pairs.bytes (length c.args.bytes.now) c.requires
    (decode_done c.args.characters.now c.pairs.bytes c.pairs.place (omega arith) (omega (arith, c.requires)) c.pairs.invariant)
