use Rattle.osdp_tool_times.proofs.Common.{◌≡◌, ◌+◌, length, take, sym, ap, ◌∙◌, arith, take_rest, milliseconds}
use Rattle.osdp_tool_times.proofs.Plain.{if_plain}
use Rattle.osdp_tool_times.proofs.moment.plain_stamp.Goals as goal

pub returns : goal.returns
returns c =
    let size : c.in_ok-point.point + 4 ≡ length c.args.stamp.now = omega (arith, c.in_ok-point.ensures) in
    if_plain c.milliseconds.result c.args.stamp.now c.in_ok-point.point
    (c.milliseconds.ensures ∙ ap (milliseconds (take c.in_ok-point.point c.args.stamp.now)) (take_rest c.args.stamp.now (c.in_ok-point.point + 1))) size c.if-stamp-point-ne46.false (sym c.has_date.ensures ∙ c.if-has_date.false)
