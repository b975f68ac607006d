use Rattle.osdp_tool_monitor.proofs.Common.{Err, sym, subst, inner_of, has_failed, on_err, Ends}
use Rattle.osdp_tool_monitor.proofs.Closing.{breaks_stopped, breaks_well, ends_bad, ends_stopped, ends_well, fails_by, fails_well}
use Rattle.osdp_tool_monitor.proofs.Pieces.{nothing_read}
use Rattle.osdp_tool_monitor.proofs.command.monitor.Goals as goal

pub returns-in_err-session : goal.returns-in_err-session
returns-in_err-session g c =
    let input = g.R.Read.remaining (inner_of c.args.input.now) in
    let output = g.W.Write.contents (inner_of c.args.output.now) in
    on_err (λ r. Ends g.M.Moments.tells c.args.mode c.args.clock.now c.args.clock.now input input (has_failed c.args.input.now) output output (has_failed c.args.output.now) r)
    c.from_residual.result c.in_err-session.field-0.0 c.from_residual.ensures.1
    (subst (λ f. Ends g.M.Moments.tells c.args.mode c.args.clock.now c.args.clock.now input input (has_failed c.args.input.now) output output (has_failed c.args.output.now) (Err f))
    (sym c.in_err-session.ensures.fault) (nothing_read g.M.Moments.tells c.args.mode c.args.clock.now input output, c.requires.output))

pub returns-in_err-close-in-Ok-true : goal.returns-in_err-close-in-Ok-true
returns-in_err-close-in-Ok-true g c =
    ends_stopped g.M.Moments.tells c.args.mode c.args.clock.now c.read_all.new.clock (g.R.Read.remaining (inner_of c.args.input.now)) (g.R.Read.remaining (inner_of c.read_all.new.input))
    (g.W.Write.contents (inner_of c.args.output.now)) (g.W.Write.contents (inner_of c.read_all.new.output)) (g.W.Write.contents (inner_of c.close.new.output))
    (has_failed c.read_all.new.input) (has_failed c.read_all.new.output) (has_failed c.close.new.output) c.read_all.new.self c.in_ok-session.session.mode c.in_ok-session.ensures.mode
    c.in-Ok-true.field-0 c.in-Ok-true.field-0-test c.in-Ok-true.ensures c.close.new.self c.in_err-close-in-Ok-true.field-0.0 c.in_err-close-in-Ok-true.ensures.told
    c.from_residual-in_err-close-in-Ok-true.result c.from_residual-in_err-close-in-Ok-true.ensures.1

pub returns-in-true : goal.returns-in-true
returns-in-true g c =
    ends_well g.M.Moments.tells c.args.mode c.args.clock.now c.read_all.new.clock (g.R.Read.remaining (inner_of c.args.input.now)) (g.R.Read.remaining (inner_of c.read_all.new.input))
    (g.W.Write.contents (inner_of c.args.output.now)) (g.W.Write.contents (inner_of c.read_all.new.output)) (g.W.Write.contents (inner_of c.close.new.output))
    (has_failed c.read_all.new.input) (has_failed c.read_all.new.output) (has_failed c.close.new.output) c.read_all.new.self c.in_ok-session.session.mode c.in_ok-session.ensures.mode
    c.in-Ok-true.field-0 c.in-Ok-true.field-0-test c.in-Ok-true.ensures c.close.new.self c.in_ok-close-in-Ok-true.field-0 c.is_wrong.result
    c.in_ok-close-in-Ok-true.ensures.told c.in_ok-close-in-Ok-true.ensures.bad c.in-true.is c.is_wrong.ensures

pub returns-in-Ok-true : goal.returns-in-Ok-true
returns-in-Ok-true g c =
    ends_bad g.M.Moments.tells c.args.mode c.args.clock.now c.read_all.new.clock (g.R.Read.remaining (inner_of c.args.input.now)) (g.R.Read.remaining (inner_of c.read_all.new.input))
    (g.W.Write.contents (inner_of c.args.output.now)) (g.W.Write.contents (inner_of c.read_all.new.output)) (g.W.Write.contents (inner_of c.close.new.output))
    (has_failed c.read_all.new.input) (has_failed c.read_all.new.output) (has_failed c.close.new.output) c.read_all.new.self c.in_ok-session.session.mode c.in_ok-session.ensures.mode
    c.in-Ok-true.field-0 c.in-Ok-true.field-0-test c.in-Ok-true.ensures c.close.new.self c.in_ok-close-in-Ok-true.field-0
    c.in_ok-close-in-Ok-true.ensures.told c.in_ok-close-in-Ok-true.ensures.bad c.in-false.is

pub returns-in_err-break_off-in-Ok-false : goal.returns-in_err-break_off-in-Ok-false
returns-in_err-break_off-in-Ok-false g c =
    breaks_stopped g.M.Moments.tells c.args.mode c.args.clock.now c.read_all.new.clock (g.R.Read.remaining (inner_of c.args.input.now)) (g.R.Read.remaining (inner_of c.read_all.new.input))
    (g.W.Write.contents (inner_of c.args.output.now)) (g.W.Write.contents (inner_of c.read_all.new.output)) (g.W.Write.contents (inner_of c.break_off.new.output))
    (has_failed c.read_all.new.input) (has_failed c.read_all.new.output) (has_failed c.break_off.new.output) c.read_all.new.self c.in_ok-session.session.mode c.in_ok-session.ensures.mode
    c.in-Ok-false.field-0 c.in-Ok-false.field-0-test c.in-Ok-false.ensures c.in_err-break_off-in-Ok-false.field-0.0 c.in_err-break_off-in-Ok-false.ensures
    c.from_residual-in_err-break_off-in-Ok-false.result c.from_residual-in_err-break_off-in-Ok-false.ensures.1

pub returns-in-Ok-false : goal.returns-in-Ok-false
returns-in-Ok-false g c =
    breaks_well g.M.Moments.tells c.args.mode c.args.clock.now c.read_all.new.clock (g.R.Read.remaining (inner_of c.args.input.now)) (g.R.Read.remaining (inner_of c.read_all.new.input))
    (g.W.Write.contents (inner_of c.args.output.now)) (g.W.Write.contents (inner_of c.read_all.new.output)) (g.W.Write.contents (inner_of c.break_off.new.output))
    (has_failed c.read_all.new.input) (has_failed c.read_all.new.output) (has_failed c.break_off.new.output) c.read_all.new.self c.in_ok-session.session.mode c.in_ok-session.ensures.mode
    c.in-Ok-false.field-0 c.in-Ok-false.field-0-test c.in-Ok-false.ensures c.in_ok-break_off-in-Ok-false.ensures

pub returns-in-Ok : goal.returns-in-Ok
returns-in-Ok g c =
    fails_well g.M.Moments.tells c.args.mode c.args.clock.now c.read_all.new.clock (g.R.Read.remaining (inner_of c.args.input.now)) (g.R.Read.remaining (inner_of c.read_all.new.input))
    (g.W.Write.contents (inner_of c.args.output.now)) (g.W.Write.contents (inner_of c.read_all.new.output)) (g.W.Write.contents (inner_of c.break_off-in-Err-ReadFailed.new.output))
    (has_failed c.read_all.new.input) (has_failed c.read_all.new.output) (has_failed c.break_off-in-Err-ReadFailed.new.output) c.read_all.new.self c.in_ok-session.session.mode c.in_ok-session.ensures.mode
    c.in-Err-ReadFailed.field-0 c.in-Err-ReadFailed.field-0-is c.in-Err-ReadFailed.ensures c.in-Ok.ensures

pub returns-in-Err-ReadFailed : goal.returns-in-Err-ReadFailed
returns-in-Err-ReadFailed g c =
    fails_by g.M.Moments.tells c.args.mode c.args.clock.now c.read_all.new.clock (g.R.Read.remaining (inner_of c.args.input.now)) (g.R.Read.remaining (inner_of c.read_all.new.input))
    (g.W.Write.contents (inner_of c.args.output.now)) (g.W.Write.contents (inner_of c.read_all.new.output)) (g.W.Write.contents (inner_of c.break_off-in-Err-ReadFailed.new.output))
    (has_failed c.read_all.new.input) (has_failed c.read_all.new.output) (has_failed c.break_off-in-Err-ReadFailed.new.output) c.read_all.new.self c.in_ok-session.session.mode c.in_ok-session.ensures.mode
    c.in-Err-ReadFailed.field-0 c.in-Err-ReadFailed.field-0-is c.in-Err-ReadFailed.ensures c.in-Err-break_off.fault c.after_failed_read.result
    c.in-Err-break_off.ensures c.after_failed_read.ensures
