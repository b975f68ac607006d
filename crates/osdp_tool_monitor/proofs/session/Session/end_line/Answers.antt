use Rattle.osdp_tool_monitor.proofs.Common.{refl, subst, [], ◌∷◌, ◌+◌, ◌*◌, ap, arith, length, IfErr, string_bytes, on_err, Hears, RunEnds, hearing_of, load, IsLineFault, weight}
use Rattle.osdp_tool_monitor.proofs.Items.{fault_more}
use Rattle.osdp_tool_monitor.proofs.Weights.{said_within}
use Rattle.osdp_tool_monitor.proofs.Sessions.{line_broke, line_went}
use Rattle.osdp_tool_monitor.proofs.session.Session.end_line.Goals as goal

pub returns-then-not-good-clause-goes : goal.returns-then-not-good-clause-goes
returns-then-not-good-clause-goes c =
    line_broke c.args.self.now _ c.args.characters.now c.read_line.new.bytes.items _ _ c.requires.ready c.in-Ok.ensures.read c.if-not-good.true refl refl refl

pub returns-clause-goes : goal.returns-clause-goes
returns-clause-goes c =
    line_went c.args.self.now _ c.args.characters.now c.read_line.new.bytes.items _ _ _ c.requires.ready c.in-Ok.ensures.read c.if-not-good.false
    (subst (λ b. Hears (RunEnds b ∷ []) c.args.self.now.line c.hear_run.new.self (string_bytes c.args.text.now) (string_bytes c.hear_run.new.text)) c.deref.ensures.value
    c.in_ok-hear_run.ensures.hears)
    refl refl refl c.in-Ok.ensures.line refl

pub returns-clause-weighs : goal.returns-clause-weighs
returns-clause-weighs c =
    let within = said_within c.args.self.now.characters.items c.args.characters.now c.read_line.new.bytes.items _ c.in-Ok.good refl c.in-Ok.ensures.read c.if-not-good.false in
    omega (arith, within, c.in_ok-hear_run.ensures.load, ap length c.deref.ensures.value, ap length c.in-Ok.ensures.line)

pub returns-in_err-hear_run-clause-fault : goal.returns-in_err-hear_run-clause-fault
returns-in_err-hear_run-clause-fault c =
    let within = said_within c.args.self.now.characters.items c.args.characters.now c.read_line.new.bytes.items _ c.in-Ok.good refl c.in-Ok.ensures.read c.if-not-good.false in
    on_err (λ r. IfErr r (IsLineFault (weight c.args.self.now + 5 * (length c.args.characters.now + 1)))) c.from_residual.result c.in_err-hear_run.field-0.0 c.from_residual.ensures.1
    (fault_more (load (hearing_of c.args.self.now.line) + 5 * length c.deref.result.now) (weight c.args.self.now + 5 * (length c.args.characters.now + 1)) c.in_err-hear_run.field-0.0
    (omega (arith, within, ap length c.deref.ensures.value)) c.in_err-hear_run.ensures.fault)
