use Rattle.osdp_tool_monitor.proofs.Common.{◌+◌, ◌*◌, length, take, arith, IfErr, length-take, AreBytes-take, hearing_of, load, IsLineFault, on_err}
use Rattle.osdp_tool_monitor.proofs.Items.{fault_more}
use Rattle.osdp_tool_monitor.proofs.OpenRuns.{come_after, come_none, load_came, load_more}
use Rattle.osdp_tool_monitor.proofs.open_line.OpenLine.come.Goals as goal

pub pieces-init : goal.pieces-init
pieces-init c = record {
  within = omega arith;
  hears = come_none c.args.self.now _ (record { bytes = c.requires.bytes; goes_on = c.requires.goes_on; none = c.requires.none });
}

pub pieces-preserved : goal.pieces-preserved
pieces-preserved c = record {
  within = omega (arith, c.in_ok-at.ensures.within, c.pieces.invariant.within);
  hears = come_after c.args.bytes.now c.pieces.at c.in_ok-at.field-0 _ c.args.self.now c.pieces.self c.come_some.new.self _ _ _ c.in_ok-at.ensures.within
      (λ k. omega (arith, c.type_inv.bytes k)) (record { bytes = c.requires.bytes; goes_on = c.requires.goes_on; none = c.requires.none })
      c.pieces.invariant.hears c.in_ok-at.ensures.hears;
}

pub returns-in_err-at-clause-fault : goal.returns-in_err-at-clause-fault
returns-in_err-at-clause-fault c =
    on_err (λ r. IfErr r (IsLineFault (load (hearing_of c.args.self.now) + 5 * length c.args.bytes.now))) c.from_residual.result c.in_err-at.field-0.0 c.from_residual.ensures.1
    (fault_more _ _ c.in_err-at.field-0.0
    (load_more c.args.bytes.now c.pieces.at c.args.self.now c.pieces.self _ _ c.pieces.invariant.within (λ k. omega (arith, c.type_inv.bytes k))
    (record { bytes = c.requires.bytes; goes_on = c.requires.goes_on; none = c.requires.none }) c.pieces.invariant.hears)
    c.in_err-at.ensures.fault)

pub returns-clause-load : goal.returns-clause-load
returns-clause-load c =
    omega (
      arith,
      load_came (take c.pieces.at c.args.bytes.now) c.args.self.now c.pieces.self _ _ (AreBytes-take c.pieces.at c.args.bytes.now (λ k. omega (arith, c.type_inv.bytes k)))
          (record { bytes = c.requires.bytes; goes_on = c.requires.goes_on; none = c.requires.none }) c.pieces.invariant.hears,
      length-take c.pieces.at c.args.bytes.now,
    )
