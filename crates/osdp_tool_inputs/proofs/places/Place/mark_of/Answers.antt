use Rattle.osdp_tool_inputs.proofs.Common.{sym, ap, ◌∙◌, arith, run_of}
use Rattle.osdp_tool_inputs.proofs.RunPlaces.{none_past, runs_short}
use Rattle.osdp_tool_inputs.proofs.places.Place.mark_of.Goals as goal

pub returns-in-None-clause-stamp : goal.returns-in-None-clause-stamp
returns-in-None-clause-stamp c =
    c.none.ensures.stamp ∙ sym (none_past c.args.source.text.now (run_of c.args.line.now) (omega (arith, c.in-None.ensures, runs_short c.args.source.text.now))).0

pub returns-in-None-clause-told : goal.returns-in-None-clause-told
returns-in-None-clause-told c =
    c.none.ensures.told
    ∙ sym ((none_past c.args.source.text.now (run_of c.args.line.now) (omega (arith, c.in-None.ensures, runs_short c.args.source.text.now))).1)
