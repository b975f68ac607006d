use Rattle.std.proofs.Common.{refl, arith}
use Rattle.osdp_tool_inputs.proofs.RunPlaces.{at_first}
use Rattle.osdp_tool_inputs.proofs.places.Place.before.Goals as goal

pub returns-clause-place : goal.returns-clause-place
returns-clause-place c =
    at_first c.args.source _ c.requires refl refl c.of.ensures.left c.of.ensures.echoes c.none.ensures.stamp c.none.ensures.told refl (omega arith)
