use Rattle.osdp_calls_instance.proofs.CPrograms.{panels_are}
use Rattle.osdp_calls_instance.proofs.LinePrograms.{panel_lines_are}
use Rattle.osdp_calls_instance.proofs.panels_stand_beside_any_devices.Goals as goal

pub returns : goal.returns
returns g c = record { c = panels_are c.adds_make_the_bus.ensures; lines = panel_lines_are c.adds_make_the_bus.ensures }
