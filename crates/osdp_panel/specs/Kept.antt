-- How a report is kept: what happened as a report of a controller, which of an expired order has its command alone.
use Rattle.std.specs.Prelude.{Bool, true, false, Some, None}
use Rattle.osdp_controller.specs.declared.report.Report.{Report}
use Rattle.osdp_controller.specs.declared.report.Report.TheVariants.{Lost}
use Rattle.osdp_panel.specs.declared.report.What.{What}
use Rattle.osdp_panel.specs.declared.report.What.TheVariants.{Told, Expired}

abbrev pub what_in : Bool → Report → What
what_in true (Lost cause (Some command)) = Expired command
what_in expired r = Told r
