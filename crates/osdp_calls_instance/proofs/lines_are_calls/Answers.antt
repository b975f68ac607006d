use Rattle.osdp_calls_instance.proofs.LinePrograms.{device_lines_are, lines_are_these, panel_lines_are}
use Rattle.osdp_calls_instance.proofs.OwnCalls.{call_the_line}
use Rattle.osdp_calls_instance.proofs.RunAnew.{panels_run_anew}
use Rattle.osdp_calls_instance.proofs.Common.{line_device, line_panel, status_after, status_answer}
use Rattle.osdp_calls_instance.proofs.lines_are_calls.Goals as goal

pub returns : goal.returns
returns c = record {
  lines = lines_are_these c.a_panels_run_is_its_calls.ensures c.a_devices_run_is_its_calls.ensures;
  anew = panels_run_anew;
  line = call_the_line status_answer status_after c.stands_on_calls.ensures.own line_panel line_device
      (panel_lines_are c.stands_on_calls.ensures.adds) device_lines_are;
}
