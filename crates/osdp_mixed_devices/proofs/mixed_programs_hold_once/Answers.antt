use Rattle.osdp_calls_instance.specs.CPrograms.{c_device, c_panel}
use Rattle.osdp_calls_instance.specs.LinePrograms.{line_device, line_panel}
use Rattle.osdp_calls_instance.proofs.CPrograms as in_c
use Rattle.osdp_calls_instance.proofs.LinePrograms as by_lines
use Rattle.osdp_calls_instance.proofs.OwnCalls.{call_the_line}
use Rattle.osdp_device.specs.Program.{program_after, program_answer}
use Rattle.osdp_device.specs.Status.{status_after, status_answer}
use Rattle.osdp_mixed_devices.specs.Either.{after_either, answer_of_either}
use Rattle.osdp_mixed_devices.specs.Mixed.{either_device}
use Rattle.osdp_mixed_devices.proofs.Mixed.{either_are}
use Rattle.osdp_programs_ledger.proofs.Programs.{programs_hold, ruled_programs_hold}
use Rattle.osdp_mixed_devices.proofs.mixed_programs_hold_once.Goals as goal

pub returns : goal.returns
returns c =
    let answer = answer_of_either program_answer status_answer in
    let after = after_either program_after status_after in
    let devices = either_device c_device line_device in
    let are = either_are program_answer program_after status_answer status_after c_device line_device in_c.devices_are by_lines.device_lines_are in
    let own = c.ends_go_by_their_own_calls.ensures.own in
    let of_c = programs_hold c_panel devices answer after (call_the_line answer after own c_panel devices (in_c.panels_are c.adds_make_the_bus.ensures) are) c.ledger_holds_once.ensures.calls in
    let of_lines = programs_hold line_panel devices answer after (call_the_line answer after own line_panel devices (by_lines.panel_lines_are c.adds_make_the_bus.ensures) are) c.ledger_holds_once.ensures.calls in
    record {
      c = of_c;
      c_ruled = ruled_programs_hold c_panel devices answer after of_c c.calls_rule_suffices.ensures.suffices;
      lines = of_lines;
      lines_ruled = ruled_programs_hold line_panel devices answer after of_lines c.calls_rule_suffices.ensures.suffices;
    }
