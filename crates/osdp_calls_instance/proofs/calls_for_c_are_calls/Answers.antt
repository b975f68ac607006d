use Rattle.osdp_calls_instance.proofs.CPrograms.{adds_in_use, devices_are, makes_anew, panels_are}
use Rattle.osdp_calls_instance.proofs.OwnCalls.{call_the_line}
use Rattle.osdp_calls_instance.proofs.Common.{c_device, c_panel, program_after, program_answer}
use Rattle.osdp_calls_instance.proofs.calls_for_c_are_calls.Goals as goal

pub returns : goal.returns
returns c = record {
  added = adds_in_use;
  anew = makes_anew;
  line = call_the_line program_answer program_after c.stands_on_calls.ensures.own c_panel c_device (panels_are c.stands_on_calls.ensures.adds) devices_are;
}
