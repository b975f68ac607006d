use Rattle.osdp_calls_instance.proofs.OwnCalls.{call_the_line}
use Rattle.osdp_calls_instance.proofs.Panels.{device_is, panel_is}
use Rattle.osdp_calls_instance.specs.Panels.{rattle_device, rattle_panel}
use Rattle.osdp_calls_instance.proofs.panel_calls_are_calls.Goals as goal

pub returns : goal.returns
returns g c =
    let answer_of = g.H.Handler.answer_of in
    let after = g.H.Handler.after in
    record {
      bus = panel_is c.stands_on_calls.ensures.adds;
      line = call_the_line answer_of after c.stands_on_calls.ensures.own rattle_panel (rattle_device answer_of after)
          (panel_is c.stands_on_calls.ensures.adds) (device_is answer_of after);
    }
