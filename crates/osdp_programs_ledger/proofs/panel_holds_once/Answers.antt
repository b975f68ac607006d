use Rattle.osdp_calls_instance.specs.Panels.{rattle_device, rattle_panel}
use Rattle.osdp_programs_ledger.proofs.Programs.{programs_hold, ruled_programs_hold}
use Rattle.osdp_programs_ledger.proofs.panel_holds_once.Goals as goal

pub returns : goal.returns
returns g c =
    let answer_of = g.H.Handler.answer_of in
    let after = g.H.Handler.after in
    let device = rattle_device answer_of after in
    let holds = programs_hold rattle_panel device answer_of after c.panel_calls_are_calls.ensures.line c.ledger_holds_once.ensures.calls in
    record { calls = holds; ruled = ruled_programs_hold rattle_panel device answer_of after holds c.calls_rule_suffices.ensures.suffices }
