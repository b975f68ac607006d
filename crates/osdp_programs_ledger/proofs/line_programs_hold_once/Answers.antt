use Rattle.osdp_programs_ledger.proofs.Common.{line_device, line_panel, status_after, status_answer}
use Rattle.osdp_programs_ledger.proofs.Programs.{programs_hold, ruled_programs_hold}
use Rattle.osdp_programs_ledger.proofs.line_programs_hold_once.Goals as goal

pub returns : goal.returns
returns c =
    let holds = programs_hold line_panel line_device status_answer status_after c.lines_are_calls.ensures.line c.ledger_holds_once.ensures.calls in
    record { calls = holds; ruled = ruled_programs_hold line_panel line_device status_answer status_after holds c.calls_rule_suffices.ensures.suffices }
