use Rattle.osdp_programs_ledger.proofs.Common.{c_device, c_panel, program_after, program_answer}
use Rattle.osdp_programs_ledger.proofs.Programs.{programs_hold, ruled_programs_hold}
use Rattle.osdp_programs_ledger.proofs.c_programs_hold_once.Goals as goal

pub returns : goal.returns
returns c =
    let holds = programs_hold c_panel c_device program_answer program_after c.calls_for_c_are_calls.ensures.line c.ledger_holds_once.ensures.calls in
    record { calls = holds; ruled = ruled_programs_hold c_panel c_device program_answer program_after holds c.calls_rule_suffices.ensures.suffices }
