-- The calls of programs are calls of a line in use, so what holds of these holds of them.
use Rattle.osdp_programs_ledger.proofs.Common.{◌≡◌, Some, subst, Command, device_of, Answer, CallTheLine, DeviceKind, PanelKind, LedgerHoldsOnce}
use Rattle.osdp_calls.specs.Programs.{CallsRuleSuffices}
use Rattle.osdp_programs_ledger.specs.Programs.{ProgramsHoldOnce, RuledProgramsHoldOnce}
use Rattle.osdp_programs_ledger.proofs.Entries.{entry_of}

module _ {H : Type 0} (P : PanelKind H) (D : DeviceKind H) (answer_of : H → Command → Answer) (after : H → Command → H) where
  pub programs_hold : CallTheLine P D answer_of after → LedgerHoldsOnce answer_of after → ProgramsHoldOnce P D answer_of after
  programs_hold call holds own w l steps are keep k first d at there =
      let goes = call own w l steps are.fit are.line are.calls in
      let last = goes.devices k d there in
      let entry = entry_of answer_of after l steps are.up keep k last.1 last.2 in
      let held = holds l steps are.up keep k first last.1 entry.0 at last.2 entry.1 in
      record {
        entry = entry.0;
        has = subst (λ b. device_of k b ≡ Some entry.0) goes.bus entry.1;
        station = last.1;
        held = last.3;
        allowed = held.0;
        holds = held.1;
      }

  pub ruled_programs_hold : ProgramsHoldOnce P D answer_of after → CallsRuleSuffices answer_of after → RuledProgramsHoldOnce P D answer_of after
  ruled_programs_hold holds suffices own w l steps are keep = holds own w l steps are (suffices l steps are.up keep)
