-- What holds of a link holds of each site.
use Rattle.std.proofs.Common.{sym, subst}
use Rattle.osdp_msg.specs.declared.command.Command.{Command}
use Rattle.osdp_reader.specs.declared.handler.Answer.{Answer}
use Rattle.osdp_ledger.specs.History.{new_history, runs}
use Rattle.osdp_link_laws.specs.Link.{Link}
use Rattle.osdp_link_ledger.specs.Laws.{HoldsByLedger, IsLedgerOf, LinkKeepsLedger}
use Rattle.osdp_link_ledger.specs.Telling.{LedgerTellsMoves}
use Rattle.osdp_shared_line.specs.Runs.{EachIsALink, moves_of}
use Rattle.osdp_shared_line.specs.Views.{view}
use Rattle.osdp_shared_line.proofs.Linking.{viewed}
use Rattle.osdp_line_ledger.specs.Laws.{EachSiteKeepsLedger, steps_at}

module _ {H : Type 0} (answer_of : H → Command → Answer) (after : H → Command → H) where
  pub each_keeps : EachIsALink answer_of after → LinkKeepsLedger answer_of after → LedgerTellsMoves answer_of after → HoldsByLedger answer_of after → EachSiteKeepsLedger answer_of after
  each_keeps links keeps tells holds n moves up fits k first last is there =
      let h = links n moves up fits k first is in
      let own = moves_of answer_of after k moves n in
      let l = view k first n in
      let same = sym (viewed answer_of after n moves k first last h there) in
      let kept = keeps l own (up.begins k first is) h.fits in
      let held = holds l own (up.begins k first is) h.fits in
      let history = runs (steps_at answer_of after k first moves n) new_history in
      record {
        allowed = kept.0;
        ledger = subst (λ (v : Link H). IsLedgerOf v history.ledger) same kept.1;
        tells = tells l own (up.begins k first is) h.fits;
        orders = held.0;
        events = held.1;
      }
