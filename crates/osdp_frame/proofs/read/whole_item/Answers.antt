use Rattle.osdp_frame.proofs.Common.{◌≡◌, ◌∙◌, Some, ap, sym, inl, inr, item_in, by_itself, item_of}
use Rattle.osdp_frame.proofs.FirstItems.{first_by_itself}
use Rattle.osdp_frame.proofs.read.whole_item.Goals as goal

pub returns-in-Packet : goal.returns-in-Packet
returns-in-Packet c =
    let bytes = c.args.bytes.now in
    let first = c.in_ok-first.first in
    let part = item_of c.shown.result in
    let own : Some (item_in first bytes) ≡ by_itself (Some (item_in first bytes)) = elim c.in-Packet.is [
      | inl packet ↦ ap (λ f. Some (item_in f bytes)) packet.1 ∙ sym (ap (λ f. by_itself (Some (item_in f bytes))) packet.1)
      | inr skipped ↦ ap (λ f. Some (item_in f bytes)) skipped.1 ∙ sym (ap (λ f. by_itself (Some (item_in f bytes))) skipped.1)
    ] in
    let shown = ap Some c.shown.ensures ∙ own ∙ ap by_itself c.in_ok-first.ensures.part in
    record {
      shown = shown;
      first = first_by_itself bytes part c.are_bytes.ensures (sym shown);
    }
