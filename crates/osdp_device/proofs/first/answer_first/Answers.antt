use Rattle.osdp_device.proofs.Common.{ℕ, ◌≡◌, refl, sym, ap, Some, ◌∙◌, result_ok, after_advance, decided, PacketItem, item_of, command_in, acted_on, command_at, said_if}
use Rattle.osdp_device.proofs.Taking.{told_here}
use Rattle.osdp_device.proofs.first.answer_first.Goals as goal

pub returns : goal.returns
returns g c =
    let held = c.args.line.now.held in
    let here : decided held.ended held.bytes ≡ Some (PacketItem c.in-Some-Packet.packet) =
    sym c.in-Some-Packet.ensures.shown ∙ ap (λ i. Some (item_of i)) c.in-Some-Packet.field-0-is in
    let told = told_here g.H.Handler.answer_of g.H.Handler.after c.args.reader.now c.hear-2.new.reader held (after_advance held) (PacketItem c.in-Some-Packet.packet)
    (said_if (Some c.hear-2.result) (acted_on c.hear-2.result (result_ok (command_in c.in-Some-Packet.packet))) c.hear-2.new.out.items) here
    refl c.hear-2.ensures.said c.hear-2.ensures.reader refl in
    record {
      said = ap (λ o. said_if (Some c.hear-2.result) (acted_on c.hear-2.result (command_at o)) c.hear-2.new.out.items) here ∙ sym (ap (λ t. t.said) told);
      reader = ap (λ t. t.reader) (sym told);
      held = ap (λ t. t.held) (sym told);
      ages = c.hear.ensures ∙ ap (λ (n : ℕ). record c.args.ages.now { last_packet = Some n }) c.greatest.ensures.greatest;
    }
