use Rattle.osdp_sim.proofs.Common.{◌≡◌, true, not, ◌==◌, [], length, arith, rules, ap, sym, ◌∙◌, Held, items, has_packet}
use Rattle.osdp_frame_laws.proofs.OneByOne.{still_ended}
use Rattle.osdp_sim.proofs.Bursts.{framed_run}
use Rattle.osdp_sim.proofs.line.holds_packet.Goals as goal

pub returns : goal.returns
returns c =
    let bytes = c.args.run.now.items in
    let given : c.gap.new.self ≡ record { bytes = bytes; ended = not (length bytes == 0) } = search (rules, framed_run bytes (omega (arith, c.as_slice.ensures.fits, ap length c.as_slice.ensures.value))) in
    let none : items c.items.framer.ended c.items.framer.bytes ≡ [] = c.items_one_by_one.ensures.none c.items.framer (sym c.in_default.ensures.shown) in
    sym (ap has_packet none) ∙ c.items.invariant ∙ ap (λ (h : Held). has_packet (items h.ended h.bytes)) given ∙ ap has_packet (still_ended true bytes)
