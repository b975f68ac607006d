use Rattle.osdp_sim.proofs.Common.{ℕ, List, false, ap, sym, subst, ◌∙◌, by_itself, decided, Spells}
use Rattle.osdp_sim.proofs.Bursts.{burst_packet, no_item, no_other, same_packet, spelled_first}
use Rattle.osdp_sim.proofs.line.packet_of.Goals as goal

pub unreachable-requires : goal.unreachable-requires
unreachable-requires c =
    let bytes = c.args.burst.now.items in
    let (p, spells) = c.requires in
    let first = spelled_first p bytes spells (λ part. c.first_item_decided.ensures.some false bytes part (c.spelling_of_bytes.ensures p bytes spells)) in
    no_item p (sym c.in_default.is ∙ burst_packet p bytes c.whole_item.result
    (c.whole_item.ensures.shown ∙ ap (λ (b : List ℕ). by_itself (decided false b)) c.as_slice.ensures.value) first)

pub unreachable-requires-in-Skipped : goal.unreachable-requires-in-Skipped
unreachable-requires-in-Skipped c =
    let bytes = c.args.burst.now.items in
    let (p, spells) = c.requires in
    let first = spelled_first p bytes spells (λ part. c.first_item_decided.ensures.some false bytes part (c.spelling_of_bytes.ensures p bytes spells)) in
    no_other p c.in-Some.item (sym c.in-Some.is ∙ burst_packet p bytes c.whole_item.result
    (c.whole_item.ensures.shown ∙ ap (λ (b : List ℕ). by_itself (decided false b)) c.as_slice.ensures.value) first) c.in-Skipped.is

pub returns : goal.returns
returns c =
    let bytes = c.args.burst.now.items in
    let (p, spells) = c.requires in
    let first = spelled_first p bytes spells (λ part. c.first_item_decided.ensures.some false bytes part (c.spelling_of_bytes.ensures p bytes spells)) in
    let is = sym c.in-Some.is ∙ burst_packet p bytes c.whole_item.result
    (c.whole_item.ensures.shown ∙ ap (λ (b : List ℕ). by_itself (decided false b)) c.as_slice.ensures.value) first in
    subst (λ q. Spells q bytes) (same_packet p c.in-Packet.packet c.in-Some.item is c.in-Packet.is) spells
