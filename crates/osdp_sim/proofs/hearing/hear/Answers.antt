use Rattle.osdp_sim.proofs.Common.{◌≡◌, ℕ, [], ◌∷◌, ◌++◌, ap, rules, ◌∙◌, map-append, ArrayVec, bytes_of, sent}
use Rattle.osdp_reader.specs.Table.{hears}
use Rattle.osdp_sim.proofs.Bursts.{sent_burst}
use Rattle.osdp_sim.proofs.hearing.hear.Goals as goal

pub returns-then-not-is_empty-clause-line : goal.returns-then-not-is_empty-clause-line
returns-then-not-is_empty-clause-line g c =
    let line = c.args.line.now in
    let o = hears g.H.Handler.answer_of g.H.Handler.after c.args.reader.now c.args.packet.now in
    let burst = c.hear-heard.new.out in
    let bursts : bytes_of c.send.new.line.items ≡ bytes_of line.items ++ burst.items ∷ [] =
    ap bytes_of c.send.ensures.items ∙ map-append (λ (b : ArrayVec ℕ). b.items) line.items (burst ∷ []) in
    let spelled = c.hear-heard.ensures.reply in
    let goes : burst.items ∷ [] ≡ sent o.reply =
    sent_burst o.reply burst.items spelled (search rules) (λ p spells. ((c.one_spelling.ensures p burst.items).0 spells).1) in
    bursts ∙ ap (λ l. bytes_of line.items ++ l) goes
