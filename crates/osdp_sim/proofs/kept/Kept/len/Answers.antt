use Rattle.std.proofs.Common.{◌≡◌, length, ap, rules, sym, ◌∙◌}
use Rattle.osdp_sim.proofs.Keeping.{parts_length}
use Rattle.osdp_sim.proofs.kept.Kept.len.Goals as goal

pub returns : goal.returns
returns c =
    let sizes = c.self.inside.sizes.items in
    let counted : c.len.result ≡ length sizes = search rules in
    counted ∙ sym (parts_length (λ size. size) (λ size bytes. bytes) sizes c.self.inside.row.items) ∙ ap (λ kept. length kept.items) c.self.view_is
