use Rattle.osdp_sim.proofs.Common.{◌++◌, ◌∷◌, [], map, ap, ◌∙◌, map-append, reply_kept}
use Rattle.osdp_sim.proofs.kept.Kept.push_reply.Goals as goal

pub returns : goal.returns
returns c =
    let own = c.as_slice.result.now in
    ap (map reply_kept) c.add.ensures ∙ map-append reply_kept c.args.self.now.items (own ∷ [])
    ∙ ap (λ message. map reply_kept c.args.self.now.items ++ message ∷ []) (ap reply_kept c.as_slice.ensures.value ∙ c.write_into.ensures.kept)
