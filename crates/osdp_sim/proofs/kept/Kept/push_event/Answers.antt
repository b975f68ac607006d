use Rattle.osdp_sim.proofs.Common.{◌++◌, ◌∷◌, [], map, ap, ◌∙◌, map-append, event_kept}
use Rattle.osdp_sim.proofs.kept.Kept.push_event.Goals as goal

pub returns : goal.returns
returns c =
    let own = c.as_slice.result.now in
    ap (map event_kept) c.add.ensures ∙ map-append event_kept c.args.self.now.items (own ∷ [])
    ∙ ap (λ message. map event_kept c.args.self.now.items ++ message ∷ []) (ap event_kept c.as_slice.ensures.value ∙ c.write_into.ensures.kept)
