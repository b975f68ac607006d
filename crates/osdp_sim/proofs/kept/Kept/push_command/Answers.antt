use Rattle.osdp_sim.proofs.Common.{◌++◌, ◌∷◌, [], map, ap, ◌∙◌, map-append, command_kept}
use Rattle.osdp_sim.proofs.kept.Kept.push_command.Goals as goal

pub returns : goal.returns
returns c =
    let own = c.as_slice.result.now in
    ap (map command_kept) c.add.ensures ∙ map-append command_kept c.args.self.now.items (own ∷ [])
    ∙ ap (λ message. map command_kept c.args.self.now.items ++ message ∷ []) (ap command_kept c.as_slice.ensures.value ∙ c.write_into.ensures.kept)
