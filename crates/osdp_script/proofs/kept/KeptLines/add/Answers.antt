use Rattle.osdp_script.proofs.Common.{◌++◌, ◌∷◌, [], ap, ◌∙◌, line_of, own_size}
use Rattle.osdp_sim.proofs.Keeping.{one_more}
use Rattle.osdp_script.proofs.kept.KeptLines.add.Goals as goal

pub invariant_of-self-2 : goal.invariant_of-self-2
invariant_of-self-2 c =
    let kept = c.push_reserved.ensures.items ∙ ap (λ l. l ++ c.args.step ∷ []) c.try_reserve.ensures.items in
    (one_more own_size line_of c.self.inside.steps.items c.self.inside.row.items c.args.step c.args.own.now _ _ c.self.invariant c.requires kept c.in_ok-extend_from_slice.ensures.items).0

pub returns : goal.returns
returns c =
    let kept = c.push_reserved.ensures.items ∙ ap (λ l. l ++ c.args.step ∷ []) c.try_reserve.ensures.items in
    (one_more own_size line_of c.self.inside.steps.items c.self.inside.row.items c.args.step c.args.own.now _ _ c.self.invariant c.requires kept c.in_ok-extend_from_slice.ensures.items).1
    ∙ ap (λ lines. lines ++ line_of c.args.step c.args.own.now ∷ []) c.self.view_is
