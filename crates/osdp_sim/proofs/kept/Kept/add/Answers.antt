use Rattle.osdp_sim.proofs.Common.{◌+◌, ◌++◌, ◌∷◌, [], length, ap, ◌∙◌, arith, refl, rules, vec_capacity, vec_len, Keeping}
use Rattle.osdp_msg.specs.Limits.{most_data}
use Rattle.osdp_sim.proofs.Keeping.{one_more, placed}
use Rattle.osdp_sim.proofs.kept.Kept.add.Goals as goal

pub put-requires : goal.put-requires
put-requires c =
    let k = c.self.inside in
    let room = placed (vec_len k.sizes + 1) (vec_capacity k.sizes) (vec_len k.row + (1 + most_data)) (vec_capacity k.row) (ap (λ (k : Keeping _). k.has_place) c.self.view_is ∙ c.requires.place) in
    omega (arith, room.1, c.requires.size)

pub push_reserved-requires : goal.push_reserved-requires
push_reserved-requires c =
    let k = c.self.inside in
    let room = placed (vec_len k.sizes + 1) (vec_capacity k.sizes) (vec_len k.row + (1 + most_data)) (vec_capacity k.row) (ap (λ (k : Keeping _). k.has_place) c.self.view_is ∙ c.requires.place) in
    omega (arith, room.0)

pub invariant_of-self : goal.invariant_of-self
invariant_of-self c =
    let k = c.self.inside in
    let own = c.args.own.now in
    (one_more (λ size. size) (λ size bytes. bytes) k.sizes.items k.row.items (length own) own c.push_reserved.new.self.items c.put.new.row.items c.self.invariant refl (search (rules, c.push_reserved.ensures.items)) c.put.ensures).0

pub returns : goal.returns
returns c =
    let k = c.self.inside in
    let own = c.args.own.now in
    (one_more (λ size. size) (λ size bytes. bytes) k.sizes.items k.row.items (length own) own c.push_reserved.new.self.items c.put.new.row.items c.self.invariant refl (search (rules, c.push_reserved.ensures.items)) c.put.ensures).1
    ∙ ap (λ (k : Keeping _). k.items ++ own ∷ []) c.self.view_is
