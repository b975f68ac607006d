use Rattle.osdp_sim.proofs.Common.{◌++◌, ◌∷◌, [], map, ap, ◌∙◌, reply_kept, Keeping, commands_of}
use Rattle.osdp_sim.proofs.Keeping.{both_more, each_placed}
use Rattle.osdp_sim.proofs.settled.Settled.push.Goals as goal

pub push_command-requires : goal.push_command-requires
push_command-requires c =
    (each_placed c.self.inside.commands.has_place c.self.inside.answers.has_place (ap (λ (k : Keeping _). k.has_place) c.self.view_is ∙ c.requires)).0

pub push_reply-requires : goal.push_reply-requires
push_reply-requires c =
    (each_placed c.self.inside.commands.has_place c.self.inside.answers.has_place (ap (λ (k : Keeping _). k.has_place) c.self.view_is ∙ c.requires)).1

pub invariant_of-self : goal.invariant_of-self
invariant_of-self c =
    (both_more (commands_of c.self.inside.commands.items) (map reply_kept c.self.inside.answers.items) c.args.command.now c.args.answer.now _ _ c.self.invariant c.push_command.ensures c.push_reply.ensures).0

pub returns : goal.returns
returns c =
    (both_more (commands_of c.self.inside.commands.items) (map reply_kept c.self.inside.answers.items) c.args.command.now c.args.answer.now _ _ c.self.invariant c.push_command.ensures c.push_reply.ensures).1
    ∙ ap (λ (k : Keeping _). k.items ++ (c.args.command.now, c.args.answer.now) ∷ []) c.self.view_is
