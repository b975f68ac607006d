use Rattle.osdp_sim.proofs.Common.{length, map, ap, sym, ◌∙◌, length-map, command_kept, reply_kept, commands_of}
use Rattle.osdp_sim.proofs.Keeping.{zip_length}
use Rattle.osdp_sim.proofs.settled.Settled.len.Goals as goal

pub returns : goal.returns
returns c =
    let commands = c.self.inside.commands.items in
    c.len.ensures ∙ sym (length-map commands command_kept)
    ∙ sym (zip_length (commands_of commands) (map reply_kept c.self.inside.answers.items) c.self.invariant)
    ∙ ap (λ kept. length kept.items) c.self.view_is
