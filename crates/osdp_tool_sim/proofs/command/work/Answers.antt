use Rattle.osdp_tool_sim.proofs.Common.{◌∙◌, List, ℕ, subst, inner_of, has_failed, SaysOf}
use Rattle.osdp_tool_sim.proofs.Finishing.{failed_of, says_of}
use Rattle.osdp_tool_sim.proofs.command.work.Goals as goal

pub returns-in-Ok-clause-says : goal.returns-in-Ok-clause-says
returns-in-Ok-clause-says g c =
    let before = g.W.Write.contents (inner_of c.args.output.now) in
    let after = g.W.Write.contents (inner_of c.tell.new.output) in
    let failed = has_failed c.tell.new.output in
    says_of c.args.limit c.in-Ok.bytes.items (g.R.Read.remaining (inner_of c.args.input.now)) (g.R.Read.remaining (inner_of c.read_all.new.input))
    before after failed c.tell.result c.in-Ok.ensures.0
    (subst (λ (bytes : List ℕ). SaysOf bytes before after failed c.tell.result) c.deref.ensures.value c.tell.ensures)

pub returns-in-Ok-clause-failed : goal.returns-in-Ok-clause-failed
returns-in-Ok-clause-failed g c =
    failed_of c.deref.result.now (g.W.Write.contents (inner_of c.args.output.now)) (g.W.Write.contents (inner_of c.tell.new.output))
    (has_failed c.read_all.new.input) (has_failed c.tell.new.output) c.tell.result (c.in-Ok.ensures.1 ∙ c.requires.input) c.tell.ensures
