use Rattle.osdp_tool_monitor.proofs.Common.{◌||◌, ◌∙◌, Bool, false, ap, subst, Appends, inner_of, has_failed}
use Rattle.osdp_tool_monitor.proofs.Writing.{wrote_flushed}
use Rattle.osdp_tool_monitor.proofs.output.tell.Goals as goal

pub returns : goal.returns
returns g c =
    let before = g.W.Write.contents (inner_of c.args.output.now) in
    let mid = g.W.Write.contents (inner_of c.write_out.new.output) in
    wrote_flushed c.args.text.now before mid _ (has_failed c.write_out.new.output) _ c.flush_out.result
    (subst (λ l. Appends before mid l) c.as_bytes.ensures.value c.in_ok-write_out.ensures.ok) c.flush_out.ensures.bytes c.flush_out.ensures.fault c.flush_out.ensures.failed
    (c.in_ok-write_out.ensures.failed ∙ ap (λ (b : Bool). b || false) c.requires)
