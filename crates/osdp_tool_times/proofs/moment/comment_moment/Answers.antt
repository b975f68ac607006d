use Rattle.osdp_tool_times.proofs.Common.{◌++◌, sym, ap, ◌∙◌, arith, take, ne_eqb, kept, moment_in, stamp_in}
use Rattle.osdp_tool_times.proofs.Comments.{moment_of_comment}
use Rattle.osdp_tool_times.proofs.moment.comment_moment.Goals as goal

pub returns-in-Some : goal.returns-in-Some
returns-in-Some c =
    let text = c.before_blank-text.result.now in
    let stamp = c.after_blank-stamp.result.now in
    sym c.in-Some.ensures.1 ∙ ap stamp_in (sym c.in-Some.ensures.0)
    ∙ sym (moment_of_comment text stamp c.way_length-way.result c.way_length-way.ensures (ne_eqb c.way_length-way.result 0 (λ e. omega (arith, c.if-way-gt0.true)))
    (c.after_blank-stamp.ensures ∙ c.before_blank.ensures ∙ ap (λ n. kept (take n text)) c.saturating_sub.ensures))
    ∙ ap moment_in c.before_blank-text.ensures

pub returns : goal.returns
returns c =
    let text = c.before_blank-text.result.now in
    let stamp = c.after_blank-stamp.result.now in
    c.stamp_in.ensures ∙ ap stamp_in (c.deref-2.ensures.value ∙ c.in_ok-keep.ensures ∙ ap (λ l. l ++ kept stamp) c.clear.ensures.items)
    ∙ sym (moment_of_comment text stamp c.way_length-way.result c.way_length-way.ensures (ne_eqb c.way_length-way.result 0 c.if-way-eq0.false)
    (c.after_blank-stamp.ensures ∙ c.before_blank.ensures ∙ ap (λ n. kept (take n text)) c.saturating_sub.ensures))
    ∙ ap moment_in c.before_blank-text.ensures
