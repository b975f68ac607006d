use Rattle.osdp_tool_show.proofs.Common.{refl, ◌≡◌, ◌+◌, ◌≤◌, ◌∙◌, Some, length, length-take, length-drop, drop, take, false, subst, sym, ap, arith, take_rest, inner_of, new_run, by_itself, decided, item_size, item_of, written_or_held, Took}
use Rattle.osdp_tool_show.proofs.WholeItems.{took_item, item_within}
use Rattle.osdp_tool_show.proofs.WholeItems.{item_stops}
use Rattle.osdp_tool_show.proofs.Beginnings.{on_err}
use Rattle.osdp_tool_show.proofs.runs.tell_whole.Goals as goal

pub items-init : goal.items-init
items-init g c = record {
  within = c.pass_skipped-at.ensures.within;
  took = c.pass_skipped-at.ensures.took (g.W.Write.contents (inner_of c.args.output.now));
  unfailed = refl;
}

pub tell-requires : goal.tell-requires
tell-requires g c =
    let bytes = c.args.bytes.now in
    let at = c.items.at in
    let part = item_of c.in-Some.item in
    let counts = c.items.invariant.took.counts in
    let own : by_itself (decided false (drop at bytes)) ≡ Some part =
    sym (ap (λ l. by_itself (decided false l)) (take_rest bytes at)) ∙ c.in-Some.ensures in
    let there : item_size part ≤ length (drop at bytes) = item_within bytes at part (λ k. omega (arith, c.type_inv.bytes k)) own in
    omega (arith, length-take at bytes, length-drop at bytes)

pub items-preserved : goal.items-preserved
items-preserved g c =
    let bytes = c.args.bytes.now in
    let contents = g.W.Write.contents (inner_of c.items.output) in
    let at = c.items.at in
    let part = item_of c.in-Some.item in
    let before = written_or_held (g.W.Write.contents (inner_of c.args.output.now)) c.args.report.now in
    let after = written_or_held (g.W.Write.contents (inner_of c.tell.new.output)) c.tell.new.self in
    let own : by_itself (decided false (drop at bytes)) ≡ Some part =
    sym (ap (λ l. by_itself (decided false l)) (take_rest bytes at)) ∙ c.in-Some.ensures in
    let there : item_size part ≤ length (drop at bytes) = item_within bytes at part (λ k. omega (arith, c.type_inv.bytes k)) own in
    let size : c.size-at.result ≡ item_size part = c.size-at.ensures in
    record {
      within = omega (arith, length-drop at bytes);
      took = subst (λ n. Took (take (at + n) bytes) new_run new_run c.args.report.now c.tell.new.self before after)
          (sym size)
          (took_item bytes at c.args.report.now c.items.report c.tell.new.self before _ after part (λ k. omega (arith, c.type_inv.bytes k)) c.items.invariant.within
          c.items.invariant.took own c.in_ok-tell.ensures.tells);
      unfailed = c.in_ok-tell.ensures.step ∙ c.items.invariant.unfailed;
    }

pub returns-in_err-tell-clause-stops : goal.returns-in_err-tell-clause-stops
returns-in_err-tell-clause-stops g c =
    let bytes = c.args.bytes.now in
    let contents = g.W.Write.contents (inner_of c.items.output) in
    let at = c.items.at in
    let part = item_of c.in-Some.item in
    let before = written_or_held (g.W.Write.contents (inner_of c.args.output.now)) c.args.report.now in
    let own : by_itself (decided false (drop at bytes)) ≡ Some part =
    sym (ap (λ l. by_itself (decided false l)) (take_rest bytes at)) ∙ c.in-Some.ensures in
    on_err c.from_residual.result (item_stops bytes at c.args.report.now c.items.report before (written_or_held contents c.items.report)
    (g.W.Write.contents (inner_of c.tell.new.output)) part (λ k. omega (arith, c.type_inv.bytes k)) c.items.invariant.within c.items.invariant.took own c.in_err-tell.ensures.stops)
