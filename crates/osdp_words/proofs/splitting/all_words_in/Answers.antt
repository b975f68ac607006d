use Rattle.osdp_words.proofs.Common.{sym, ◌∙◌, texts, words_in}
use Rattle.osdp_words.proofs.Cutting.{all_taken, lent_begun, lent_taken, passed}
use Rattle.osdp_words.proofs.splitting.all_words_in.Goals as goal

pub loop-part-init : goal.loop-part-init
loop-part-init c =
    let items = c.split-part-items in
    (tt, tt, lent_begun c.args.line.now c.new-words.result.items items.result _ items.ensures.text items.ensures.has_more items.ensures.pattern c.new-words.ensures.items c.into_iter-part-iterator.ensures.into_iter_gives)

pub loop-part-preserved-in-Continue-1 : goal.loop-part-preserved-in-Continue-1
loop-part-preserved-in-Continue-1 c = (
  tt,
  tt,
  lent_taken (words_in c.args.line.now) c.loop-part.words.items _ c.loop-part.part-iterator c.next.new.self c.in-Some.part c.loop-part.invariant.2
      c.in-Some.ensures.steps (sym c.is_empty.ensures ∙ c.if-not-is_empty.true) c.in_ok-push.ensures.items,
)

pub loop-part-preserved : goal.loop-part-preserved
loop-part-preserved c = (
  tt,
  tt,
  passed (words_in c.args.line.now) (texts c.loop-part.words.items) c.loop-part.part-iterator c.next.new.self c.in-Some.part c.loop-part.invariant.2
      c.in-Some.ensures.steps (sym c.is_empty.ensures ∙ c.if-not-is_empty.false),
)

pub returns : goal.returns
returns c = all_taken (words_in c.args.line.now) (texts c.loop-part.words.items) c.loop-part.part-iterator c.next.new.self c.loop-part.invariant.2 c.in-None.ensures.steps
