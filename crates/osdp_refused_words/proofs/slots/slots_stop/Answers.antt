use Rattle.osdp_refused_words.proofs.Common.{refl, rules, texts}
use Rattle.osdp_refused_words.proofs.Filling.{at_end, at_more, at_next, at_next_place, at_refused}
use Rattle.osdp_refused_words.proofs.slots.slots_stop.Goals as goal

pub returns-in_default-get : goal.returns-in_default-get
returns-in_default-get c = at_more c.args.slots.now (texts c.args.words.now) c.words.place c.words.left c.word.new.self c.in-Some.word.now c.in-Some.ensures (search rules) c.words.invariant

pub returns-then-not-takes : goal.returns-then-not-takes
returns-then-not-takes c = at_refused c.args.slots.now (texts c.args.words.now) c.words.place c.words.left c.word.new.self c.in-Some.word.now c.in-Some-get.slot.now c.in-Some.ensures (search rules) (search rules) (search rules) c.words.invariant

pub words-preserved : goal.words-preserved
words-preserved c = at_next_place c.args.slots.now (texts c.args.words.now) c.words.place _ c.word.new.self refl
    (at_next c.args.slots.now (texts c.args.words.now) c.words.place c.words.left c.word.new.self c.in-Some.word.now c.in-Some-get.slot.now c.in-Some.ensures (search rules) (search rules) (search rules) c.words.invariant)

pub returns : goal.returns
returns c = at_end c.args.slots.now (texts c.args.words.now) c.words.place c.words.left (search rules) c.words.invariant
