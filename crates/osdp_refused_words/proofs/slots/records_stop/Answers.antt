use Rattle.osdp_refused_words.proofs.Common.{refl, rules, texts}
use Rattle.osdp_refused_words.proofs.RecordWords.{at_end, at_full, at_next, at_refused}
use Rattle.osdp_refused_words.proofs.slots.records_stop.Goals as goal

pub returns-then-room-eq0 : goal.returns-then-room-eq0
returns-then-room-eq0 c = at_full c.args.slot c.args.most (texts c.args.words.now) c.words.room c.words.place c.words.left c.word.new.self c.in-Some.word.now c.in-Some.ensures (search rules) c.words.invariant

pub returns-then-not-takes : goal.returns-then-not-takes
returns-then-not-takes c = at_refused c.args.slot c.args.most (texts c.args.words.now) c.words.room c.words.place c.words.left c.word.new.self c.in-Some.word.now c.in-Some.ensures (search rules) c.words.invariant

pub words-preserved : goal.words-preserved
words-preserved c = at_next c.args.slot c.args.most (texts c.args.words.now) c.words.room c.words.place _ _ c.words.left c.word.new.self c.in-Some.word.now c.in-Some.ensures (search rules) (search rules) refl refl c.words.invariant

pub returns : goal.returns
returns c = at_end c.args.slot c.args.most (texts c.args.words.now) c.words.room c.words.place c.words.left (search rules) c.words.invariant
