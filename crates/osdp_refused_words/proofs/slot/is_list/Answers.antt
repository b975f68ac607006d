use Rattle.std.proofs.Common.{None, Some, refl}
use Rattle.osdp_refused_words.proofs.Taking.{list_missing, list_there}
use Rattle.osdp_refused_words.proofs.slot.is_list.Goals as goal

pub returns-in-None : goal.returns-in-None
returns-in-None c = list_missing c.args.least c.args.most c.args.word.now None c.requires c.in-None.ensures refl

pub returns-in-Some : goal.returns-in-Some
returns-in-Some c =
    list_there c.args.least c.args.most c.len.result c.args.word.now c.in-Some.list (Some c.in-Some.list) c.is_within.result c.requires c.in-Some.ensures refl c.len.ensures.value c.is_within.ensures
