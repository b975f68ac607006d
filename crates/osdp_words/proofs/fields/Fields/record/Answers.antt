use Rattle.osdp_words.specs.Word.{AreWithin, numbers}
use Rattle.osdp_words.proofs.Taking.{one_taken}
use Rattle.osdp_words.proofs.fields.Fields.record.Goals as goal

pub returns : goal.returns
returns g c = one_taken numbers (AreWithin c.args.limits.now) c.args.self.now c.word.new.self c.in_ok-word.field-0.now c.record.result c.in_ok-word.ensures c.record.ensures
