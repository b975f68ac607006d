use Rattle.osdp_words.specs.Word.{words_in}
use Rattle.osdp_words.proofs.Cutting.{not_none}
use Rattle.osdp_words.proofs.fields.Fields.is_empty.Goals as goal

pub returns-else-is_empty : goal.returns-else-is_empty
returns-else-is_empty c = not_none c.self.inside.words.now (words_in c.self.inside.line.now) c.args.self.now c.is_empty.result c.self.view_is c.is_empty.ensures c.if-is_empty.false
