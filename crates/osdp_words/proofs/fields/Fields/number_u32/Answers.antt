use Rattle.osdp_words.proofs.Common.{◌<◌, ◌^◌, number}
use Rattle.osdp_words.proofs.Taking.{one_taken}
use Rattle.osdp_words.proofs.fields.Fields.number_u32.Goals as goal

pub returns : goal.returns
returns c = one_taken number (λ n. n < 2 ^ 32) c.args.self.now c.word.new.self c.in_ok-word.field-0.now c.number_u32.result c.in_ok-word.ensures c.number_u32.ensures
