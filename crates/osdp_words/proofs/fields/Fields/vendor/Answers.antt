use Rattle.osdp_words.proofs.Common.{◌≡◌, length, IsBytes, bytes}
use Rattle.osdp_words.proofs.Taking.{one_taken}
use Rattle.osdp_words.proofs.fields.Fields.vendor.Goals as goal

pub returns : goal.returns
returns c = one_taken bytes (λ bs. (length bs ≡ 3) × IsBytes bs) c.args.self.now c.word.new.self c.in_ok-word.field-0.now c.vendor.result c.in_ok-word.ensures c.vendor.ensures
