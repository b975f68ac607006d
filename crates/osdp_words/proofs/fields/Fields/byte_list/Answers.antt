use Rattle.osdp_words.proofs.Common.{◌≤◌, array_vec_len, IsBytes, bytes}
use Rattle.osdp_words.proofs.Taking.{one_taken}
use Rattle.osdp_words.proofs.fields.Fields.byte_list.Goals as goal

pub returns : goal.returns
returns g c = one_taken (λ list. bytes list.items) (λ list. (array_vec_len list ≤ g.row.CAP) × IsBytes list.items) c.args.self.now c.word.new.self c.in_ok-word.field-0.now c.byte_list.result c.in_ok-word.ensures c.byte_list.ensures
