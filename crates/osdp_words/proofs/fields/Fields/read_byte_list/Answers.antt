use Rattle.osdp_words.proofs.Common.{◌≤◌, array_vec_len, IsBytes, bytes}
use Rattle.osdp_words.proofs.Taking.{one_taken}
use Rattle.osdp_words.proofs.fields.Fields.read_byte_list.Goals as goal

pub returns-in-Some : goal.returns-in-Some
returns-in-Some g c = one_taken (λ list. bytes list.items) (λ list. (array_vec_len list ≤ g.row.CAP) × IsBytes list.items) c.args.self.now c.word.new.self c.in-Some.word.now _ (rw c.in-Some.is at c.word.ensures) c.read_byte_list.ensures
