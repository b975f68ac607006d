use Rattle.osdp_check.proofs.Common.{◌≡◌, ◌*◌, ◌^◌, ◌∙◌, ◌<◌, ◌/◌, ◌%◌, ◌∷◌, [], take, ap, sym, arith, rules, xor_lt, bit_xor, crc, crc_from, initial, remainder}
use Rattle.osdp_check.proofs.Pieces.{crc_since}
use Rattle.osdp_check.proofs.crc.Crc16Check.spell_since.Goals as goal

pub returns : goal.returns
returns c = λ bytes long since.
    let front = c.front.inside.state in
    let moved : c.moved.result ≡ remainder (8 * c.args.count) (bit_xor front initial * 2 ^ (8 * c.args.count)) = c.moved.ensures in
    let is : bit_xor c.self.inside.state c.moved.result ≡ crc bytes =
    ap (bit_xor c.self.inside.state) (moved ∙ ap (λ n. remainder (8 * n) (bit_xor front initial * 2 ^ (8 * n))) (sym long))
    ∙ crc_since front c.self.inside.state bytes (c.self.view_is ∙ since ∙ ap (λ n. crc_from n bytes) (sym c.front.view_is)) in
    let fits : bit_xor c.self.inside.state c.moved.result < 2 ^ 16 = xor_lt 16 c.self.inside.state c.moved.result (search rules) (search rules) in
    let high : bit_xor c.self.inside.state c.moved.result / 256 % 256 ≡ bit_xor c.self.inside.state c.moved.result / 256 = omega arith in
    ap (take 2) c.to_le_bytes.ensures ∙ (λ i. is i % 256 ∷ (high ∙ ap (λ n. n / 256) is) i ∷ [])
