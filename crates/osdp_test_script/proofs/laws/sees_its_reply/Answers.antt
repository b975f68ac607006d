use Rattle.osdp_test_script.proofs.Common.{◌≡◌, ℕ, Option, Some, ap, rules, Packet, awaited_code, Awaited, Silence, Same}
use Rattle.osdp_test_script.specs.Seen.{answer_seen, by_code}
use Rattle.osdp_test_script.proofs.laws.sees_its_reply.Goals as goal

seen_by_code : (awaited : Awaited) (code : ℕ) (first : Option Packet) (a : Packet) → awaited_code awaited ≡ Some code → answer_seen awaited first a ≡ by_code (Some code) a
seen_by_code Silence code first a e = cc
seen_by_code Same code first a e = cc
seen_by_code _ code first a e = ap (λ (o : Option ℕ). by_code o a) e

pub returns : goal.returns
returns c awaited time first a delay code e = rw (seen_by_code awaited code first a e) (search rules)
