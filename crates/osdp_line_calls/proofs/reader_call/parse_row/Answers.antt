use Rattle.osdp_line_calls.proofs.Common.{◌∷◌, [], ◌<◌, ◌^◌, ℕ, Some, None, codes, refl, number, texts, row_read, switch_word}
use Rattle.osdp_line_calls.specs.declared.reader_call.ReaderCall.TheVariants.{At, Busy}
use Rattle.osdp_line_calls.specs.ReaderCalls.{CallFits, call_fields, call_name}
use Rattle.osdp_line_calls.proofs.ReaderRows.{local_call, row_at, row_busy, row_local}
use Rattle.osdp_line_calls.proofs.reader_call.parse_row.Goals as goal

pub returns-in_err-one_moment-in-at : goal.returns-in_err-one_moment-in-at
returns-in_err-one_moment-in-at c = rw c.in-at.is (row_read call_name call_fields CallFits (λ n. number n ∷ []) (λ n. n < 2 ^ 64) (codes "at") At row_at (texts c.args.words.now) None _ c.in_err-one_moment-in-at.ensures c.from_residual.ensures)

pub returns-in_ok-one_moment-in-at : goal.returns-in_ok-one_moment-in-at
returns-in_ok-one_moment-in-at c = rw c.in-at.is (row_read call_name call_fields CallFits (λ n. number n ∷ []) (λ n. n < 2 ^ 64) (codes "at") At row_at (texts c.args.words.now) (Some c.in_ok-one_moment-in-at.field-0) _ c.in_ok-one_moment-in-at.ensures refl)

pub returns-in_err-parse_switch-in-busy : goal.returns-in_err-parse_switch-in-busy
returns-in_err-parse_switch-in-busy c = rw c.in-busy.is (row_read call_name call_fields CallFits (λ busy. switch_word busy ∷ []) (λ busy. Unit {0}) (codes "busy") Busy row_busy (texts c.args.words.now) None _ c.in_err-parse_switch-in-busy.ensures c.from_residual-in_err-parse_switch-in-busy.ensures)

pub returns-in_err-tamper-in-local : goal.returns-in_err-tamper-in-local
returns-in_err-tamper-in-local c = rw c.in-local.is (row_read call_name call_fields CallFits (λ (x : ℕ × ℕ). number x.0 ∷ number x.1 ∷ []) (λ (x : ℕ × ℕ). (x.0 < 2 ^ 8) × (x.1 < 2 ^ 8)) (codes "local") local_call row_local (texts c.args.words.now) None _ c.in_err-tamper-in-local.ensures c.from_residual-in_err-tamper-in-local.ensures)

pub returns-in_ok-tamper-in-local : goal.returns-in_ok-tamper-in-local
returns-in_ok-tamper-in-local c = rw c.in-local.is (row_read call_name call_fields CallFits (λ (x : ℕ × ℕ). number x.0 ∷ number x.1 ∷ []) (λ (x : ℕ × ℕ). (x.0 < 2 ^ 8) × (x.1 < 2 ^ 8)) (codes "local") local_call row_local (texts c.args.words.now) (Some (c.in_ok-tamper-in-local.tamper, c.in_ok-tamper-in-local.power)) _ c.in_ok-tamper-in-local.ensures refl)
