use Rattle.osdp_test_script.proofs.Common.{◌∷◌, [], ◌<◌, ◌≤◌, ◌^◌, ℕ, Some, None, codes, refl, ArrayVec, check_name, longest_time, bytes, number, plain, texts, row_read, awaited_name, CallFits, IsHeard, IsPlace, TermFits, call_fields, call_name, term_words, Awaited, Term, Device, Check, Damage, Wait, Keep, Counts}
use Rattle.osdp_test_script.proofs.Rows.{expect_call, heard_call, row_check, row_counts, row_damage, row_device, row_expect, row_heard, row_keep, row_wait}
use Rattle.osdp_test_script.proofs.parse.parse_row.Goals as goal

pub returns-in_err-parse_device-in-device : goal.returns-in_err-parse_device-in-device
returns-in_err-parse_device-in-device c = rw c.in-device.is (row_read call_name call_fields CallFits (λ n. number n ∷ []) (λ n. n < 127) (codes "device") Device row_device (texts c.args.words.now) None _ c.in_err-parse_device-in-device.ensures c.from_residual.ensures)

pub returns-in_ok-parse_device-in-device : goal.returns-in_ok-parse_device-in-device
returns-in_ok-parse_device-in-device c = rw c.in-device.is (row_read call_name call_fields CallFits (λ n. number n ∷ []) (λ n. n < 127) (codes "device") Device row_device (texts c.args.words.now) (Some c.in_ok-parse_device-in-device.field-0) _ c.in_ok-parse_device-in-device.ensures refl)

pub returns-in_err-parse_check-in-check : goal.returns-in_err-parse_check-in-check
returns-in_err-parse_check-in-check c = rw c.in-check.is (row_read call_name call_fields CallFits (λ kind. plain (check_name kind) ∷ []) (λ kind. Unit {0}) (codes "check") Check row_check (texts c.args.words.now) None _ c.in_err-parse_check-in-check.ensures c.from_residual-in_err-parse_check-in-check.ensures)

pub returns-in_err-parse_place-in-damage : goal.returns-in_err-parse_place-in-damage
returns-in_err-parse_place-in-damage c = rw c.in-damage.is (row_read call_name call_fields CallFits (λ n. number n ∷ []) (IsPlace) (codes "damage") Damage row_damage (texts c.args.words.now) None _ c.in_err-parse_place-in-damage.ensures c.from_residual-in_err-parse_place-in-damage.ensures)

pub returns-in_ok-parse_place-in-damage : goal.returns-in_ok-parse_place-in-damage
returns-in_ok-parse_place-in-damage c = rw c.in-damage.is (row_read call_name call_fields CallFits (λ n. number n ∷ []) (IsPlace) (codes "damage") Damage row_damage (texts c.args.words.now) (Some c.in_ok-parse_place-in-damage.field-0) _ c.in_ok-parse_place-in-damage.ensures refl)

pub returns-in_err-parse_wait-in-wait : goal.returns-in_err-parse_wait-in-wait
returns-in_err-parse_wait-in-wait c = rw c.in-wait.is (row_read call_name call_fields CallFits (λ n. number n ∷ []) (λ n. n ≤ longest_time) (codes "wait") Wait row_wait (texts c.args.words.now) None _ c.in_err-parse_wait-in-wait.ensures c.from_residual-in_err-parse_wait-in-wait.ensures)

pub returns-in_ok-parse_wait-in-wait : goal.returns-in_ok-parse_wait-in-wait
returns-in_ok-parse_wait-in-wait c = rw c.in-wait.is (row_read call_name call_fields CallFits (λ n. number n ∷ []) (λ n. n ≤ longest_time) (codes "wait") Wait row_wait (texts c.args.words.now) (Some c.in_ok-parse_wait-in-wait.field-0) _ c.in_ok-parse_wait-in-wait.ensures refl)

pub returns-in_err-awaited-in-expect : goal.returns-in_err-awaited-in-expect
returns-in_err-awaited-in-expect c = rw c.in-expect.is (row_read call_name call_fields CallFits (λ (x : Awaited × Term). plain (awaited_name x.0) ∷ term_words x.1) (λ (x : Awaited × Term). TermFits x.1) (codes "expect") expect_call row_expect (texts c.args.words.now) None _ c.in_err-awaited-in-expect.ensures c.from_residual-in_err-awaited-in-expect.ensures)

pub returns-in_ok-awaited-in-expect : goal.returns-in_ok-awaited-in-expect
returns-in_ok-awaited-in-expect c = rw c.in-expect.is (row_read call_name call_fields CallFits (λ (x : Awaited × Term). plain (awaited_name x.0) ∷ term_words x.1) (λ (x : Awaited × Term). TermFits x.1) (codes "expect") expect_call row_expect (texts c.args.words.now) (Some (c.in_ok-awaited-in-expect.awaited, c.in_ok-awaited-in-expect.term)) _ c.in_ok-awaited-in-expect.ensures refl)

pub returns-in_err-parse_place-in-keep : goal.returns-in_err-parse_place-in-keep
returns-in_err-parse_place-in-keep c = rw c.in-keep.is (row_read call_name call_fields CallFits (λ n. number n ∷ []) (IsPlace) (codes "keep") Keep row_keep (texts c.args.words.now) None _ c.in_err-parse_place-in-keep.ensures c.from_residual-in_err-parse_place-in-keep.ensures)

pub returns-in_ok-parse_place-in-keep : goal.returns-in_ok-parse_place-in-keep
returns-in_ok-parse_place-in-keep c = rw c.in-keep.is (row_read call_name call_fields CallFits (λ n. number n ∷ []) (IsPlace) (codes "keep") Keep row_keep (texts c.args.words.now) (Some c.in_ok-parse_place-in-keep.field-0) _ c.in_ok-parse_place-in-keep.ensures refl)

pub returns-in_err-parse_more-in-counts : goal.returns-in_err-parse_more-in-counts
returns-in_err-parse_more-in-counts c = rw c.in-counts.is (row_read call_name call_fields CallFits (λ n. number n ∷ []) (λ n. n < 2 ^ 8) (codes "counts") Counts row_counts (texts c.args.words.now) None _ c.in_err-parse_more-in-counts.ensures c.from_residual-in_err-parse_more-in-counts.ensures)

pub returns-in_ok-parse_more-in-counts : goal.returns-in_ok-parse_more-in-counts
returns-in_ok-parse_more-in-counts c = rw c.in-counts.is (row_read call_name call_fields CallFits (λ n. number n ∷ []) (λ n. n < 2 ^ 8) (codes "counts") Counts row_counts (texts c.args.words.now) (Some c.in_ok-parse_more-in-counts.field-0) _ c.in_ok-parse_more-in-counts.ensures refl)

pub returns-in_err-moment-in-heard : goal.returns-in_err-moment-in-heard
returns-in_err-moment-in-heard c = rw c.in-heard.is (row_read call_name call_fields CallFits (λ (x : ℕ × ℕ × ArrayVec ℕ). number x.0 ∷ number x.1 ∷ bytes x.2.items ∷ []) (λ (x : ℕ × ℕ × ArrayVec ℕ). (x.0 < 2 ^ 64) × (x.1 < 2 ^ 64) × IsHeard x.2.items) (codes "heard") heard_call row_heard (texts c.args.words.now) None _ c.in_err-moment-in-heard.ensures c.from_residual-in_err-moment-in-heard.ensures)

pub returns-in_ok-moment-in-heard : goal.returns-in_ok-moment-in-heard
returns-in_ok-moment-in-heard c = rw c.in-heard.is (row_read call_name call_fields CallFits (λ (x : ℕ × ℕ × ArrayVec ℕ). number x.0 ∷ number x.1 ∷ bytes x.2.items ∷ []) (λ (x : ℕ × ℕ × ArrayVec ℕ). (x.0 < 2 ^ 64) × (x.1 < 2 ^ 64) × IsHeard x.2.items) (codes "heard") heard_call row_heard (texts c.args.words.now) (Some (c.in_ok-moment-in-heard.moment, c.in_ok-moment-in-heard.delay, c.in_ok-moment-in-heard.list)) _ c.in_ok-moment-in-heard.ensures refl)
