use Rattle.osdp_line_calls.proofs.Common.{◌∷◌, [], ◌<◌, ◌^◌, ℕ, Some, None, codes, refl, number, texts, Command, CommandFits, command_words, row_read, At, Begin, Withdraw, CallFits, IsAddress, IsEntry, IsMoment, call_fields, call_name, entry_word, until_word}
use Rattle.osdp_line_calls.proofs.PanelRows.{add_call, retarget_call, row_add, row_at, row_begin, row_retarget, row_submit, row_withdraw, submit_call}
use Rattle.osdp_line_calls.proofs.panel_call.parse_row.Goals as goal

pub returns-in_err-one_moment-in-at : goal.returns-in_err-one_moment-in-at
returns-in_err-one_moment-in-at c = rw c.in-at.is (row_read call_name call_fields CallFits (λ n. number n ∷ []) (λ n. n < 2 ^ 64) (codes "at") At row_at (texts c.args.words.now) None _ c.in_err-one_moment-in-at.ensures c.from_residual.ensures)

pub returns-in_ok-one_moment-in-at : goal.returns-in_ok-one_moment-in-at
returns-in_ok-one_moment-in-at c = rw c.in-at.is (row_read call_name call_fields CallFits (λ n. number n ∷ []) (λ n. n < 2 ^ 64) (codes "at") At row_at (texts c.args.words.now) (Some c.in_ok-one_moment-in-at.field-0) _ c.in_ok-one_moment-in-at.ensures refl)

pub returns-in_err-address-in-add : goal.returns-in_err-address-in-add
returns-in_err-address-in-add c = rw c.in-add.is (row_read call_name call_fields CallFits (λ (x : ℕ × ℕ). number x.0 ∷ number x.1 ∷ []) (λ (x : ℕ × ℕ). IsAddress x.0 × (x.1 < 2 ^ 64)) (codes "add") add_call row_add (texts c.args.words.now) None _ c.in_err-address-in-add.ensures c.from_residual-in_err-address-in-add.ensures)

pub returns-in_ok-address-in-add : goal.returns-in_ok-address-in-add
returns-in_ok-address-in-add c = rw c.in-add.is (row_read call_name call_fields CallFits (λ (x : ℕ × ℕ). number x.0 ∷ number x.1 ∷ []) (λ (x : ℕ × ℕ). IsAddress x.0 × (x.1 < 2 ^ 64)) (codes "add") add_call row_add (texts c.args.words.now) (Some (c.in_ok-address-in-add.address, c.in_ok-address-in-add.next)) _ c.in_ok-address-in-add.ensures refl)

pub returns-in_err-one_entry-in-begin : goal.returns-in_err-one_entry-in-begin
returns-in_err-one_entry-in-begin c = rw c.in-begin.is (row_read call_name call_fields CallFits (λ n. entry_word n ∷ []) IsEntry (codes "begin") Begin row_begin (texts c.args.words.now) None _ c.in_err-one_entry-in-begin.ensures c.from_residual-in_err-one_entry-in-begin.ensures)

pub returns-in_ok-one_entry-in-begin : goal.returns-in_ok-one_entry-in-begin
returns-in_ok-one_entry-in-begin c = rw c.in-begin.is (row_read call_name call_fields CallFits (λ n. entry_word n ∷ []) IsEntry (codes "begin") Begin row_begin (texts c.args.words.now) (Some c.in_ok-one_entry-in-begin.field-0) _ c.in_ok-one_entry-in-begin.ensures refl)

pub returns-in_err-entry-in-submit : goal.returns-in_err-entry-in-submit
returns-in_err-entry-in-submit c = rw c.in-submit.is (row_read call_name call_fields CallFits (λ (x : ℕ × ℕ × Command). entry_word x.0 ∷ until_word x.1 ∷ command_words x.2) (λ (x : ℕ × ℕ × Command). IsEntry x.0 × IsMoment x.1 × CommandFits x.2) (codes "submit") submit_call row_submit (texts c.args.words.now) None _ c.in_err-entry-in-submit.ensures c.from_residual-in_err-entry-in-submit.ensures)

pub returns-in_ok-entry-in-submit : goal.returns-in_ok-entry-in-submit
returns-in_ok-entry-in-submit c = rw c.in-submit.is (row_read call_name call_fields CallFits (λ (x : ℕ × ℕ × Command). entry_word x.0 ∷ until_word x.1 ∷ command_words x.2) (λ (x : ℕ × ℕ × Command). IsEntry x.0 × IsMoment x.1 × CommandFits x.2) (codes "submit") submit_call row_submit (texts c.args.words.now) (Some (c.in_ok-entry-in-submit.entry, c.in_ok-entry-in-submit.until, c.in_ok-entry-in-submit.command)) _ c.in_ok-entry-in-submit.ensures refl)

pub returns-in_err-one_entry-in-withdraw : goal.returns-in_err-one_entry-in-withdraw
returns-in_err-one_entry-in-withdraw c = rw c.in-withdraw.is (row_read call_name call_fields CallFits (λ n. entry_word n ∷ []) IsEntry (codes "withdraw") Withdraw row_withdraw (texts c.args.words.now) None _ c.in_err-one_entry-in-withdraw.ensures c.from_residual-in_err-one_entry-in-withdraw.ensures)

pub returns-in_ok-one_entry-in-withdraw : goal.returns-in_ok-one_entry-in-withdraw
returns-in_ok-one_entry-in-withdraw c = rw c.in-withdraw.is (row_read call_name call_fields CallFits (λ n. entry_word n ∷ []) IsEntry (codes "withdraw") Withdraw row_withdraw (texts c.args.words.now) (Some c.in_ok-one_entry-in-withdraw.field-0) _ c.in_ok-one_entry-in-withdraw.ensures refl)

pub returns-in_err-entry-in-retarget : goal.returns-in_err-entry-in-retarget
returns-in_err-entry-in-retarget c = rw c.in-retarget.is (row_read call_name call_fields CallFits (λ (x : ℕ × ℕ). entry_word x.0 ∷ number x.1 ∷ []) (λ (x : ℕ × ℕ). IsEntry x.0 × IsAddress x.1) (codes "retarget") retarget_call row_retarget (texts c.args.words.now) None _ c.in_err-entry-in-retarget.ensures c.from_residual-in_err-entry-in-retarget.ensures)

pub returns-in_ok-entry-in-retarget : goal.returns-in_ok-entry-in-retarget
returns-in_ok-entry-in-retarget c = rw c.in-retarget.is (row_read call_name call_fields CallFits (λ (x : ℕ × ℕ). entry_word x.0 ∷ number x.1 ∷ []) (λ (x : ℕ × ℕ). IsEntry x.0 × IsAddress x.1) (codes "retarget") retarget_call row_retarget (texts c.args.words.now) (Some (c.in_ok-entry-in-retarget.entry, c.in_ok-entry-in-retarget.address)) _ c.in_ok-entry-in-retarget.ensures refl)
