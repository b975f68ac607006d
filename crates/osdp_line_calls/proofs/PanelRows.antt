-- The calls by their names: what is read after a name is what the call is made of.
use Rattle.osdp_line_calls.proofs.Common.{◌≡◌, ℕ, ◌<◌, ◌^◌, [], ◌∷◌, codes, refl, Command, CommandFits, command_words, IsRow, differ, number, At, Add, Begin, Submit, Withdraw, Retarget, Bytes, Silence, Tick, Write, CallFits, IsAddress, IsEntry, IsMoment, call_fields, call_name, entry_word, until_word}
use Rattle.arrayvec.specs.ArrayVec.{ArrayVec}
use Rattle.osdp_msg.specs.declared.command.Command.TheVariants.{Poll}
use Rattle.osdp_line_calls.proofs.ReaderRows.{row}
use Rattle.osdp_line_calls.specs.declared.panel_call.PanelCall.{PanelCall}

abbrev pub add_call : ℕ × ℕ → PanelCall
add_call x = Add x.0 x.1

abbrev pub submit_call : ℕ × ℕ × Command → PanelCall
submit_call x = Submit x.0 x.1 x.2

abbrev pub retarget_call : ℕ × ℕ → PanelCall
retarget_call x = Retarget x.0 x.1

-- one call is made as another
abbrev IsMadeAs : PanelCall → PanelCall → Type 0
IsMadeAs (At a) m = (x : ℕ) × (m ≡ At x)
IsMadeAs (Add a b) m = (x : ℕ × ℕ) × (m ≡ add_call x)
IsMadeAs (Begin a) m = (x : ℕ) × (m ≡ Begin x)
IsMadeAs (Submit a b c) m = (x : ℕ × ℕ × Command) × (m ≡ submit_call x)
IsMadeAs (Withdraw a) m = (x : ℕ) × (m ≡ Withdraw x)
IsMadeAs (Retarget a b) m = (x : ℕ × ℕ) × (m ≡ retarget_call x)
IsMadeAs (Bytes a) m = (x : ArrayVec ℕ) × (m ≡ Bytes x)
IsMadeAs Silence m = m ≡ Silence
IsMadeAs Tick m = m ≡ Tick
IsMadeAs Write m = m ≡ Write

-- by one name go calls that are made alike
alike : (n m : PanelCall) → call_name m ≡ call_name n → IsMadeAs n m
alike (At a) (At x) e = (x, refl)
alike (Add a b) (Add c d) e = ((c, d), refl)
alike (Begin a) (Begin x) e = (x, refl)
alike (Submit a b c) (Submit d e f) h = ((d, e, f), refl)
alike (Withdraw a) (Withdraw x) e = (x, refl)
alike (Retarget a b) (Retarget c d) e = ((c, d), refl)
alike (Bytes a) (Bytes x) e = (x, refl)
alike Silence Silence e = refl
alike Tick Tick e = refl
alike Write Write e = refl
alike n m e = absurd (differ (call_name m) (call_name n) refl e)

pub row_at : IsRow call_name call_fields CallFits (λ n. number n ∷ []) (λ n. n < 2 ^ 64) (codes "at") At
row_at = row _ _ _ _ _ (λ x. refl) (alike (At 0))

pub row_add : IsRow call_name call_fields CallFits (λ (x : ℕ × ℕ). number x.0 ∷ number x.1 ∷ []) (λ (x : ℕ × ℕ). IsAddress x.0 × (x.1 < 2 ^ 64)) (codes "add") add_call
row_add = row _ _ _ _ _ (λ x. refl) (alike (Add 0 0))

pub row_begin : IsRow call_name call_fields CallFits (λ n. entry_word n ∷ []) IsEntry (codes "begin") Begin
row_begin = row _ _ _ _ _ (λ x. refl) (alike (Begin 0))

pub row_submit : IsRow call_name call_fields CallFits (λ (x : ℕ × ℕ × Command). entry_word x.0 ∷ until_word x.1 ∷ command_words x.2) (λ (x : ℕ × ℕ × Command). IsEntry x.0 × IsMoment x.1 × CommandFits x.2) (codes "submit") submit_call
row_submit = row _ _ _ _ _ (λ x. refl) (alike (Submit 0 0 Poll))

pub row_withdraw : IsRow call_name call_fields CallFits (λ n. entry_word n ∷ []) IsEntry (codes "withdraw") Withdraw
row_withdraw = row _ _ _ _ _ (λ x. refl) (alike (Withdraw 0))

pub row_retarget : IsRow call_name call_fields CallFits (λ (x : ℕ × ℕ). entry_word x.0 ∷ number x.1 ∷ []) (λ (x : ℕ × ℕ). IsEntry x.0 × IsAddress x.1) (codes "retarget") retarget_call
row_retarget = row _ _ _ _ _ (λ x. refl) (alike (Retarget 0 0))
