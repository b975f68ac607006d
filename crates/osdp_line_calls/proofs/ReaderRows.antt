-- The calls by their names: what is read after a name is what the call is made of.
use Rattle.osdp_line_calls.proofs.Common.{◌≡◌, ℕ, ◌<◌, ◌^◌, Bool, List, [], ◌∷◌, codes, refl, IsRow, differ, Word, number, switch_word}
use Rattle.osdp_line_calls.specs.declared.reader_call.ReaderCall.{ReaderCall}
use Rattle.osdp_line_calls.specs.declared.reader_call.ReaderCall.TheVariants.{At, Busy, Local}
use Rattle.osdp_line_calls.specs.ReaderCalls.{CallFits, call_fields, call_name}

-- the row of a name by which only the calls go that are made so: their words and their ranges are those of the table
pub row : {M X : Type 0} (name_of : M → List ℕ) (fields_of : M → List Word) (Fits : M → Type 0) (name : List ℕ) (make : X → M)
    → ((x : X) → name_of (make x) ≡ name) → ((m : M) → name_of m ≡ name → (x : X) × (m ≡ make x))
    → IsRow name_of fields_of Fits (λ x. fields_of (make x)) (λ x. Fits (make x)) name make
row name_of fields_of Fits name make named only =
    record { named = named; fields = λ x. refl; fits = λ x h. h; allowed = λ x h. h; only = only }

is_at : (m : ReaderCall) → call_name m ≡ codes "at" → (x : ℕ) × (m ≡ At x)
is_at (At x) e = (x, refl)
is_at m e = absurd (differ (call_name m) (codes "at") refl e)

pub row_at : IsRow call_name call_fields CallFits (λ n. number n ∷ []) (λ n. n < 2 ^ 64) (codes "at") At
row_at = row _ _ _ _ _ (λ x. refl) is_at

is_busy : (m : ReaderCall) → call_name m ≡ codes "busy" → (x : Bool) × (m ≡ Busy x)
is_busy (Busy x) e = (x, refl)
is_busy m e = absurd (differ (call_name m) (codes "busy") refl e)

pub row_busy : IsRow call_name call_fields CallFits (λ busy. switch_word busy ∷ []) (λ busy. Unit {0}) (codes "busy") Busy
row_busy = row _ _ _ _ _ (λ x. refl) is_busy

abbrev pub local_call : ℕ × ℕ → ReaderCall
local_call x = Local x.0 x.1

is_local : (m : ReaderCall) → call_name m ≡ codes "local" → (x : ℕ × ℕ) × (m ≡ local_call x)
is_local (Local tamper power) e = ((tamper, power), refl)
is_local m e = absurd (differ (call_name m) (codes "local") refl e)

pub row_local : IsRow call_name call_fields CallFits (λ (x : ℕ × ℕ). number x.0 ∷ number x.1 ∷ []) (λ (x : ℕ × ℕ). (x.0 < 2 ^ 8) × (x.1 < 2 ^ 8)) (codes "local") local_call
row_local = row _ _ _ _ _ (λ x. refl) is_local
