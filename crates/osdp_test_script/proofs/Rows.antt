-- The lines by their names: what is read after a name is what the line is made of.
use Rattle.osdp_test_script.proofs.Common.{◌≡◌, ℕ, ◌<◌, ◌≤◌, ◌^◌, List, [], ◌∷◌, codes, refl, ArrayVec, check_name, longest_time, CheckKind, IsRow, differ, bytes, number, plain, awaited_name, CallFits, IsHeard, IsPlace, TermFits, call_fields, call_name, term_words, Awaited, Term, ScriptCall, Device, Check, Damage, Wait, Expect, Keep, Counts, Heard}

-- the row of a name by which only the lines go that are made so
pub row : {X : Type 0} (name : List ℕ) (make : X → ScriptCall) → ((x : X) → call_name (make x) ≡ name)
    → ((m : ScriptCall) → call_name m ≡ name → (x : X) × (m ≡ make x))
    → IsRow call_name call_fields CallFits (λ x. call_fields (make x)) (λ x. CallFits (make x)) name make
row name make named only = record { named = named; fields = λ x. refl; fits = λ x h. h; allowed = λ x h. h; only = only }

abbrev pub expect_call : Awaited × Term → ScriptCall
expect_call x = Expect x.0 x.1

abbrev pub heard_call : ℕ × ℕ × ArrayVec ℕ → ScriptCall
heard_call x = Heard x.0 x.1 x.2

is_device : (m : ScriptCall) → call_name m ≡ codes "device" → (x : ℕ) × (m ≡ Device x)
is_device (Device x) e = (x, refl)
is_device m e = absurd (differ (call_name m) (codes "device") refl e)

pub row_device : IsRow call_name call_fields CallFits (λ n. number n ∷ []) (λ n. n < 127) (codes "device") Device
row_device = row _ _ (λ x. refl) is_device

is_check : (m : ScriptCall) → call_name m ≡ codes "check" → (x : CheckKind) × (m ≡ Check x)
is_check (Check x) e = (x, refl)
is_check m e = absurd (differ (call_name m) (codes "check") refl e)

pub row_check : IsRow call_name call_fields CallFits (λ kind. plain (check_name kind) ∷ []) (λ kind. Unit {0}) (codes "check") Check
row_check = row _ _ (λ x. refl) is_check

is_damage : (m : ScriptCall) → call_name m ≡ codes "damage" → (x : ℕ) × (m ≡ Damage x)
is_damage (Damage x) e = (x, refl)
is_damage m e = absurd (differ (call_name m) (codes "damage") refl e)

pub row_damage : IsRow call_name call_fields CallFits (λ n. number n ∷ []) IsPlace (codes "damage") Damage
row_damage = row _ _ (λ x. refl) is_damage

is_wait : (m : ScriptCall) → call_name m ≡ codes "wait" → (x : ℕ) × (m ≡ Wait x)
is_wait (Wait x) e = (x, refl)
is_wait m e = absurd (differ (call_name m) (codes "wait") refl e)

pub row_wait : IsRow call_name call_fields CallFits (λ n. number n ∷ []) (λ n. n ≤ longest_time) (codes "wait") Wait
row_wait = row _ _ (λ x. refl) is_wait

is_expect : (m : ScriptCall) → call_name m ≡ codes "expect" → (x : Awaited × Term) × (m ≡ expect_call x)
is_expect (Expect a t) e = ((a, t), refl)
is_expect m e = absurd (differ (call_name m) (codes "expect") refl e)

pub row_expect : IsRow call_name call_fields CallFits (λ (x : Awaited × Term). plain (awaited_name x.0) ∷ term_words x.1) (λ (x : Awaited × Term). TermFits x.1) (codes "expect") expect_call
row_expect = row _ _ (λ x. refl) is_expect

is_keep : (m : ScriptCall) → call_name m ≡ codes "keep" → (x : ℕ) × (m ≡ Keep x)
is_keep (Keep x) e = (x, refl)
is_keep m e = absurd (differ (call_name m) (codes "keep") refl e)

pub row_keep : IsRow call_name call_fields CallFits (λ n. number n ∷ []) IsPlace (codes "keep") Keep
row_keep = row _ _ (λ x. refl) is_keep

is_counts : (m : ScriptCall) → call_name m ≡ codes "counts" → (x : ℕ) × (m ≡ Counts x)
is_counts (Counts x) e = (x, refl)
is_counts m e = absurd (differ (call_name m) (codes "counts") refl e)

pub row_counts : IsRow call_name call_fields CallFits (λ n. number n ∷ []) (λ n. n < 2 ^ 8) (codes "counts") Counts
row_counts = row _ _ (λ x. refl) is_counts

is_heard : (m : ScriptCall) → call_name m ≡ codes "heard" → (x : ℕ × ℕ × ArrayVec ℕ) × (m ≡ heard_call x)
is_heard (Heard a b c) e = ((a, b, c), refl)
is_heard m e = absurd (differ (call_name m) (codes "heard") refl e)

pub row_heard : IsRow call_name call_fields CallFits (λ (x : ℕ × ℕ × ArrayVec ℕ). number x.0 ∷ number x.1 ∷ bytes x.2.items ∷ [])
    (λ (x : ℕ × ℕ × ArrayVec ℕ). (x.0 < 2 ^ 64) × (x.1 < 2 ^ 64) × IsHeard x.2.items) (codes "heard") heard_call
row_heard = row _ _ (λ x. refl) is_heard
