-- How verdicts are counted, and when a packet goes out again.
use Rattle.osdp_test_script.proofs.Common.{◌≡◌, ◌∙◌, ◌⊎◌, ◌&&◌, ℕ, ◌+◌, ◌-◌, ◌<◌, ◌^◌, nat_lt, Bool, true, false, if◌then◌else◌, Option, Some, None, inl, inr, refl, ap, Packet, CountsEachVerdict, IsUnanswered, TriesAgain, count_of, Called, answer_heard, answer_taken, counted, heard_exchange, hears, hears_by, is_put_off, is_whole, with_heard}
use Rattle.std.proofs.lemmas.Bool.{lt-ltb}
use Rattle.osdp_rules.specs.Packets.{is_busy}
use Rattle.osdp_test_script.specs.declared.run.Awaits.{Awaits}
use Rattle.osdp_test_script.specs.declared.run.Awaits.TheVariants as awaits
use Rattle.osdp_test_script.specs.declared.run.Counts.{Counts}
use Rattle.osdp_test_script.specs.declared.run.Exchange.{Exchange}
use Rattle.osdp_test_script.specs.declared.run.Fault.{Fault}
use Rattle.osdp_test_script.specs.declared.run.Fault.TheVariants.{Whole, Lost, Damaged}
use Rattle.osdp_test_script.specs.declared.seen.Seen.{Seen}
use Rattle.osdp_test_script.specs.declared.seen.Seen.TheVariants.{Ok, Broken, Unclear}

one_more_is : (n : ℕ) → n < 2 ^ 64 - 1 → (if nat_lt n (2 ^ 64 - 1) then n + 1 else n) ≡ n + 1
one_more_is n small = ap (λ (b : Bool). if b then n + 1 else n) (lt-ltb n (2 ^ 64 - 1) small)

-- the counts of other verdicts stay
others_stay : (v w : Seen) (c : Counts) → (w ≡ v → ⊥) → count_of w (counted v c) ≡ count_of w c
others_stay Ok Ok c other = absurd (other refl)
others_stay Ok Broken c other = refl
others_stay Ok Unclear c other = refl
others_stay Broken Ok c other = refl
others_stay Broken Broken c other = absurd (other refl)
others_stay Broken Unclear c other = refl
others_stay Unclear Ok c other = refl
others_stay Unclear Broken c other = refl
others_stay Unclear Unclear c other = absurd (other refl)

pub counts_each_verdict : CountsEachVerdict
counts_each_verdict Ok c small = (one_more_is c.ok small, λ w other. others_stay Ok w c other)
counts_each_verdict Broken c small = (one_more_is c.broken small, λ w other. others_stay Broken w c other)
counts_each_verdict Unclear c small = (one_more_is c.unclear small, λ w other. others_stay Unclear w c other)

-- ---- again

all_hold : (a b c : Bool) → a ≡ true → b ≡ true → c ≡ true → a && b && c ≡ true
all_hold a b c h g k = rw (h, g, k) refl

one_fails : (a b c : Bool) → (a ≡ false) ⊎ ((b ≡ false) ⊎ (c ≡ false)) → a && b && c ≡ false
one_fails false b c h = refl
one_fails true false c h = refl
one_fails true true false h = refl
one_fails true true true (inl e) = cc e
one_fails true true true (inr (inl e)) = cc e
one_fails true true true (inr (inr e)) = cc e

put_off : (a : Option Packet) → IsUnanswered a → is_put_off a ≡ true
put_off None h = refl
put_off (Some a) h = h

is_no_fault : (f : Fault) → (f ≡ Whole → ⊥) → is_whole f ≡ false
is_no_fault Whole h = absurd (h refl)
is_no_fault Lost h = refl
is_no_fault (Damaged place) h = refl

unless_true : (b : Bool) → (b ≡ true → ⊥) → b ≡ false
unless_true true h = absurd (h refl)
unless_true false h = refl

not_put_off : (a : Option Packet) → (IsUnanswered a → ⊥) → is_put_off a ≡ false
not_put_off None h = absurd (h tt)
not_put_off (Some a) h = unless_true (is_busy a) h

none_left : (left : ℕ) → left ≡ 0 → nat_lt 0 left ≡ false
none_left left e = ap (nat_lt 0) e

why_not : (f : Fault) (left : ℕ) (a : Option Packet) → (f ≡ Whole → ⊥) ⊎ ((left ≡ 0) ⊎ (IsUnanswered a → ⊥))
    → (is_whole f ≡ false) ⊎ ((nat_lt 0 left ≡ false) ⊎ (is_put_off a ≡ false))
why_not f left a (inl h) = inl (is_no_fault f h)
why_not f left a (inr (inl h)) = inr (inl (none_left left h))
why_not f left a (inr (inr h)) = inr (inr (not_put_off a h))

pub tries_again : TriesAgain
tries_again f left h x s awaited sent =
    let is : hears h s ≡ answer_heard f left h x s =
    ap (λ (a : Awaits). hears_by a s.exchange h s) awaited ∙ ap (λ (o : Option Exchange). hears_by (awaits.Answer f left) o h s) sent in
    record {
      again = λ whole some unanswered.
          let so = is ∙ ap (λ (b : Bool). answer_taken b f left (heard_exchange f h x) (with_heard f h x s))
          (all_hold (is_whole f) (nat_lt 0 left) (is_put_off h.answer) (ap is_whole whole) (lt-ltb 0 left some) (put_off h.answer unanswered)) in
          (ap (λ (c : Called). c.text) so, ap (λ (c : Called). c.run.awaits) so);
      done = λ why.
          let so = is ∙ ap (λ (b : Bool). answer_taken b f left (heard_exchange f h x) (with_heard f h x s))
          (one_fails (is_whole f) (nat_lt 0 left) (is_put_off h.answer) (why_not f left h.answer why)) in
          (ap (λ (c : Called). c.text) so, ap (λ (c : Called). c.run.awaits) so);
    }
