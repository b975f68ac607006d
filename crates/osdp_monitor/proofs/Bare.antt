-- What is read of a POLL and of an ACK, by their codes alone.
use Rattle.osdp_monitor.proofs.Common.{slice_index, ◌≡◌, ◌↔◌, ◌∙◌, ℕ, Bool, List, [], ◌∷◌, drop, length, is_some, nat_eq, true, false, Option, Some, None, Result, Ok, Err, refl, sym, ap, arith, eqb-true, false≢true, Command, Poll, MsgFault, Reply, Ack}
use Rattle.osdp_msg.specs.CommandTable.{command_of, command_fault, command_at, command_counts_agree, command_length_allowed}
use Rattle.osdp_msg.specs.Refusal.{refusal, unless_fault}
use Rattle.osdp_msg.specs.ReplyTable.{reply_of, reply_fault, reply_at, reply_counts_agree, reply_length_allowed}

-- ---- a message without data that is read of one code alone

-- what a table makes of a code and data
abbrev read_by : {M : Type 0} → (ℕ → ℕ → Option Bool) → (ℕ → List ℕ → Bool) → (ℕ → List ℕ → M) → ℕ → List ℕ → Result M MsgFault
read_by allowed agree at code bytes = unless_fault (refusal (allowed code (length bytes)) (length bytes) (agree code bytes)) (at code bytes)

-- it is read
abbrev reads : {M : Type 0} → (M → Bool) → Result M MsgFault → Bool
reads is_bare (Ok m) = is_bare m
reads is_bare (Err fault) = false

-- it has this code in the table, and no row with another code is it
record IsBare {M : Type 0} (allowed : ℕ → ℕ → Option Bool) (agree : ℕ → List ℕ → Bool) (at : ℕ → List ℕ → M) (own : ℕ) (bare : M) (is_bare : M → Bool) : Type 0 where
  told : (m : M) → is_bare m ≡ true → m ≡ bare
  same : is_bare bare ≡ true
  alone : (bytes : List ℕ) → nat_eq (length bytes) 0 ≡ reads is_bare (read_by allowed agree at own bytes)
  other : (code len : ℕ) (bytes : List ℕ) → nat_eq code own ≡ false → is_some (allowed code len) ≡ true → is_bare (at code bytes) ≡ false

module _ {M : Type 0} (allowed : ℕ → ℕ → Option Bool) (agree : ℕ → List ℕ → Bool) (at : ℕ → List ℕ → M) (own : ℕ) (bare : M) (is_bare : M → Bool) (row : IsBare allowed agree at own bare is_bare) where
  read_told : (read : Result M MsgFault) → reads is_bare read ≡ true → read ≡ Ok bare
  read_told (Ok m) h = ap Ok (row.told m h)
  read_told (Err fault) h = absurd (false≢true h)

  bare_has : (read : Result M MsgFault) (b : Bool) → b ≡ reads is_bare read → (b ≡ true) ↔ (read ≡ Ok bare)
  bare_has read b is = (λ h. read_told read (sym is ∙ h), λ e. is ∙ ap (reads is_bare) e ∙ row.same)

  faulty : (fault : Option MsgFault) (m : M) → is_bare m ≡ false → reads is_bare (unless_fault fault m) ≡ false
  faulty None m h = h
  faulty (Some e) m h = refl

  not_bare : (code : ℕ) (bytes : List ℕ) → nat_eq code own ≡ false → reads is_bare (read_by allowed agree at code bytes) ≡ false
  not_bare code bytes other = by_row (allowed code (length bytes)) refl
    where
      by_row : (may : Option Bool) → allowed code (length bytes) ≡ may → reads is_bare (read_by allowed agree at code bytes) ≡ false
      by_row None e = rw e refl
      by_row (Some may) e =
          faulty (refusal (allowed code (length bytes)) (length bytes) (agree code bytes)) (at code bytes) (row.other code (length bytes) bytes other (ap is_some e))

  -- its code, and then its length
  bare_then : (code : ℕ) (bytes : List ℕ) → code ≡ own → (nat_eq (length bytes) 0 ≡ true) ↔ (read_by allowed agree at code bytes ≡ Ok bare)
  bare_then code bytes is =
      bare_has (read_by allowed agree at code bytes) (nat_eq (length bytes) 0) (row.alone bytes ∙ ap (λ n. reads is_bare (read_by allowed agree at n bytes)) (sym is))

  bare_else : (code : ℕ) (bytes : List ℕ) → nat_eq code own ≡ false → (nat_eq code own ≡ true) ↔ (read_by allowed agree at code bytes ≡ Ok bare)
  bare_else code bytes other = bare_has (read_by allowed agree at code bytes) (nat_eq code own) (other ∙ sym (not_bare code bytes other))

-- ---- a POLL and an ACK

abbrev is_poll : Command → Bool
is_poll Poll = true
is_poll _ = false

abbrev is_ack : Reply → Bool
is_ack Ack = true
is_ack _ = false

poll_told : (m : Command) → is_poll m ≡ true → m ≡ Poll
poll_told Poll h = refl
poll_told m h = cc

ack_told : (m : Reply) → is_ack m ≡ true → m ≡ Ack
ack_told Ack h = refl
ack_told m h = cc

poll : IsBare command_length_allowed command_counts_agree command_at 0x60 Poll is_poll
unfolding command_at
poll = record { told = poll_told; same = refl; alone = λ bytes. grind arith; other = λ code len bytes other row. grind arith }

ack : IsBare reply_length_allowed reply_counts_agree reply_at 0x40 Ack is_ack
unfolding reply_at
ack = record { told = ack_told; same = refl; alone = λ bytes. grind arith; other = λ code len bytes other row. grind arith }

pub poll_then : (code : ℕ) (bytes : List ℕ) → code ≡ 0x60 → (nat_eq (length bytes) 0 ≡ true) ↔ (command_of code bytes ≡ Ok Poll)
unfolding command_of command_fault
poll_then = bare_then command_length_allowed command_counts_agree command_at 0x60 Poll is_poll poll

pub ack_then : (code : ℕ) (bytes : List ℕ) → code ≡ 0x40 → (nat_eq (length bytes) 0 ≡ true) ↔ (reply_of code bytes ≡ Ok Ack)
unfolding reply_of reply_fault
ack_then = bare_then reply_length_allowed reply_counts_agree reply_at 0x40 Ack is_ack ack

pub poll_else : (code : ℕ) (bytes : List ℕ) → nat_eq code 0x60 ≡ false → (nat_eq code 0x60 ≡ true) ↔ (command_of code bytes ≡ Ok Poll)
unfolding command_of command_fault
poll_else = bare_else command_length_allowed command_counts_agree command_at 0x60 Poll is_poll poll

pub ack_else : (code : ℕ) (bytes : List ℕ) → nat_eq code 0x40 ≡ false → (nat_eq code 0x40 ≡ true) ↔ (reply_of code bytes ≡ Ok Ack)
unfolding reply_of reply_fault
ack_else = bare_else reply_length_allowed reply_counts_agree reply_at 0x40 Ack is_ack ack

-- ---- a POLL by its whole body: its length, and then its code

pub body_then : (body : List ℕ) → length body ≡ 1
    → (nat_eq (slice_index body 0) 0x60 ≡ true) ↔ (command_of (slice_index body 0) (drop 1 body) ≡ Ok Poll)
body_then [] one = absurd (omega arith)
body_then (b ∷ []) one = by_code (nat_eq b 0x60) refl
  where
    by_code : (is : Bool) → nat_eq b 0x60 ≡ is → (nat_eq b 0x60 ≡ true) ↔ (command_of b [] ≡ Ok Poll)
    by_code true e = (λ h. (poll_then b [] (eqb-true b 0x60 e)).0 refl, λ h. e)
    by_code false e = poll_else b [] e
body_then (b ∷ c ∷ bytes) one = absurd (omega arith)

has_data : (b : ℕ) (bytes : List ℕ) → nat_eq (length (b ∷ bytes)) 0 ≡ false
has_data b bytes = grind arith

-- a longer one, and none, is no POLL
long_body : (body : List ℕ) → nat_eq (length body) 1 ≡ false → command_of (slice_index body 0) (drop 1 body) ≡ Ok Poll → ⊥
long_body [] other e = false≢true ((poll_else 0 [] refl).1 e)
long_body (b ∷ []) other e = absurd cc
long_body (b ∷ c ∷ bytes) other e = by_code (nat_eq b 0x60) refl
  where
    by_code : (is : Bool) → nat_eq b 0x60 ≡ is → ⊥
    by_code true is = false≢true (sym (has_data c bytes) ∙ (poll_then b (c ∷ bytes) (eqb-true b 0x60 is)).1 e)
    by_code false is = false≢true (sym is ∙ (poll_else b (c ∷ bytes) is).1 e)

pub body_else : (body : List ℕ) → nat_eq (length body) 1 ≡ false
    → (nat_eq (length body) 1 ≡ true) ↔ (command_of (slice_index body 0) (drop 1 body) ≡ Ok Poll)
body_else body other = (λ h. absurd (false≢true (sym other ∙ h)), λ e. absurd (long_body body other e))
