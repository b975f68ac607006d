-- Which line of the reader's table a packet meets, and what follows from that for somebody who tests it.
use Rattle.osdp_rules_laws.proofs.Common.{◌≡◌, ◌⊎◌, ℕ, Bool, true, false, cond, eqb, not, ◌&&◌, ◌||◌, Option, Some, None, refl, inl, inr, Packet, next_sequence, Kind, Silent, Secured, Zero, Repeat, Taken, Busy, Wrong, ReaderState, kind_by_number, kind_of, turn_of, is_to, New, Again, Out, NobodyKnows}

-- its number is the next after this one
pub record IsNext (last number : ℕ) : Type 0 where
  pub zero : eqb number 0 ≡ false
  pub other : eqb number last ≡ false
  pub next : eqb number (next_sequence last) ≡ true

-- .. and is neither 0, nor this one, nor the next
pub record IsOut (last number : ℕ) : Type 0 where
  pub zero : eqb number 0 ≡ false
  pub other : eqb number last ≡ false
  pub further : eqb number (next_sequence last) ≡ false

abbrev pub MetNumber : Option ℕ → ℕ → Kind → Type 0
MetNumber last number Silent = ⊥
MetNumber last number Secured = ⊥
MetNumber last number Zero = eqb number 0 ≡ true
MetNumber last number Busy = (eqb number 0 ≡ true) ⊎ ((n : ℕ) × (last ≡ Some n) × IsNext n number)
MetNumber last number Repeat = (eqb number 0 ≡ false) × ((n : ℕ) × (last ≡ Some n) × (eqb number n ≡ true))
MetNumber last number Taken = (n : ℕ) × (last ≡ Some n) × IsNext n number
MetNumber last number Wrong = (eqb number 0 ≡ false) × ((last ≡ None) ⊎ ((n : ℕ) × (last ≡ Some n) × IsOut n number))

pub record IsHere {H : Type 0} (r : ReaderState H) (p : Packet) (kind : Kind) : Type 0 where
  pub to : is_to r.config.address p ≡ true
  pub plain : p.block ≡ false
  pub number : MetNumber r.last p.sequence kind

abbrev pub Met : {H : Type 0} → ReaderState H → Packet → Kind → Type 0
Met r p Silent = is_to r.config.address p ≡ false
Met r p Secured = (is_to r.config.address p ≡ true) × (p.block ≡ true)
Met r p Zero = IsHere r p Zero
Met r p Busy = IsHere r p Busy
Met r p Repeat = IsHere r p Repeat
Met r p Taken = IsHere r p Taken
Met r p Wrong = IsHere r p Wrong

-- the kinds by number, each as it is met
by_last : (number n : ℕ) (same next busy : Bool) → eqb number 0 ≡ false → eqb number n ≡ same → eqb number (next_sequence n) ≡ next
    → MetNumber (Some n) number (cond same Repeat (cond next (cond busy Busy Taken) Wrong))
by_last number n true next busy zero same is = (zero, (n, refl, same))
by_last number n false true true zero same is = inr (n, refl, record { zero = zero; other = same; next = is })
by_last number n false true false zero same is = (n, refl, record { zero = zero; other = same; next = is })
by_last number n false false busy zero same is = (zero, inr (n, refl, record { zero = zero; other = same; further = is }))

by_number : (last : Option ℕ) (number : ℕ) (busy : Bool) → eqb number 0 ≡ false → MetNumber last number (kind_by_number last number busy)
by_number None number busy zero = (zero, inl refl)
by_number (Some n) number busy zero =
    by_last number n (eqb number n) (eqb number (next_sequence n)) busy zero refl refl

by_zero : (last : Option ℕ) (number : ℕ) (zero busy : Bool) → eqb number 0 ≡ zero
    → MetNumber last number (cond zero (cond busy Busy Zero) (kind_by_number last number busy))
by_zero last number true true is = inl is
by_zero last number true false is = is
by_zero last number false busy is = by_number last number busy is

module _ {H : Type 0} where
  here : (r : ReaderState H) (p : Packet) (kind : Kind) → is_to r.config.address p ≡ true → p.block ≡ false
      → MetNumber r.last p.sequence kind → Met r p kind
  here r p Silent to plain number = absurd number
  here r p Secured to plain number = absurd number
  here r p Zero to plain number = record { to = to; plain = plain; number = number }
  here r p Busy to plain number = record { to = to; plain = plain; number = number }
  here r p Repeat to plain number = record { to = to; plain = plain; number = number }
  here r p Taken to plain number = record { to = to; plain = plain; number = number }
  here r p Wrong to plain number = record { to = to; plain = plain; number = number }

  by_place : (r : ReaderState H) (p : Packet) (reply at block : Bool) (kind : Kind)
      → is_to r.config.address p ≡ (not reply && at) → p.block ≡ block → MetNumber r.last p.sequence kind
      → Met r p (cond (reply || not at) Silent (cond block Secured kind))
  by_place r p true at block kind to is number = to
  by_place r p false false block kind to is number = to
  by_place r p false true true kind to is number = (to, is)
  by_place r p false true false kind to is number = here r p kind to is number

  pub met : (r : ReaderState H) (p : Packet) → Met r p (kind_of r p)
  met r p =
      by_place r p p.reply (eqb p.address r.config.address || eqb p.address 127) p.block
      (cond (eqb p.sequence 0) (cond r.busy Busy Zero) (kind_by_number r.last p.sequence r.busy))
      refl refl (by_zero r.last p.sequence (eqb p.sequence 0) r.busy refl)

-- the turn of a number, as it is met
pub new_at_zero : (last : Option ℕ) (number : ℕ) → eqb number 0 ≡ true → turn_of last number ≡ New
new_at_zero None number zero = rw zero refl
new_at_zero (Some n) number zero = rw zero refl

pub new_next : (n number : ℕ) → IsNext n number → turn_of (Some n) number ≡ New
new_next n number next = rw (next.zero, next.other, next.next) refl

pub again_last : (n number : ℕ) → eqb number 0 ≡ false → eqb number n ≡ true → turn_of (Some n) number ≡ Again
again_last n number zero same = rw (zero, same) refl

pub out_further : (n number : ℕ) → IsOut n number → turn_of (Some n) number ≡ Out
out_further n number out = rw (out.zero, out.other, out.further) refl

pub unknown_above : (number : ℕ) → eqb number 0 ≡ false → turn_of None number ≡ NobodyKnows
unknown_above number zero = rw zero refl
