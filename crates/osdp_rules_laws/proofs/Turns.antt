-- The turn of a number after a list, by what the list says was taken.
use Rattle.osdp_rules_laws.proofs.Common.{◌≡◌, ◌≢◌, ◌⊎◌, inl, inr, ℕ, Bool, true, false, cond, eqb, List, Option, Some, None, refl, sym, subst, ap, ◌∙◌, cond-false, cond_both, eqb-true, eq-eqb, ne_eqb, Packet, next_sequence, last_number, turn_of, Opened, Took, Turn, Again, New, NobodyKnows, Out}
use Rattle.std.proofs.Common.{arith}
use Rattle.osdp_rules.specs.Runs.{Sent}
use Rattle.osdp_rules_laws.specs.Lists.{IsAgain, IsNew, IsOutOfTurn, NoComset, TookLast}
use Rattle.osdp_rules_laws.proofs.Deciding.{eqb_says, says_no}
use Rattle.osdp_rules_laws.proofs.Meeting.{again_last, new_at_zero}
use Rattle.osdp_rules_laws.proofs.Taking.{known, taken, taken_as, took}

-- what a turn says of a number after this one
abbrev pub TurnIs : Option ℕ → ℕ → Turn → Type 0
TurnIs last n New = (n ≡ 0) ⊎ ((m : ℕ) × (last ≡ Some m) × (n ≡ next_sequence m))
TurnIs last n Again = (n ≢ 0) × (last ≡ Some n)
TurnIs last n Out = (n ≢ 0) × ((m : ℕ) × (last ≡ Some m) × (n ≢ m) × (n ≢ next_sequence m))
TurnIs last n NobodyKnows = (n ≢ 0) × (last ≡ None)

eqb_no : (m n : ℕ) → eqb m n ≡ false → m ≢ n
eqb_no m n e = says_no (eqb m n) (m ≡ n) (eqb_says m n) e

turn_by : (m n : ℕ) (z s x : Bool) → eqb n 0 ≡ z → eqb n m ≡ s → eqb n (next_sequence m) ≡ x
    → TurnIs (Some m) n (cond z New (cond s Again (cond x New Out)))
turn_by m n true s x zero same next = inl (eqb-true n 0 zero)
turn_by m n false true x zero same next = (eqb_no n 0 zero, ap Some (sym (eqb-true n m same)))
turn_by m n false false true zero same next = inr (m, refl, eqb-true n (next_sequence m) next)
turn_by m n false false false zero same next = (eqb_no n 0 zero, (m, refl, eqb_no n m same, eqb_no n (next_sequence m) next))

nobody_by : (n : ℕ) (z : Bool) → eqb n 0 ≡ z → TurnIs None n (cond z New NobodyKnows)
nobody_by n true zero = inl (eqb-true n 0 zero)
nobody_by n false zero = (eqb_no n 0 zero, refl)

turn_is : (last : Option ℕ) (n : ℕ) → TurnIs last n (turn_of last n)
turn_is None n = nobody_by n (eqb n 0) refl
turn_is (Some m) n = turn_by m n (eqb n 0) (eqb n m) (eqb n (next_sequence m)) refl refl refl

turn_at : (last : Option ℕ) (n : ℕ) (t : Turn) → turn_of last n ≡ t → TurnIs last n t
turn_at last n t e = subst (λ (u : Turn). TurnIs last n u) e (turn_is last n)

-- the number after this one is another
next_differs : (m : ℕ) → next_sequence m ≢ m
next_differs m e = omega (arith, e)

next_above : (m : ℕ) → next_sequence m ≢ 0
next_above m e = omega (arith, e)

turn_next : (m n : ℕ) → n ≡ next_sequence m → turn_of (Some m) n ≡ New
turn_next m n e = subst (λ (k : ℕ). turn_of (Some m) k ≡ New) (sym e)
    (rw (ne_eqb (next_sequence m) 0 (next_above m), ne_eqb (next_sequence m) m (next_differs m), eq-eqb (next_sequence m) (next_sequence m) refl) refl)

turn_out : (m n : ℕ) → n ≢ 0 → n ≢ m → n ≢ next_sequence m → turn_of (Some m) n ≡ Out
turn_out m n zero same next = rw (ne_eqb n 0 zero, ne_eqb n m same, ne_eqb n (next_sequence m) next) refl

-- the number of what was taken
taken_number : (p a : Packet) → last_number (taken_as p a) ≡ Some p.sequence
taken_number p a =
    cond_both (eqb p.sequence 0) Opened (Took p a) (λ k. last_number k ≡ Some p.sequence)
    (λ zero. ap Some (sym (eqb-true p.sequence 0 zero))) (λ above. refl)

taken_above : (p a : Packet) → p.sequence ≢ 0 → taken_as p a ≡ Took p a
taken_above p a above = cond-false (eqb p.sequence 0) Opened (Took p a) (ne_eqb p.sequence 0 above)

some_same : (m n : ℕ) → Some m ≡ Some n → m ≡ n
some_same m n e = cc

none_some : (n : ℕ) → None ≡ Some n → ⊥
none_some n e = cc

module _ (address : ℕ) where
  took_number : (past : List Sent) (q b : Packet) → NoComset past → TookLast address past q b → last_number (known address past) ≡ Some q.sequence
  took_number past q b here is = ap last_number (took address past q b here is) ∙ taken_number q b

  pub new_turn : (past : List Sent) (p : Packet) → NoComset past → IsNew address past p → turn_of (last_number (known address past)) p.sequence ≡ New
  new_turn past p here (inl zero) = new_at_zero (last_number (known address past)) p.sequence (eq-eqb p.sequence 0 zero)
  new_turn past p here (inr next) =
      ap (λ o. turn_of o p.sequence) (took_number past next.0 next.1 here next.2) ∙ turn_next next.0.sequence p.sequence next.3

  pub out_turn : (past : List Sent) (p : Packet) → NoComset past → IsOutOfTurn address past p → turn_of (last_number (known address past)) p.sequence ≡ Out
  out_turn past p here out =
      ap (λ o. turn_of o p.sequence) (took_number past out.0 out.1 here out.2) ∙ turn_out out.0.sequence p.sequence out.3 out.4 out.5

  pub again_turn : (past : List Sent) (p first : Packet) → NoComset past → IsAgain address past p first
      → turn_of (last_number (known address past)) p.sequence ≡ Again
  again_turn past p first here is =
      ap (λ o. turn_of o p.sequence) (took_number past p first here is.last)
      ∙ again_last p.sequence p.sequence (ne_eqb p.sequence 0 is.number) (eq-eqb p.sequence p.sequence refl)

  pub again_known : (past : List Sent) (p first : Packet) → NoComset past → IsAgain address past p first → known address past ≡ Took p first
  again_known past p first here is = took address past p first here is.last ∙ taken_above p first is.number

  -- ---- and back

  -- the number that was taken last is that of a packet in the list
  number_taken : (past : List Sent) (m : ℕ) → NoComset past → last_number (known address past) ≡ Some m
      → (q : Packet) × (b : Packet) × TookLast address past q b × (m ≡ q.sequence) × (known address past ≡ taken_as q b)
  number_taken past m here is = elim (taken address past here) [
    | inl unknown ↦ absurd (none_some m (sym (ap last_number unknown) ∙ is))
    | inr took_ ↦ (took_.0, took_.1, took_.2, some_same m took_.0.sequence (sym is ∙ ap last_number took_.3 ∙ taken_number took_.0 took_.1), took_.3)
  ]

  pub turn_new : (past : List Sent) (p : Packet) → NoComset past → turn_of (last_number (known address past)) p.sequence ≡ New → IsNew address past p
  turn_new past p here e = elim (turn_at (last_number (known address past)) p.sequence New e) [
    | inl zero ↦ inl zero
    | inr next ↦
        let q = number_taken past next.0 here next.1 in
        inr (q.0, q.1, q.2, next.2 ∙ ap next_sequence q.3)
  ]

  pub turn_further : (past : List Sent) (p : Packet) → NoComset past → turn_of (last_number (known address past)) p.sequence ≡ Out
      → IsOutOfTurn address past p
  turn_further past p here e =
      let at = turn_at (last_number (known address past)) p.sequence Out e in
      let q = number_taken past at.1.0 here at.1.1 in
      (q.0, q.1, q.2, at.0, (λ f. at.1.2 (f ∙ sym q.3)), (λ f. at.1.3 (f ∙ ap next_sequence (sym q.3))))

  -- the last number once more: what was taken with it
  pub turn_again : (past : List Sent) (p : Packet) → NoComset past → turn_of (last_number (known address past)) p.sequence ≡ Again
      → (q : Packet) × (b : Packet) × TookLast address past q b × (p.sequence ≢ 0) × (known address past ≡ Took q b)
  turn_again past p here e =
      let at = turn_at (last_number (known address past)) p.sequence Again e in
      let q = number_taken past p.sequence here at.1 in
      (q.0, q.1, q.2, at.0, q.4 ∙ taken_above q.0 q.1 (λ zero. at.0 (q.3 ∙ zero)))
