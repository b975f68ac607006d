-- Tests of packets, and what they say.
use Rattle.osdp_rules_laws.proofs.Common.{◌≡◌, ◌⊎◌, inl, inr, ℕ, Bool, true, false, not, ◌&&◌, ◌||◌, eqb, nat_lt, length, List, [], ◌∷◌, Result, Ok, refl, sym, ◌∙◌, ap, false≢true, false_from_ne_true, eqb-true, eq-eqb, Packet, Command, MsgFault, has_reason, is_busy, is_comset, is_nak, is_to, takes_nothing, must_have, asked}
use Rattle.std.specs.Prelude.{slice_index}
use Rattle.std.proofs.Common.{arith}
use Rattle.osdp_msg.specs.declared.command.Command.TheVariants as command
use Rattle.osdp_msg.specs.declared.command_fields.Communication.{Communication}
use Rattle.osdp_rules_laws.specs.Terms.{IsBusy, IsComset, IsNak, IsNakOf, IsServed, IsTo, TakesNothing, code, data_of}

-- a test says what it says
pub record Says (b : Bool) (P : Type 0) : Type 0 where
  pub means : b ≡ true → P
  pub shows : P → b ≡ true

pub says_no : (b : Bool) (P : Type 0) → Says b P → b ≡ false → P → ⊥
says_no b P s e h = false≢true (sym e ∙ s.shows h)

pub no_says : (b : Bool) (P : Type 0) → Says b P → (P → ⊥) → b ≡ false
no_says b P s not_it = false_from_ne_true b (λ e. not_it (s.means e))

pub and_says : (b c : Bool) (P Q : Type 0) → Says b P → Says c Q → Says (b && c) (P × Q)
and_says true c P Q s t = record { means = λ e. (s.means refl, t.means e); shows = λ h. t.shows h.1 }
and_says false c P Q s t = record { means = λ e. absurd (false≢true e); shows = λ h. s.shows h.0 }

pub or_says : (b c : Bool) (P Q : Type 0) → Says b P → Says c Q → Says (b || c) (P ⊎ Q)
or_says true c P Q s t = record { means = λ e. inl (s.means refl); shows = λ h. refl }
or_says false c P Q s t = record {
  means = λ e. inr (t.means e);
  shows = λ h. elim h [ inl p ↦ absurd (false≢true (s.shows p)) | inr q ↦ t.shows q ];
}

pub not_says : (b : Bool) → Says (not b) (b ≡ false)
not_says true = record { means = λ e. absurd (false≢true e); shows = λ h. sym h }
not_says false = record { means = λ e. refl; shows = λ h. refl }

pub eqb_says : (m n : ℕ) → Says (eqb m n) (m ≡ n)
eqb_says m n = record { means = eqb-true m n; shows = eq-eqb m n }

pub busy_says : (a : Packet) → Says (is_busy a) (IsBusy a)
busy_says a = eqb_says (code a) 0x79

pub nak_says : (a : Packet) → Says (is_nak a) (IsNak a)
nak_says a = eqb_says (code a) 0x41

some_is : (x : ℕ) (xs : List ℕ) → nat_lt 0 (length (x ∷ xs)) ≡ true
some_is x xs = grind arith

first_says : (reason : ℕ) (d : List ℕ)
    → Says (nat_lt 0 (length d) && eqb (slice_index d 0) reason) ((more : List ℕ) × (d ≡ reason ∷ more))
first_says reason [] = record { means = λ e. absurd (false≢true e); shows = λ h. absurd (cc (h.1)) }
first_says reason (x ∷ xs) =
    let first : (nat_lt 0 (length (x ∷ xs)) && eqb x reason) ≡ eqb x reason = ap (λ b. b && eqb x reason) (some_is x xs) in
    record {
      means = λ e. (xs, ap (λ y. y ∷ xs) (eqb-true x reason (sym first ∙ e)));
      shows = λ h. first ∙ eq-eqb x reason (cc (h.1));
    }

pub reason_says : (reason : ℕ) (a : Packet) → Says (has_reason reason a) (IsNakOf reason a)
reason_says reason a = and_says (is_nak a) _ _ _ (nak_says a) (first_says reason (data_of a))

pub takes_says : (a : Packet) → Says (takes_nothing a) (TakesNothing a)
takes_says a =
    let two = or_says (has_reason 1 a) (has_reason 4 a) _ _ (reason_says 1 a) (reason_says 4 a) in
    let all = or_says (is_busy a) (has_reason 1 a || has_reason 4 a) _ _ (busy_says a) two in
    record {
      means = λ e. elim (all.means e) [ inl b ↦ inl b | inr o ↦ inr o ];
      shows = λ h. elim h [ inl b ↦ all.shows (inl b) | inr o ↦ all.shows (inr o) ];
    }

pub to_says : (address : ℕ) (p : Packet) → Says (is_to address p) (IsTo address p)
to_says address p =
    and_says (not p.reply) _ _ _ (not_says p.reply)
    (or_says (eqb p.address address) (eqb p.address 127) _ _ (eqb_says p.address address) (eqb_says p.address 127))

comset_by : (r : Result Command MsgFault) → Says (is_comset r) ((c : Communication) × (r ≡ Ok (command.Comset c)))
comset_by (Ok (command.Comset c)) = record { means = λ e. (c, refl); shows = λ h. refl }
comset_by r = record { means = λ e. absurd (false≢true e); shows = λ h. absurd (cc (h.1)) }

pub comset_says : (p : Packet) → Says (is_comset (asked p)) (IsComset p)
comset_says p = comset_by (asked p)

served_by : (r : Result Command MsgFault)
    → Says (must_have r) ((r ≡ Ok command.Poll) ⊎ ((kept : ℕ) × (r ≡ Ok (command.Id kept))) ⊎ ((kept : ℕ) × (r ≡ Ok (command.Cap kept))))
served_by (Ok command.Poll) = record { means = λ e. inl refl; shows = λ h. refl }
served_by (Ok (command.Id kept)) = record { means = λ e. inr (inl (kept, refl)); shows = λ h. refl }
served_by (Ok (command.Cap kept)) = record { means = λ e. inr (inr (kept, refl)); shows = λ h. refl }
served_by r = record {
  means = λ e. absurd (false≢true e);
  shows = λ h. elim h [ inl is ↦ absurd (cc is) | inr (inl is) ↦ absurd (cc (is.1)) | inr (inr is) ↦ absurd (cc (is.1)) ];
}

pub served_says : (p : Packet) → Says (must_have (asked p)) (IsServed p)
served_says p = served_by (asked p)
