-- What the standard leaves open breaks no rule.
use Rattle.osdp_rules_laws.proofs.Common.{◌≡◌, ◌≢◌, ◌⊎◌, ℕ, true, false, cond, eqb, ◌||◌, Option, Some, Result, refl, sym, subst, inl, inr, and_left, eq-eqb, eqb-true, or_left, or_right, Packet, Command, MsgFault, UnknownCode, Length, Count, again_finding, block_finding, code_finding, fit_read, kept_if, length_finding, new_finding, quiet_finding, refusal_finding, repeat_finding, taken_finding, turned_away, wrong_finding, answer_judged, judged, sent_judged, turn_judged, last_number, turn_of, asked, code_of, has_reason, is_busy, is_nak, is_to, same_packet, Aspect, Nothing, Kept, Either, Broken, Known, Gone, Took, Turn, New, Again, Out, NobodyKnows, AnyRefusalIsOne, DevicesMayDiffer, MayBeBusy, OtherCodesBreakNothing}
use Rattle.osdp_rules.specs.declared.aspect.Aspect.TheVariants as rule
use Rattle.osdp_rules_laws.proofs.Fine.{IsFine, fine_both, fine_false, fine_true, fine_unbroken}
use Rattle.osdp_rules_laws.proofs.Reading.{busy_fits}
use Rattle.osdp_rules_laws.proofs.Replies.{nak_fits}
use Rattle.osdp_rules_laws.proofs.Steps.{block_fine}
use Rattle.std.specs.Prelude.{Ok, Err, nat_lt, ◌≤◌, suc}
use Rattle.std.proofs.Common.{arith}
use Rattle.osdp_msg.specs.declared.reply.Reply.{Reply}
use Rattle.osdp_rules.specs.Findings.{deaf_finding, is_answer, is_fitting, read_finding}
use Rattle.osdp_rules.specs.Packets.{told}
use Rattle.std.proofs.lemmas.Bool.{lt-leb}

-- fine where the device's place is known, and elsewhere nothing is judged
anywhere : (aspect : Aspect) (address : ℕ) (k : Known) (p : Packet) (heard : Option Packet) → IsFine (sent_judged aspect address k p heard)
    → IsFine (judged aspect address k p heard)
anywhere aspect address Gone p heard fine = tt
anywhere aspect address k p heard fine = fine

-- whatever the turn
at_any_turn : (turn : Turn) (aspect : Aspect) (k : Known) (p a : Packet) → IsFine (new_finding aspect p a) → IsFine (repeat_finding aspect k p a)
    → IsFine (wrong_finding aspect a) → IsFine (turn_judged turn aspect k p a)
at_any_turn New aspect k p a new again out = new
at_any_turn Again aspect k p a new again out = again
at_any_turn Out aspect k p a new again out = out
at_any_turn NobodyKnows aspect k p a new again out = tt

unbroken : (aspect : Aspect) (address : ℕ) (k : Known) (p a : Packet) → is_to address p ≡ true → IsFine (new_finding aspect p a)
    → IsFine (repeat_finding aspect k p a) → IsFine (wrong_finding aspect a) → judged aspect address k p (Some a) ≢ Broken
unbroken aspect address k p a to new again out =
    let later = turn_judged (turn_of (last_number k) p.sequence) aspect k p a in
    fine_unbroken (judged aspect address k p (Some a)) (anywhere aspect address k p (Some a)
    (fine_true (is_to address p) (answer_judged aspect k p a) (quiet_finding aspect true) to
    (fine_both (has_reason 1 a) Nothing (cond p.block (block_finding aspect a) later) tt
    (fine_both p.block (block_finding aspect a) later (block_fine aspect a)
    (at_any_turn (turn_of (last_number k) p.sequence) aspect k p a new again out)))))

refusal_fine : (reason : ℕ) (a : Packet) → (is_nak a || is_busy a) ≡ true → IsFine (refusal_finding reason a)
refusal_fine reason a either =
    fine_both (has_reason reason a) Kept (cond (is_nak a || is_busy a) Either Broken) tt (fine_true (is_nak a || is_busy a) Either Broken either tt)

codes_fine : (read : Result Command MsgFault) (code : ℕ) (a : Packet) → (is_nak a || is_busy a) ≡ true → IsFine (code_finding read code a)
codes_fine (Err UnknownCode) code a either = fine_both _ (refusal_finding 3 a) Nothing (refusal_fine 3 a either) tt
codes_fine read code a either = tt

lengths_fine : (read : Result Command MsgFault) (a : Packet) → (is_nak a || is_busy a) ≡ true → IsFine (length_finding read a)
lengths_fine (Err Length) a either = refusal_fine 2 a either
lengths_fine (Err Count) a either = refusal_fine 2 a either
lengths_fine read a either = tt

nak_reads : (read : Result Command MsgFault) → IsFine (fit_read read 0x41)
nak_reads (Ok c) = nak_fits c
nak_reads (Err fault) = tt

pub any_refusal_is_one : AnyRefusalIsOne
any_refusal_is_one aspect address k p a to nak (inl is) =
    subst (λ (x : Aspect). judged x address k p (Some a) ≢ Broken) (sym is)
    (unbroken rule.Code address k p a to
    (fine_both (has_reason 4 a) Nothing (code_finding (asked p) (code_of p) a) tt (codes_fine (asked p) (code_of p) a (or_left (is_nak a) (is_busy a) nak))) tt tt)
any_refusal_is_one aspect address k p a to nak (inr (inl is)) =
    subst (λ (x : Aspect). judged x address k p (Some a) ≢ Broken) (sym is)
    (unbroken rule.Length address k p a to
    (fine_both (has_reason 4 a) Nothing (length_finding (asked p) a) tt (lengths_fine (asked p) a (or_left (is_nak a) (is_busy a) nak))) tt tt)
any_refusal_is_one aspect address k p a to nak (inr (inr (inl is))) =
    subst (λ (x : Aspect). judged x address k p (Some a) ≢ Broken) (sym is)
    (unbroken rule.Wrong address k p a to (fine_both (has_reason 4 a) Nothing Nothing tt tt) tt (refusal_fine 4 a (or_left (is_nak a) (is_busy a) nak)))
any_refusal_is_one aspect address k p a to nak (inr (inr (inr (inl is)))) =
    subst (λ (x : Aspect). judged x address k p (Some a) ≢ Broken) (sym is)
    (unbroken rule.Block address k p a to (fine_both (has_reason 4 a) Nothing Nothing tt tt) tt tt)
any_refusal_is_one aspect address k p a to nak (inr (inr (inr (inr is)))) =
    subst (λ (x : Aspect). judged x address k p (Some a) ≢ Broken) (sym is)
    (unbroken rule.Fit address k p a to
    (fine_both (has_reason 4 a) Nothing (fit_read (asked p) (code_of a)) tt
    (subst (λ (code : ℕ). IsFine (fit_read (asked p) code)) (sym (eqb-true (code_of a) 0x41 nak)) (nak_reads (asked p)))) tt tt)

-- BUSY is no NAK
busy_no_nak : (a : Packet) → is_busy a ≡ true → is_nak a ≡ false
busy_no_nak a busy = subst (λ (code : ℕ). eqb code 0x41 ≡ false) (sym (eqb-true (code_of a) 0x79 busy)) refl

busy_new : (aspect : Aspect) (p a : Packet) → is_busy a ≡ true → IsFine (taken_finding aspect p a) → IsFine (new_finding aspect p a)
busy_new aspect p a busy fine =
    fine_false (has_reason 4 a) (turned_away aspect) (taken_finding aspect p a) (and_left (is_nak a) _ (busy_no_nak a busy)) fine

busy_number : (p a : Packet) → is_busy a ≡ true → (a.sequence ≡ 0) ⊎ (a.sequence ≡ p.sequence) → IsFine (taken_finding rule.Busy p a)
busy_number p a busy (inl zero) =
    fine_true (is_busy a) (cond (eqb a.sequence 0) Kept (cond (eqb a.sequence p.sequence) Either Broken)) Nothing busy
    (fine_true (eqb a.sequence 0) Kept (cond (eqb a.sequence p.sequence) Either Broken) (eq-eqb a.sequence 0 zero) tt)
busy_number p a busy (inr same) =
    fine_true (is_busy a) (cond (eqb a.sequence 0) Kept (cond (eqb a.sequence p.sequence) Either Broken)) Nothing busy
    (fine_both (eqb a.sequence 0) Kept (cond (eqb a.sequence p.sequence) Either Broken) tt
    (fine_true (eqb a.sequence p.sequence) Either Broken (eq-eqb a.sequence p.sequence same) tt))

busy_repeat : (k : Known) (p a : Packet) → is_busy a ≡ true → IsFine (repeat_finding rule.Repeat k p a)
busy_repeat (Took sent first) p a busy =
    fine_both (same_packet sent p) (again_finding first a) Nothing
    (fine_both (same_packet first a) Kept (cond (is_busy a) Either Broken) tt (fine_true (is_busy a) Either Broken busy tt)) tt
busy_repeat k p a busy = tt

pub may_be_busy : MayBeBusy
may_be_busy aspect address k p a to busy number (inl is) =
    subst (λ (x : Aspect). judged x address k p (Some a) ≢ Broken) (sym is)
    (unbroken rule.Number address k p a to
    (busy_new rule.Number p a busy (fine_true (is_busy a) Nothing (kept_if (eqb a.sequence p.sequence)) busy tt)) tt tt)
may_be_busy aspect address k p a to busy number (inr (inl is)) =
    subst (λ (x : Aspect). judged x address k p (Some a) ≢ Broken) (sym is)
    (unbroken rule.Busy address k p a to (busy_new rule.Busy p a busy (busy_number p a busy number)) tt tt)
may_be_busy aspect address k p a to busy number (inr (inr (inl is))) =
    subst (λ (x : Aspect). judged x address k p (Some a) ≢ Broken) (sym is)
    (unbroken rule.Repeat address k p a to (busy_new rule.Repeat p a busy tt) (busy_repeat k p a busy) tt)
may_be_busy aspect address k p a to busy number (inr (inr (inr (inl is)))) =
    subst (λ (x : Aspect). judged x address k p (Some a) ≢ Broken) (sym is)
    (unbroken rule.Wrong address k p a to (busy_new rule.Wrong p a busy tt) tt (refusal_fine 4 a (or_right (is_nak a) (is_busy a) busy)))
may_be_busy aspect address k p a to busy number (inr (inr (inr (inr (inl is))))) =
    subst (λ (x : Aspect). judged x address k p (Some a) ≢ Broken) (sym is)
    (unbroken rule.Turn address k p a to (busy_new rule.Turn p a busy tt) tt tt)
may_be_busy aspect address k p a to busy number (inr (inr (inr (inr (inr is))))) =
    subst (λ (x : Aspect). judged x address k p (Some a) ≢ Broken) (sym is)
    (unbroken rule.Fit address k p a to
    (busy_new rule.Fit p a busy
    (subst (λ (code : ℕ). IsFine (fit_read (asked p) code)) (sym (eqb-true (code_of a) 0x79 busy)) (busy_fits (asked p)))) tt tt)

-- a code that the standard may give to a command
from_60 : (read : Result Command MsgFault) (code : ℕ) (a : Packet) → 0x60 ≤ code → IsFine (code_finding read code a)
from_60 (Err UnknownCode) code a at =
    fine_false (nat_lt code 0x60) (refusal_finding 3 a) Nothing (lt-leb (suc code) 0x60 (omega (arith, at))) tt
from_60 read code a at = tt

pub other_codes : OtherCodesBreakNothing
other_codes address k p a to at =
    unbroken rule.Code address k p a to (fine_both (has_reason 4 a) Nothing (code_finding (asked p) (code_of p) a) tt (from_60 (asked p) (code_of p) a at)) tt tt

-- whatever is taken shows nothing that is broken by this rule
taken_fine : (aspect : Aspect) (p a : Packet) → turned_away aspect ≡ Nothing → IsFine (taken_finding aspect p a) → IsFine (new_finding aspect p a)
taken_fine aspect p a away fine =
    fine_both (has_reason 4 a) (turned_away aspect) (taken_finding aspect p a) (subst IsFine (sym away) tt) fine

other_fits : (read : Result Command MsgFault) (code : ℕ) → is_answer code ≡ false → IsFine (fit_read read code)
other_fits (Ok c) code none =
    fine_both (is_fitting c code) Kept (cond (is_answer code) Broken Either) tt (fine_false (is_answer code) Broken Either none tt)
other_fits (Err fault) code none = tt

other_reads : (read : Result Reply MsgFault) → read ≡ Err UnknownCode → IsFine (read_finding read)
other_reads read unknown = subst (λ r. IsFine (read_finding r)) (sym unknown) tt

pub devices_may_differ : DevicesMayDiffer
devices_may_differ address k p a to = record {
  own_address = λ all. unbroken rule.Address address k p a to
      (taken_fine rule.Address p a refl (fine_true (eqb p.address 127) Either (kept_if (eqb a.address p.address)) (eq-eqb p.address 127 all) tt)) tt tt;
  other_answers = λ none. unbroken rule.Fit address k p a to (taken_fine rule.Fit p a refl (other_fits (asked p) (code_of a) none)) tt tt;
  other_replies = λ unknown. unbroken rule.Read address k p a to (taken_fine rule.Read p a refl (other_reads (told a) unknown)) tt tt;
  block = unbroken rule.Block address k p a to (taken_fine rule.Block p a refl tt) tt tt;
  noise = λ nak. fine_unbroken (deaf_finding rule.Deaf a) (fine_true (is_nak a) Either Broken nak tt);
}
