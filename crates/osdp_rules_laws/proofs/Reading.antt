-- What the answers that a reader says anew show.
use Rattle.osdp_rules_laws.proofs.Common.{◌≡◌, ℕ, suc, Bool, true, false, cond, eqb, not, nat_lt, Result, Ok, Err, refl, sym, subst, eq-eqb, Packet, IsReply, ReplyFits, reply_code, reply_data, reply_of, Command, MsgFault, UnknownCode, Length, Count, Reply, refused, reply_packet, unread_reason, address_finding, code_finding, fit_read, kept_if, length_finding, must_have, new_finding, number_finding, read_finding, refusal_finding, served_finding, taken_finding, turned_away, asked, code_of, has_reason, is_busy, same_check, told, Aspect, Nothing, Kept, Either, Broken, check_same}
use Rattle.osdp_msg.specs.declared.command.Command.TheVariants as command
use Rattle.osdp_msg.specs.declared.reply.Reply.TheVariants as reply
use Rattle.osdp_msg_laws.specs.Laws.{FitsAPacket, ReadsTheTable}
use Rattle.osdp_rules.specs.declared.aspect.Aspect.TheVariants as rule
use Rattle.osdp_rules_laws.proofs.Fine.{IsFine, fine_both, fine_false, fine_kept}
use Rattle.osdp_rules_laws.proofs.Replies.{IsServed, Suits, is_plain, plain_says, unread_plain}

-- a reply is read from its code and data
abbrev pub ReadsReplies : Type 0
ReadsReplies = (x : Reply) → ReplyFits x → reply_of (reply_code x) (reply_data x) ≡ Ok x

pub reads_replies : ReadsTheTable IsReply reply_of → FitsAPacket IsReply → ReadsReplies
reads_replies reads room x fits =
    let is : IsReply (reply_code x) (reply_data x) x = record { code_is = refl; data_is = refl; fits = fits } in
    (reads (reply_code x) (reply_data x) x (λ i. (room (reply_code x) (reply_data x) x is).0 (suc i))).1 is

-- a reply suits what was asked, if that can be read
abbrev pub SuitsRead : Result Command MsgFault → Reply → Type 0
SuitsRead (Ok c) x = Suits c x × IsServed c x
SuitsRead (Err fault) x = x ≡ refused (unread_reason fault)

pub suits_plainly : (read : Result Command MsgFault) (x : Reply) → SuitsRead read x → is_plain x ≡ true
suits_plainly (Ok c) x suits = suits.0.1
suits_plainly (Err fault) x suits = subst (λ (y : Reply). is_plain y ≡ true) (sym suits) (unread_plain fault)

fine_fit : (read : Result Command MsgFault) (x : Reply) → SuitsRead read x → IsFine (fit_read read (reply_code x))
fine_fit (Ok c) x suits = suits.0.0
fine_fit (Err fault) x suits = tt

serves : (must nak : Bool) → (must ≡ true → nak ≡ false) → IsFine (cond must (kept_if (not nak)) Nothing)
serves false nak never = tt
serves true nak never = subst (λ b. IsFine (kept_if (not b))) (sym (never refl)) tt

fine_served : (read : Result Command MsgFault) (x : Reply) (p : Packet) (number : ℕ) → SuitsRead read x
    → IsFine (served_finding read (reply_packet p number x))
fine_served (Ok c) x p number suits = serves (must_have (Ok c)) (eqb (reply_code x) 0x41) suits.1
fine_served (Err fault) x p number suits = tt

fine_code : (read : Result Command MsgFault) (x : Reply) (p : Packet) (code number : ℕ) → SuitsRead read x
    → IsFine (code_finding read code (reply_packet p number x))
fine_code (Ok c) x p code number suits = tt
fine_code (Err UnknownCode) x p code number suits =
    subst (λ (y : Reply). IsFine (code_finding (Err UnknownCode) code (reply_packet p number y))) (sym suits)
    (fine_both (nat_lt code 0x60) (refusal_finding 3 (reply_packet p number (refused (unread_reason UnknownCode)))) Nothing tt tt)
fine_code (Err fault) x p code number suits = tt

fine_length : (read : Result Command MsgFault) (x : Reply) (p : Packet) (number : ℕ) → SuitsRead read x
    → IsFine (length_finding read (reply_packet p number x))
fine_length (Err Length) x p number suits =
    subst (λ (y : Reply). IsFine (length_finding (Err Length) (reply_packet p number y))) (sym suits) tt
fine_length (Err Count) x p number suits =
    subst (λ (y : Reply). IsFine (length_finding (Err Count) (reply_packet p number y))) (sym suits) tt
fine_length read x p number suits = tt

fine_address : (p : Packet) (number : ℕ) (x : Reply) → IsFine (address_finding p (reply_packet p number x))
fine_address p number x =
    fine_both (eqb p.address 127) Either (kept_if (eqb p.address p.address)) tt (fine_kept (eqb p.address p.address) (eq-eqb p.address p.address refl))

fine_number : (p : Packet) (x : Reply) → IsFine (number_finding p (reply_packet p p.sequence x))
fine_number p x =
    fine_both (is_busy (reply_packet p p.sequence x)) Nothing (kept_if (eqb p.sequence p.sequence)) tt
    (fine_kept (eqb p.sequence p.sequence) (eq-eqb p.sequence p.sequence refl))

fine_check : (p : Packet) → IsFine (kept_if (same_check p.check p.check))
fine_check p = fine_kept (same_check p.check p.check) (check_same p.check)

fine_read : ReadsReplies → (p : Packet) (number : ℕ) (x : Reply) → ReplyFits x → IsFine (read_finding (told (reply_packet p number x)))
fine_read reads p number x fits = subst (λ (t : Result Reply MsgFault). IsFine (read_finding t)) (sym (reads x fits)) tt

-- what is said to a packet with a new number keeps each rule
pub fine_said : ReadsReplies → (aspect : Aspect) (p : Packet) (x : Reply) → SuitsRead (asked p) x → ReplyFits x
    → IsFine (new_finding aspect p (reply_packet p p.sequence x))
fine_said reads aspect p x suits fits =
    let says = plain_says x (suits_plainly (asked p) x suits) p p.sequence in
    fine_false (has_reason 4 (reply_packet p p.sequence x)) (turned_away aspect) (taken_finding aspect p (reply_packet p p.sequence x)) says.turned
    (by_aspect aspect says.busy)
  where
    by_aspect : (aspect : Aspect) → is_busy (reply_packet p p.sequence x) ≡ false → IsFine (taken_finding aspect p (reply_packet p p.sequence x))
    by_aspect rule.Address busy = fine_address p p.sequence x
    by_aspect rule.Check busy = fine_check p
    by_aspect rule.Number busy = fine_number p x
    by_aspect rule.Plain busy = tt
    by_aspect rule.Turn busy = tt
    by_aspect rule.Fit busy = fine_fit (asked p) x suits
    by_aspect rule.Served busy = fine_served (asked p) x p p.sequence suits
    by_aspect rule.Code busy = fine_code (asked p) x p (code_of p) p.sequence suits
    by_aspect rule.Length busy = fine_length (asked p) x p p.sequence suits
    by_aspect rule.Read busy = fine_read reads p p.sequence x fits
    by_aspect rule.Busy busy =
        fine_false (is_busy (reply_packet p p.sequence x))
        (cond (eqb p.sequence 0) Kept (cond (eqb p.sequence p.sequence) Either Broken)) Nothing busy tt
    by_aspect rule.Repeat busy = tt
    by_aspect rule.Wrong busy = tt
    by_aspect rule.Block busy = tt
    by_aspect rule.Quiet busy = tt
    by_aspect rule.Deaf busy = tt
    by_aspect rule.Single busy = tt
    by_aspect rule.Prompt busy = tt
    by_aspect rule.Listed busy = tt
    by_aspect rule.Beyond busy = tt

pub busy_fits : (read : Result Command MsgFault) → IsFine (fit_read read 0x79)
busy_fits (Ok command.Poll) = tt
busy_fits (Ok c) = tt
busy_fits (Err fault) = tt

busy_serves : (read : Result Command MsgFault) (p : Packet) → IsFine (served_finding read (reply_packet p 0 reply.Busy))
busy_serves read p = fine_both (must_have read) (kept_if true) Nothing tt tt

busy_codes : (read : Result Command MsgFault) (p : Packet) (code : ℕ) → IsFine (code_finding read code (reply_packet p 0 reply.Busy))
busy_codes (Err UnknownCode) p code = fine_both (nat_lt code 0x60) Either Nothing tt tt
busy_codes read p code = tt

busy_lengths : (read : Result Command MsgFault) (p : Packet) → IsFine (length_finding read (reply_packet p 0 reply.Busy))
busy_lengths (Err Length) p = tt
busy_lengths (Err Count) p = tt
busy_lengths read p = tt

-- .. and so does BUSY
pub fine_busy : ReadsReplies → (aspect : Aspect) (p : Packet) → IsFine (new_finding aspect p (reply_packet p 0 reply.Busy))
fine_busy reads rule.Address p = fine_address p 0 reply.Busy
fine_busy reads rule.Check p = fine_check p
fine_busy reads rule.Number p = tt
fine_busy reads rule.Plain p = tt
fine_busy reads rule.Turn p = tt
fine_busy reads rule.Fit p = busy_fits (asked p)
fine_busy reads rule.Served p = busy_serves (asked p) p
fine_busy reads rule.Code p = busy_codes (asked p) p (code_of p)
fine_busy reads rule.Length p = busy_lengths (asked p) p
fine_busy reads rule.Read p = fine_read reads p 0 reply.Busy tt
fine_busy reads rule.Busy p = tt
fine_busy reads aspect p = tt
