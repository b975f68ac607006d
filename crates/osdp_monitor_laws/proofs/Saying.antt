-- What a reader says anew, as a listener reads it.
use Rattle.osdp_monitor_laws.proofs.Common.{◌≡◌, ◌≢◌, ℕ, suc, true, false, eqb, not, Some, None, Result, Ok, Err, refl, sym, subst, ap, ◌∙◌, and_left, and_right, ne_eqb, not_from_true, IfSome, meaning_by_reading, meaning_by_reply, Packet, reply_fits, IsReply, ReplyFits, reply_code, reply_data, reply_of, Command, MsgFault, Reply, Answer, fit_accused, is_event_at_zero, is_plain, taken_accused, said, said_by, reply_packet, Outcome, command_in, check_same}
use Rattle.osdp_msg.specs.declared.command.Command.TheVariants as command
use Rattle.osdp_msg_laws.specs.Laws.{FitsAPacket, ReadsTheTable}
use Rattle.osdp_monitor_laws.proofs.Agreeing.{same_some}
use Rattle.osdp_monitor_laws.proofs.FittingReplies.{IsAnswer}

-- a reply is read from its code and data
abbrev pub ReadsReplies : Type 0
ReadsReplies = (x : Reply) → ReplyFits x → reply_of (reply_code x) (reply_data x) ≡ Ok x

pub reads_replies : ReadsTheTable IsReply reply_of → FitsAPacket IsReply → ReadsReplies
reads_replies reads room x fits =
    let is : IsReply (reply_code x) (reply_data x) x = record { code_is = refl; data_is = refl; fits = fits } in
    (reads (reply_code x) (reply_data x) x (λ i. (room (reply_code x) (reply_data x) x is).0 (suc i))).1 is

pub said_is : ReadsReplies → (p : Packet) (number : ℕ) (x : Reply) → ReplyFits x
    → said (reply_packet p number x) ≡ said_by (meaning_by_reply x)
said_is reads p number x fits = ap (λ t. said_by (meaning_by_reading (reply_code x) t)) (reads x fits)

-- a POLL at number 0 is told no event
pub no_event_of : (c : Command) (x : Reply) (number : ℕ) → (c ≡ command.Poll → is_plain x ≡ true) → is_event_at_zero c x number ≡ false
no_event_of command.Poll x number plain = and_right (eqb number 0) (not (is_plain x)) (not_from_true (is_plain x) (plain refl))
no_event_of c x number plain = refl

pub no_event_above : (c : Command) (x : Reply) (number : ℕ) → number ≢ 0 → is_event_at_zero c x number ≡ false
no_event_above command.Poll x number above = and_left (eqb number 0) (not (is_plain x)) (ne_eqb number 0 above)
no_event_above c x number above = refl

-- a reply that can be read, fits the command where that can be read, and tells no event at number 0
fits_command : (p : Packet) (x : Reply) (read : Result Command MsgFault) → command_in p ≡ read
    → ((c : Command) → command_in p ≡ Ok c → (reply_fits c x ≡ true) × (is_event_at_zero c x p.sequence ≡ false))
    → fit_accused read x p.sequence ≡ None
fits_command p x (Err fault) is fitting = refl
fits_command p x (Ok c) is fitting =
    let both = fitting c is in
    rw (both.0, both.1)

pub taken_in_order : ReadsReplies → (p : Packet) (number : ℕ) (x : Reply) → ReplyFits x
    → ((c : Command) → command_in p ≡ Ok c → (reply_fits c x ≡ true) × (is_event_at_zero c x p.sequence ≡ false))
    → taken_accused p (reply_packet p number x) ≡ None
taken_in_order reads p number x fits fitting =
    rw (check_same p.check, reads x fits) (fits_command p x (command_in p) refl fitting)

-- what a packet that is acted on is answered
pub record IsActedOn {H : Type 0} (p : Packet) (o : Outcome H) : Type 0 where
  pub said : Reply
  pub says : o.said ≡ Some said
  pub sent : o.reply ≡ Some (reply_packet p p.sequence said)
  pub answers : IsAnswer said
  pub fitting : (c : Command) → command_in p ≡ Ok c → (reply_fits c said ≡ true) × (is_event_at_zero c said p.sequence ≡ false)

-- .. and how a listener takes it
pub record IsOwnReply (p q : Packet) : Type 0 where
  pub reply : q.reply ≡ true
  pub address : q.address ≡ p.address
  pub number : q.sequence ≡ p.sequence
  pub says : said q ≡ Answer
  pub fine : taken_accused p q ≡ None

pub own_reply_of : {H : Type 0} → ReadsReplies → (p : Packet) (o : Outcome H) → IsActedOn p o → IfSome o.said ReplyFits → (q : Packet) → o.reply ≡ Some q
    → IsOwnReply p q
own_reply_of reads p o acted fitting q sent =
    let x = acted.said in
    let same : reply_packet p p.sequence x ≡ q = same_some (reply_packet p p.sequence x) q (sym acted.sent ∙ sent) in
    let fits : ReplyFits x = subst (λ t. IfSome t ReplyFits) acted.says fitting in
    subst (IsOwnReply p) same (record {
      reply = refl;
      address = refl;
      number = refl;
      says = said_is reads p p.sequence x fits ∙ acted.answers;
      fine = taken_in_order reads p p.sequence x fits acted.fitting;
    })
