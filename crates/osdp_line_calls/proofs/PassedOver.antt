-- What is told as passed over is what each session that isn't open passes over.
use Rattle.std.proofs.Common.{◌≡◌, ◌∙◌, ℕ, ◌==◌, ◌&&◌, ◌||◌, ◌↔◌, not, Bool, true, false, drop, Some, None, Result, Ok, Err, refl, sym, subst, ap}
use Rattle.osdp_line_calls.proofs.Common.{if◌then◌else◌, slice_index, IsSome, default_config, Crc, acts_on, acts_on_reason, opening_acts_on, passed_reading, passed_text}
use Rattle.std.proofs.lemmas.Bool.{eq-eqb, false≢true}
use Rattle.osdp_controller.specs.declared.exchange.Exchange.TheVariants.{Opening}
use Rattle.osdp_controller.specs.declared.exchange.Outstanding.{Outstanding}
use Rattle.osdp_controller.specs.declared.meaning.ReplyMeaning.{ReplyMeaning}
use Rattle.osdp_controller.specs.declared.meaning.ReplyMeaning.TheVariants.{Plain, Unreadable}
use Rattle.osdp_controller.specs.declared.session.Session.{Session}
use Rattle.osdp_controller.specs.declared.state.State.{State}
use Rattle.osdp_controller.specs.declared.state.State.TheVariants.{Closed, Quiet, Idle, Waiting, Pausing}
use Rattle.osdp_controller.specs.Answers.{is_not_taken, meaning_by_reading, meaning_by_reason, meaning_by_reply, meaning_of}
use Rattle.osdp_controller.specs.Hearing.{Heard, answered, answered_unread, hears, hears_in, ignores, is_from_reader, is_numbered, opening_answered, pausing_hears, pd_id_of, waiting_hears}
use Rattle.osdp_controller.specs.Sessions.{seen}
use Rattle.osdp_frame.specs.Packet.{Packet}
use Rattle.osdp_msg.specs.declared.fault.MsgFault.{MsgFault}
use Rattle.osdp_msg.specs.declared.nak.NakReason.{NakReason}
use Rattle.osdp_msg.specs.declared.nak.NakReason.TheVariants.{CheckCharacters, UnexpectedSequence}
use Rattle.osdp_msg.specs.declared.reply.Reply.{Reply}
use Rattle.osdp_msg.specs.declared.reply.Reply.TheVariants.{Busy, Nak, PdId}
use Rattle.osdp_msg.specs.declared.reply_fields.Nak.{Nak as NakData}
use Rattle.osdp_msg.specs.ReplyTable.{reply_of}
use Rattle.osdp_msg.specs.ReplyText.{reply_text}
use Rattle.osdp_line_calls.specs.PassingLaws.{IsNotOpenIn, IsPassedOver}

-- what an opening does nothing on
abbrev Passes : ReplyMeaning → Type 0
Passes (Plain reply) = pd_id_of reply ≡ None
Passes (Unreadable code) = Unit {0}
Passes _ = ⊥

passes_reason : (reason : NakReason) (nak : NakData) → acts_on_reason reason ≡ false → Passes (meaning_by_reason reason nak)
passes_reason CheckCharacters nak isnt = absurd (false≢true (sym isnt))
passes_reason UnexpectedSequence nak isnt = absurd (false≢true (sym isnt))
passes_reason other nak isnt = refl

passes_reply : (reply : Reply) → acts_on reply ≡ false → Passes (meaning_by_reply reply)
passes_reply (PdId id) isnt = absurd (false≢true (sym isnt))
passes_reply Busy isnt = absurd (false≢true (sym isnt))
passes_reply (Nak nak) isnt = passes_reason nak.reason nak isnt
passes_reply other isnt = refl

-- ---- what is told is passed over

passes_waiting : (m : ReplyMeaning) → Passes m → (sends : ℕ) (o : Outstanding) (s : Session) → o.exchange ≡ Opening → waiting_hears m sends o s ≡ ignores s
passes_waiting (Plain reply) none sends o s opens = ap (λ x. answered x reply s) opens ∙ ap (λ id. opening_answered id s) none
passes_waiting (Unreadable code) none sends o s opens = ap (λ x. answered_unread x code s) opens
passes_waiting _ isnt sends o s opens = absurd isnt

passes_pausing : (m : ReplyMeaning) → Passes m → (o : Outstanding) (s : Session) → o.exchange ≡ Opening → pausing_hears m o s ≡ ignores s
passes_pausing (Plain reply) none o s opens = ap (λ x. answered x reply s) opens ∙ ap (λ id. opening_answered id s) none
passes_pausing (Unreadable code) none o s opens = ap (λ x. answered_unread x code s) opens
passes_pausing _ isnt o s opens = absurd isnt

either_way : (b : Bool) (first second : Heard) → first ≡ second → (if b then first else second) ≡ second
either_way true first second same = same
either_way false first second same = refl

-- a number that is none of an opening
not_numbered : (number : ℕ) (m : ReplyMeaning) (s : Session) → (number == 0) ≡ false → s.number ≡ 0 → is_numbered number m s ≡ false
not_numbered number m s other zero =
    ap (λ n. number == n || number == 0 && is_not_taken m) zero ∙ ap (λ (b : Bool). b || b && is_not_taken m) other

-- where the number is that of an opening, it does nothing on this meaning
abbrev PassesAt : ℕ → ReplyMeaning → Type 0
PassesAt number m = (number == 0) ≡ true → Passes m

-- whether or not it has the number of the opening
by_number : (number : ℕ) (m : ReplyMeaning) (s : Session) (heard : Heard) → s.number ≡ 0 → ((number == 0) ≡ true → heard ≡ ignores s)
    → (if is_numbered number m s then heard else ignores s) ≡ ignores s
by_number number m s heard zero same = go (number == 0) refl
  where
    go : (b : Bool) → (number == 0) ≡ b → (if is_numbered number m s then heard else ignores s) ≡ ignores s
    go true is = either_way (is_numbered number m s) heard (ignores s) (same is)
    go false other = ap (λ (b : Bool). if b then heard else ignores s) (not_numbered number m s other zero)

passes_in : (state : State) (number : ℕ) (m : ReplyMeaning) (s : Session) → IsNotOpenIn state s.number → PassesAt number m
    → hears_in state number m s ≡ ignores s
passes_in Closed number m s shut passes = refl
passes_in (Quiet until) number m s shut passes = refl
passes_in (Idle due) number m s shut passes = absurd shut
passes_in (Waiting until sends o) number m s opens passes =
    by_number number m s (waiting_hears m sends o s) opens.at_zero (λ is. passes_waiting m (passes is) sends o s opens.exchange)
passes_in (Pausing until o) number m s opens passes =
    by_number number m s (pausing_hears m o s) opens.at_zero (λ is. passes_pausing m (passes is) o s opens.exchange)

passes_all : (p : Packet) → PassesAt p.sequence (meaning_of p) → IsPassedOver p
passes_all p passes now s shut = either_way (is_from_reader p s) _ _ (passes_in s.state p.sequence (meaning_of p) (seen now s) shut passes)

-- a packet with a security block can't be read
blocked : (p : Packet) → p.block ≡ true → IsPassedOver p
blocked p is now s shut = ap (λ (b : Bool). if b then hears_in s.state p.sequence (meaning_of p) (seen now s) else ignores (seen now s)) (unread (p.reply) (p.address == s.config.address) p.block is)
  where
    unread : (a b c : Bool) → c ≡ true → (a && b && not c) ≡ false
    unread true true true is = refl
    unread true false true is = refl
    unread false b true is = refl
    unread a b false is = absurd (false≢true is)

-- ---- what isn't told is acted on, by a session that waits for the answer to its opening

abbrev opening : Outstanding
opening = record { exchange = Opening; busies = 0; sent = 1 }

abbrev waiting_at : ℕ → Session
waiting_at address = record {
  config = default_config address Crc;
  state = Waiting 1 1 opening;
  number = 0;
  asked = false;
  greatest = 0;
}

-- a session's place, and what is told
abbrev is_waiting_on : State → Bool
is_waiting_on (Waiting until sends o) = until == 1
is_waiting_on _ = false

acted_reason : (reason : NakReason) (nak : NakData) (address : ℕ) → acts_on_reason reason ≡ true
    → waiting_hears (meaning_by_reason reason nak) 1 opening (waiting_at address) ≡ ignores (waiting_at address) → ⊥
acted_reason CheckCharacters nak address is_so same = false≢true (ap (λ (h : Heard). is_waiting_on h.session.state) same)
acted_reason UnexpectedSequence nak address is_so same = let told = ap (λ (h : Heard). h.report) same in cc
acted_reason other nak address is_so same = false≢true is_so

acted_reply : (reply : Reply) (address : ℕ) → acts_on reply ≡ true
    → waiting_hears (meaning_by_reply reply) 1 opening (waiting_at address) ≡ ignores (waiting_at address) → ⊥
acted_reply (PdId id) address is_so same = let told = ap (λ (h : Heard). h.report) same in cc
acted_reply Busy address is_so same = false≢true (ap (λ (h : Heard). is_waiting_on h.session.state) same)
acted_reply (Nak nak) address is_so same = acted_reason nak.reason nak address is_so same
acted_reply other address is_so same = false≢true is_so

-- the answer to its opening reaches it
reaches : (p : Packet) (reply : Reply) → p.reply ≡ true → p.block ≡ false → (p.sequence == 0) ≡ true
    → reply_of (slice_index p.body 0) (drop 1 p.body) ≡ Ok reply
    → hears p 0 (waiting_at p.address) ≡ waiting_hears (meaning_by_reply reply) 1 opening (waiting_at p.address)
reaches p reply is_reply no_block numbered reads = rw (is_reply, no_block, reads, eq-eqb p.address p.address refl, numbered)

-- ---- both

read_told : (number code : ℕ) (reading : Result Reply MsgFault) → IsSome (passed_reading number code reading) → PassesAt number (meaning_by_reading code reading)
read_told number code (Err fault) told numbered = tt
read_told number code (Ok reply) told numbered = go (acts_on reply) refl
  where
    go : (b : Bool) → acts_on reply ≡ b → Passes (meaning_by_reply reply)
    go false isnt = passes_reply reply isnt
    go true is_so = absurd (
        let acts : opening_acts_on number reply ≡ true = ap (λ (x : Bool). x && acts_on reply) numbered ∙ is_so in
        false≢true (subst IsSome (ap (λ (x : Bool). if x then None else Some (reply_text reply)) acts) told))

both_true : (a b : Bool) → (a && b) ≡ true → (a ≡ true) × (b ≡ true)
both_true true b is = (refl, is)
both_true false b is = absurd (false≢true is)

some_told : (p : Packet) → p.reply ≡ true → p.block ≡ false → (reading : Result Reply MsgFault) → reply_of (slice_index p.body 0) (drop 1 p.body) ≡ reading
    → IsPassedOver p → IsSome (passed_reading p.sequence (slice_index p.body 0) reading)
some_told p is_reply no_block (Err fault) reads passed = refl
some_told p is_reply no_block (Ok reply) reads passed = go (opening_acts_on p.sequence reply) refl
  where
    go : (b : Bool) → opening_acts_on p.sequence reply ≡ b → IsSome (if opening_acts_on p.sequence reply then None else Some (reply_text reply))
    go false isnt = subst IsSome (sym (ap (λ (x : Bool). if x then None else Some (reply_text reply)) isnt)) refl
    go true is_so = absurd (
        let both = both_true (p.sequence == 0) (acts_on reply) is_so in
        acted_reply reply p.address both.1
        (sym (reaches p reply is_reply no_block both.0 reads) ∙ passed 0 (waiting_at p.address) (record { exchange = refl; at_zero = refl })))

-- what is told of a packet without a security block
unblocked : (p : Packet) → p.block ≡ false → passed_text p ≡ passed_reading p.sequence (slice_index p.body 0) (reply_of (slice_index p.body 0) (drop 1 p.body))
unblocked p is = rw is

pub tells_all : (p : Packet) → p.reply ≡ true → IsSome (passed_text p) ↔ IsPassedOver p
tells_all p is_reply = go p.block refl
  where
    go : (b : Bool) → p.block ≡ b → IsSome (passed_text p) ↔ IsPassedOver p
    go true is = (λ told. blocked p is, λ passed. rw is refl)
    go false is = (
      λ told. passes_all p (read_told p.sequence (slice_index p.body 0) (reply_of (slice_index p.body 0) (drop 1 p.body)) (subst IsSome (unblocked p is) told)),
      λ passed. subst IsSome (sym (unblocked p is)) (some_told p is_reply is (reply_of (slice_index p.body 0) (drop 1 p.body)) refl passed),
    )
