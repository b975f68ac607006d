-- One exchange with a reader of ours: it breaks no rule, and what is known stays so.
use Rattle.osdp_rules_laws.proofs.Common.{◌≡◌, ◌⊎◌, ℕ, true, false, cond, eqb, not, ◌&&◌, Option, Some, None, Result, Ok, Err, refl, sym, subst, inl, inr, ap, ◌∙◌, and_right, cond_both, eqb-true, false≢true, IfSome, Packet, ReplyFits, Command, MsgFault, SecurityBlock, UnexpectedSequence, Reply, Answer, Kind, Silent, Secured, Zero, Repeat, Taken, Busy, Wrong, event_for, released, refused, reply_packet, unread_reason, ReaderState, Outcome, answer_to, begun, command_in, event_or_answer, hears, kind_of, outcome, taken, again_finding, block_finding, new_finding, quiet_finding, repeat_finding, wrong_finding, answer_judged, sent_judged, turn_judged, after_answer, after_heard, after_sent, last_number, turn_of, asked, has_reason, is_busy, is_comset, is_to, same_packet, takes_nothing, Aspect, Nothing, Kept, Either, Broken, Known, Gone, Unknown, Opened, Took, Turn, New, Again, Out, NobodyKnows, is_packet}
use Rattle.osdp_msg.specs.declared.command.Command.TheVariants as command
use Rattle.osdp_msg.specs.declared.reply.Reply.TheVariants as reply
use Rattle.osdp_rules.specs.declared.aspect.Aspect.TheVariants as rule
use Rattle.osdp_rules_laws.proofs.Fine.{IsFine, fine_both, fine_false, fine_true}
use Rattle.osdp_rules_laws.proofs.Meeting.{Met, again_last, met, new_at_zero, new_next, out_further, unknown_above}
use Rattle.osdp_rules_laws.proofs.Reading.{ReadsReplies, SuitsRead, fine_busy, fine_said, suits_plainly}
use Rattle.osdp_rules_laws.proofs.Replies.{answer_served, answer_suits, plain_says, told_served, told_suits}

quiet_fine : (aspect : Aspect) → IsFine (quiet_finding aspect false)
quiet_fine rule.Quiet = tt
quiet_fine a = tt

-- silence
pub silent_fine : (aspect : Aspect) (address : ℕ) (k : Known) (p : Packet) → IsFine (sent_judged aspect address k p None)
silent_fine aspect address k p = fine_both (is_to address p) Nothing (quiet_finding aspect false) tt (quiet_fine aspect)

pub block_fine : (aspect : Aspect) (a : Packet) → IsFine (block_finding aspect a)
block_fine rule.Block a = fine_both (has_reason 5 a) Kept Either tt tt
block_fine other a = tt

wrong_fine : (aspect : Aspect) (p : Packet) (number : ℕ) → IsFine (wrong_finding aspect (reply_packet p number (refused UnexpectedSequence)))
wrong_fine rule.Wrong p number = tt
wrong_fine other p number = tt

-- an answer to a packet without a block, by the turn of its number
here_fine : (aspect : Aspect) (address : ℕ) (k : Known) (p a : Packet) (turn : Turn) → is_to address p ≡ true → p.block ≡ false
    → turn_of (last_number k) p.sequence ≡ turn → IsFine (turn_judged turn aspect k p a) → IsFine (sent_judged aspect address k p (Some a))
here_fine aspect address k p a turn to plain is fine =
    fine_true (is_to address p) (answer_judged aspect k p a) (quiet_finding aspect true) to
    (fine_both (has_reason 1 a) Nothing
    (cond p.block (block_finding aspect a) (turn_judged (turn_of (last_number k) p.sequence) aspect k p a)) tt
    (fine_false p.block (block_finding aspect a) (turn_judged (turn_of (last_number k) p.sequence) aspect k p a) plain
    (subst (λ t. IsFine (turn_judged t aspect k p a)) (sym is) fine)))

module _ {H : Type 0} where
  -- what is known of the reader is so
  abbrev pub Knows : ℕ → Known → ReaderState H → Type 0
  Knows address Gone r = Unit {0}
  Knows address Unknown r = r.config.address ≡ address
  Knows address Opened r = (r.config.address ≡ address) × (r.last ≡ Some 0)
  Knows address (Took p a) r = (r.config.address ≡ address) × (r.last ≡ Some p.sequence) × (r.stored ≡ Some a)

  pub knows_last : (address : ℕ) (k : Known) (r : ReaderState H) → Knows address k r → (last_number k ≡ None) ⊎ (last_number k ≡ r.last)
  knows_last address Gone r knows = inl refl
  knows_last address Unknown r knows = inl refl
  knows_last address Opened r knows = inr (sym knows.1)
  knows_last address (Took p a) r knows = inr (sym knows.1)

  -- whose last number is the reader's, or isn't known
  by_known : (aspect : Aspect) (k : Known) (r : ReaderState H) (p a : Packet) (turn : Turn) → is_to r.config.address p ≡ true → p.block ≡ false
      → eqb p.sequence 0 ≡ false → Knows r.config.address k r → turn_of r.last p.sequence ≡ turn → IsFine (turn_judged turn aspect k p a)
      → IsFine (sent_judged aspect r.config.address k p (Some a))
  by_known aspect k r p a turn to plain zero knows is fine =
      elim (knows_last r.config.address k r knows) [
        | inl none ↦ here_fine aspect r.config.address k p a NobodyKnows to plain (ap (λ o. turn_of o p.sequence) none ∙ unknown_above p.sequence zero) tt
        | inr same ↦ here_fine aspect r.config.address k p a turn to plain (ap (λ o. turn_of o p.sequence) same ∙ is) fine
      ]

  repeated : (aspect : Aspect) (k : Known) (r : ReaderState H) (p a : Packet) → Knows r.config.address k r → r.stored ≡ Some a
      → IsFine (repeat_finding aspect k p a)
  repeated rule.Repeat (Took sent first) r p a knows stored =
      let same : first ≡ a = cc (knows.2) in
      fine_both (same_packet sent p) (again_finding first a) Nothing
      (subst (λ (x : Packet). IsFine (again_finding first x)) same
      (fine_true (same_packet first first) Kept (cond (is_busy first) Either Broken) (is_packet first) tt)) tt
  repeated other k r p a knows stored = tt

  module _ (answer_of : H → Command → Answer) (after : H → Command → H) where
    -- what is said to a packet that is acted on, and the reader after it, unless that is a COMSET
    pub record Acts (read : Result Command MsgFault) (o : Outcome H) (p : Packet) (number : ℕ) (Kept : ReaderState H → Packet → Type 0) : Type 0 where
      pub said : Reply
      pub says : o.said ≡ Some said
      pub answers : o.reply ≡ Some (reply_packet p number said)
      pub suits : SuitsRead read said
      pub keeps : is_comset read ≡ false → Kept o.reader (reply_packet p number said)

    abbrev AfterZero : ReaderState H → ReaderState H → Packet → Type 0
    AfterZero r s a = (s.config.address ≡ r.config.address) × (s.last ≡ Some 0)

    abbrev AfterNext : ReaderState H → ℕ → ReaderState H → Packet → Type 0
    AfterNext r number s a = (s.config.address ≡ r.config.address) × (s.last ≡ Some number) × (s.stored ≡ Some a)

    zero_acts : (read : Result Command MsgFault) (r : ReaderState H) (p : Packet) → Acts read (begun answer_of after read r p) p 0 (AfterZero r)
    zero_acts (Err fault) r p = record {
      said = refused (unread_reason fault);
      says = refl;
      answers = refl;
      suits = refl;
      keeps = λ other. (refl, refl);
    }
    zero_acts (Ok (command.Comset c)) r p = record {
      said = (answer_to answer_of after r.config r.handler (command.Comset c)).reply;
      says = refl;
      answers = refl;
      suits = (answer_suits answer_of after r.config r.handler (command.Comset c), answer_served answer_of after r.config r.handler (command.Comset c));
      keeps = λ other. absurd (false≢true (sym other));
    }
    zero_acts (Ok c) r p = record {
      said = (answer_to answer_of after r.config r.handler c).reply;
      says = refl;
      answers = refl;
      suits = (answer_suits answer_of after r.config r.handler c, answer_served answer_of after r.config r.handler c);
      keeps = λ other. (refl, refl);
    }

    next_acts : (read : Result Command MsgFault) (r : ReaderState H) (p : Packet)
        → Acts read (taken answer_of after read r p) p p.sequence (AfterNext r p.sequence)
    next_acts (Err fault) r p = record {
      said = refused (unread_reason fault);
      says = refl;
      answers = refl;
      suits = refl;
      keeps = λ other. (refl, refl, refl);
    }
    next_acts (Ok (command.Comset c)) r p =
        let events = (released r.queue).events in
        record {
          said = (event_or_answer answer_of after (event_for (command.Comset c) events) r.config r.handler (command.Comset c)).reply;
          says = refl;
          answers = refl;
          suits = (told_suits answer_of after r.config r.handler (command.Comset c) events, told_served answer_of after r.config r.handler (command.Comset c) events);
          keeps = λ other. absurd (false≢true (sym other));
        }
    next_acts (Ok c) r p =
        let events = (released r.queue).events in
        record {
          said = (event_or_answer answer_of after (event_for c events) r.config r.handler c).reply;
          says = refl;
          answers = refl;
          suits = (told_suits answer_of after r.config r.handler c events, told_served answer_of after r.config r.handler c events);
          keeps = λ other. (refl, refl, refl);
        }

    fits_said : (o : Option Reply) (x : Reply) → o ≡ Some x → IfSome o ReplyFits → ReplyFits x
    fits_said o x e fits = subst (λ (y : Option Reply). IfSome y ReplyFits) e fits

    -- ---- no rule is broken

    new_fine : ReadsReplies → (aspect : Aspect) (p : Packet) (x : Reply) (number : ℕ) → number ≡ p.sequence → SuitsRead (asked p) x → ReplyFits x
        → IsFine (new_finding aspect p (reply_packet p number x))
    new_fine reads aspect p x number same suits fits =
        subst (λ (n : ℕ). IsFine (new_finding aspect p (reply_packet p n x))) (sym same) (fine_said reads aspect p x suits fits)

    by_kind : ReadsReplies → (aspect : Aspect) (k : Known) (r : ReaderState H) (p : Packet) (kind : Kind) → Met r p kind → Knows r.config.address k r
        → IfSome (outcome answer_of after kind r p).said ReplyFits
        → IsFine (sent_judged aspect r.config.address k p (outcome answer_of after kind r p).reply)
    by_kind reads aspect k r p Silent met knows fits =
        fine_false (is_to r.config.address p) Nothing (quiet_finding aspect false) met (quiet_fine aspect)
    by_kind reads aspect k r p Secured met knows fits =
        let a = reply_packet p p.sequence (refused SecurityBlock) in
        let later = turn_judged (turn_of (last_number k) p.sequence) aspect k p a in
        fine_true (is_to r.config.address p) (answer_judged aspect k p a) (quiet_finding aspect true) met.0
        (fine_both (has_reason 1 a) Nothing (cond p.block (block_finding aspect a) later) tt
        (fine_true p.block (block_finding aspect a) later met.1 (block_fine aspect a)))
    by_kind reads aspect k r p Zero met knows fits =
        let acts = zero_acts (command_in p) r p in
        let number : 0 ≡ p.sequence = sym (eqb-true p.sequence 0 met.number) in
        subst (λ (o : Option Packet). IsFine (sent_judged aspect r.config.address k p o)) (sym acts.answers)
        (here_fine aspect r.config.address k p (reply_packet p 0 acts.said) New met.to met.plain (new_at_zero (last_number k) p.sequence met.number)
        (new_fine reads aspect p acts.said 0 number acts.suits
        (fits_said (begun answer_of after (command_in p) r p).said acts.said acts.says fits)))
    by_kind reads aspect k r p Taken met knows fits =
        let acts = next_acts (command_in p) r p in
        let next = met.number.2 in
        subst (λ (o : Option Packet). IsFine (sent_judged aspect r.config.address k p o)) (sym acts.answers)
        (by_known aspect k r p (reply_packet p p.sequence acts.said) New met.to met.plain next.zero knows
        (ap (λ o. turn_of o p.sequence) met.number.1 ∙ new_next met.number.0 p.sequence next)
        (new_fine reads aspect p acts.said p.sequence refl acts.suits
        (fits_said (taken answer_of after (command_in p) r p).said acts.said acts.says fits)))
    by_kind reads aspect k r p Busy met knows fits =
        elim met.number [
          | inl zero ↦ here_fine aspect r.config.address k p (reply_packet p 0 reply.Busy) New met.to met.plain
              (new_at_zero (last_number k) p.sequence zero) (fine_busy reads aspect p)
          | inr next ↦ by_known aspect k r p (reply_packet p 0 reply.Busy) New met.to met.plain next.2.zero knows
              (ap (λ o. turn_of o p.sequence) next.1 ∙ new_next next.0 p.sequence next.2) (fine_busy reads aspect p)
        ]
    by_kind reads aspect k r p Repeat met knows fits = by_stored r.stored refl
      where
        by_stored : (o : Option Packet) → r.stored ≡ o → IsFine (sent_judged aspect r.config.address k p o)
        by_stored None stored = silent_fine aspect r.config.address k p
        by_stored (Some a) stored =
            by_known aspect k r p a Again met.to met.plain met.number.0 knows
            (ap (λ o. turn_of o p.sequence) met.number.1.1 ∙ again_last met.number.1.0 p.sequence met.number.0 met.number.1.2)
            (repeated aspect k r p a knows stored)
    by_kind reads aspect k r p Wrong met knows fits =
        let a = reply_packet p p.sequence (refused UnexpectedSequence) in
        elim met.number.1 [
          | inl none ↦ by_known aspect k r p a NobodyKnows met.to met.plain met.number.0 knows
              (ap (λ o. turn_of o p.sequence) none ∙ unknown_above p.sequence met.number.0) tt
          | inr out ↦ by_known aspect k r p a Out met.to met.plain met.number.0 knows
              (ap (λ o. turn_of o p.sequence) out.1 ∙ out_further out.0 p.sequence out.2) (wrong_fine aspect p p.sequence)
        ]

    -- ---- what is known stays so

    -- the packet is to the reader, and has no block
    is_here : (address : ℕ) (p : Packet) → is_to address p ≡ true → p.block ≡ false → (is_to address p && not p.block) ≡ true
    is_here address p to plain = rw (to, plain) refl

    -- a packet that was acted on: its answer is heard, or isn't
    acted_knows : (k : Known) (r s : ReaderState H) (p : Packet) (o : Option Packet) → (is_to r.config.address p && not p.block) ≡ true
        → (is_comset (asked p) ≡ false → Knows r.config.address (after_heard p o k) s)
        → Knows r.config.address (after_sent r.config.address p o k) s
    acted_knows k r s p o here then =
        cond_both (is_comset (asked p)) Gone (cond (is_to r.config.address p && not p.block) (after_heard p o k) k)
        (λ known. Knows r.config.address known s) (λ moves. tt)
        (λ other. cond_both (is_to r.config.address p && not p.block) (after_heard p o k) k (λ known. Knows r.config.address known s)
        (λ is. then other) (λ not_here. absurd (false≢true (sym not_here ∙ here))))

    -- a packet that changes nothing
    pub still_knows : (k : Known) (r : ReaderState H) (p : Packet) (o : Option Packet) → Knows r.config.address k r
        → ((is_to r.config.address p && not p.block) ≡ true → Knows r.config.address (after_heard p o k) r)
        → Knows r.config.address (after_sent r.config.address p o k) r
    still_knows k r p o knows then =
        cond_both (is_comset (asked p)) Gone (cond (is_to r.config.address p && not p.block) (after_heard p o k) k)
        (λ known. Knows r.config.address known r) (λ moves. tt)
        (λ other. cond_both (is_to r.config.address p && not p.block) (after_heard p o k) k (λ known. Knows r.config.address known r)
        then (λ not_here. knows))

    zero_knows : (k : Known) (r s : ReaderState H) (p : Packet) (x : Reply) → SuitsRead (asked p) x → eqb p.sequence 0 ≡ true
        → AfterZero r s (reply_packet p 0 x) → Knows r.config.address (after_answer p (reply_packet p 0 x) k) s
    zero_knows k r s p x suits zero kept =
        let a = reply_packet p 0 x in
        let says = plain_says x (suits_plainly (asked p) x suits) p 0 in
        cond_both (takes_nothing a) k (cond (eqb p.sequence 0) Opened (Took p a)) (λ known. Knows r.config.address known s)
        (λ nothing. absurd (false≢true (sym says.takes ∙ nothing)))
        (λ taken. cond_both (eqb p.sequence 0) Opened (Took p a) (λ known. Knows r.config.address known s) (λ is. kept)
        (λ above. absurd (false≢true (sym above ∙ zero))))

    next_knows : (k : Known) (r s : ReaderState H) (p : Packet) (x : Reply) → SuitsRead (asked p) x → eqb p.sequence 0 ≡ false
        → AfterNext r p.sequence s (reply_packet p p.sequence x) → Knows r.config.address (after_answer p (reply_packet p p.sequence x) k) s
    next_knows k r s p x suits zero kept =
        let a = reply_packet p p.sequence x in
        let says = plain_says x (suits_plainly (asked p) x suits) p p.sequence in
        cond_both (takes_nothing a) k (cond (eqb p.sequence 0) Opened (Took p a)) (λ known. Knows r.config.address known s)
        (λ nothing. absurd (false≢true (sym says.takes ∙ nothing)))
        (λ taken. cond_both (eqb p.sequence 0) Opened (Took p a) (λ known. Knows r.config.address known s)
        (λ is. absurd (false≢true (sym zero ∙ is))) (λ above. kept))

    pub heard_knows : (k : Known) (r : ReaderState H) (p : Packet) (kind : Kind) → Met r p kind → Knows r.config.address k r
        → Knows r.config.address (after_sent r.config.address p (outcome answer_of after kind r p).reply k) (outcome answer_of after kind r p).reader
    heard_knows k r p Silent met knows = still_knows k r p None knows (λ here. refl)
    heard_knows k r p Secured met knows =
        still_knows k r p (Some (reply_packet p p.sequence (refused SecurityBlock))) knows
        (λ here. absurd (false≢true (sym (and_right (is_to r.config.address p) (not p.block) (ap not met.1)) ∙ here)))
    heard_knows k r p Zero met knows =
        let acts = zero_acts (command_in p) r p in
        let s = (begun answer_of after (command_in p) r p).reader in
        subst (λ (o : Option Packet). Knows r.config.address (after_sent r.config.address p o k) s) (sym acts.answers)
        (acted_knows k r s p (Some (reply_packet p 0 acts.said)) (is_here r.config.address p met.to met.plain)
        (λ other. zero_knows k r s p acts.said acts.suits met.number (acts.keeps other)))
    heard_knows k r p Taken met knows =
        let acts = next_acts (command_in p) r p in
        let s = (taken answer_of after (command_in p) r p).reader in
        subst (λ (o : Option Packet). Knows r.config.address (after_sent r.config.address p o k) s) (sym acts.answers)
        (acted_knows k r s p (Some (reply_packet p p.sequence acts.said)) (is_here r.config.address p met.to met.plain)
        (λ other. next_knows k r s p acts.said acts.suits met.number.2.zero (acts.keeps other)))
    heard_knows k r p Busy met knows = still_knows k r p (Some (reply_packet p 0 reply.Busy)) knows (λ here. knows)
    heard_knows k r p Wrong met knows =
        still_knows k r p (Some (reply_packet p p.sequence (refused UnexpectedSequence))) knows (λ here. knows)
    heard_knows k r p Repeat met knows = by_stored r.stored refl
      where
        by_stored : (o : Option Packet) → r.stored ≡ o → Knows r.config.address (after_sent r.config.address p o k) r
        by_stored None stored = still_knows k r p None knows (λ here. refl)
        by_stored (Some a) stored =
            let same = eqb-true p.sequence met.number.1.0 met.number.1.2 in
            still_knows k r p (Some a) knows
            (λ here. cond_both (takes_nothing a) k (cond (eqb p.sequence 0) Opened (Took p a)) (λ known. Knows r.config.address known r) (λ nothing. knows)
            (λ takes. cond_both (eqb p.sequence 0) Opened (Took p a) (λ known. Knows r.config.address known r)
            (λ zero. absurd (false≢true (sym met.number.0 ∙ zero)))
            (λ above. (refl, met.number.1.1 ∙ ap Some (sym same), stored))))

    pub lost_knows : (k : Known) (r : ReaderState H) (p : Packet) (kind : Kind) → Met r p kind → Knows r.config.address k r
        → Knows r.config.address (after_sent r.config.address p None k) (outcome answer_of after kind r p).reader
    lost_knows k r p Zero met knows =
        acted_knows k r (begun answer_of after (command_in p) r p).reader p None (is_here r.config.address p met.to met.plain)
        (λ other. ((zero_acts (command_in p) r p).keeps other).0)
    lost_knows k r p Taken met knows =
        acted_knows k r (taken answer_of after (command_in p) r p).reader p None (is_here r.config.address p met.to met.plain)
        (λ other. ((next_acts (command_in p) r p).keeps other).0)
    lost_knows k r p kind met knows = still_knows k r p None knows (λ here. refl)

    pub sent_fine : ReadsReplies → (aspect : Aspect) (k : Known) (r : ReaderState H) (p : Packet) → Knows r.config.address k r
        → IfSome (hears answer_of after r p).said ReplyFits
        → IsFine (sent_judged aspect r.config.address k p (hears answer_of after r p).reply)
    sent_fine reads aspect k r p knows fits = by_kind reads aspect k r p (kind_of r p) (met r p) knows fits
