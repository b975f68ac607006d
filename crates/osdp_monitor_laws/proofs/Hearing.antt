-- What a reader answers to a packet, beside what is known of its address.
use Rattle.osdp_monitor_laws.proofs.Common.{◌≡◌, ◌≢◌, ◌⊎◌, inl, inr, ℕ, Bool, true, false, cond, eqb, Option, Some, None, Result, Ok, Err, refl, sym, subst, ap, ◌∙◌, cond_both, eqb-false, eqb-true, false≢true, IfSome, Packet, next_sequence, reply_fits, ReplyFits, Command, MsgFault, UnexpectedSequence, Answer, Known, after_reply, is_event_at_zero, is_plain, said, AnswerOfHandler, event_for, offering, released, unoffered, refused, reply_packet, unread_reason, ReaderState, Outcome, answer_to, begun, command_in, event_or_answer, hears, is_for_another, kind_by_number, kind_of, moved, new_address, outcome, taken, check_same}
use Rattle.osdp_msg.specs.declared.reply.Reply.TheVariants as reply
use Rattle.osdp_reader.specs.declared.kind.Kind.{Kind}
use Rattle.osdp_reader.specs.declared.kind.Kind.TheVariants.{Silent, Secured, Zero, Repeat, Taken, Busy, Wrong}
use Rattle.osdp_monitor_laws.proofs.Agreeing.{Agrees, IsAsked, TakesZero, agrees_new, none_some, same_some}
use Rattle.osdp_monitor_laws.proofs.FittingReplies.{answer_suits, event_or_answer_suits, unread_answers}
use Rattle.osdp_monitor_laws.proofs.Numbers.{next_above_zero}
use Rattle.osdp_monitor_laws.proofs.Replying.{IsNext, Replies, acting, busy, refusing, repeating}
use Rattle.osdp_monitor_laws.proofs.Saying.{IsActedOn, IsOwnReply, ReadsReplies, no_event_above, no_event_of, own_reply_of, said_is}

abbrev ok : Command → Result Command MsgFault
ok c = Ok c

same_ok : (c d : Command) → ok c ≡ Ok d → c ≡ d
same_ok c d e = cc

unread : (fault : MsgFault) (c : Command) → Err fault ≡ Ok c → ⊥
unread fault c e = cc

-- what each line of the table says of the packet
abbrev pub IsOfKind : Packet → Option ℕ → Kind → Type 0
IsOfKind p last Silent = Unit {0}
IsOfKind p last Secured = p.block ≡ true
IsOfKind p last Zero = p.sequence ≡ 0
IsOfKind p last Repeat = (p.sequence ≢ 0) × (last ≡ Some p.sequence)
IsOfKind p last Taken = (m : ℕ) × (last ≡ Some m) × (p.sequence ≡ next_sequence m)
IsOfKind p last Busy = IsNext last p.sequence
IsOfKind p last Wrong = p.sequence ≢ 0

kind_of_number : (p : Packet) (last o : Option ℕ) (busy : Bool) → p.sequence ≢ 0 → last ≡ o → IsOfKind p last (kind_by_number o p.sequence busy)
kind_of_number p last None busy above is = above
kind_of_number p last (Some m) busy above is =
    cond_both (eqb p.sequence m) Repeat (cond (eqb p.sequence (next_sequence m)) (cond busy Busy Taken) Wrong) (IsOfKind p last)
    (λ e. (above, is ∙ ap Some (sym (eqb-true p.sequence m e))))
    (λ _. cond_both (eqb p.sequence (next_sequence m)) (cond busy Busy Taken) Wrong (IsOfKind p last)
    (λ e. cond_both busy Busy Taken (IsOfKind p last) (λ _. inr (m, is, eqb-true p.sequence (next_sequence m) e)) (λ _. (m, is, eqb-true p.sequence (next_sequence m) e)))
    (λ _. above))

-- a reply that is said to a packet
pub record IsSaid (own : ℕ) (q : Packet) : Type 0 where
  pub reply : q.reply ≡ true
  pub address : (q.address ≡ own) ⊎ (q.address ≡ 127)

-- the reply to the last number
pub record Keeps (own : ℕ) (kept : Option Packet) (m : ℕ) : Type 0 where
  pub packet : Packet
  pub stored : kept ≡ Some packet
  pub number : packet.sequence ≡ m
  pub says : said packet ≡ Answer
  pub sent : IsSaid own packet

-- .. also of a reader that has no last number
pub settle : (k : Known) (p q : Packet) (last : Option ℕ) (stored : Option Packet) (then : Option ℕ) (kept : Option Packet) → Replies k p q last stored
    → (then ≡ None) ⊎ ((then ≡ last) × (kept ≡ stored)) → Replies k p q then kept
settle k p q last stored then kept replies (inl none) =
    record { fine = replies.fine; lost = agrees_new k then kept none; after = agrees_new (after_reply k p q) then kept none }
settle k p q last stored then kept replies (inr same) =
    subst (λ o. Replies k p q o kept) (sym same.0) (subst (λ s. Replies k p q last s) (sym same.1) replies)

module _ {H : Type 0} where
  pub of_kind : (r : ReaderState H) (p : Packet) → IsOfKind p r.last (kind_of r p)
  of_kind r p =
      cond_both (is_for_another r p) Silent (cond p.block Secured (cond (eqb p.sequence 0) (cond r.busy Busy Zero) (kind_by_number r.last p.sequence r.busy)))
      (IsOfKind p r.last) (λ _. tt)
      (λ _. cond_both p.block Secured (cond (eqb p.sequence 0) (cond r.busy Busy Zero) (kind_by_number r.last p.sequence r.busy))
      (IsOfKind p r.last) (λ block. block)
      (λ _. cond_both (eqb p.sequence 0) (cond r.busy Busy Zero) (kind_by_number r.last p.sequence r.busy) (IsOfKind p r.last)
      (λ zero. cond_both r.busy Busy Zero (IsOfKind p r.last) (λ _. inl (eqb-true p.sequence 0 zero)) (λ _. eqb-true p.sequence 0 zero))
      (λ above. kind_of_number p r.last r.last r.busy (eqb-false p.sequence 0 above) refl)))

  -- its stored reply, where its last number isn't 0
  abbrev pub Stores : ReaderState H → Type 0
  Stores r = (m : ℕ) → r.last ≡ Some m → m ≢ 0 → Keeps r.config.address r.stored m

  pub stores_new : (r : ReaderState H) → r.last ≡ None → Stores r
  stores_new r none m is above = absurd (none_some m (sym none ∙ is))

  -- a command that moves the reader, or not
  move_ends : (o : Option ℕ) (s : ReaderState H) → ((moved o s).last ≡ None) ⊎ (moved o s ≡ s)
  move_ends None s = inr refl
  move_ends (Some address) s =
      cond_both (eqb address s.config.address) s (record s { config = record s.config { address = address }; last = None; stored = None })
      (λ t. (t.last ≡ None) ⊎ (t ≡ s)) (λ _. inr refl) (λ _. inl refl)

  -- it has no last number, or this one with this stored reply, and is where it was
  abbrev Ends : ReaderState H → ReaderState H → ℕ → Option Packet → Type 0
  Ends r s number stored = (s.last ≡ None) ⊎ ((s.last ≡ Some number) × (s.stored ≡ stored) × (s.config.address ≡ r.config.address))

  ends_as : (r t s : ReaderState H) (number : ℕ) → s.last ≡ Some number → s.config.address ≡ r.config.address
      → (t.last ≡ None) ⊎ (t ≡ s) → Ends r t number s.stored
  ends_as r t s number last here (inl none) = inl none
  ends_as r t s number last here (inr same) =
      inr (ap (λ u. u.last) same ∙ last, ap (λ u. u.stored) same, ap (λ u. u.config.address) same ∙ here)

  module _ (answer_of : H → Command → AnswerOfHandler) (after : H → Command → H) where
    zero_ends : (read : Result Command MsgFault) (r : ReaderState H) (p : Packet) → Ends r (begun answer_of after read r p).reader 0 r.stored
    zero_ends (Err fault) r p = inr (refl, refl, refl)
    zero_ends (Ok c) r p =
        let s = record r { last = Some 0; queue = unoffered r.queue; handler = (answer_to answer_of after r.config r.handler c).handler } in
        ends_as r (moved (new_address c) s) s 0 refl refl (move_ends (new_address c) s)

    taken_ends : (read : Result Command MsgFault) (r : ReaderState H) (p : Packet)
        → Ends r (taken answer_of after read r p).reader p.sequence (taken answer_of after read r p).reply
    taken_ends (Err fault) r p = inr (refl, refl, refl)
    taken_ends (Ok c) r p =
        let event = event_for c (released r.queue).events in
        let a = event_or_answer answer_of after event r.config r.handler c in
        let s = record r {
          last = Some p.sequence;
          stored = Some (reply_packet p p.sequence a.reply);
          queue = offering event (released r.queue);
          handler = a.handler;
        } in
        ends_as r (moved (new_address c) s) s p.sequence refl refl (move_ends (new_address c) s)

    abbrev pub Fits : Outcome H → Type 0
    Fits o = IfSome o.said ReplyFits

    -- number 0 tells no event
    acted_zero : (read : Result Command MsgFault) (r : ReaderState H) (p : Packet) → command_in p ≡ read → p.sequence ≡ 0
        → IsActedOn p (begun answer_of after read r p)
    acted_zero (Err fault) r p is zero = record {
      said = refused (unread_reason fault);
      says = refl;
      sent = ap (λ n. Some (reply_packet p n (refused (unread_reason fault)))) (sym zero);
      answers = unread_answers fault;
      fitting = λ c read. absurd (unread fault c (sym is ∙ read));
    }
    acted_zero (Ok c) r p is zero =
        let a = answer_to answer_of after r.config r.handler c in
        let suits = answer_suits answer_of after r.config r.handler c in
        record {
          said = a.reply;
          says = refl;
          sent = ap (λ n. Some (reply_packet p n a.reply)) (sym zero);
          answers = suits.0;
          fitting = λ d read. subst (λ e. (reply_fits e a.reply ≡ true) × (is_event_at_zero e a.reply p.sequence ≡ false)) (same_ok c d (sym is ∙ read)) (
            suits.1,
            no_event_of c a.reply p.sequence
                (λ poll. subst (λ e. is_plain (answer_to answer_of after r.config r.handler e).reply ≡ true) (sym poll) refl),
          );
        }

    acted_taken : (read : Result Command MsgFault) (r : ReaderState H) (p : Packet) → command_in p ≡ read → p.sequence ≢ 0
        → IsActedOn p (taken answer_of after read r p)
    acted_taken (Err fault) r p is above = record {
      said = refused (unread_reason fault);
      says = refl;
      sent = refl;
      answers = unread_answers fault;
      fitting = λ c read. absurd (unread fault c (sym is ∙ read));
    }
    acted_taken (Ok c) r p is above =
        let a = event_or_answer answer_of after (event_for c (released r.queue).events) r.config r.handler c in
        let suits = event_or_answer_suits answer_of after r.config r.handler c (released r.queue).events in
        record {
          said = a.reply;
          says = refl;
          sent = refl;
          answers = suits.0;
          fitting = λ d read. subst (λ e. (reply_fits e a.reply ≡ true) × (is_event_at_zero e a.reply p.sequence ≡ false)) (same_ok c d (sym is ∙ read))
              (suits.1, no_event_above c a.reply p.sequence above);
        }

    -- ---- what it sends and keeps

    -- each reply is a device's, and has its address or 127; it keeps its stored reply, and has no last number where it has moved
    pub record Sends (r : ReaderState H) (o : Outcome H) : Type 0 where
      pub sent : (q : Packet) → o.reply ≡ Some q → IsSaid r.config.address q
      pub stores : Stores o.reader
      pub place : (o.reader.last ≡ None) ⊎ (o.reader.config.address ≡ r.config.address)

    place_of : (r s : ReaderState H) (number : ℕ) (stored : Option Packet) → Ends r s number stored → (s.last ≡ None) ⊎ (s.config.address ≡ r.config.address)
    place_of r s number stored (inl none) = inl none
    place_of r s number stored (inr ends) = inr ends.2

    module _ (reads : ReadsReplies) (r : ReaderState H) (p : Packet) (stores : Stores r) (here : (p.address ≡ r.config.address) ⊎ (p.address ≡ 127)) where
      said_here : (q : Packet) → q.reply ≡ true → q.address ≡ p.address → IsSaid r.config.address q
      said_here q is same = record { reply = is; address = elim here [ inl own ↦ inl (same ∙ own) | inr all ↦ inr (same ∙ all) ] }

      own_here : (q : Packet) → IsOwnReply p q → IsSaid r.config.address q
      own_here q own = said_here q own.reply own.address

      zero_stores : (s : ReaderState H) → Ends r s 0 r.stored → Stores s
      zero_stores s (inl none) = stores_new s none
      zero_stores s (inr ends) = λ m is above. absurd (above (same_some m 0 (sym is ∙ ends.0)))

      taken_stores : (s : ReaderState H) (back : Option Packet) → ((q : Packet) → back ≡ Some q → IsOwnReply p q) → (x : Packet) → back ≡ Some x → Ends r s p.sequence back → Stores s
      taken_stores s back own x is (inl none) = stores_new s none
      taken_stores s back own x is (inr ends) = λ m has above.
          let mine = own x is in
          record {
            packet = x;
            stored = ends.1 ∙ is;
            number = mine.number ∙ same_some p.sequence m (sym ends.0 ∙ has);
            says = mine.says;
            sent = subst (λ a. IsSaid a x) (sym ends.2) (own_here x mine);
          }

      sent_as : (x : Packet) → IsSaid r.config.address x → (q : Packet) → Some x ≡ Some q → IsSaid r.config.address q
      sent_as x is q same = subst (IsSaid r.config.address) (same_some x q same) is

      sends_kind : (kind : Kind) → kind_of r p ≡ kind → IsOfKind p r.last kind → Fits (outcome answer_of after kind r p) → Sends r (outcome answer_of after kind r p)
      sends_kind Silent is of fits = record { sent = λ q none. absurd (none_some q none); stores = stores; place = inr refl }
      sends_kind Repeat is of fits = record {
        sent = λ q same. let kept = stores p.sequence of.1 of.0 in sent_as kept.packet kept.sent q (sym kept.stored ∙ same);
        stores = stores;
        place = inr refl;
      }
      sends_kind Zero is of fits =
          let acted = acted_zero (command_in p) r p refl of in
          let o = begun answer_of after (command_in p) r p in
          record {
            sent = λ q same. own_here q (own_reply_of reads p o acted fits q same);
            stores = zero_stores o.reader (zero_ends (command_in p) r p);
            place = place_of r o.reader 0 r.stored (zero_ends (command_in p) r p);
          }
      sends_kind Taken is of fits =
          let acted = acted_taken (command_in p) r p refl (λ zero. next_above_zero of.0 (sym of.2 ∙ zero)) in
          let o = taken answer_of after (command_in p) r p in
          let own = own_reply_of reads p o acted fits in
          record {
            sent = λ q same. own_here q (own q same);
            stores = taken_stores o.reader o.reply own (reply_packet p p.sequence acted.said) acted.sent (taken_ends (command_in p) r p);
            place = place_of r o.reader p.sequence o.reply (taken_ends (command_in p) r p);
          }
      sends_kind _ is of fits = record { sent = sent_as _ (said_here _ refl refl); stores = stores; place = inr refl }

      pub sends : Fits (hears answer_of after r p) → Sends r (hears answer_of after r p)
      sends fits = sends_kind (kind_of r p) refl (of_kind r p) fits

      -- ---- beside what is known

      -- what is known agrees with the reader, whether or not the reply comes, which is not accused
      pub record Comes (k : Known) (o : Outcome H) : Type 0 where
        pub lost : Agrees k o.reader.last o.reader.stored
        pub comes : (q : Packet) → o.reply ≡ Some q → Replies k p q o.reader.last o.reader.stored

      module _ (k : Known) (asked : IsAsked k p) (agrees : Agrees k r.last r.stored) (takes : TakesZero k) (plain : p.block ≡ false) where
        unchanging : (x : Packet) → Replies k p x r.last r.stored → (q : Packet) → Some x ≡ Some q → Replies k p q r.last r.stored
        unchanging x replies q same = subst (λ y. Replies k p y r.last r.stored) (same_some x q same) replies

        after_end : (q : Packet) (s : ReaderState H) (number : ℕ) (kept : Option Packet) (stored : Option Packet) → p.sequence ≡ number → stored ≡ kept
            → Replies k p q (Some p.sequence) kept → Ends r s number stored → Replies k p q s.last s.stored
        after_end q s number kept stored same is replies (inl none) = settle k p q (Some p.sequence) kept s.last s.stored replies (inl none)
        after_end q s number kept stored same is replies (inr ends) =
            settle k p q (Some p.sequence) kept s.last s.stored replies (inr (ends.0 ∙ ap Some (sym same), ends.1 ∙ is))

        comes_if : (o : Outcome H) (x : Packet) → o.reply ≡ Some x → ((q : Packet) → o.reply ≡ Some q → Replies k p q o.reader.last o.reader.stored) → Comes k o
        comes_if o x is replies = record { lost = (replies x is).lost; comes = replies }

        comes_kind : (kind : Kind) → kind_of r p ≡ kind → IsOfKind p r.last kind → Fits (outcome answer_of after kind r p) → Comes k (outcome answer_of after kind r p)
        comes_kind Silent is of fits = record { lost = agrees; comes = λ q none. absurd (none_some q none) }
        comes_kind Secured is of fits = absurd (false≢true (sym plain ∙ of))
        comes_kind Busy is of fits =
            let x = reply_packet p 0 reply.Busy in
            comes_if (outcome answer_of after Busy r p) x refl (unchanging x
            (busy k p r.last r.stored asked agrees takes x of (said_is reads p 0 reply.Busy tt) (inr refl) (check_same p.check)))
        comes_kind Wrong is of fits =
            let x = reply_packet p p.sequence (refused UnexpectedSequence) in
            comes_if (outcome answer_of after Wrong r p) x refl (unchanging x
            (refusing k p r.last r.stored asked agrees takes x of (said_is reads p p.sequence (refused UnexpectedSequence) fits) refl (check_same p.check)))
        comes_kind Repeat is of fits =
            let kept = stores p.sequence of.1 of.0 in
            record {
              lost = agrees;
              comes = λ q same. unchanging kept.packet
                  (repeating k p r.last r.stored asked agrees takes kept.packet of.1 of.0 kept.stored kept.number kept.says) q (sym kept.stored ∙ same);
            }
        comes_kind Zero is of fits =
            let acted = acted_zero (command_in p) r p refl of in
            let o = begun answer_of after (command_in p) r p in
            comes_if o (reply_packet p p.sequence acted.said) acted.sent (λ q same.
            let own = own_reply_of reads p o acted fits q same in
            after_end q o.reader 0 r.stored r.stored of refl
            (acting k p r.last r.stored asked agrees takes q r.stored (inl of) own.says own.number own.fine (λ above. absurd (above of)))
            (zero_ends (command_in p) r p))
        comes_kind Taken is of fits =
            let acted = acted_taken (command_in p) r p refl (λ zero. next_above_zero of.0 (sym of.2 ∙ zero)) in
            let o = taken answer_of after (command_in p) r p in
            comes_if o (reply_packet p p.sequence acted.said) acted.sent (λ q same.
            let own = own_reply_of reads p o acted fits q same in
            after_end q o.reader p.sequence (Some q) o.reply refl same
            (acting k p r.last r.stored asked agrees takes q (Some q) (inr of) own.says own.number own.fine (λ above. refl))
            (taken_ends (command_in p) r p))

        pub comes : Fits (hears answer_of after r p) → Comes k (hears answer_of after r p)
        comes fits = comes_kind (kind_of r p) refl (of_kind r p) fits
