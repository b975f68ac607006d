-- A reader and a listener on two wires: what the listener knows agrees with the reader, whatever happens.
use Rattle.osdp_monitor_laws.proofs.Common.{◌≡◌, ◌⊎◌, inl, inr, ℕ, ◌+◌, true, false, eqb, ◌||◌, not, List, [], ◌∷◌, ◌++◌, Option, Some, None, refl, sym, subst, ap, ◌∙◌, cases_Bool, cond-true, cond_both, eqb-true, false≢true, not-false, or_cases, or_parts, IfSome, nat_lt, option_to_list, Packet, Sum, smallest, ReplyFits, Command, nothing_known, Knowledge, after_packet, found_in, no_knowledge, after_reply, reader_accused, Silent, ReaderState, new_reader, Outcome, hears, is_for_another, kind_of, outcome}
use Rattle.osdp_reader.specs.declared.handler.Answer.{Answer}
use Rattle.osdp_monitor_laws.proofs.Agreeing.{Agrees, IsAsked, TakesZero, agrees_new, agrees_untaken, none_some, reply_zero, same_some, sent_agrees, sent_asked, sent_zero, zero_untaken}
use Rattle.osdp_monitor_laws.proofs.Hearing.{IsSaid, Stores, comes, sends, stores_new}
use Rattle.osdp_monitor_laws.proofs.Knowing.{all_in_order, at_address, at_all, reply_in_order}
use Rattle.osdp_monitor_laws.proofs.Saying.{ReadsReplies}
use Rattle.osdp_monitor_laws.specs.ReaderLine.{AccusesNoReader, AreAllowed, Both, IsAllowed, ListenerAlone, MaySay, ReaderAlone, ReaderLine, ReaderMove, Reads, accused_in, after_move, after_said, known_after, new_line, reader_accusations, reader_accused_by, Restart, Say, AnswerComes, Skip, Forget}

-- the answer that is on its way: it is not accused, and what is known agrees with the reader when it has come
pub record Coming (known : Knowledge) (own : ℕ) (last : Option ℕ) (stored : Option Packet) (q : Packet) : Type 0 where
  pub reply : q.reply ≡ true
  pub fine : (found_in known q).accusation ≡ None
  pub after : Agrees ((after_packet known q).devices own) last stored

-- .. of a reader that may have moved since
pub coming_of : (known : Knowledge) (a : ℕ) (q : Packet) (last : Option ℕ) (stored : Option Packet) → IsSaid a q
    → ((old : Packet) → (known.devices a).last ≡ Some old → reader_accused (known.devices a) old q ≡ None)
    → Agrees (known.devices a) last stored
    → ((old : Packet) → (known.devices a).last ≡ Some old → Agrees (after_reply (known.devices a) old q) last stored)
    → (own : ℕ) → (last ≡ None) ⊎ (own ≡ a) → Coming known own last stored q
coming_of known a q last stored said fine lost came own place = record {
  reply = said.reply;
  fine = elim said.address [
    | inl here ↦ reply_in_order known q said.reply (subst (λ b. (old : Packet) → (known.devices b).last ≡ Some old → reader_accused (known.devices b) old q ≡ None) (sym here) fine)
    | inr all ↦ all_in_order known q all
  ];
  after = elim place [
    | inl none ↦ agrees_new ((after_packet known q).devices own) last stored none
    | inr here ↦ subst (λ b. Agrees ((after_packet known q).devices b) last stored) (sym here)
        (at_address (λ k. Agrees k last stored) known q a (agrees_untaken nothing_known last stored refl) (λ _. lost) (λ _ _ _. lost)
        (λ _ command. absurd (false≢true (sym command ∙ said.reply))) (λ _ _ old is. came old is))
  ];
}

-- nothing is known of the address
pub coming_unknown : (known : Knowledge) (a : ℕ) (q : Packet) (last : Option ℕ) (stored : Option Packet) → IsSaid a q → known.devices a ≡ nothing_known
    → (own : ℕ) → (last ≡ None) ⊎ (own ≡ a) → Coming known own last stored q
coming_unknown known a q last stored said nothing =
    coming_of known a q last stored said (λ old is. absurd (none_some old (sym (ap (λ k. k.last) nothing) ∙ is)))
    (agrees_untaken (known.devices a) last stored (ap (λ k. k.taken) nothing))
    (λ old is. absurd (none_some old (sym (ap (λ k. k.last) nothing) ∙ is)))

-- everything is forgotten
pub coming_forgotten : (q : Packet) (last : Option ℕ) (stored : Option Packet) (own : ℕ) → q.reply ≡ true → Coming no_knowledge own last stored q
coming_forgotten q last stored own reply = record {
  reply = reply;
  fine = reply_in_order no_knowledge q reply (λ old is. absurd (none_some old is));
  after = at_address (λ k. Agrees k last stored) no_knowledge q own (agrees_untaken nothing_known last stored refl)
      (λ _. agrees_untaken nothing_known last stored refl) (λ _ _ _. agrees_untaken nothing_known last stored refl)
      (λ _ command. absurd (false≢true (sym command ∙ reply))) (λ _ _ old is. absurd (none_some old is));
}

pub zero_after : (known : Knowledge) (p : Packet) → ((a : ℕ) → TakesZero (known.devices a)) → (a : ℕ) → TakesZero ((after_packet known p).devices a)
zero_after known p zero a =
    at_address TakesZero known p a (zero_untaken nothing_known refl) (λ _. zero a) (λ _ _ _. zero a)
    (λ _ _ _. sent_zero (known.devices a) p (zero a)) (λ _ _ old is. reply_zero (known.devices a) old p is (zero a))

module _ {H : Type 0} where
  pub record Holds (l : ReaderLine H) : Type 0 where
    pub zero : (a : ℕ) → TakesZero (l.known.devices a)
    pub agrees : Agrees (l.known.devices l.reader.config.address) l.reader.last l.reader.stored
    pub stores : Stores l.reader
    pub coming : (q : Packet) → l.answer ≡ Some q → Coming l.known l.reader.config.address l.reader.last l.reader.stored q

  -- a packet that anybody else says
  said_agrees : (l : ReaderLine H) (p : Packet) → Holds l → MaySay p l
      → Agrees ((after_packet l.known p).devices l.reader.config.address) l.reader.last l.reader.stored
  said_agrees l p holds may =
      let a = l.reader.config.address in
      at_address (λ k. Agrees k l.reader.last l.reader.stored) l.known p a (agrees_untaken nothing_known l.reader.last l.reader.stored refl)
      (λ _. holds.agrees) (λ _ _ _. holds.agrees) (λ _ _ _. sent_agrees l.reader.last l.reader.stored (l.known.devices a) p holds.agrees)
      (λ here reply. absurd (may.another reply here))

  -- the reader starts anew
  restarted : (l : ReaderLine H) (r : ReaderState H) → Holds l → r.last ≡ None → Holds (record l { reader = r })
  restarted l r holds none = record {
    zero = holds.zero;
    agrees = agrees_new (l.known.devices r.config.address) r.last r.stored none;
    stores = stores_new r none;
    coming = λ q is. record {
      reply = (holds.coming q is).reply;
      fine = (holds.coming q is).fine;
      after = agrees_new ((after_packet l.known q).devices r.config.address) r.last r.stored none;
    };
  }

  -- a listener who knows nothing
  forgotten : (l : ReaderLine H) → Holds l → Holds (record l { known = no_knowledge })
  forgotten l holds = record {
    zero = λ a. zero_untaken nothing_known refl;
    agrees = agrees_untaken nothing_known l.reader.last l.reader.stored refl;
    stores = holds.stores;
    coming = λ q is. coming_forgotten q l.reader.last l.reader.stored l.reader.config.address (holds.coming q is).reply;
  }

  skipping : (l : ReaderLine H) (skipped : ℕ) → Holds l → Holds (record l { known = record l.known { skipped = skipped } })
  skipping l skipped holds = record {
    zero = holds.zero;
    agrees = holds.agrees;
    stores = holds.stores;
    coming = λ q is. let c = holds.coming q is in record { reply = c.reply; fine = c.fine; after = c.after };
  }

  answered : (l : ReaderLine H) (o : Option Packet) → l.answer ≡ o → Holds l → Holds (record l { answer = None; known = known_after o l.known })
  answered l None is holds = record { zero = holds.zero; agrees = holds.agrees; stores = holds.stores; coming = λ q none. absurd (none_some q none) }
  answered l (Some q) is holds = record {
    zero = zero_after l.known q holds.zero;
    agrees = (holds.coming q is).after;
    stores = holds.stores;
    coming = λ x none. absurd (none_some x none);
  }

  pub innocent : (l : ReaderLine H) (o : Option Packet) → l.answer ≡ o → Holds l → accused_in o l.known ≡ None
  innocent l None is holds = refl
  innocent l (Some q) is holds = (holds.coming q is).fine

  -- what is known when a packet to the reader was said
  abbrev IsKnown : Knowledge → ReaderState H → Packet → Type 0
  IsKnown known r p =
      let k = known.devices r.config.address in
      (k ≡ nothing_known) ⊎ (IsAsked k p × (p.block ≡ false) × Agrees k r.last r.stored)

  module _ (answer_of : H → Command → Answer) (after : H → Command → H) (reading : ReadsReplies) where
    abbrev hearing : ReaderLine H → Outcome H → Knowledge → ReaderLine H
    hearing l o known = record l { reader = o.reader; answer = o.reply; known = known }

    -- the reader hears a packet that is for it
    heard_holds : (l : ReaderLine H) (p : Packet) (known : Knowledge) → Holds l → (p.address ≡ l.reader.config.address) ⊎ (p.address ≡ 127)
        → IfSome (hears answer_of after l.reader p).said ReplyFits → ((a : ℕ) → TakesZero (known.devices a)) → IsKnown known l.reader p
        → Holds (hearing l (hears answer_of after l.reader p) known)
    heard_holds l p known holds here fits zero (inl nothing) =
        let r = l.reader in
        let o = hears answer_of after r p in
        let sent = sends answer_of after reading r p holds.stores here fits in
        let lost : Agrees (known.devices r.config.address) o.reader.last o.reader.stored =
        agrees_untaken (known.devices r.config.address) o.reader.last o.reader.stored (ap (λ k. k.taken) nothing) in
        record {
          zero = zero;
          agrees = elim sent.place [
            | inl none ↦ agrees_new (known.devices o.reader.config.address) o.reader.last o.reader.stored none
            | inr same ↦ subst (λ b. Agrees (known.devices b) o.reader.last o.reader.stored) (sym same) lost
          ];
          stores = sent.stores;
          coming = λ q is. coming_unknown known r.config.address q o.reader.last o.reader.stored (sent.sent q is) nothing o.reader.config.address sent.place;
        }
    heard_holds l p known holds here fits zero (inr asked) =
        let r = l.reader in
        let o = hears answer_of after r p in
        let k = known.devices r.config.address in
        let sent = sends answer_of after reading r p holds.stores here fits in
        let c = comes answer_of after reading r p holds.stores here k asked.0 asked.2 (zero r.config.address) asked.1 fits in
        let is_last : (old : Packet) → k.last ≡ Some old → p ≡ old = λ old is. same_some p old (sym asked.0.last ∙ is) in
        record {
          zero = zero;
          agrees = elim sent.place [
            | inl none ↦ agrees_new (known.devices o.reader.config.address) o.reader.last o.reader.stored none
            | inr same ↦ subst (λ b. Agrees (known.devices b) o.reader.last o.reader.stored) (sym same) c.lost
          ];
          stores = sent.stores;
          coming = λ q is. coming_of known r.config.address q o.reader.last o.reader.stored (sent.sent q is)
              (λ old last. subst (λ x. reader_accused k x q ≡ None) (is_last old last) (c.comes q is).fine) c.lost
              (λ old last. subst (λ x. Agrees (after_reply k x q) o.reader.last o.reader.stored) (is_last old last) (c.comes q is).after)
              o.reader.config.address sent.place;
        }

    -- .. or for another device
    passed_holds : (l : ReaderLine H) (p : Packet) (known : Knowledge) → Holds l → is_for_another l.reader p ≡ true
        → ((a : ℕ) → TakesZero (known.devices a)) → Agrees (known.devices l.reader.config.address) l.reader.last l.reader.stored
        → Holds (hearing l (hears answer_of after l.reader p) known)
    passed_holds l p known holds another zero agrees =
        let silent : kind_of l.reader p ≡ Silent = cond-true (is_for_another l.reader p) Silent _ another in
        subst (λ k. Holds (hearing l (outcome answer_of after k l.reader p) known)) (sym silent)
        (record { zero = zero; agrees = agrees; stores = holds.stores; coming = λ q none. absurd (none_some q none) })

    -- whom a packet is for
    is_for : (r : ReaderState H) (p : Packet) → is_for_another r p ≡ false → (p.reply ≡ false) × ((p.address ≡ r.config.address) ⊎ (p.address ≡ 127))
    is_for r p own =
        let parts = or_parts p.reply (not (eqb p.address r.config.address || eqb p.address 127)) own in (
          parts.0,
          elim (or_cases (eqb p.address r.config.address) (eqb p.address 127) (not-false (eqb p.address r.config.address || eqb p.address 127) parts.1)) [
            | inl here ↦ inl (eqb-true p.address r.config.address here)
            | inr all ↦ inr (eqb-true p.address 127 all)
          ],
        )

    -- what is known of the reader's address when both have read a packet
    known_said : (l : ReaderLine H) (p : Packet) → Holds l → p.reply ≡ false → (p.address ≡ l.reader.config.address) ⊎ (p.address ≡ 127)
        → IsKnown (after_packet l.known p) l.reader p
    known_said l p holds command (inr all) = inl (ap (λ d. d l.reader.config.address) (at_all l.known p all))
    known_said l p holds command (inl here) =
        let r = l.reader in
        let a = r.config.address in
        at_address (λ k. (k ≡ nothing_known) ⊎ (IsAsked k p × (p.block ≡ false) × Agrees k r.last r.stored)) l.known p a (inl refl)
        (λ other. absurd (other here)) (λ _ reply. absurd (false≢true (sym command ∙ reply)))
        (λ _ _ plain. inr (sent_asked (l.known.devices a) p, (or_parts p.block _ plain).0, sent_agrees r.last r.stored (l.known.devices a) p holds.agrees))
        (λ _ reply. absurd (false≢true (sym command ∙ reply)))

    both_by : (l : ReaderLine H) (p : Packet) → Holds l → MaySay p l → IfSome (hears answer_of after l.reader p).said ReplyFits
        → (is_for_another l.reader p ≡ true) ⊎ (is_for_another l.reader p ≡ false)
        → Holds (hearing l (hears answer_of after l.reader p) (after_packet l.known p))
    both_by l p holds may fits (inl another) =
        passed_holds l p (after_packet l.known p) holds another (zero_after l.known p holds.zero) (said_agrees l p holds may)
    both_by l p holds may fits (inr own) =
        let is = is_for l.reader p own in
        heard_holds l p (after_packet l.known p) holds is.1 fits (zero_after l.known p holds.zero) (known_said l p holds is.0 is.1)

    alone_by : (l : ReaderLine H) (p : Packet) → Holds l → IfSome (hears answer_of after l.reader p).said ReplyFits
        → (is_for_another l.reader p ≡ true) ⊎ (is_for_another l.reader p ≡ false)
        → Holds (hearing l (hears answer_of after l.reader p) no_knowledge)
    alone_by l p holds fits (inl another) =
        passed_holds l p no_knowledge holds another (λ a. zero_untaken nothing_known refl)
        (agrees_untaken nothing_known l.reader.last l.reader.stored refl)
    alone_by l p holds fits (inr own) =
        heard_holds l p no_knowledge holds (is_for l.reader p own).1 fits (λ a. zero_untaken nothing_known refl) (inl refl)

    said_holds : (p : Packet) (reads : Reads) (l : ReaderLine H) → Holds l → MaySay p l → IfSome (hears answer_of after l.reader p).said ReplyFits
        → Holds (after_said (hears answer_of after l.reader p) p reads l)
    said_holds p Both l holds may fits = both_by l p holds may fits (cases_Bool (is_for_another l.reader p))
    said_holds p ReaderAlone l holds may fits = alone_by l p holds fits (cases_Bool (is_for_another l.reader p))
    said_holds p ListenerAlone l holds may fits = record {
      zero = zero_after l.known p holds.zero;
      agrees = said_agrees l p holds may;
      stores = holds.stores;
      coming = λ q is. absurd (none_some q (sym may.quiet ∙ is));
    }

    move_holds : (move : ReaderMove H) (l : ReaderLine H) → Holds l → IsAllowed answer_of after move l → Holds (after_move answer_of after move l)
    move_holds (Restart config handler room) l holds allowed = restarted l _ holds refl
    move_holds (Say p reads) l holds allowed = said_holds p reads l holds allowed.0 allowed.1
    move_holds (AnswerComes true) l holds allowed = answered l l.answer refl holds
    move_holds (AnswerComes false) l holds allowed =
        record { zero = holds.zero; agrees = holds.agrees; stores = holds.stores; coming = λ q none. absurd (none_some q none) }
    move_holds (Skip b) l holds allowed =
        cond_both (nat_lt (l.known.skipped + 1) (smallest Sum)) (record l.known { skipped = l.known.skipped + 1 }) no_knowledge
        (λ known. Holds (record l { known = known })) (λ _. skipping l (l.known.skipped + 1) holds) (λ _. forgotten l holds)
    move_holds Forget l holds allowed = forgotten l holds
    move_holds _ l holds allowed = record { zero = holds.zero; agrees = holds.agrees; stores = holds.stores; coming = holds.coming }

    move_innocent : (move : ReaderMove H) (l : ReaderLine H) → Holds l → reader_accused_by move l ≡ None
    move_innocent (AnswerComes true) l holds = innocent l l.answer refl holds
    move_innocent move l holds = refl

    all_innocent : (moves : List (ReaderMove H)) (l : ReaderLine H) → Holds l → AreAllowed answer_of after moves l
        → reader_accusations answer_of after moves l ≡ []
    all_innocent [] l holds allowed = refl
    all_innocent (move ∷ moves) l holds allowed =
        ap (λ o. option_to_list o ++ reader_accusations answer_of after moves (after_move answer_of after move l)) (move_innocent move l holds)
        ∙ all_innocent moves (after_move answer_of after move l) (move_holds move l holds allowed.0) allowed.1

    pub accuses_no_reader : AccusesNoReader answer_of after
    accuses_no_reader config handler room moves allowed =
        all_innocent moves (new_line config handler room) (record {
          zero = λ a. zero_untaken nothing_known refl;
          agrees = agrees_untaken nothing_known None None refl;
          stores = stores_new (new_reader config handler room) refl;
          coming = λ q none. absurd (none_some q none);
        }) allowed
