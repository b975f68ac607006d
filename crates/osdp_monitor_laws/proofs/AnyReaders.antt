-- Any reader that keeps the rules, and a listener: what the listener knows agrees with the reader, whatever happens.
use Rattle.osdp_monitor_laws.proofs.Common.{◌≡◌, ◌≢◌, ◌⊎◌, inl, inr, ℕ, ◌+◌, true, false, cond, eqb, not, List, [], ◌∷◌, ◌++◌, Option, Some, None, Result, Ok, Err, refl, sym, subst, ap, ◌∙◌, and_left, and_right, cases_Bool, cond-false, cond-true, cond_both, eqb-false, eqb-true, false≢true, not_from_true, nat_lt, option_to_list, Packet, CheckKind, Sum, smallest, reply_fits, Command, MsgFault, Reply, AnotherCheck, EventAtZero, UnfitReply, Known, nothing_known, Knowledge, after_packet, no_knowledge, after_reply, fit_accused, is_event_at_zero, is_plain, reader_accused, reading_accused, taken_accused, asked, reply_told, said, check_same, same_check}
use Rattle.osdp_msg.specs.declared.command.Command.TheVariants as command
use Rattle.osdp_monitor_laws.proofs.Agreeing.{Agrees, IsAsked, TakesZero, agrees_new, agrees_untaken, none_some, same_some, sent_agrees, sent_asked, zero_untaken}
use Rattle.osdp_monitor_laws.proofs.Hearing.{IsSaid, Keeps, settle}
use Rattle.osdp_monitor_laws.proofs.Knowing.{at_address}
use Rattle.osdp_monitor_laws.proofs.ReaderLines.{Coming, coming_forgotten, coming_of, coming_unknown, zero_after}
use Rattle.osdp_monitor_laws.proofs.Replying.{Replies, acting, busy, damaged, refusing, repeating}
use Rattle.osdp_monitor_laws.specs.ReaderLine.{Reads, Both, ReaderAlone, ListenerAlone, accused_in, known_after}
use Rattle.osdp_monitor_laws.specs.AnyReader.{AccusesNoReaderByTheRules, Answers, AnyLine, AnyMove, AnyReader, AreAllowed, Goes, IsAllowed, IsFromIt, MaySay, Way, Acts, Repeats, IsBusy, FindsDamage, Refuses, IsSilent, Restart, Say, AnswerComes, Skip, Forget, accusations, accused_by, after_move, after_said, new_line}

-- ---- an answer by the rules

same_kind : (c d : CheckKind) → c ≡ d → same_check c d ≡ true
same_kind c d is = subst (λ k. same_check c k ≡ true) is (check_same c)

no_event : (c : Command) (x : Reply) (number : ℕ) → (c ≡ command.Poll → number ≡ 0 → is_plain x ≡ true) → is_event_at_zero c x number ≡ false
no_event command.Poll x number plain = elim (cases_Bool (eqb number 0)) [
  | inl zero ↦ and_right (eqb number 0) (not (is_plain x)) (not_from_true (is_plain x) (plain refl (eqb-true number 0 zero)))
  | inr other ↦ and_left (eqb number 0) (not (is_plain x)) other
]
no_event c x number plain = refl

fitting : (read : Result Command MsgFault) (x : Reply) (number : ℕ) → ((c : Command) → read ≡ Ok c → reply_fits c x ≡ true)
    → (read ≡ Ok command.Poll → number ≡ 0 → is_plain x ≡ true) → fit_accused read x number ≡ None
fitting (Err fault) x number fits plain = refl
fitting (Ok c) x number fits plain =
    cond-false (not (reply_fits c x)) (Some UnfitReply) (cond (is_event_at_zero c x number) (Some EventAtZero) None) (not_from_true (reply_fits c x) (fits c refl))
    ∙ cond-false (is_event_at_zero c x number) (Some EventAtZero) None (no_event c x number (λ poll zero. plain (ap Ok poll) zero))

answer_fine : (own : ℕ) (p q : Packet) → IsFromIt own p q → Answers p q → taken_accused p q ≡ None
answer_fine own p q from answers =
    cond-true (same_check q.check p.check) (reading_accused (reply_told q) p) (Some AnotherCheck) (same_kind q.check p.check from.check)
    ∙ ap (λ t. reading_accused t p) answers.reads
    ∙ fitting (asked p) answers.told p.sequence answers.fits answers.plain

-- ---- what it does with a packet

abbrev pub Stores : AnyReader → Type 0
Stores r = (m : ℕ) → r.last ≡ Some m → m ≢ 0 → Keeps r.address r.stored m

pub stores_none : (r : AnyReader) → r.last ≡ None → Stores r
stores_none r none m is above = absurd (none_some m (sym none ∙ is))

said_here : (own : ℕ) (p q : Packet) → IsFromIt own p q → IsSaid own q
said_here own p q from = record { reply = from.reply; address = inl from.address_is }

-- what it says and where it is then
pub record Sends (r s : AnyReader) (o : Option Packet) : Type 0 where
  pub sent : (q : Packet) → o ≡ Some q → IsSaid r.address q
  pub stores : Stores s
  pub place : (s.last ≡ None) ⊎ (s.address ≡ r.address)

one_said : (own : ℕ) (x : Packet) → IsSaid own x → (q : Packet) → Some x ≡ Some q → IsSaid own q
one_said own x is q same = subst (IsSaid own) (same_some x q same) is

acts_stores : (r : AnyReader) (p q : Packet) (s : AnyReader) → IsFromIt r.address p q → Answers p q
    → (s.last ≡ None) ⊎ ((s.address ≡ r.address) × (s.last ≡ Some p.sequence) × (s.stored ≡ Some q)) → Stores s
acts_stores r p q s from answers (inl none) = stores_none s none
acts_stores r p q s from answers (inr ends) = λ m is above. record {
  packet = q;
  stored = ends.2;
  number = answers.number ∙ same_some p.sequence m (sym ends.1 ∙ is);
  says = answers.says;
  sent = subst (λ a. IsSaid a q) (sym ends.0) (said_here r.address p q from);
}

place_of : (r s : AnyReader) (p q : Packet) → (s.last ≡ None) ⊎ ((s.address ≡ r.address) × (s.last ≡ Some p.sequence) × (s.stored ≡ Some q))
    → (s.last ≡ None) ⊎ (s.address ≡ r.address)
place_of r s p q (inl none) = inl none
place_of r s p q (inr ends) = inr ends.0

pub same_stores : (r s : AnyReader) → s ≡ r → Stores r → Stores s
same_stores r s same stores = subst Stores (sym same) stores

pub goes_sends : (way : Way) (r : AnyReader) (p : Packet) (o : Option Packet) (s : AnyReader) → Stores r → Goes way r p o s → Sends r s o
goes_sends Acts r p (Some q) s stores goes = record {
  sent = one_said r.address q (said_here r.address p q goes.1);
  stores = acts_stores r p q s goes.1 goes.2 goes.3;
  place = place_of r s p q goes.3;
}
goes_sends Repeats r p (Some q) s stores goes = record {
  sent = λ x same. let kept = stores p.sequence goes.1 goes.0 in one_said r.address kept.packet kept.sent x (sym kept.stored ∙ goes.2 ∙ same);
  stores = same_stores r s goes.3 stores;
  place = inr (ap (λ (t : AnyReader). t.address) goes.3);
}
goes_sends IsBusy r p (Some q) s stores goes = record {
  sent = one_said r.address q (said_here r.address p q goes.1);
  stores = same_stores r s goes.4 stores;
  place = inr (ap (λ (t : AnyReader). t.address) goes.4);
}
goes_sends FindsDamage r p (Some q) s stores goes = record {
  sent = one_said r.address q (said_here r.address p q goes.0);
  stores = same_stores r s goes.2 stores;
  place = inr (ap (λ (t : AnyReader). t.address) goes.2);
}
goes_sends Refuses r p (Some q) s stores goes = record {
  sent = one_said r.address q (said_here r.address p q goes.1);
  stores = elim goes.4 [ inl none ↦ stores_none s none | inr same ↦ same_stores r s same stores ];
  place = elim goes.4 [ inl none ↦ inl none | inr same ↦ inr (ap (λ (t : AnyReader). t.address) same) ];
}
goes_sends IsSilent r p None s stores goes = record {
  sent = λ q none. absurd (none_some q none);
  stores = same_stores r s goes stores;
  place = inr (ap (λ (t : AnyReader). t.address) goes);
}
goes_sends Acts r p None s stores goes = absurd goes
goes_sends Repeats r p None s stores goes = absurd goes
goes_sends IsBusy r p None s stores goes = absurd goes
goes_sends FindsDamage r p None s stores goes = absurd goes
goes_sends Refuses r p None s stores goes = absurd goes
goes_sends IsSilent r p (Some q) s stores goes = absurd goes

-- .. beside what is known
pub record Comes (k : Known) (p : Packet) (s : AnyReader) (o : Option Packet) : Type 0 where
  pub lost : Agrees k s.last s.stored
  pub comes : (q : Packet) → o ≡ Some q → Replies k p q s.last s.stored

replies_so : (k : Known) (p q : Packet) (s : AnyReader) → Replies k p q s.last s.stored → Comes k p s (Some q)
replies_so k p q s replies =
    record { lost = replies.lost; comes = λ x same. subst (λ y. Replies k p y s.last s.stored) (same_some q x same) replies }

same_replies : (k : Known) (p q : Packet) (r s : AnyReader) → s ≡ r → Replies k p q r.last r.stored → Replies k p q s.last s.stored
same_replies k p q r s same replies = subst (λ (t : AnyReader). Replies k p q t.last t.stored) (sym same) replies

module _ (k : Known) (r : AnyReader) (p : Packet) (stores : Stores r) (is : IsAsked k p) (agrees : Agrees k r.last r.stored) (takes : TakesZero k) where
  pub goes_comes : (way : Way) (o : Option Packet) (s : AnyReader) → Goes way r p o s → Comes k p s o
  goes_comes Acts (Some q) s goes =
      replies_so k p q s (settle k p q (Some p.sequence) (Some q) s.last s.stored
      (acting k p r.last r.stored is agrees takes q (Some q) goes.0 goes.2.says goes.2.number (answer_fine r.address p q goes.1 goes.2) (λ _. refl))
      (elim goes.3 [ inl none ↦ inl none | inr ends ↦ inr (ends.1, ends.2) ]))
  goes_comes Repeats (Some q) s goes =
      let kept = stores p.sequence goes.1 goes.0 in
      let mine : kept.packet ≡ q = same_some kept.packet q (sym kept.stored ∙ goes.2) in
      replies_so k p q s (same_replies k p q r s goes.3
      (repeating k p r.last r.stored is agrees takes q goes.1 goes.0 goes.2 (ap (λ (x : Packet). x.sequence) (sym mine) ∙ kept.number) (ap said (sym mine) ∙ kept.says)))
  goes_comes IsBusy (Some q) s goes =
      replies_so k p q s (same_replies k p q r s goes.4
      (busy k p r.last r.stored is agrees takes q goes.0 goes.2 goes.3 (same_kind q.check p.check goes.1.check)))
  goes_comes FindsDamage (Some q) s goes =
      replies_so k p q s (same_replies k p q r s goes.2 (damaged k p r.last r.stored is agrees takes q goes.1))
  goes_comes Refuses (Some q) s goes =
      let replies = refusing k p r.last r.stored is agrees takes q goes.0 goes.2 goes.3 (same_kind q.check p.check goes.1.check) in
      replies_so k p q s (elim goes.4 [
        | inl none ↦ settle k p q r.last r.stored s.last s.stored replies (inl none)
        | inr same ↦ same_replies k p q r s same replies
      ])
  goes_comes IsSilent None s goes = record {
    lost = subst (λ (t : AnyReader). Agrees k t.last t.stored) (sym goes) agrees;
    comes = λ q none. absurd (none_some q none);
  }
  goes_comes Acts None s goes = absurd goes
  goes_comes Repeats None s goes = absurd goes
  goes_comes IsBusy None s goes = absurd goes
  goes_comes FindsDamage None s goes = absurd goes
  goes_comes Refuses None s goes = absurd goes
  goes_comes IsSilent (Some q) s goes = absurd goes

-- ---- the line

record Holds (l : AnyLine) : Type 0 where
  zero : (a : ℕ) → TakesZero (l.known.devices a)
  agrees : Agrees (l.known.devices l.reader.address) l.reader.last l.reader.stored
  stores : Stores l.reader
  coming : (q : Packet) → l.answer ≡ Some q → Coming l.known l.reader.address l.reader.last l.reader.stored q

none_coming : (l : AnyLine) (known : Knowledge) (s : AnyReader) (o : Option Packet) → o ≡ None → (q : Packet) → o ≡ Some q
    → Coming known s.address s.last s.stored q
none_coming l known s o none q is = absurd (none_some q (sym none ∙ is))

-- a packet that isn't to the reader
said_agrees : (l : AnyLine) (p : Packet) → Holds l → (p.reply ≡ true → p.address ≢ l.reader.address)
    → Agrees ((after_packet l.known p).devices l.reader.address) l.reader.last l.reader.stored
said_agrees l p holds another =
    let a = l.reader.address in
    at_address (λ k. Agrees k l.reader.last l.reader.stored) l.known p a (agrees_untaken nothing_known l.reader.last l.reader.stored refl)
    (λ _. holds.agrees) (λ _ _ _. holds.agrees) (λ _ _ _. sent_agrees l.reader.last l.reader.stored (l.known.devices a) p holds.agrees)
    (λ here reply. absurd (another reply here))

-- what is known of the reader's address when both have read a packet to it
abbrev IsKnown : Knowledge → AnyReader → Packet → Type 0
IsKnown known r p =
    let k = known.devices r.address in
    (k ≡ nothing_known) ⊎ (IsAsked k p × Agrees k r.last r.stored)

known_said : (l : AnyLine) (p : Packet) → Holds l → p.reply ≡ false → p.address ≡ l.reader.address → IsKnown (after_packet l.known p) l.reader p
known_said l p holds command here =
    let r = l.reader in
    let a = r.address in
    at_address (λ k. (k ≡ nothing_known) ⊎ (IsAsked k p × Agrees k r.last r.stored)) l.known p a (inl refl)
    (λ other. absurd (other here)) (λ _ reply. absurd (false≢true (sym command ∙ reply)))
    (λ _ _ plain. inr (sent_asked (l.known.devices a) p, sent_agrees r.last r.stored (l.known.devices a) p holds.agrees))
    (λ _ reply. absurd (false≢true (sym command ∙ reply)))

-- it does something with the packet
heard_holds : (l : AnyLine) (p : Packet) (known : Knowledge) (way : Way) (o : Option Packet) (s : AnyReader) → Holds l → Goes way l.reader p o s
    → ((a : ℕ) → TakesZero (known.devices a)) → IsKnown known l.reader p → Holds (record { reader = s; answer = o; known = known })
heard_holds l p known way o s holds goes zero (inl nothing) =
    let r = l.reader in
    let sends = goes_sends way r p o s holds.stores goes in
    let lost : Agrees (known.devices r.address) s.last s.stored = agrees_untaken (known.devices r.address) s.last s.stored (ap (λ k. k.taken) nothing) in
    record {
      zero = zero;
      agrees = elim sends.place [
        | inl none ↦ agrees_new (known.devices s.address) s.last s.stored none
        | inr same ↦ subst (λ b. Agrees (known.devices b) s.last s.stored) (sym same) lost
      ];
      stores = sends.stores;
      coming = λ q is. coming_unknown known r.address q s.last s.stored (sends.sent q is) nothing s.address sends.place;
    }
heard_holds l p known way o s holds goes zero (inr known_is) =
    let r = l.reader in
    let k = known.devices r.address in
    let sends = goes_sends way r p o s holds.stores goes in
    let c = goes_comes k r p holds.stores known_is.0 known_is.1 (zero r.address) way o s goes in
    let is_last : (old : Packet) → k.last ≡ Some old → p ≡ old = λ old is. same_some p old (sym known_is.0.last ∙ is) in
    record {
      zero = zero;
      agrees = elim sends.place [
        | inl none ↦ agrees_new (known.devices s.address) s.last s.stored none
        | inr same ↦ subst (λ b. Agrees (known.devices b) s.last s.stored) (sym same) c.lost
      ];
      stores = sends.stores;
      coming = λ q is. coming_of known r.address q s.last s.stored (sends.sent q is)
          (λ old last. subst (λ x. reader_accused k x q ≡ None) (is_last old last) (c.comes q is).fine) c.lost
          (λ old last. subst (λ x. Agrees (after_reply k x q) s.last s.stored) (is_last old last) (c.comes q is).after)
          s.address sends.place;
    }

-- a packet that it passes over leaves it as it is
silent_same : (way : Way) (r : AnyReader) (p : Packet) (o : Option Packet) (s : AnyReader) → Goes way r p o s → o ≡ None → s ≡ r
silent_same IsSilent r p None s goes none = goes
silent_same Acts r p None s goes none = absurd goes
silent_same Repeats r p None s goes none = absurd goes
silent_same IsBusy r p None s goes none = absurd goes
silent_same FindsDamage r p None s goes none = absurd goes
silent_same Refuses r p None s goes none = absurd goes
silent_same way r p (Some q) s goes none = absurd (none_some q (sym none))

passed_holds : (l : AnyLine) (known : Knowledge) (o : Option Packet) (s : AnyReader) → Holds l → s ≡ l.reader → o ≡ None
    → ((a : ℕ) → TakesZero (known.devices a)) → Agrees (known.devices l.reader.address) l.reader.last l.reader.stored
    → Holds (record { reader = s; answer = o; known = known })
passed_holds l known o s holds same none zero agrees = record {
  zero = zero;
  agrees = subst (λ (t : AnyReader). Agrees (known.devices t.address) t.last t.stored) (sym same) agrees;
  stores = same_stores l.reader s same holds.stores;
  coming = none_coming l known s o none;
}

module _ (l : AnyLine) (p : Packet) (way : Way) (o : Option Packet) (s : AnyReader) (holds : Holds l) (may : MaySay p way o s l) where
  abbrev others_both : (p.reply ≡ true) ⊎ (p.address ≢ l.reader.address) → Holds (record { reader = s; answer = o; known = after_packet l.known p })
  others_both other =
      let none = may.others other in
      passed_holds l (after_packet l.known p) o s holds (silent_same way l.reader p o s may.goes none) none (zero_after l.known p holds.zero)
      (said_agrees l p holds may.another)

  both_by : (p.reply ≡ true) ⊎ (p.reply ≡ false) → (eqb p.address l.reader.address ≡ true) ⊎ (eqb p.address l.reader.address ≡ false)
      → Holds (record { reader = s; answer = o; known = after_packet l.known p })
  both_by (inl reply) here = others_both (inl reply)
  both_by (inr command) (inr other) = others_both (inr (eqb-false p.address l.reader.address other))
  both_by (inr command) (inl here) =
      heard_holds l p (after_packet l.known p) way o s holds may.goes (zero_after l.known p holds.zero)
      (known_said l p holds command (eqb-true p.address l.reader.address here))

  said_holds : (reads : Reads) → Holds (after_said p reads o s l)
  said_holds Both = both_by (cases_Bool p.reply) (cases_Bool (eqb p.address l.reader.address))
  said_holds ReaderAlone = heard_holds l p no_knowledge way o s holds may.goes (λ a. zero_untaken nothing_known refl) (inl refl)
  said_holds ListenerAlone = record {
    zero = zero_after l.known p holds.zero;
    agrees = said_agrees l p holds may.another;
    stores = holds.stores;
    coming = λ q is. absurd (none_some q (sym may.quiet ∙ is));
  }

restarted : (l : AnyLine) (s : AnyReader) → Holds l → s.last ≡ None → Holds (record l { reader = s })
restarted l s holds none = record {
  zero = holds.zero;
  agrees = agrees_new (l.known.devices s.address) s.last s.stored none;
  stores = stores_none s none;
  coming = λ q is. record {
    reply = (holds.coming q is).reply;
    fine = (holds.coming q is).fine;
    after = agrees_new ((after_packet l.known q).devices s.address) s.last s.stored none;
  };
}

forgotten : (l : AnyLine) → Holds l → Holds (record l { known = no_knowledge })
forgotten l holds = record {
  zero = λ a. zero_untaken nothing_known refl;
  agrees = agrees_untaken nothing_known l.reader.last l.reader.stored refl;
  stores = holds.stores;
  coming = λ q is. coming_forgotten q l.reader.last l.reader.stored l.reader.address (holds.coming q is).reply;
}

skipping : (l : AnyLine) (skipped : ℕ) → Holds l → Holds (record l { known = record l.known { skipped = skipped } })
skipping l skipped holds = record {
  zero = holds.zero;
  agrees = holds.agrees;
  stores = holds.stores;
  coming = λ q is. let c = holds.coming q is in record { reply = c.reply; fine = c.fine; after = c.after };
}

answered : (l : AnyLine) (o : Option Packet) → l.answer ≡ o → Holds l → Holds (record l { answer = None; known = known_after o l.known })
answered l None is holds = record { zero = holds.zero; agrees = holds.agrees; stores = holds.stores; coming = λ q none. absurd (none_some q none) }
answered l (Some q) is holds = record {
  zero = zero_after l.known q holds.zero;
  agrees = (holds.coming q is).after;
  stores = holds.stores;
  coming = λ x none. absurd (none_some x none);
}

innocent : (l : AnyLine) (o : Option Packet) → l.answer ≡ o → Holds l → accused_in o l.known ≡ None
innocent l None is holds = refl
innocent l (Some q) is holds = (holds.coming q is).fine

move_holds : (move : AnyMove) (l : AnyLine) → Holds l → IsAllowed move l → Holds (after_move move l)
move_holds (Restart s) l holds allowed = restarted l s holds allowed
move_holds (Say p reads way o s) l holds allowed = said_holds l p way o s holds allowed reads
move_holds (AnswerComes true) l holds allowed = answered l l.answer refl holds
move_holds (AnswerComes false) l holds allowed =
    record { zero = holds.zero; agrees = holds.agrees; stores = holds.stores; coming = λ q none. absurd (none_some q none) }
move_holds (Skip b) l holds allowed =
    cond_both (nat_lt (l.known.skipped + 1) (smallest Sum)) (record l.known { skipped = l.known.skipped + 1 }) no_knowledge
    (λ known. Holds (record l { known = known })) (λ _. skipping l (l.known.skipped + 1) holds) (λ _. forgotten l holds)
move_holds Forget l holds allowed = forgotten l holds

move_innocent : (move : AnyMove) (l : AnyLine) → Holds l → accused_by move l ≡ None
move_innocent (AnswerComes true) l holds = innocent l l.answer refl holds
move_innocent move l holds = refl

all_innocent : (moves : List AnyMove) (l : AnyLine) → Holds l → AreAllowed moves l → accusations moves l ≡ []
all_innocent [] l holds allowed = refl
all_innocent (move ∷ moves) l holds allowed =
    ap (λ o. option_to_list o ++ accusations moves (after_move move l)) (move_innocent move l holds)
    ∙ all_innocent moves (after_move move l) (move_holds move l holds allowed.0) allowed.1

pub accuses_no_reader_by_the_rules : AccusesNoReaderByTheRules
accuses_no_reader_by_the_rules r moves none allowed =
    all_innocent moves (new_line r) (record {
      zero = λ a. zero_untaken nothing_known refl;
      agrees = agrees_untaken nothing_known r.last r.stored refl;
      stores = stores_none r none;
      coming = λ q is. absurd (none_some q is);
    }) allowed
