-- Each accusation by its name.
use Rattle.osdp_monitor_laws.proofs.Common.{◌≡◌, ◌≢◌, ◌⊎◌, inl, inr, ℕ, Bool, true, false, cond, eqb, ◌&&◌, ◌||◌, not, List, ◌∷◌, ◌++◌, Option, Some, None, Ok, refl, sym, subst, ap, ◌∙◌, and_left, and_right, cond-false, cond-true, cond_both, eq-eqb, eqb-true, false≢true, ne_eqb, not_from_true, or_from, or_left, or_right, is_some, CheckKind, Sum, Crc, Packet, next_sequence, RunItem, PacketItem, reply_fits, Command, Poll, Reply, Accusation, SentOutOfTurn, AnotherNumber, AnotherCheck, RefusedZero, TakenOutOfTurn, UnreadReply, UnfitReply, EventAtZero, Said, Busy, Damage, Refusal, Answer, Known, is_number, Knowledge, after_items, after_packet, found_in, after_another, after_copy, after_sent, before_row, is_in_row, is_waiting, keeps_number, left_waiting, panel_accused, sent_after, after_answer, after_reply, after_reply_of, has_earlier_number, has_no_number, is_doubtful, is_late, is_owed, is_plain, is_stray, is_unheard, reader_accused, reading_accused, repeat_reply, reply_accused, taken_accused, turn_accused, asked, is_answer, reply_told, said, packet_is, IsNone, Each, IsCopyOrReply, IsFrom, IsRemembered, IsTo, NothingForgotten, Breaks, Exchange, FitsNumber, Happens, IsEvent, IsInTurn, IsTaken, MissesNoPacketOutOfTurn, items_of, same_check, same_packet}
use Rattle.osdp_msg.specs.declared.reply.Reply.TheVariants as reply
use Rattle.osdp_monitor_laws.proofs.Agreeing.{none_some, same_some, sent_asked}
use Rattle.osdp_monitor_laws.proofs.Late.{by_number, certain, none_owed, own_counts}
use Rattle.osdp_monitor_laws.proofs.Missing.{IsLast, by_rules, device_of, first_last, last_step, no_doubt, sent_found}
use Rattle.osdp_monitor_laws.proofs.Remembering.{after_append, after_one, at_remembered, forgotten_append, items_keep, sent_remembered}

-- ---- a packet out of turn

out_of_turn : (p q : Packet) (answered : Bool) → q.sequence ≢ 0 → q.sequence ≢ p.sequence → q.sequence ≢ next_sequence p.sequence
    → sent_after p answered q ≡ Some SentOutOfTurn
out_of_turn p q answered above other next =
    rw (ne_eqb q.sequence 0 above, ne_eqb q.sequence p.sequence other, ne_eqb q.sequence (next_sequence p.sequence) next)

pub misses_no_packet_out_of_turn : MissesNoPacketOutOfTurn
misses_no_packet_out_of_turn line a p items q to nothing each next plain above other turn =
    let last = items_keep a (IsLast p) (IsCopyOrReply p) (last_step a p) items (after_packet line p) (first_last a line p to nothing.0) nothing.1 each in
    ap (λ (known : Knowledge). (found_in known q).accusation) (after_one line (PacketItem p) items)
    ∙ sent_found (after_items (after_packet line p) items) a q (Some SentOutOfTurn) next (device_of line a p to.1 nothing.0) plain
    (ap (λ o. panel_accused o ((after_items (after_packet line p) items).devices a) q) last
    ∙ by_rules ((after_items (after_packet line p) items).devices a) p q
    (no_doubt p q ((after_items (after_packet line p) items).devices a).answered turn)
    ∙ out_of_turn p q ((after_items (after_packet line p) items).devices a).answered above other turn)

-- ---- an exchange, step by step

-- where only others speak, what is known stays
quiet_step : (a : ℕ) (Q : Known → Type 0) (line : Knowledge) (x : Packet) → Q (line.devices a) → (x.address ≡ a → IsNone x)
    → IsRemembered a (PacketItem x) line → Q ((after_packet line x).devices a)
quiet_step a Q line x known each is =
    at_remembered a Q line x is (λ _. known) (λ _ _ _. known) (λ here _. absurd (each here)) (λ here _ _ _ _. absurd (each here))

pub quiet_items : (a : ℕ) (Q : Known → Type 0) (items : List RunItem) (line : Knowledge) → Q (line.devices a) → NothingForgotten a items line
    → Each a IsNone items → Q ((after_items line items).devices a)
quiet_items a Q items line known nothing each = items_keep a Q IsNone (quiet_step a Q) items line known nothing each

-- the second packet
abbrev IsTurned : Packet → Known → Type 0
IsTurned q k = (k.last ≡ Some q) × (k.owing ≡ false)

turned_sent : (k : Known) (p q : Packet) (o : Option Packet) → o ≡ Some p → p.sequence ≢ q.sequence → (after_sent o k q).owing ≡ false
turned_sent k p q None last other = absurd (none_some p last)
turned_sent k p q (Some old) last other =
    let same : p ≡ old = same_some p old (sym last) in
    let differ : old.sequence ≢ q.sequence = subst (λ (x : Packet). x.sequence ≢ q.sequence) same other in
    cond_both (same_packet old q) (after_copy k) (after_another (keeps_number old k q) (left_waiting old k) k q) (λ j. j.owing ≡ false)
    (λ copy. absurd (differ (ap (λ (x : Packet). x.sequence) (packet_is old q copy))))
    (λ _. cond_both (is_waiting k) (Some old.sequence) None (λ n. is_number n q.sequence ≡ false) (λ _. ne_eqb old.sequence q.sequence differ) (λ _. refl))

turned : (a : ℕ) (p : Packet) (line : Knowledge) (q : Packet) → IsTo a q → p.sequence ≢ q.sequence → IsLast p (line.devices a)
    → IsRemembered a (PacketItem q) line → IsTurned q ((after_packet line q).devices a)
turned a p line q to other known is =
    let k = line.devices a in
    sent_remembered a (IsTurned q) line q to is ((sent_asked k q).last, turned_sent k p q k.last known other)

-- its reply
record IsDone (q : Packet) (k : Known) : Type 0 where
  last : k.last ≡ Some q
  replied : k.replied ≡ true
  taken : k.taken ≡ Some q.sequence
  earlier : k.earlier ≡ None
  owing : k.owing ≡ false

number_taken : (o : Option ℕ) (n : ℕ) → is_number o n ≡ true → o ≡ Some n
number_taken None n is = absurd (false≢true is)
number_taken (Some t) n is = ap Some (eqb-true t n is)

both_true : (x y : Bool) → (x && y) ≡ true → y ≡ true
both_true true y is = is
both_true false y is = absurd (false≢true is)

pub repeat_taken : (k : Known) (p : Packet) → is_some (repeat_reply k p) ≡ true → k.taken ≡ Some p.sequence
repeat_taken k p =
    cond_both (not (eqb p.sequence 0) && is_number k.taken p.sequence) k.stored None (λ o. is_some o ≡ true → k.taken ≡ Some p.sequence)
    (λ both _. number_taken k.taken p.sequence (both_true (not (eqb p.sequence 0)) (is_number k.taken p.sequence) both))
    (λ _ none. absurd (false≢true none))

taken_after : (k : Known) (p : Packet) (repeat : Bool) → is_some (repeat_reply k p) ≡ repeat → cond repeat k.taken (Some p.sequence) ≡ Some p.sequence
taken_after k p true is = repeat_taken k p is
taken_after k p false is = refl

done_own : (k : Known) (q r : Packet) → q.sequence ≢ 0 → IsTurned q k → r.sequence ≡ q.sequence
    → IsDone q (after_answer (is_some (repeat_reply k q)) q.sequence k r)
done_own k q r above known number =
    by_number (IsDone q) (is_some (repeat_reply k q)) q.sequence k r
    (λ _. record {
      last = known.0;
      replied = refl;
      taken = taken_after k q (is_some (repeat_reply k q)) refl;
      earlier = cond-false (eqb q.sequence 0) k.earlier None (ne_eqb q.sequence 0 above);
      owing = known.1;
    })
    (λ other. absurd (other number))

done : (a : ℕ) (q : Packet) (line : Knowledge) (r : Packet) → q.sequence ≢ 0 → IsFrom a r → said r ≡ Answer → r.sequence ≡ q.sequence
    → IsTurned q (line.devices a) → IsRemembered a (PacketItem r) line → IsDone q ((after_packet line r).devices a)
done a q line r above from says number known is =
    let k = line.devices a in
    at_remembered a (IsDone q) line r is (λ away. absurd (away from.1)) (λ _ _ none. absurd (none_some q (sym none ∙ known.0)))
    (λ _ sent. absurd (false≢true (sym sent ∙ from.0)))
    (λ _ _ last before _.
    let same : q ≡ last = same_some q last (sym known.0 ∙ before) in
    subst (λ x. IsDone q (after_reply k x r)) same
    (subst (IsDone q) (sym (own_counts k q r says number))
    (subst (λ s. IsDone q (after_reply_of s k q r)) (sym says) (done_own k q r above known number))))

-- the packet after it
pub record IsFresh (n : ℕ) (q : Packet) (k : Known) : Type 0 where
  pub last : k.last ≡ Some q
  pub replied : k.replied ≡ false
  pub answered : k.answered ≡ false
  pub taken : (k.taken ≡ Some n) ⊎ ((q.sequence ≡ 0) × (k.taken ≡ None))
  pub earlier : k.earlier ≡ None
  pub older : k.older ≡ None
  pub owing : k.owing ≡ false
  pub settled : k.settled ≡ true
  pub missed : k.missed ≡ false

fresh_taken : (p : Packet) (k : Known) (q : Packet) (n : ℕ) → k.replied ≡ true → k.taken ≡ Some n
    → (cond (keeps_number p k q) k.taken None ≡ Some n) ⊎ ((q.sequence ≡ 0) × (cond (keeps_number p k q) k.taken None ≡ None))
fresh_taken p k q n replied taken =
    cond_both (keeps_number p k q) k.taken None (λ o. (o ≡ Some n) ⊎ ((q.sequence ≡ 0) × (o ≡ None))) (λ _. inl taken)
    (λ lost. inr (zero (eqb q.sequence 0) refl lost, refl))
  where
    zero : (b : Bool) → eqb q.sequence 0 ≡ b → (not (eqb q.sequence 0) && (k.replied || is_number k.taken p.sequence)) ≡ false → q.sequence ≡ 0
    zero true is lost = eqb-true q.sequence 0 is
    zero false is lost = absurd (false≢true (sym lost ∙ rw (is, replied)))

fresh_sent : (k : Known) (p q : Packet) (o : Option Packet) → o ≡ Some p → q.sequence ≢ p.sequence → IsDone p k → (after_sent o k q).last ≡ Some q
    → (after_sent o k q).replied ≡ false → IsFresh p.sequence q (after_sent o k q)
fresh_sent k p q None last other done asks silent = absurd (none_some p last)
fresh_sent k p q (Some old) last other done asks silent =
    let same : p ≡ old = same_some p old (sym last) in
    let differ : q.sequence ≢ old.sequence = subst (λ (x : Packet). q.sequence ≢ x.sequence) same other in
    let left : left_waiting old k ≡ None = rw (done.owing, done.replied) in
    cond_both (same_packet old q) (after_copy k) (after_another (keeps_number old k q) (left_waiting old k) k q)
    (λ j. IsFresh p.sequence q j)
    (λ copy. absurd (differ (sym (ap (λ (x : Packet). x.sequence) (packet_is old q copy)))))
    (λ _. record {
      last = refl;
      replied = refl;
      answered = refl;
      taken = fresh_taken old k q p.sequence done.replied done.taken;
      earlier = left;
      older = ap (λ o. cond (is_in_row o q) (before_row k) None) left;
      owing = ap (λ o. is_number o q.sequence) left;
      settled = ap (λ o. not (is_in_row o q) || k.settled) left;
      missed = not_from_true k.replied done.replied;
    })

fresh : (a : ℕ) (p : Packet) (line : Knowledge) (q : Packet) → IsTo a q → q.sequence ≢ p.sequence → IsDone p (line.devices a)
    → IsRemembered a (PacketItem q) line → IsFresh p.sequence q ((after_packet line q).devices a)
fresh a p line q to other known is =
    let k = line.devices a in
    sent_remembered a (IsFresh p.sequence q) line q to is
    (fresh_sent k p q k.last known.last other known (sent_asked k q).last (sent_asked k q).replied)

-- ---- the whole of it

module _ (line : Knowledge) (a : ℕ) (e : Exchange) (is : Happens a line e) where
  line0 : Knowledge
  line0 = after_packet line e.first

  line1 : Knowledge
  line1 = after_items line0 e.to_second

  line2 : Knowledge
  line2 = after_packet line1 e.second

  line3 : Knowledge
  line3 = after_items line2 e.to_reply

  line4 : Knowledge
  line4 = after_packet line3 e.reply

  line5 : Knowledge
  line5 = after_items line4 e.to_last

  line6 : Knowledge
  line6 = after_packet line5 e.last

  pub line7 : Knowledge
  line7 = after_items line6 e.since

  to_last_items : List RunItem
  to_last_items = PacketItem e.last ∷ e.since

  to_reply_items : List RunItem
  to_reply_items = PacketItem e.reply ∷ (e.to_last ++ PacketItem e.last ∷ e.since)

  to_second_items : List RunItem
  to_second_items = PacketItem e.second ∷ (e.to_reply ++ PacketItem e.reply ∷ (e.to_last ++ PacketItem e.last ∷ e.since))

  pub whole : after_items line (items_of e) ≡ line7
  unfolding line0 line1 line2 line3 line4 line5 line6 line7 to_last_items to_reply_items to_second_items
  whole =
      after_one line (PacketItem e.first) (e.to_second ++ to_second_items)
      ∙ after_append line0 e.to_second to_second_items
      ∙ after_one line1 (PacketItem e.second) (e.to_reply ++ to_reply_items)
      ∙ after_append line2 e.to_reply to_reply_items
      ∙ after_one line3 (PacketItem e.reply) (e.to_last ++ to_last_items)
      ∙ after_append line4 e.to_last to_last_items ∙ after_one line5 (PacketItem e.last) e.since

  pub is_fresh : IsFresh e.second.sequence e.last (line7.devices a)
  unfolding line0 line1 line2 line3 line4 line5 line6 line7 to_last_items to_reply_items to_second_items
  is_fresh =
      let rest1 = forgotten_append a line0 e.to_second to_second_items is.nothing.1 in
      let rest2 = forgotten_append a line2 e.to_reply to_reply_items rest1.1.1 in
      let rest3 = forgotten_append a line4 e.to_last to_last_items rest2.1.1 in
      let known1 : IsLast e.first (line1.devices a) =
      quiet_items a (IsLast e.first) e.to_second line0 (first_last a line e.first is.first_to is.nothing.0) rest1.0 is.before_second in
      let known3 : IsTurned e.second (line3.devices a) =
      quiet_items a (IsTurned e.second) e.to_reply line2 (turned a e.first line1 e.second is.second_to is.differ known1 rest1.1.0) rest2.0 is.before_reply in
      let known5 : IsDone e.second (line5.devices a) =
      quiet_items a (IsDone e.second) e.to_last line4 (done a e.second line3 e.reply is.above is.reply_from is.answers is.number known3 rest2.1.0) rest3.0 is.before_last in
      quiet_items a (IsFresh e.second.sequence e.last) e.since line6 (fresh a e.second line5 e.last is.last_to is.another known5 rest3.1.0) rest3.1.1 is.quiet

-- ---- a reply to it is judged

module _ (n : ℕ) (q : Packet) (k : Known) (known : IsFresh n q k) (r : Packet) where
  pub none_earlier : has_earlier_number k r ≡ false
  none_earlier = none_owed k r known.settled known.earlier known.older

  pub in_time : is_late k q r ≡ false
  in_time = and_left (has_earlier_number k r) (not (eqb r.sequence q.sequence)) none_earlier

  pub not_stray : is_stray k r ≡ false
  not_stray = and_right (has_no_number (said r) r.sequence) (is_owed k) (or_from k.owing (is_some k.earlier) known.owing (ap is_some known.earlier))

  pub heard : is_unheard k q r ≡ false
  heard =
      and_left (is_answer (said r) && k.answered) (eqb r.sequence (next_sequence q.sequence)) (and_right (is_answer (said r)) k.answered known.answered)

  pub in_no_doubt : is_doubtful k q r ≡ false
  in_no_doubt =
      certain k q r in_time (and_left (has_earlier_number k r) (eqb q.sequence 0) none_earlier) heard
      (and_left (is_stray k r) (not (is_some (repeat_reply k q))) not_stray)

  pub judged_is : reader_accused k q r ≡ reply_accused (said r) k q r
  judged_is = rw (in_no_doubt, known.replied)

  judged : (s : Said) (accusation : Accusation) → said r ≡ s → reply_accused s k q r ≡ Some accusation → reader_accused k q r ≡ Some accusation
  judged s accusation says accused = judged_is ∙ subst (λ t. reply_accused t k q r ≡ Some accusation) (sym says) accused

module _ (n : ℕ) (q : Packet) (k : Known) (known : IsFresh n q k) (r : Packet) (other : q.sequence ≢ n) where
  not_taken : is_number k.taken q.sequence ≡ false
  not_taken = elim known.taken [
    | inl taken ↦ subst (λ o. is_number o q.sequence ≡ false) (sym taken) (ne_eqb n q.sequence (λ same. other (sym same)))
    | inr zero ↦ subst (λ o. is_number o q.sequence ≡ false) (sym zero.1) refl
  ]

  pub new : repeat_reply k q ≡ None
  new = rw (and_right (not (eqb q.sequence 0)) (is_number k.taken q.sequence) not_taken)

  -- an answer with its number
  own_answer : (accusation : Accusation) → said r ≡ Answer → r.sequence ≡ q.sequence → turn_accused k.taken q r ≡ Some accusation
      → reader_accused k q r ≡ Some accusation
  own_answer accusation says number accused =
      judged n q k known r Answer accusation says (rw (new, eq-eqb r.sequence q.sequence number) accused)

  by_turn : (accusation : Accusation) → IsInTurn n q → taken_accused q r ≡ Some accusation → turn_accused k.taken q r ≡ Some accusation
  by_turn accusation turn accused = elim known.taken [
    | inl taken ↦ rw (taken, in_turn) accused
    | inr zero ↦ subst (λ o. turn_accused o q r ≡ Some accusation) (sym zero.1)
        (cond-true (eqb q.sequence 0) (taken_accused q r) None (eq-eqb q.sequence 0 zero.0) ∙ accused)
  ]
    where
      in_turn : (eqb q.sequence 0 || eqb q.sequence (next_sequence n)) ≡ true
      in_turn = elim turn [
        | inl zero ↦ or_left (eqb q.sequence 0) (eqb q.sequence (next_sequence n)) (eq-eqb q.sequence 0 zero)
        | inr next ↦ or_right (eqb q.sequence 0) (eqb q.sequence (next_sequence n)) (eq-eqb q.sequence (next_sequence n) next)
      ]

  other_number : (s : Said) → said r ≡ s → s ≢ Damage → r.sequence ≢ q.sequence → (s ≡ Busy → r.sequence ≢ 0) → reader_accused k q r ≡ Some AnotherNumber
  other_number Busy says _ differs above =
      judged n q k known r Busy AnotherNumber says (rw (ne_eqb r.sequence q.sequence differs, ne_eqb r.sequence 0 (above refl)))
  other_number Damage says none differs above = absurd (none refl)
  other_number Refusal says _ differs above =
      judged n q k known r Refusal AnotherNumber says (rw (ne_eqb r.sequence q.sequence differs))
  other_number Answer says _ differs above =
      judged n q k known r Answer AnotherNumber says (rw (new, ne_eqb r.sequence q.sequence differs))

pub checks_differ : (c d : CheckKind) → c ≢ d → same_check c d ≡ false
checks_differ Sum Sum other = absurd (other refl)
checks_differ Crc Crc other = absurd (other refl)
checks_differ _ _ other = refl

pub checks_same : (c d : CheckKind) → c ≡ d → same_check c d ≡ true
checks_same Sum Sum same = refl
checks_same Crc Crc same = refl
checks_same _ _ same = cc

module _ (n : ℕ) (q : Packet) (k : Known) (known : IsFresh n q k) (r : Packet) (other : q.sequence ≢ n) where
  -- a reply but BUSY has the packet's number
  its_number : (s : Said) → said r ≡ s → FitsNumber q r → Busy ≢ s → r.sequence ≡ q.sequence
  its_number s says (inl own) other_said = own
  its_number s says (inr zero) other_said = absurd (other_said (sym zero.0 ∙ says))

  other_check : (s : Said) → said r ≡ s → s ≢ Damage → FitsNumber q r → r.check ≢ q.check → (s ≡ Answer → IsInTurn n q) → reader_accused k q r ≡ Some AnotherCheck
  other_check Busy says _ fits differs turn =
      judged n q k known r Busy AnotherCheck says (elim fits [
        | inl own ↦ rw (eq-eqb r.sequence q.sequence own, checks_differ r.check q.check differs)
        | inr zero ↦ rw (or_right (eqb r.sequence q.sequence) (eqb r.sequence 0) (eq-eqb r.sequence 0 zero.1), checks_differ r.check q.check differs)
      ])
  other_check Damage says none fits differs turn = absurd (none refl)
  other_check Refusal says _ fits differs turn =
      judged n q k known r Refusal AnotherCheck says
      (rw (eq-eqb r.sequence q.sequence (its_number Refusal says fits (λ e. absurd cc)), checks_differ r.check q.check differs))
  other_check Answer says _ fits differs turn =
      own_answer n q k known r other AnotherCheck says (its_number Answer says fits (λ e. absurd cc))
      (by_turn n q k known r other AnotherCheck (turn refl) (rw (checks_differ r.check q.check differs)))

  -- it was taken now, and is accused for what it is read as
  taken_now : (accusation : Accusation) → IsTaken n q r → reading_accused (reply_told r) q ≡ Some accusation → reader_accused k q r ≡ Some accusation
  taken_now accusation taken accused =
      own_answer n q k known r other accusation taken.says taken.same
      (by_turn n q k known r other accusation taken.turn (rw (checks_same r.check q.check taken.check) accused))

  refuses_zero : said r ≡ Refusal → q.sequence ≡ 0 → r.sequence ≡ q.sequence → r.check ≡ q.check → reader_accused k q r ≡ Some RefusedZero
  refuses_zero says zero own check =
      judged n q k known r Refusal RefusedZero says
      (rw (eq-eqb r.sequence q.sequence own, checks_same r.check q.check check, eq-eqb q.sequence 0 zero))

  takes_third : said r ≡ Answer → r.sequence ≡ q.sequence → q.sequence ≢ 0 → q.sequence ≢ next_sequence n → reader_accused k q r ≡ Some TakenOutOfTurn
  takes_third says own above third =
      own_answer n q k known r other TakenOutOfTurn says own (elim known.taken [
        | inl taken ↦ rw (taken, ne_eqb q.sequence 0 above, ne_eqb q.sequence (next_sequence n) third, ne_eqb q.sequence n other)
        | inr zero ↦ absurd (above zero.0)
      ])

  unfit : (command : Command) (told : Reply) → asked q ≡ Ok command → reply_told r ≡ Ok told → reply_fits command told ≡ false
      → reading_accused (reply_told r) q ≡ Some UnfitReply
  unfit command told asks tells fits = rw (tells, asks, fits)

  no_plain : (told : Reply) → IsEvent told → is_plain told ≡ false
  no_plain reply.Ack event = absurd (event.no_ack refl)
  no_plain (reply.Nak m) event = absurd (event.no_nak m refl)
  no_plain told event = refl

  event_at_zero : (told : Reply) → q.sequence ≡ 0 → asked q ≡ Ok Poll → reply_told r ≡ Ok told → reply_fits Poll told ≡ true → IsEvent told
      → reading_accused (reply_told r) q ≡ Some EventAtZero
  event_at_zero told zero asks tells fits event = rw (tells, asks, fits, eq-eqb q.sequence 0 zero, no_plain told event)

  pub named : (accusation : Accusation) → Breaks accusation n q r → reader_accused k q r ≡ Some accusation
  named AnotherNumber (some, differs, above) = other_number n q k known r other (said r) refl some differs above
  named AnotherCheck (some, own, differs, turn) = other_check (said r) refl some own differs turn
  named RefusedZero (says, zero, own, check) = refuses_zero says zero own check
  named TakenOutOfTurn (says, own, above, third) = takes_third says own above third
  named UnreadReply (taken, fault, tells) = taken_now UnreadReply taken (ap (λ t. reading_accused t q) tells)
  named UnfitReply (taken, command, told, asks, tells, fits) = taken_now UnfitReply taken (unfit command told asks tells fits)
  named EventAtZero (taken, told, zero, asks, tells, fits, event) = taken_now EventAtZero taken (event_at_zero told zero asks tells fits event)
  named accusation never = absurd never
