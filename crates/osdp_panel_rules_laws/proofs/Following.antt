-- How a packet follows the last one is known, and told by what went over the line.
use Rattle.osdp_panel_rules_laws.proofs.Common.{◌≡◌, ◌≢◌, ℕ, ◌-◌, Bool, true, false, cond, eqb, Some, refl, sym, subst, ap, ◌∙◌, arith, cond-false, cond-true, cond_both, eq-eqb, eqb-true, eqb-false, ne_eqb, false_from_ne_true, false≢true, Packet, next_sequence, sequel_of, Known, Said, Sequel, Again, Anew, Altered, Next, Out, same_packet, is_packet, packet_is, Line, known_of, Comes, Follows, IsTo, IsWhether, WasAnswered}
use Rattle.osdp_panel_rules_laws.proofs.Hearing.{is_answered, is_on, knows_last, was_answered}
use Rattle.osdp_panel_rules_laws.proofs.Sensing.{sense_was_said, was_said_sense}

-- ---- how it follows

pub next_differs : (n : ℕ) → next_sequence n ≢ n
next_differs n same = omega (arith, same)

pub next_above_zero : (n : ℕ) → next_sequence n ≢ 0
next_above_zero n same = omega (arith, same)

abbrev by_next : Packet → Packet → Sequel
by_next p q = cond (eqb q.sequence (next_sequence p.sequence)) Next Out

abbrev by_last : Packet → Packet → Sequel
by_last p q = cond (eqb q.sequence p.sequence) Altered (by_next p q)

abbrev by_zero : Packet → Packet → Sequel
by_zero p q = cond (eqb q.sequence 0) Anew (by_last p q)

another : (p q : Packet) → q ≢ p → same_packet p q ≡ false
another p q other = false_from_ne_true (same_packet p q) (λ e. other (sym (packet_is p q e)))

numbers_differ : (p q : Packet) → q.sequence ≢ p.sequence → q ≢ p
numbers_differ p q other same = other (ap (λ (x : Packet). x.sequence) same)

comes_next : (p q : Packet) → q.sequence ≡ next_sequence p.sequence → sequel_of p q ≡ Next
comes_next p q is =
    let last : q.sequence ≢ p.sequence = λ same. next_differs p.sequence (sym is ∙ same) in
    cond-false (same_packet p q) Again (by_zero p q) (another p q (numbers_differ p q last))
    ∙ cond-false (eqb q.sequence 0) Anew (by_last p q) (ne_eqb q.sequence 0 (λ zero. next_above_zero p.sequence (sym is ∙ zero)))
    ∙ cond-false (eqb q.sequence p.sequence) Altered (by_next p q) (ne_eqb q.sequence p.sequence last)
    ∙ cond-true (eqb q.sequence (next_sequence p.sequence)) Next Out (eq-eqb q.sequence (next_sequence p.sequence) is)

pub is_sequel : (p q : Packet) (how : Sequel) → Comes p q how → sequel_of p q ≡ how
is_sequel p q Again same = cond-true (same_packet p q) Again (by_zero p q) (subst (λ x. same_packet p x ≡ true) (sym same) (is_packet p))
is_sequel p q Anew h =
    cond-false (same_packet p q) Again (by_zero p q) (another p q h.0)
    ∙ cond-true (eqb q.sequence 0) Anew (by_last p q) (eq-eqb q.sequence 0 h.1)
is_sequel p q Altered h =
    cond-false (same_packet p q) Again (by_zero p q) (another p q h.0)
    ∙ cond-false (eqb q.sequence 0) Anew (by_last p q) (ne_eqb q.sequence 0 h.1)
    ∙ cond-true (eqb q.sequence p.sequence) Altered (by_next p q) (eq-eqb q.sequence p.sequence h.2)
is_sequel p q Next is = comes_next p q is
is_sequel p q Out h =
    cond-false (same_packet p q) Again (by_zero p q) (another p q (numbers_differ p q h.1))
    ∙ cond-false (eqb q.sequence 0) Anew (by_last p q) (ne_eqb q.sequence 0 h.0)
    ∙ cond-false (eqb q.sequence p.sequence) Altered (by_next p q) (ne_eqb q.sequence p.sequence h.1)
    ∙ cond-false (eqb q.sequence (next_sequence p.sequence)) Next Out (ne_eqb q.sequence (next_sequence p.sequence) h.2)

not_same : (p q : Packet) → same_packet p q ≡ false → q ≢ p
not_same p q none same = false≢true (sym none ∙ subst (λ x. same_packet p x ≡ true) (sym same) (is_packet p))

comes_so : (p q : Packet) → Comes p q (sequel_of p q)
comes_so p q =
    cond_both (same_packet p q) Again (by_zero p q) (Comes p q) (λ same. sym (packet_is p q same))
    (λ none. cond_both (eqb q.sequence 0) Anew (by_last p q) (Comes p q) (λ zero. (not_same p q none, eqb-true q.sequence 0 zero))
    (λ above. cond_both (eqb q.sequence p.sequence) Altered (by_next p q) (Comes p q)
    (λ last. (not_same p q none, eqb-false q.sequence 0 above, eqb-true q.sequence p.sequence last))
    (λ other. cond_both (eqb q.sequence (next_sequence p.sequence)) Next Out (Comes p q) (λ next. eqb-true q.sequence (next_sequence p.sequence) next)
    (λ none. (eqb-false q.sequence 0 above, eqb-false q.sequence p.sequence other, eqb-false q.sequence (next_sequence p.sequence) none)))))

-- ---- what is known before it

module _ (address : ℕ) (earlier : Line) (moment : ℕ) (q : Packet) where
  abbrev k : Known
  k = known_of address earlier

  whether : (p : Packet) → k.last ≡ Some p → (b : Bool) → k.answered ≡ b → IsWhether b (WasAnswered address earlier p)
  whether p last true is = was_answered address earlier p (record { last = last; answered = is })
  whether p last false is = λ h. false≢true (sym is ∙ (is_answered address earlier p h).answered)

  -- after a packet it comes as what is known says
  pub follows_so : IsTo address q → (p : Packet) → k.last ≡ Some p
      → Follows address earlier moment q p k.answered k.said (sequel_of p q) (moment - k.moment)
  follows_so to p last =
      let on = is_on address earlier p last in
      let h = knows_last address earlier p on.since on.at on.of in
      rw (h.said_so, h.moment) record {
        since = on.since;
        number = on.of.number;
        at = on.at;
        before = on.of.before;
        whole = on.of.whole;
        to = to;
        last = on.of.last;
        alone = on.of.alone;
        answers = whether p last k.answered refl;
        says = sense_was_said p on.since;
        comes = comes_so p q;
        waits = refl;
      }

  -- .. and in no other way
  pub record IsKnown (p : Packet) (answered : Bool) (s : Said) (how : Sequel) (wait : ℕ) : Type 0 where
    pub last : k.last ≡ Some p
    pub answers : k.answered ≡ answered
    pub says : k.said ≡ s
    pub comes : sequel_of p q ≡ how
    pub waits : moment - k.moment ≡ wait

  known_whether : (p : Packet) (b : Bool) → k.last ≡ Some p → IsWhether b (WasAnswered address earlier p) → k.answered ≡ b
  known_whether p true last h = (is_answered address earlier p h).answered
  known_whether p false last none = false_from_ne_true k.answered (λ is. none (was_answered address earlier p (record { last = last; answered = is })))

  pub is_known : (p : Packet) (answered : Bool) (s : Said) (how : Sequel) (wait : ℕ) → Follows address earlier moment q p answered s how wait
      → IsKnown p answered s how wait
  is_known p answered s how wait f =
      let h = knows_last address earlier p f.since f.at
      (record { number = f.number; before = f.before; whole = f.whole; last = f.last; alone = f.alone }) in
      record {
        last = h.last;
        answers = known_whether p answered h.last f.answers;
        says = h.said_so ∙ was_said_sense p f.since s f.says;
        comes = is_sequel p q how f.comes;
        waits = ap (λ t. moment - t) h.moment ∙ sym f.waits;
      }
