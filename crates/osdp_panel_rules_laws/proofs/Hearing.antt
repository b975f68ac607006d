-- What the device knows is told by what went over the line.
use Rattle.osdp_panel_rules_laws.proofs.Common.{◌≡◌, inl, inr, ℕ, Bool, true, false, cond, eqb, ◌&&◌, ◌||◌, [], ◌∷◌, ◌++◌, Option, Some, None, refl, sym, subst, ap, ◌∙◌, and_parts, cond-false, cond-true, cond_both, eq-eqb, eqb-true, false≢true, or_cases, ne_eqb, eqb-false, Packet, after_packet, after_sent, is_last, nothing_known, said_first, said_to, is_answer, says, Known, Said, Noise, Answer, same_packet, is_packet, packet_is, Event, Line, came, device, known_of, said, Answers, Each, IsTo, LeavesAlone, LeavesOrIs, WasAnswered, WasSaidTo}
use Rattle.osdp_panel_rules_laws.proofs.Saying.{IsTold, is_told, says_is}
use Rattle.osdp_panel_rules_laws.proofs.Sensing.{each_map, sense}

pub same_some : {A : Type 0} (x y : A) → Some x ≡ Some y → x ≡ y
same_some x y e = cc

pub none_some : {A : Type 0} (x : A) → None ≡ Some x → ⊥
none_some x e = cc

pub last_said : (o : Option Packet) (k : Known) (r : Packet) → ((said_to o k r).last ≡ k.last) × ((said_to o k r).moment ≡ k.moment)
last_said None k r = (refl, refl)
last_said (Some p) k r = (refl, refl)

-- ---- a packet that comes

module _ (address : ℕ) where
  pub at_device : (q : Packet) (moment : ℕ) (k : Known) → IsTo address q → after_packet address moment k q ≡ after_sent moment k q
  at_device q moment k to =
      let elsewhere = cond (eqb q.address 127) nothing_known k in
      cond-false q.reply k (cond (eqb q.address address) (after_sent moment k q) elsewhere) to.asks
      ∙ cond-true (eqb q.address address) (after_sent moment k q) elsewhere (eq-eqb q.address address to.there)

  pub passes : (q : Packet) (number moment : ℕ) (k : Known) → LeavesAlone address (came number moment (Some q)) → after_packet address moment k q ≡ k
  passes q number moment k alone =
      let elsewhere = cond (eqb q.address 127) nothing_known k in
      let here = cond (eqb q.address address) (after_sent moment k q) elsewhere in
      cond_both q.reply k here (λ j. j ≡ k) (λ _. refl)
      (λ asks. let other = alone asks in
      cond-false (eqb q.address address) (after_sent moment k q) elsewhere (ne_eqb q.address address other.0)
      ∙ cond-false (eqb q.address 127) nothing_known k (ne_eqb q.address 127 other.1))

  -- what becomes of what is known, by what came
  pub data Came (q : Packet) (number moment : ℕ) (k : Known) : Type 0 where
    passed : LeavesAlone address (came number moment (Some q)) → after_packet address moment k q ≡ k → Came q number moment k
    heard : IsTo address q → after_packet address moment k q ≡ after_sent moment k q → Came q number moment k
    forgot : after_packet address moment k q ≡ nothing_known → Came q number moment k

  -- by the three tests
  came_by : (q : Packet) (number moment : ℕ) (k : Known) (reply here all : Bool) → q.reply ≡ reply → eqb q.address address ≡ here → eqb q.address 127 ≡ all
      → Came q number moment k
  came_by q number moment k true here all is at to =
      let alone : LeavesAlone address (came number moment (Some q)) = λ asks. absurd (false≢true (sym asks ∙ is)) in
      passed alone (passes q number moment k alone)
  came_by q number moment k false true all is at to =
      let here : IsTo address q = record { asks = is; there = eqb-true q.address address at } in
      heard here (at_device q moment k here)
  came_by q number moment k false false true is at to =
      let elsewhere = cond (eqb q.address 127) nothing_known k in
      forgot (cond-false q.reply k (cond (eqb q.address address) (after_sent moment k q) elsewhere) is
      ∙ cond-false (eqb q.address address) (after_sent moment k q) elsewhere at
      ∙ cond-true (eqb q.address 127) nothing_known k to)
  came_by q number moment k false false false is at to =
      let alone : LeavesAlone address (came number moment (Some q)) = λ asks. (eqb-false q.address address at, eqb-false q.address 127 to) in
      passed alone (passes q number moment k alone)

  pub came_so : (q : Packet) (number moment : ℕ) (k : Known) → Came q number moment k
  came_so q number moment k = came_by q number moment k q.reply (eqb q.address address) (eqb q.address 127) refl refl refl

  -- ---- the last packet

  pub record LastOf (line : Line) (p : Packet) (since : Line) (at : ℕ) : Type 0 where
    pub number : ℕ
    pub before : Line
    pub whole : line ≡ since ++ came number at (Some p) ∷ before
    pub last : IsTo address p
    pub alone : Each (LeavesAlone address) since

  pub record Knows (k : Known) (p : Packet) (since : Line) (at : ℕ) : Type 0 where
    pub last : k.last ≡ Some p
    pub moment : k.moment ≡ at
    pub said_so : k.said ≡ sense p since

  knows_same : (k j : Known) (p : Packet) (since : Line) (at : ℕ) → j ≡ k → Knows k p since at → Knows j p since at
  knows_same k j p since at same h = subst (λ x. Knows x p since at) (sym same) h

  said_so_to : (o : Option Packet) (k : Known) (p r : Packet) → o ≡ Some p → (said_to o k r).said ≡ said_first k.said (says p r)
  said_so_to None k p r is = absurd (none_some p is)
  said_so_to (Some x) k p r is = ap (λ y. said_first k.said (says y r)) (same_some x p is)

  knows_along : (since : Line) (number at : ℕ) (p : Packet) (before : Line) → IsTo address p → Each (LeavesAlone address) since
      → Knows (known_of address (since ++ came number at (Some p) ∷ before)) p since at
  knows_along [] number at p before to alone =
      knows_same (after_sent at (known_of address before) p) (after_packet address at (known_of address before) p) p [] at
      (at_device p at (known_of address before) to) (record { last = refl; moment = refl; said_so = refl })
  knows_along (device other ∷ since) number at p before to alone = absurd alone.0
  knows_along (came n t None ∷ since) number at p before to alone =
      let h = knows_along since number at p before to alone.1 in
      record { last = h.last; moment = h.moment; said_so = h.said_so }
  knows_along (came n t (Some q) ∷ since) number at p before to alone =
      let k = known_of address (since ++ came number at (Some p) ∷ before) in
      let h = knows_along since number at p before to alone.1 in
      knows_same k (after_packet address t k q) p (came n t (Some q) ∷ since) at (passes q n t k alone.0)
      (record { last = h.last; moment = h.moment; said_so = h.said_so })
  knows_along (said None ∷ since) number at p before to alone =
      let h = knows_along since number at p before to alone.1 in
      record { last = h.last; moment = h.moment; said_so = ap (λ s. said_first s Noise) h.said_so }
  knows_along (said (Some r) ∷ since) number at p before to alone =
      let k = known_of address (since ++ came number at (Some p) ∷ before) in
      let h = knows_along since number at p before to alone.1 in
      record {
        last = (last_said k.last k r).0 ∙ h.last;
        moment = (last_said k.last k r).1 ∙ h.moment;
        said_so = said_so_to k.last k p r h.last ∙ ap (λ s. said_first s (says p r)) h.said_so;
      }

  pub knows_last : (line : Line) (p : Packet) (since : Line) (at : ℕ) → LastOf line p since at → Knows (known_of address line) p since at
  knows_last line p since at h =
      subst (λ l. Knows (known_of address l) p since at) (sym h.whole) (knows_along since h.number at p h.before h.last h.alone)

  -- .. is on the line
  pub record IsOn (line : Line) (p : Packet) : Type 0 where
    pub since : Line
    pub at : ℕ
    pub of : LastOf line p since at

  on_later : (e : Event) (line : Line) (p : Packet) → LeavesAlone address e → IsOn line p → IsOn (e ∷ line) p
  on_later e line p alone h = record {
    since = e ∷ h.since;
    at = h.at;
    of = record {
      number = h.of.number;
      before = h.of.before;
      whole = ap (λ (l : Line). e ∷ l) h.of.whole;
      last = h.of.last;
      alone = (alone, h.of.alone);
    };
  }

  is_on_by : (q : Packet) (number moment : ℕ) (line : Line) (p : Packet) → Came q number moment (known_of address line)
      → ((known_of address line).last ≡ Some p → IsOn line p) → (known_of address (came number moment (Some q) ∷ line)).last ≡ Some p
      → IsOn (came number moment (Some q) ∷ line) p
  is_on_by q number moment line p (passed alone is) more last =
      on_later (came number moment (Some q)) line p alone (more (sym (ap (λ (k : Known). k.last) is) ∙ last))
  is_on_by q number moment line p (heard to is) more last =
      let same : q ≡ p = same_some q p (sym (ap (λ (k : Known). k.last) is) ∙ last) in
      record {
        since = [];
        at = moment;
        of = record {
          number = number;
          before = line;
          whole = ap (λ x. came number moment (Some x) ∷ line) same;
          last = subst (IsTo address) same to;
          alone = tt;
        };
      }
  is_on_by q number moment line p (forgot is) more last = absurd (none_some p (sym (ap (λ (k : Known). k.last) is) ∙ last))

  pub is_on : (line : Line) (p : Packet) → (known_of address line).last ≡ Some p → IsOn line p
  is_on [] p last = absurd (none_some p last)
  is_on (device other ∷ line) p last = absurd (none_some p last)
  is_on (came number moment None ∷ line) p last = on_later (came number moment None) line p tt (is_on line p last)
  is_on (came number moment (Some q) ∷ line) p last =
      is_on_by q number moment line p (came_so q number moment (known_of address line)) (is_on line p) last
  is_on (said None ∷ line) p last = on_later (said None) line p tt (is_on line p last)
  is_on (said (Some r) ∷ line) p last =
      on_later (said (Some r)) line p tt (is_on line p (sym (last_said (known_of address line).last (known_of address line) r).0 ∙ last))

  -- ---- what was answered

  pub record Answered (k : Known) (p : Packet) : Type 0 where
    pub last : k.last ≡ Some p
    pub answered : k.answered ≡ true

  answered_same : (k j : Known) (p : Packet) → j ≡ k → Answered k p → Answered j p
  answered_same k j p same h = subst (λ x. Answered x p) (sym same) h

  or_true : (a b : Bool) → a ≡ true → (a || b) ≡ true
  or_true true b is = refl
  or_true false b is = absurd (false≢true is)

  or_second : (a b : Bool) → b ≡ true → (a || b) ≡ true
  or_second true b is = refl
  or_second false b is = is

  both_true : (a b : Bool) → a ≡ true → b ≡ true → (a && b) ≡ true
  both_true a b ta tb = cc

  answered_said : (o : Option Packet) (k : Known) (r : Packet) → k.answered ≡ true → (said_to o k r).answered ≡ true
  answered_said None k r is = is
  answered_said (Some p) k r is = or_true k.answered (is_answer (says p r)) is

  answers_last : (o : Option Packet) (k : Known) (p r : Packet) → o ≡ Some p → Answers p r → (said_to o k r).answered ≡ true
  answers_last None k p r is answers = absurd (none_some p is)
  answers_last (Some x) k p r is answers =
      or_second k.answered (is_answer (says x r))
      (subst (λ y. is_answer (says y r) ≡ true) (sym (same_some x p is)) (ap is_answer (says_is p r Answer answers)))

  -- a copy of the last packet
  copy_last : (o : Option Packet) (p : Packet) → o ≡ Some p → is_last o p ≡ true
  copy_last None p is = absurd (none_some p is)
  copy_last (Some x) p is = subst (λ y. same_packet y p ≡ true) (sym (same_some x p is)) (is_packet p)

  stays_along : (later earlier : Line) (p : Packet) → IsTo address p → Each (LeavesOrIs address p) later → Answered (known_of address earlier) p
      → Answered (known_of address (later ++ earlier)) p
  stays_along [] earlier p to each h = h
  stays_along (device other ∷ later) earlier p to each h = absurd each.0
  stays_along (came n t None ∷ later) earlier p to each h =
      let g = stays_along later earlier p to each.1 h in
      record { last = g.last; answered = g.answered }
  stays_along (came n t (Some q) ∷ later) earlier p to each h =
      let k = known_of address (later ++ earlier) in
      let g = stays_along later earlier p to each.1 h in
      elim each.0 [
        | inl copy ↦ answered_same (after_sent t k q) (after_packet address t k q) p
            (at_device q t k (subst (IsTo address) (sym copy) to))
            (record {
              last = ap Some copy;
              answered = both_true (is_last k.last q) k.answered (subst (λ x. is_last k.last x ≡ true) (sym copy) (copy_last k.last p g.last)) g.answered;
            })
        | inr alone ↦ answered_same k (after_packet address t k q) p (passes q n t k alone) g
      ]
  stays_along (said None ∷ later) earlier p to each h =
      let g = stays_along later earlier p to each.1 h in
      record { last = g.last; answered = g.answered }
  stays_along (said (Some r) ∷ later) earlier p to each h =
      let k = known_of address (later ++ earlier) in
      let g = stays_along later earlier p to each.1 h in
      record { last = (last_said k.last k r).0 ∙ g.last; answered = answered_said k.last k r g.answered }

  last_along : (since : Line) (number at : ℕ) (p : Packet) (before : Line) → IsTo address p → Each (LeavesOrIs address p) since
      → (known_of address (since ++ came number at (Some p) ∷ before)).last ≡ Some p
  last_along [] number at p before to each = ap (λ (k : Known). k.last) (at_device p at (known_of address before) to)
  last_along (device other ∷ since) number at p before to each = absurd each.0
  last_along (came n t None ∷ since) number at p before to each = last_along since number at p before to each.1
  last_along (came n t (Some q) ∷ since) number at p before to each =
      let k = known_of address (since ++ came number at (Some p) ∷ before) in
      elim each.0 [
        | inl copy ↦ ap (λ (j : Known). j.last) (at_device q t k (subst (IsTo address) (sym copy) to)) ∙ ap Some copy
        | inr alone ↦ ap (λ (j : Known). j.last) (passes q n t k alone) ∙ last_along since number at p before to each.1
      ]
  last_along (said None ∷ since) number at p before to each = last_along since number at p before to each.1
  last_along (said (Some r) ∷ since) number at p before to each =
      let k = known_of address (since ++ came number at (Some p) ∷ before) in
      (last_said k.last k r).0 ∙ last_along since number at p before to each.1

  pub is_answered : (line : Line) (p : Packet) → WasAnswered address line p → Answered (known_of address line) p
  is_answered line p h =
      let w = h.1 in
      let earlier = w.between ++ came w.number w.at (Some p) ∷ w.before in
      let k = known_of address earlier in
      let last = last_along w.between w.number w.at p w.before w.to w.until in
      subst (λ l. Answered (known_of address l) p) (sym w.whole)
      (stays_along w.later (said (Some h.0) ∷ earlier) p w.to w.after
      (record { last = (last_said k.last k h.0).0 ∙ last; answered = answers_last k.last k p h.0 last h.2 }))

  -- what the device said to a packet is said to the last one
  pub said_last : (line : Line) (p r : Packet) → WasSaidTo address line p r → (known_of address line).last ≡ Some p
  said_last line p r w =
      let earlier = w.between ++ came w.number w.at (Some p) ∷ w.before in
      let k = known_of address earlier in
      subst (λ l. (known_of address l).last ≡ Some p) (sym w.whole)
      (rest w.later ((last_said k.last k r).0 ∙ last_along w.between w.number w.at p w.before w.to w.until) w.after)
    where
      rest : (later : Line) → (known_of address (said (Some r) ∷ (w.between ++ came w.number w.at (Some p) ∷ w.before))).last ≡ Some p
          → Each (LeavesOrIs address p) later
          → (known_of address (later ++ said (Some r) ∷ (w.between ++ came w.number w.at (Some p) ∷ w.before))).last ≡ Some p
      rest [] h each = h
      rest (device other ∷ later) h each = absurd each.0
      rest (came n t None ∷ later) h each = rest later h each.1
      rest (came n t (Some q) ∷ later) h each =
          let k = known_of address (later ++ said (Some r) ∷ (w.between ++ came w.number w.at (Some p) ∷ w.before)) in
          elim each.0 [
            | inl copy ↦ ap (λ (j : Known). j.last) (at_device q t k (subst (IsTo address) (sym copy) w.to)) ∙ ap Some copy
            | inr alone ↦ ap (λ (j : Known). j.last) (passes q n t k alone) ∙ rest later h each.1
          ]
      rest (said None ∷ later) h each = rest later h each.1
      rest (said (Some x) ∷ later) h each =
          let k = known_of address (later ++ said (Some r) ∷ (w.between ++ came w.number w.at (Some p) ∷ w.before)) in
          (last_said k.last k x).0 ∙ rest later h each.1

  -- ---- what is known as answered was

  answered_later : (e : Event) (line : Line) (p : Packet) → LeavesOrIs address p e → WasAnswered address line p → WasAnswered address (e ∷ line) p
  answered_later e line p only h =
      let w = h.1 in (
        h.0,
        record {
          later = e ∷ w.later;
          between = w.between;
          number = w.number;
          at = w.at;
          before = w.before;
          whole = ap (λ (l : Line). e ∷ l) w.whole;
          to = w.to;
          after = (only, w.after);
          until = w.until;
        },
        h.2,
      )

  alone_or_is : (p : Packet) (e : Event) → LeavesAlone address e → LeavesOrIs address p e
  alone_or_is p (device other) alone = alone
  alone_or_is p (came number moment None) alone = alone
  alone_or_is p (came number moment (Some q)) alone = inr alone
  alone_or_is p (said reply) alone = alone

  answered_now : (line : Line) (p r : Packet) → IsOn line p → Answers p r → WasAnswered address (said (Some r) ∷ line) p
  answered_now line p r on answers = (
    r,
    record {
      later = [];
      between = on.since;
      number = on.of.number;
      at = on.at;
      before = on.of.before;
      whole = ap (λ (l : Line). said (Some r) ∷ l) on.of.whole;
      to = on.of.last;
      after = tt;
      until = each_map (LeavesAlone address) (LeavesOrIs address p) (alone_or_is p) on.since on.of.alone;
    },
    answers,
  )

  -- a reply that is known as an answer
  answer_is : (p r : Packet) → is_answer (says p r) ≡ true → Answers p r
  answer_is p r is = by_said (says p r) is (is_told p r)
    where
      by_said : (s : Said) → is_answer s ≡ true → IsTold p r s → Answers p r
      by_said Answer is told = told
      by_said s is told = absurd (false≢true is)

  last_copy : (o : Option Packet) (q p : Packet) → is_last o q ≡ true → q ≡ p → o ≡ Some p
  last_copy None q p is same = absurd (false≢true is)
  last_copy (Some x) q p is same = ap Some (packet_is x q is ∙ same)

  by_reply : (o : Option Packet) (k : Known) (line : Line) (p r : Packet) → o ≡ Some p → (said_to o k r).answered ≡ true
      → (k.answered ≡ true → WasAnswered address line p) → IsOn line p → WasAnswered address (said (Some r) ∷ line) p
  by_reply None k line p r is answered more on = absurd (none_some p is)
  by_reply (Some x) k line p r is answered more on =
      elim (or_cases k.answered (is_answer (says x r)) answered) [
        | inl before ↦ answered_later (said (Some r)) line p tt (more before)
        | inr now ↦ answered_now line p r on (answer_is p r (subst (λ y. is_answer (says y r) ≡ true) (same_some x p is) now))
      ]

  by_came : (q : Packet) (number moment : ℕ) (line : Line) (p : Packet) → Came q number moment (known_of address line)
      → (Answered (known_of address line) p → WasAnswered address line p)
      → Answered (known_of address (came number moment (Some q) ∷ line)) p → WasAnswered address (came number moment (Some q) ∷ line) p
  by_came q number moment line p (passed alone is) more h =
      answered_later (came number moment (Some q)) line p (inr alone) (more (subst (λ k. Answered k p) is h))
  by_came q number moment line p (heard to is) more h =
      let k = known_of address line in
      let g : Answered (after_sent moment k q) p = subst (λ j. Answered j p) is h in
      let same : q ≡ p = same_some q p g.last in
      let parts = and_parts (is_last k.last q) k.answered g.answered in
      answered_later (came number moment (Some q)) line p (inl same) (more (record { last = last_copy k.last q p parts.0 same; answered = parts.1 }))
  by_came q number moment line p (forgot is) more h = absurd (none_some p (subst (λ k. Answered k p) is h).last)

  pub was_answered : (line : Line) (p : Packet) → Answered (known_of address line) p → WasAnswered address line p
  was_answered [] p h = absurd (none_some p h.last)
  was_answered (device other ∷ line) p h = absurd (none_some p h.last)
  was_answered (came number moment None ∷ line) p h =
      answered_later (came number moment None) line p tt (was_answered line p (record { last = h.last; answered = h.answered }))
  was_answered (came number moment (Some q) ∷ line) p h =
      by_came q number moment line p (came_so q number moment (known_of address line)) (was_answered line p) h
  was_answered (said None ∷ line) p h =
      answered_later (said None) line p tt (was_answered line p (record { last = h.last; answered = h.answered }))
  was_answered (said (Some r) ∷ line) p h =
      let k = known_of address line in
      let last : k.last ≡ Some p = sym (last_said k.last k r).0 ∙ h.last in
      by_reply k.last k line p r last h.answered (λ before. was_answered line p (record { last = last; answered = before })) (is_on line p last)
