-- Rounds of a bus: each is an exchange of one entry, the turn goes around those whose sessions last, and an entry that had one is idle.
use Rattle.std.proofs.Common.{◌≡◌, ◌≤◌, ◌<◌, ◌+◌, ◌-◌, ◌⊎◌, ℕ, zero, suc, cond, eqb, List, [], ◌∷◌, length, Some, None, refl, sym, subst, ap, ◌∙◌, inl, inr, arith}
use Rattle.osdp_bus_progress.proofs.Common.{eqb_tells, Command, ComesDue, StaysInRange, Answer, holder, MovesFit, Link, is_false, is_true, NetMovesFit, Net, run, site_at, IsEmpty, net_round, view, IsRound, at_length, fits_then, net_more, rounds, LineState, FollowsSites, moves_of, some_same, IsItsRound, LinkLaws}
use Rattle.osdp_link_laws.specs.Link as link
use Rattle.osdp_link_laws.specs.Progress as progress
use Rattle.osdp_shared_line.specs.Line as line
use Rattle.osdp_shared_line.proofs.Reading.{IsSeen}
use Rattle.osdp_sim_bus.specs.Runs as simulation
use Rattle.osdp_bus_progress.proofs.Round.{AtRest, NextRound, after_round, next_round, round_net}
use Rattle.osdp_bus_progress.proofs.Ends.{NoEnd, lasts_there, none_before_rounds}
use Rattle.osdp_bus_progress.proofs.Turns.{IsAway, away_next, once_around}

-- so many turns of each of so many entries
abbrev pub all_turns : ℕ → ℕ → ℕ
all_turns zero count = 0
all_turns (suc turns) count = count + all_turns turns count

module _ {H : Type 0} (answer_of : H → Command → Answer) (after : H → Command → H) (laws : LinkLaws answer_of after) where
  module _ (ranges : StaysInRange) (comes : ComesDue) (count wait k : ℕ) where
    -- ---- rounds

    abbrev Later : ℕ → LineState H → Net H → Net H
    Later m s n = run answer_of after (moves_of answer_of after (rounds m wait) s) n

    -- the simulation follows the sites after so many rounds at most
    abbrev pub Goes : ℕ → LineState H → Net H → Type 0
    Goes m s n = (r : ℕ) → r ≤ m → FollowsSites (simulation.run answer_of after (rounds r wait) s) (Later r s n)

    -- the rounds of the reader at place k among those of all
    pub record HasRounds (t : line.Site H) (m away : ℕ) (s : LineState H) (n : Net H) : Type 0 where
      pub moments : List ℕ
      pub seen_then : IsSeen answer_of after laws.known k (link.run answer_of after (progress.rounds moments) (view k t n)) (Later m s n)
      pub fits : MovesFit answer_of after (progress.rounds moments) (view k t n)
      pub late : progress.AreLate answer_of after moments (view k t n)
      pub enough : (turns : ℕ) → all_turns turns count + away ≤ m + (count - 1) → turns ≤ length moments
      pub empty : IsEmpty (Later m s n)
      pub free : 1 ≤ m → holder (simulation.run answer_of after (rounds m wait) s).bus ≡ None

    -- nobody holds the line after the last round, if that is the first
    free_on : (m : ℕ) (s : LineState H) → holder s.bus ≡ None → (1 ≤ m → holder (simulation.run answer_of after (rounds m wait) s).bus ≡ None)
        → holder (simulation.run answer_of after (rounds m wait) s).bus ≡ None
    free_on zero s here later = here
    free_on (suc m) s here later = later (omega arith)

    no_turn : (turns away : ℕ) → 0 < count → all_turns turns count + away ≤ 0 + (count - 1) → turns ≤ 0
    no_turn zero away some few = omega arith
    no_turn (suc turns) away some few = absurd (omega (arith, some, few))

    own_turn : (turns m more away : ℕ) → 0 < count → ((less : ℕ) → all_turns less count + (count - 1) ≤ m + (count - 1) → less ≤ more)
        → all_turns turns count + away ≤ suc m + (count - 1) → turns ≤ suc more
    own_turn zero m more away some rest few = omega arith
    own_turn (suc turns) m more away some rest few = let one = rest turns (omega (arith, some, few)) in omega (arith, one)

    module _ (m entry : ℕ) (s : LineState H) (n : Net H) (it : NextRound answer_of after laws ranges comes count wait k m entry s n) (t : line.Site H) (there : site_at k n.sites ≡ Some t) where
      abbrev later_net : Net H
      later_net = round_net answer_of after laws count it.at it.now n

      abbrev own_round_is : IsRound answer_of after laws.known count k it.at it.now t n later_net
      own_round_is = it.each k t there

      -- all rounds are this one, and the others
      goes_on : Later (suc m) s n ≡ Later m (after_round answer_of after laws wait s) later_net
      goes_on =
          ap (λ ms. run answer_of after ms n) (it.moves m)
          ∙ net_more answer_of after (net_round count (it.at, it.now)) (moves_of answer_of after (rounds m wait) (after_round answer_of after laws wait s)) n

      abbrev Then : ℕ → Type 0
      Then away = HasRounds own_round_is.seen.site m away (after_round answer_of after laws wait s) later_net

      -- its own turn: all others may come before the next
      own_round : it.at ≡ k → (away : ℕ) → 0 < count → Then (count - 1) → HasRounds t (suc m) away s n
      own_round own away some more =
          let now = it.now in
          let through : view k own_round_is.seen.site later_net ≡ link.run answer_of after (progress.round now) (view k t n) =
          own_round_is.seen.seen ∙ ap (λ b. link.run answer_of after (cond b (progress.round now) []) (view k t n)) (is_true it.at k own) in
          let first = subst (λ b. MovesFit answer_of after (cond b (progress.round now) []) (view k t n)) (is_true it.at k own) own_round_is.fits in
          record {
            moments = now ∷ more.moments;
            seen_then = subst (IsSeen answer_of after laws.known k (link.run answer_of after (progress.rounds (now ∷ more.moments)) (view k t n))) (sym goes_on)
                (record {
                  site = more.seen_then.site;
                  there = more.seen_then.there;
                  seen = more.seen_then.seen ∙ ap (link.run answer_of after (progress.rounds more.moments)) through;
                });
            fits = (first.0, (first.1.0, (first.1.1.0, subst (MovesFit answer_of after (progress.rounds more.moments)) through more.fits)));
            late = (it.late t there, subst (progress.AreLate answer_of after more.moments) through more.late);
            enough = λ turns few. own_turn turns m (length more.moments) away some more.enough few;
            empty = subst IsEmpty (sym goes_on) more.empty;
            free = λ some. free_on m (after_round answer_of after laws wait s) it.free more.free;
          }

      -- a turn of another that comes before it: one less
      other_round : (it.at ≡ k → ⊥) → (away : ℕ) → 1 ≤ away → Then (away - 1) → HasRounds t (suc m) away s n
      other_round other away some more =
          let stays : view k own_round_is.seen.site later_net ≡ view k t n =
          own_round_is.seen.seen ∙ ap (λ b. link.run answer_of after (cond b (progress.round it.now) []) (view k t n)) (is_false it.at k other) in
          record {
            moments = more.moments;
            seen_then = subst (IsSeen answer_of after laws.known k (link.run answer_of after (progress.rounds more.moments) (view k t n))) (sym goes_on)
                (record {
                  site = more.seen_then.site;
                  there = more.seen_then.there;
                  seen = more.seen_then.seen ∙ ap (link.run answer_of after (progress.rounds more.moments)) stays;
                });
            fits = subst (MovesFit answer_of after (progress.rounds more.moments)) stays more.fits;
            late = subst (progress.AreLate answer_of after more.moments) stays more.late;
            enough = λ turns few. more.enough turns (omega (arith, few, some));
            empty = subst IsEmpty (sym goes_on) more.empty;
            free = λ some. free_on m (after_round answer_of after laws wait s) it.free more.free;
          }

    -- what is left after this round
    goes_later : (m entry : ℕ) (s : LineState H) (n : Net H) (it : NextRound answer_of after laws ranges comes count wait k m entry s n) → Goes (suc m) s n
        → Goes m (after_round answer_of after laws wait s) (round_net answer_of after laws count it.at it.now n)
    goes_later m entry s n it goes r few =
        subst (FollowsSites (simulation.run answer_of after (rounds r wait) (after_round answer_of after laws wait s)))
        (ap (λ ms. run answer_of after ms n) (it.moves r)
        ∙ net_more answer_of after (net_round count (it.at, it.now)) (moves_of answer_of after (rounds r wait) (after_round answer_of after laws wait s)) n)
        (goes (suc r) (omega (arith, few)))

    fits_later : (m entry : ℕ) (s : LineState H) (n : Net H) (it : NextRound answer_of after laws ranges comes count wait k m entry s n)
        → NetMovesFit answer_of after (moves_of answer_of after (rounds (suc m) wait) s) n
        → NetMovesFit answer_of after (moves_of answer_of after (rounds m wait) (after_round answer_of after laws wait s)) (round_net answer_of after laws count it.at it.now n)
    fits_later m entry s n it fits =
        fits_then answer_of after (net_round count (it.at, it.now)) (moves_of answer_of after (rounds m wait) (after_round answer_of after laws wait s)) n
        (subst (λ ms. NetMovesFit answer_of after ms n) (it.moves m) fits)

    pub all_rounds : (m entry away : ℕ) (s : LineState H) (n : Net H) → AtRest answer_of after laws count wait k entry s n → Goes m s n
        → NetMovesFit answer_of after (moves_of answer_of after (rounds m wait) s) n
        → NoEnd k (simulation.run answer_of after (rounds m wait) s) → (t : line.Site H) → site_at k n.sites ≡ Some t
        → IsAway count entry k away → HasRounds t m away s n
    all_rounds zero entry away s n h goes fits lasts t at is = record {
      moments = [];
      seen_then = record { site = t; there = at; seen = refl };
      fits = tt;
      late = tt;
      enough = λ turns few. no_turn turns away (let below = h.below in omega (arith, below)) few;
      empty = h.empty;
      free = λ some. absurd (omega (arith, some));
    }
    all_rounds (suc m) entry away s n h goes fits lasts t at is =
        let it = next_round answer_of after laws ranges comes count wait k m entry s n h (goes 1 (omega arith)) fits (none_before_rounds answer_of after k m wait _ lasts) in
        let below = h.below in
        let same = h.count_is in
        let within = at_length k t n.sites at in
        let there : k < count = omega (arith, within, same) in
        let seen = (it.each k t at).seen in
        let later : (less : ℕ) → IsAway count it.next k less → Then m entry s n it t at less =
        λ less here. all_rounds m it.next less (after_round answer_of after laws wait s) (round_net answer_of after laws count it.at it.now n) it.rest (goes_later m entry s n it goes)
        (fits_later m entry s n it fits) lasts seen.site seen.there here in
        elim (eqb_tells it.at k) [
          | inl equal ↦ own_round m entry s n it t at equal.1 away (omega (arith, below)) (later (count - 1) (once_around count it.next k it.rest.below there))
          | inr differs ↦ (
              let less = away_next count entry it.at k it.next away h.below it.few there (it.before differs.1) it.after_it is in
              other_round m entry s n it t at differs.1 away less.0 (later (away - 1) less.1))
        ]

    -- ---- between the rounds

    -- what stands after so many rounds
    pub record Stands (m : ℕ) (s : LineState H) (n : Net H) : Type 0 where
      pub entry : ℕ
      pub rest : AtRest answer_of after laws count wait k entry (simulation.run answer_of after (rounds m wait) s) (Later m s n)

    pub stands : (m entry : ℕ) (s : LineState H) (n : Net H) → AtRest answer_of after laws count wait k entry s n → Goes m s n
        → NetMovesFit answer_of after (moves_of answer_of after (rounds m wait) s) n → NoEnd k (simulation.run answer_of after (rounds m wait) s) → Stands m s n
    stands zero entry s n h goes fits lasts = record { entry = entry; rest = h }
    stands (suc m) entry s n h goes fits lasts =
        let it = next_round answer_of after laws ranges comes count wait k m entry s n h (goes 1 (omega arith)) fits (none_before_rounds answer_of after k m wait _ lasts) in
        let more = stands m it.next (after_round answer_of after laws wait s) (round_net answer_of after laws count it.at it.now n) it.rest (goes_later m entry s n it goes)
        (fits_later m entry s n it fits) lasts in
        record {
          entry = more.entry;
          rest = subst (AtRest answer_of after laws count wait k more.entry (simulation.run answer_of after (rounds (suc m) wait) s))
              (sym (goes_on m entry s n it h.there.0 h.there.1)) more.rest;
        }

    -- the controller of the reader at place k waits for no answer
    abbrev pub Idles : Net H → Type 0
    Idles n = (t : line.Site H) → site_at k n.sites ≡ Some t → progress.IsAtRest (view k t n)

    -- so it is after a round of its own, and stays so in a round of another
    idle_next : (m entry : ℕ) (s : LineState H) (n : Net H) (it : NextRound answer_of after laws ranges comes count wait k m entry s n)
        → AtRest answer_of after laws count wait k entry s n → NoEnd k (after_round answer_of after laws wait s) → Idles n ⊎ (it.at ≡ k)
        → Idles (round_net answer_of after laws count it.at it.now n)
    idle_next m entry s n it h lasts known t at =
        let net = round_net answer_of after laws count it.at it.now n in
        let old = h.there in
        let seen = (it.each k old.0 old.1).seen in
        let is : view k t net ≡ link.run answer_of after (cond (eqb it.at k) (progress.round it.now) []) (view k old.0 n) =
        subst (λ u. view k u net ≡ link.run answer_of after (cond (eqb it.at k) (progress.round it.now) []) (view k old.0 n))
        (some_same seen.site t (sym seen.there ∙ at)) seen.seen in
        elim (eqb_tells it.at k) [
          | inl equal ↦ (
              let own = is ∙ ap (λ b. link.run answer_of after (cond b (progress.round it.now) []) (view k old.0 n)) equal.0 in
              elim (it.own old.0 old.1 equal.1).1 [
                | inl closed ↦ absurd (lasts_there k (after_round answer_of after laws wait s) net it.rest.follows it.rest.begun lasts t at
                    (ap (λ (l : Link H). l.controller.session.state) own ∙ closed))
                | inr calm ↦ subst progress.IsAtRest (sym own) calm.1
              ])
          | inr differs ↦ (
              let stays = is ∙ ap (λ b. link.run answer_of after (cond b (progress.round it.now) []) (view k old.0 n)) differs.0 in
              elim known [
                | inl idle ↦ subst progress.IsAtRest (sym stays) (idle old.0 old.1)
                | inr own ↦ absurd (differs.1 own)
              ])
        ]

    -- it is idle, or one of these rounds is its own
    abbrev pub IdlesOrWill : ℕ → LineState H → Net H → Type 0
    IdlesOrWill m s n = Idles n ⊎ ((j : ℕ) × (j < m) × IsItsRound k wait (simulation.run answer_of after (rounds j wait) s))

    will_next : (m entry : ℕ) (s : LineState H) (n : Net H) (it : NextRound answer_of after laws ranges comes count wait k m entry s n)
        → AtRest answer_of after laws count wait k entry s n → NoEnd k (after_round answer_of after laws wait s) → IdlesOrWill (suc m) s n
        → IdlesOrWill m (after_round answer_of after laws wait s) (round_net answer_of after laws count it.at it.now n)
    will_next m entry s n it h lasts (inl idle) = inl (idle_next m entry s n it h lasts (inl idle))
    will_next m entry s n it h lasts (inr (zero, few, own)) = inl (idle_next m entry s n it h lasts (inr (some_same it.at k (sym it.who ∙ own))))
    will_next m entry s n it h lasts (inr (suc j, few, own)) = inr (j, omega (arith, few), own)

    pub idles_later : (m entry : ℕ) (s : LineState H) (n : Net H) → AtRest answer_of after laws count wait k entry s n → Goes m s n
        → NetMovesFit answer_of after (moves_of answer_of after (rounds m wait) s) n → NoEnd k (simulation.run answer_of after (rounds m wait) s)
        → IdlesOrWill m s n → Idles (Later m s n)
    idles_later zero entry s n h goes fits lasts (inl idle) = idle
    idles_later zero entry s n h goes fits lasts (inr (j, few, own)) = absurd (omega (arith, few))
    idles_later (suc m) entry s n h goes fits lasts will =
        let before = none_before_rounds answer_of after k m wait _ lasts in
        let it = next_round answer_of after laws ranges comes count wait k m entry s n h (goes 1 (omega arith)) fits before in
        subst Idles (sym (goes_on m entry s n it h.there.0 h.there.1))
        (idles_later m it.next (after_round answer_of after laws wait s) (round_net answer_of after laws count it.at it.now n) it.rest
        (goes_later m entry s n it goes) (fits_later m entry s n it fits) lasts (will_next m entry s n it h before will))

    -- after so many turns of others at most it has its round
    pub its_round : (away entry : ℕ) (s : LineState H) (n : Net H) → AtRest answer_of after laws count wait k entry s n → Goes (suc away) s n
        → NetMovesFit answer_of after (moves_of answer_of after (rounds (suc away) wait) s) n
        → NoEnd k (simulation.run answer_of after (rounds (suc away) wait) s) → k < count → IsAway count entry k away
        → (j : ℕ) × (j ≤ away) × IsItsRound k wait (simulation.run answer_of after (rounds j wait) s)
    its_round zero entry s n h goes fits lasts there is =
        let it = next_round answer_of after laws ranges comes count wait k 0 entry s n h (goes 1 (omega arith)) fits (none_before_rounds answer_of after k 0 wait (after_round answer_of after laws wait s) lasts) in
        elim (eqb_tells it.at k) [
          | inl equal ↦ (0, omega arith, it.who ∙ ap Some equal.1)
          | inr differs ↦ absurd (let less = away_next count entry it.at k it.next 0 h.below it.few there (it.before differs.1) it.after_it is in omega (arith, less.0))
        ]
    its_round (suc away) entry s n h goes fits lasts there is =
        let it = next_round answer_of after laws ranges comes count wait k (suc away) entry s n h (goes 1 (omega arith)) fits
        (none_before_rounds answer_of after k (suc away) wait (after_round answer_of after laws wait s) lasts) in
        elim (eqb_tells it.at k) [
          | inl equal ↦ (0, omega arith, it.who ∙ ap Some equal.1)
          | inr differs ↦ (
              let less = away_next count entry it.at k it.next (suc away) h.below it.few there (it.before differs.1) it.after_it is in
              let one : suc away - 1 ≡ away = omega arith in
              let found = its_round away it.next (after_round answer_of after laws wait s) (round_net answer_of after laws count it.at it.now n) it.rest
              (goes_later (suc away) entry s n it goes) (fits_later (suc away) entry s n it fits) lasts there (subst (IsAway count it.next k) one less.1) in
              (suc found.0, omega (arith, found.1), found.2))
        ]
