-- What is found at a place in a list, rule by rule.
use Rattle.osdp_rules_laws.proofs.Common.{◌≡◌, ◌≢◌, inl, inr, ℕ, Bool, true, false, cond, eqb, not, nat_lt, length, List, [], ◌∷◌, Option, Some, None, refl, sym, subst, ap, ◌∙◌, cond-true, cond-false, false≢true, Packet, judged, turn_judged, last_number, turn_of, has_reason, is_nak, is_to, same_check, same_packet, Aspect, Known, Gone, Opened, Took, Unknown, Turn, Again, New, NobodyKnows, Out, Nothing, Kept, Either, Broken, again_finding, kept_if, quiet_finding, repeat_finding, taken_finding, turned_away}
use Rattle.std.specs.Prelude.{is_some, ◌≤◌}
use Rattle.std.proofs.Common.{arith}
use Rattle.osdp_rules.specs.Findings.{prompt_finding, single_finding}
use Rattle.osdp_rules.specs.Judging.{heard_judged, noise_judged}
use Rattle.osdp_rules.specs.Runs.{Sent, first_answer, found, heard}
use Rattle.osdp_rules.specs.Showing.{bytes_shown, packet_shown}
use Rattle.osdp_rules.specs.declared.aspect.Aspect.TheVariants as rule
use Rattle.osdp_rules.specs.declared.claims.Claims.{Claims}
use Rattle.osdp_rules.specs.declared.finding.Finding.{Finding}
use Rattle.osdp_rules_laws.specs.Lists.{TookLast}
use Rattle.osdp_rules_laws.specs.Rules.{AgainShows, BlockShows, DeafShows, KeptIf, KeptOrOpen, PromptShows, QuietShows, RefusalShows, Shows, ToAgain, ToBlock, ToNew, ToNumber, ToOthers, ToOutOfTurn, TurnShows}
use Rattle.osdp_rules_laws.specs.Terms.{IsNak, IsNakOf}
use Rattle.osdp_rules_laws.proofs.Answering.{Is, address_is, again_is, busy_is, check_says, code_is, fit_is, graded_is, kept_is, length_is, number_is, packet_says, read_is, refusal_is, served_is, where_is}
use Rattle.osdp_rules_laws.proofs.Deciding.{Says, eqb_says, nak_says, no_says, not_says, reason_says, says_no, to_says}
use Rattle.osdp_rules_laws.proofs.Judges.{Found, IsOfAnswers, IsOfNew, answered, back, by_turn, cond_is, found_new, found_taken, heard_at, judged_gone, judged_here, new_found, nothing_is, plainly, taken_found, turn_cases}
use Rattle.osdp_rules_laws.proofs.Taking.{here_known, known, known_here}
use Rattle.osdp_rules_laws.proofs.Turns.{again_known, again_turn, out_turn, turn_again, turn_further}

-- the rules that look at answers, and at those to a new number
abbrev pub LooksAtAnswers : Aspect → Type 0
LooksAtAnswers rule.Address = Unit {0}
LooksAtAnswers rule.Check = Unit {0}
LooksAtAnswers rule.Number = Unit {0}
LooksAtAnswers rule.Plain = Unit {0}
LooksAtAnswers rule.Turn = Unit {0}
LooksAtAnswers rule.Fit = Unit {0}
LooksAtAnswers rule.Served = Unit {0}
LooksAtAnswers rule.Code = Unit {0}
LooksAtAnswers rule.Length = Unit {0}
LooksAtAnswers rule.Read = Unit {0}
LooksAtAnswers rule.Busy = Unit {0}
LooksAtAnswers rule.Repeat = Unit {0}
LooksAtAnswers rule.Wrong = Unit {0}
LooksAtAnswers rule.Block = Unit {0}
LooksAtAnswers aspect = ⊥

abbrev pub LooksAtNew : Aspect → Type 0
LooksAtNew rule.Address = Unit {0}
LooksAtNew rule.Check = Unit {0}
LooksAtNew rule.Number = Unit {0}
LooksAtNew rule.Plain = Unit {0}
LooksAtNew rule.Turn = Unit {0}
LooksAtNew rule.Fit = Unit {0}
LooksAtNew rule.Served = Unit {0}
LooksAtNew rule.Code = Unit {0}
LooksAtNew rule.Length = Unit {0}
LooksAtNew rule.Read = Unit {0}
LooksAtNew rule.Busy = Unit {0}
LooksAtNew aspect = ⊥

nothing_either : (b : Bool) → cond b Nothing Nothing ≡ Nothing
nothing_either true = refl
nothing_either false = refl

-- all rules but those about CAP
abbrev pub LooksElsewhere : Aspect → Type 0
LooksElsewhere rule.Listed = ⊥
LooksElsewhere rule.Beyond = ⊥
LooksElsewhere aspect = Unit {0}

of_answers : (aspect : Aspect) → LooksAtAnswers aspect → IsOfAnswers aspect
of_answers rule.Address is = record { packet = λ address k claims p h. refl; quiet = λ answered. refl; deaf = λ a. refl; silent = refl }
of_answers rule.Check is = record { packet = λ address k claims p h. refl; quiet = λ answered. refl; deaf = λ a. refl; silent = refl }
of_answers rule.Number is = record { packet = λ address k claims p h. refl; quiet = λ answered. refl; deaf = λ a. refl; silent = refl }
of_answers rule.Plain is = record { packet = λ address k claims p h. refl; quiet = λ answered. refl; deaf = λ a. refl; silent = refl }
of_answers rule.Turn is = record { packet = λ address k claims p h. refl; quiet = λ answered. refl; deaf = λ a. refl; silent = refl }
of_answers rule.Fit is = record { packet = λ address k claims p h. refl; quiet = λ answered. refl; deaf = λ a. refl; silent = refl }
of_answers rule.Served is = record { packet = λ address k claims p h. refl; quiet = λ answered. refl; deaf = λ a. refl; silent = refl }
of_answers rule.Code is = record { packet = λ address k claims p h. refl; quiet = λ answered. refl; deaf = λ a. refl; silent = refl }
of_answers rule.Length is = record { packet = λ address k claims p h. refl; quiet = λ answered. refl; deaf = λ a. refl; silent = refl }
of_answers rule.Read is = record { packet = λ address k claims p h. refl; quiet = λ answered. refl; deaf = λ a. refl; silent = refl }
of_answers rule.Busy is = record { packet = λ address k claims p h. refl; quiet = λ answered. refl; deaf = λ a. refl; silent = refl }
of_answers rule.Repeat is = record { packet = λ address k claims p h. refl; quiet = λ answered. refl; deaf = λ a. refl; silent = refl }
of_answers rule.Wrong is = record { packet = λ address k claims p h. refl; quiet = λ answered. refl; deaf = λ a. refl; silent = refl }
of_answers rule.Block is = record { packet = λ address k claims p h. refl; quiet = λ answered. refl; deaf = λ a. refl; silent = refl }
of_answers aspect is = absurd is

module _ (address : ℕ) (past : List Sent) (x : Sent) where
  of_new : (aspect : Aspect) → LooksAtNew aspect → IsOfNew address past x aspect
  of_new rule.Address is = record { answers = of_answers rule.Address tt; block = λ a. refl; again = λ k p a. refl; out = λ a. refl }
  of_new rule.Check is = record { answers = of_answers rule.Check tt; block = λ a. refl; again = λ k p a. refl; out = λ a. refl }
  of_new rule.Number is = record { answers = of_answers rule.Number tt; block = λ a. refl; again = λ k p a. refl; out = λ a. refl }
  of_new rule.Plain is = record { answers = of_answers rule.Plain tt; block = λ a. refl; again = λ k p a. refl; out = λ a. refl }
  of_new rule.Turn is = record { answers = of_answers rule.Turn tt; block = λ a. refl; again = λ k p a. refl; out = λ a. refl }
  of_new rule.Fit is = record { answers = of_answers rule.Fit tt; block = λ a. refl; again = λ k p a. refl; out = λ a. refl }
  of_new rule.Served is = record { answers = of_answers rule.Served tt; block = λ a. refl; again = λ k p a. refl; out = λ a. refl }
  of_new rule.Code is = record { answers = of_answers rule.Code tt; block = λ a. refl; again = λ k p a. refl; out = λ a. refl }
  of_new rule.Length is = record { answers = of_answers rule.Length tt; block = λ a. refl; again = λ k p a. refl; out = λ a. refl }
  of_new rule.Read is = record { answers = of_answers rule.Read tt; block = λ a. refl; again = λ k p a. refl; out = λ a. refl }
  of_new rule.Busy is = record { answers = of_answers rule.Busy tt; block = λ a. refl; again = λ k p a. refl; out = λ a. refl }
  of_new aspect is = absurd is

  to_new : (X Y : Packet → Packet → Type 0) → ((p a : Packet) → X p a → Y p a) → ToNew address X past x → ToNew address Y past x
  to_new X Y then n = (n.0, n.1, n.2, n.3, n.4, n.5, then n.0 n.1 n.6)

  new_is : (aspect : Aspect) (f : Finding) (Y : Packet → Packet → Type 0) → LooksAtNew aspect → turned_away aspect ≡ Nothing → f ≢ Nothing
      → ((p a : Packet) → Is (taken_finding aspect p a) f (Y p a))
      → Is (plainly aspect address (known address past) x.packet (heard x)) f (ToNew address Y past x)
  new_is aspect f Y looks away some is = record {
    means = λ e. to_new (λ p a. taken_finding aspect p a ≡ f) Y (λ p a h. (is p a).means h)
        (taken_found address past x aspect f (of_new aspect looks) away some e);
    shows = λ h. found_taken address past x aspect f (to_new Y (λ p a. taken_finding aspect p a ≡ f) (λ p a h. (is p a).shows h) h);
  }

  -- ---- NAK 4

  turn_means : (b : Bool) (a : Packet) (f : Finding) → Says b (IsNakOf 4 a) → f ≢ Nothing → cond b Broken Kept ≡ f → TurnShows f a
  turn_means true a Kept s some e = absurd (cc e)
  turn_means true a Broken s some e = s.means refl
  turn_means true a Either s some e = cc e
  turn_means true a Nothing s some e = cc e
  turn_means false a Kept s some e = says_no false _ s refl
  turn_means false a Broken s some e = absurd (cc e)
  turn_means false a Either s some e = cc e
  turn_means false a Nothing s some e = cc e

  turn_shows : (b : Bool) (a : Packet) (f : Finding) → Says b (IsNakOf 4 a) → TurnShows f a → cond b Broken Kept ≡ f
  turn_shows b a Kept s h = cond-false b Broken Kept (no_says b _ s h)
  turn_shows b a Broken s h = cond-true b Broken Kept (s.shows h)
  turn_shows b a Either s h = absurd h
  turn_shows b a Nothing s h = absurd h

  number_is_new : (f : Finding) → f ≢ Nothing
      → Is (plainly rule.Turn address (known address past) x.packet (heard x)) f (ToNumber address (TurnShows f) past x)
  number_is_new f some = record {
    means = λ e. let n = new_found address past x rule.Turn f (of_new rule.Turn tt) some e in
        (n.0, n.1, n.2, n.3, n.4, turn_means (has_reason 4 n.1) n.1 f (reason_says 4 n.1) some n.5);
    shows = λ n. found_new address past x rule.Turn f n.0 n.1 n.2 n.3 n.4 (turn_shows (has_reason 4 n.1) n.1 f (reason_says 4 n.1) n.5);
  }

  -- ---- other turns

  no_choice : (b : Bool) (f : Finding) → f ≢ Nothing → cond b Nothing Nothing ≡ f → ⊥
  no_choice true f some e = some (sym e)
  no_choice false f some e = some (sym e)

  again_found : (f : Finding) → f ≢ Nothing → Found address past x rule.Repeat f → ToAgain address (AgainShows f) past x
  again_found f some e =
      let h = heard_at rule.Repeat address (known address past) x.packet (heard x) f (of_answers rule.Repeat tt) some e in
      let k = known address past in
      let is = answered address past x rule.Repeat f h in
      elim (cond_is h.p.block Nothing (turn_judged (turn_of (last_number k) h.p.sequence) rule.Repeat k h.p h.a) f h.found) [
        | inl block ↦ absurd (some (sym block.1))
        | inr plain ↦ elim (turn_cases (turn_of (last_number k) h.p.sequence) rule.Repeat k h.p h.a f some plain.1) [
          | inl new ↦ absurd (no_choice (has_reason 4 h.a) f some new.1)
          | inr (inr out) ↦ absurd (some (sym out.1))
          | inr (inl again) ↦
              let q = turn_again address past h.p is.here again.0 in
              let at = cond_is (same_packet q.0 h.p) (again_finding q.1 h.a) Nothing f
              (ap (λ j. repeat_finding rule.Repeat j h.p h.a) (sym q.4) ∙ again.1) in
              elim at [
                | inr other ↦ absurd (some (sym other.1))
                | inl same ↦
                    let is_it = (packet_says q.0 h.p).means same.0 in (
                      h.p,
                      h.a,
                      q.1,
                      is,
                      plain.0,
                      record { last = subst (λ r. TookLast address past r q.1) (sym is_it) q.2; number = q.3 },
                      (again_is q.1 h.a f some).means same.1,
                    )
              ]
        ]
      ]

  found_again : (f : Finding) → f ≢ Nothing → ToAgain address (AgainShows f) past x → Found address past x rule.Repeat f
  found_again f some h =
      by_turn address past x rule.Repeat f h.0 h.1 Again h.3 h.4 (again_turn address past h.0 h.2 h.3.here h.5)
      (ap (λ j. repeat_finding rule.Repeat j h.0 h.1) (again_known address past h.0 h.2 h.3.here h.5)
      ∙ cond-true (same_packet h.0 h.0) (again_finding h.2 h.1) Nothing ((packet_says h.0 h.0).shows refl)
      ∙ (again_is h.2 h.1 f some).shows h.6)

  out_found : (f : Finding) → f ≢ Nothing → Found address past x rule.Wrong f → ToOutOfTurn address (RefusalShows 4 f) past x
  out_found f some e =
      let h = heard_at rule.Wrong address (known address past) x.packet (heard x) f (of_answers rule.Wrong tt) some e in
      let k = known address past in
      let is = answered address past x rule.Wrong f h in
      elim (cond_is h.p.block Nothing (turn_judged (turn_of (last_number k) h.p.sequence) rule.Wrong k h.p h.a) f h.found) [
        | inl block ↦ absurd (some (sym block.1))
        | inr plain ↦ elim (turn_cases (turn_of (last_number k) h.p.sequence) rule.Wrong k h.p h.a f some plain.1) [
          | inl new ↦ absurd (no_choice (has_reason 4 h.a) f some new.1)
          | inr (inl again) ↦ absurd (some (sym again.1))
          | inr (inr out) ↦ (h.p, h.a, is, plain.0, turn_further address past h.p is.here out.0, (refusal_is 4 h.a f some).means out.1)
        ]
      ]

  found_out : (f : Finding) → f ≢ Nothing → ToOutOfTurn address (RefusalShows 4 f) past x → Found address past x rule.Wrong f
  found_out f some h =
      by_turn address past x rule.Wrong f h.0 h.1 Out h.2 h.3 (out_turn address past h.0 h.2.here h.4) ((refusal_is 4 h.1 f some).shows h.5)

  -- ---- a security block

  block_means : (b : Bool) (a : Packet) (f : Finding) → Says b (IsNakOf 5 a) → f ≢ Nothing → cond b Kept Either ≡ f → BlockShows f a
  block_means true a Kept s some e = s.means refl
  block_means true a Broken s some e = cc e
  block_means true a Either s some e = absurd (cc e)
  block_means true a Nothing s some e = cc e
  block_means false a Kept s some e = absurd (cc e)
  block_means false a Broken s some e = cc e
  block_means false a Either s some e = says_no false _ s refl
  block_means false a Nothing s some e = cc e

  block_shows : (b : Bool) (a : Packet) (f : Finding) → Says b (IsNakOf 5 a) → BlockShows f a → cond b Kept Either ≡ f
  block_shows b a Kept s h = cond-true b Kept Either (s.shows h)
  block_shows b a Either s h = cond-false b Kept Either (no_says b _ s h)
  block_shows b a Broken s h = absurd h
  block_shows b a Nothing s h = absurd h

  block_found : (f : Finding) → f ≢ Nothing → Found address past x rule.Block f → ToBlock address (BlockShows f) past x
  block_found f some e =
      let h = heard_at rule.Block address (known address past) x.packet (heard x) f (of_answers rule.Block tt) some e in
      let k = known address past in
      elim (cond_is h.p.block (cond (has_reason 5 h.a) Kept Either) (turn_judged (turn_of (last_number k) h.p.sequence) rule.Block k h.p h.a) f h.found) [
        | inl block ↦ (h.p, h.a, answered address past x rule.Block f h, block.0, block_means (has_reason 5 h.a) h.a f (reason_says 5 h.a) some block.1)
        | inr plain ↦ elim (turn_cases (turn_of (last_number k) h.p.sequence) rule.Block k h.p h.a f some plain.1) [
          | inl new ↦ absurd (no_choice (has_reason 4 h.a) f some new.1)
          | inr (inl again) ↦ absurd (some (sym again.1))
          | inr (inr out) ↦ absurd (some (sym out.1))
        ]
      ]

  found_block : (f : Finding) → ToBlock address (BlockShows f) past x → Found address past x rule.Block f
  found_block f h =
      back address past x rule.Block f h.0 h.1 h.2
      (cond-true h.0.block (cond (has_reason 5 h.1) Kept Either) _ h.3 ∙ block_shows (has_reason 5 h.1) h.1 f (reason_says 5 h.1) h.4)

  -- ---- what isn't to the device

  -- whatever an answer to a packet to the device is, this rule says nothing of it
  quiet_turn : (t : Turn) (k : Known) (p a : Packet) → turn_judged t rule.Quiet k p a ≡ Nothing
  quiet_turn New k p a = nothing_either (has_reason 4 a)
  quiet_turn Again k p a = refl
  quiet_turn Out k p a = refl
  quiet_turn NobodyKnows k p a = refl

  quiet_heard : (k : Known) (p : Packet) (h : Option Packet) → heard_judged rule.Quiet k p h ≡ Nothing
  quiet_heard k p None = refl
  quiet_heard k p (Some a) =
      let later = turn_judged (turn_of (last_number k) p.sequence) rule.Quiet k p a in
      let turn = quiet_turn (turn_of (last_number k) p.sequence) k p a in
      let block : cond p.block Nothing later ≡ Nothing = ap (λ y. cond p.block Nothing y) turn ∙ nothing_either p.block in
      ap (λ y. cond (has_reason 1 a) Nothing y) block ∙ nothing_either (has_reason 1 a)

  silent_says : (l : List Packet) → Says (not (is_some (first_answer l))) (l ≡ [])
  silent_says [] = record { means = λ e. refl; shows = λ e. refl }
  silent_says (a ∷ more) = record { means = λ e. absurd (false≢true e); shows = λ e. absurd (cc e) }

  quiet_found : (f : Finding) (o : Option Packet) → f ≢ Nothing → x.packet ≡ o
      → plainly rule.Quiet address (known address past) o (heard x) ≡ f → ToOthers address (QuietShows f) past x
  quiet_found f None some packet e = absurd (some (by_heard (heard x) e))
    where
      by_heard : (h : Option Packet) → noise_judged rule.Quiet h ≡ f → f ≡ Nothing
      by_heard None e = sym e
      by_heard (Some a) e = sym e
  quiet_found f (Some p) some packet e =
      let k = known address past in
      let here = judged_gone rule.Quiet address k p (heard x) f some e in
      elim (cond_is (is_to address p) (heard_judged rule.Quiet k p (heard x)) (quiet_finding rule.Quiet (is_some (heard x))) f
      (sym (judged_here rule.Quiet address k p (heard x) here) ∙ e)) [
        | inl to ↦ absurd (nothing_is f _ some to.1 (quiet_heard k p (heard x)))
        | inr other ↦ (
          known_here address past here,
          (p, packet, says_no _ _ (to_says address p) other.0),
          (kept_is (not (is_some (heard x))) _ f (silent_says x.answers) some).means other.1,
        )
      ]

  found_quiet : (f : Finding) → f ≢ Nothing → ToOthers address (QuietShows f) past x → Found address past x rule.Quiet f
  found_quiet f some h =
      let k = known address past in
      let p = h.1.0 in
      ap (λ o. plainly rule.Quiet address k o (heard x)) h.1.1
      ∙ judged_here rule.Quiet address k p (heard x) (here_known address past h.0)
      ∙ cond-false (is_to address p) (heard_judged rule.Quiet k p (heard x)) (quiet_finding rule.Quiet (is_some (heard x))) (no_says _ _ (to_says address p) h.1.2)
      ∙ (kept_is (not (is_some (heard x))) _ f (silent_says x.answers) some).shows h.2

  -- ---- bytes without a packet

  deaf_turn : (t : Turn) (k : Known) (p a : Packet) → turn_judged t rule.Deaf k p a ≡ Nothing
  deaf_turn New k p a = nothing_either (has_reason 4 a)
  deaf_turn Again k p a = refl
  deaf_turn Out k p a = refl
  deaf_turn NobodyKnows k p a = refl

  deaf_heard : (k : Known) (p : Packet) (h : Option Packet) → heard_judged rule.Deaf k p h ≡ Nothing
  deaf_heard k p None = refl
  deaf_heard k p (Some a) =
      let later = turn_judged (turn_of (last_number k) p.sequence) rule.Deaf k p a in
      let turn = deaf_turn (turn_of (last_number k) p.sequence) k p a in
      let block : cond p.block Nothing later ≡ Nothing = ap (λ y. cond p.block Nothing y) turn ∙ nothing_either p.block in
      ap (λ y. cond (has_reason 1 a) Nothing y) block ∙ nothing_either (has_reason 1 a)

  deaf_sent : (k : Known) (p : Packet) (h : Option Packet) → judged rule.Deaf address k p h ≡ Nothing
  deaf_sent Gone p h = refl
  deaf_sent Unknown p h = ap (λ y. cond (is_to address p) y Nothing) (deaf_heard Unknown p h) ∙ nothing_either (is_to address p)
  deaf_sent Opened p h = ap (λ y. cond (is_to address p) y Nothing) (deaf_heard Opened p h) ∙ nothing_either (is_to address p)
  deaf_sent (Took q b) p h = ap (λ y. cond (is_to address p) y Nothing) (deaf_heard (Took q b) p h) ∙ nothing_either (is_to address p)

  deaf_by : (l : List Packet) (f : Finding) → f ≢ Nothing
      → Is (noise_judged rule.Deaf (first_answer l)) f (KeptOrOpen (l ≡ []) ((a : Packet) × (first_answer l ≡ Some a) × IsNak a) f)
  deaf_by [] f some = graded_is true false _ _ f (record { means = λ e. refl; shows = λ e. refl })
      (record { means = λ e. absurd (false≢true e); shows = λ h. absurd (cc (h.1)) }) some
  deaf_by (a ∷ more) f some =
      graded_is false (is_nak a) _ _ f (record { means = λ e. absurd (false≢true e); shows = λ e. absurd (cc e) })
      (record { means = λ e. (a, refl, (nak_says a).means e); shows = λ h. subst (λ b. is_nak b ≡ true) (same a h.0 h.1) ((nak_says h.0).shows h.2) }) some
    where
      same : (a b : Packet) → Some a ≡ Some b → b ≡ a
      same a b e = cc

  deaf_found : (f : Finding) (o : Option Packet) → f ≢ Nothing → x.packet ≡ o
      → plainly rule.Deaf address (known address past) o (heard x) ≡ f → (x.packet ≡ None) × DeafShows f x
  deaf_found f None some packet e = (packet, (deaf_by x.answers f some).means e)
  deaf_found f (Some p) some packet e = absurd (nothing_is f _ some e (deaf_sent (known address past) p (heard x)))

  found_deaf : (f : Finding) → f ≢ Nothing → (x.packet ≡ None) × DeafShows f x → Found address past x rule.Deaf f
  found_deaf f some h =
      ap (λ o. plainly rule.Deaf address (known address past) o (heard x)) h.0 ∙ (deaf_by x.answers f some).shows h.1

  -- ---- how many answers, and how late

  none_says : (n : ℕ) → Says (eqb n 0) (n ≡ 0)
  none_says n = eqb_says n 0

  single_is : (n : ℕ) (f : Finding) → f ≢ Nothing → Is (single_finding n) f ((1 ≤ n) × KeptIf (n ≤ 1) f)
  single_is n f some = by_none (eqb n 0) (eqb_says n 0)
    where
      one_says : 1 ≤ n → Says (eqb n 1) (n ≤ 1)
      one_says above = record { means = λ e. omega (arith, (eqb_says n 1).means e); shows = λ at. (eqb_says n 1).shows (omega (arith, at, above)) }

      by_none : (b : Bool) → Says b (n ≡ 0) → Is (cond b Nothing (kept_if (eqb n 1))) f ((1 ≤ n) × KeptIf (n ≤ 1) f)
      by_none true s = record { means = λ e. absurd (some (sym e)); shows = λ h. absurd (zero_above (s.means refl) h.0) }
        where
          zero_above : n ≡ 0 → 1 ≤ n → ⊥
          zero_above e above = omega (arith, e, above)
      by_none false s =
          let above : 1 ≤ n = above_by (says_no false _ s refl) in
          let is = kept_is (eqb n 1) (n ≤ 1) f (one_says above) some in
          record { means = λ e. (above, is.means e); shows = λ h. is.shows h.1 }
        where
          above_by : (n ≡ 0 → ⊥) → 1 ≤ n
          above_by other = omega (arith, other)

  late_says : (delay : ℕ) → Says (not (nat_lt 200 delay)) (delay ≤ 200)
  late_says delay = record { means = λ e. grind (arith, e); shows = λ h. grind (arith, h) }

  prompt_kept : (delay : ℕ) → prompt_finding delay ≡ kept_if (not (nat_lt 200 delay))
  prompt_kept delay = by_late (nat_lt 200 delay)
    where
      by_late : (b : Bool) → cond b Broken Kept ≡ kept_if (not b)
      by_late true = refl
      by_late false = refl

  some_says : (l : List Packet) → Says (is_some (first_answer l)) (1 ≤ length l)
  some_says [] = record { means = λ e. absurd (false≢true e); shows = λ h. absurd (omega (arith, h)) }
  some_says (a ∷ more) = record { means = λ e. one_more a more; shows = λ h. refl }
    where
      one_more : (a : Packet) (more : List Packet) → 1 ≤ length (a ∷ more)
      one_more a more = omega arith

  prompt_is : (f : Finding) → f ≢ Nothing → Is (cond (is_some (heard x)) (prompt_finding x.delay) Nothing) f (PromptShows f x)
  prompt_is f some =
      let kept = kept_is (not (nat_lt 200 x.delay)) (x.delay ≤ 200) f (late_says x.delay) some in
      where_is (is_some (heard x)) (1 ≤ length x.answers) (KeptIf (x.delay ≤ 200) f) (prompt_finding x.delay) f (some_says x.answers) some
      (record { means = λ e. kept.means (sym (prompt_kept x.delay) ∙ e); shows = λ h. prompt_kept x.delay ∙ kept.shows h })

  -- ---- every rule but those about CAP

  plain_bytes : (aspect : Aspect) (claims : Claims) (k : Known) (o h : Option Packet)
      → ((p : Packet) (i : Option Packet) → packet_shown aspect address k claims p i ≡ judged aspect address k p i)
      → bytes_shown aspect address k claims o h ≡ plainly aspect address k o h
  plain_bytes aspect claims k None h same = refl
  plain_bytes aspect claims k (Some p) h same = same p h

  by_plain : (aspect : Aspect) (claims : Claims) (f : Finding) (P : Type 0)
      → ((k : Known) (p : Packet) (i : Option Packet) → packet_shown aspect address k claims p i ≡ judged aspect address k p i)
      → Is (plainly aspect address (known address past) x.packet (heard x)) f P
      → Is (bytes_shown aspect address (known address past) claims x.packet (heard x)) f P
  by_plain aspect claims f P same is =
      let e = plain_bytes aspect claims (known address past) x.packet (heard x) (same (known address past)) in
      record { means = λ g. is.means (sym e ∙ g); shows = λ h. e ∙ is.shows h }

  pub shows_is : (aspect : Aspect) (claims : Claims) (f : Finding) → LooksElsewhere aspect → f ≢ Nothing
      → Is (found aspect address (known address past) claims x) f (Shows address aspect f past x)
  shows_is rule.Address claims f looks some = by_plain rule.Address claims f _ (λ k p i. refl) (new_is rule.Address f _ tt refl some (λ p a. address_is p a f some))
  shows_is rule.Check claims f looks some =
      by_plain rule.Check claims f _ (λ k p i. refl) (new_is rule.Check f _ tt refl some (λ p a. kept_is (same_check a.check p.check) _ f (check_says a.check p.check) some))
  shows_is rule.Number claims f looks some = by_plain rule.Number claims f _ (λ k p i. refl) (new_is rule.Number f _ tt refl some (λ p a. number_is p a f some))
  shows_is rule.Plain claims f looks some =
      by_plain rule.Plain claims f _ (λ k p i. refl) (new_is rule.Plain f _ tt refl some (λ p a. kept_is (not a.block) _ f (not_says a.block) some))
  shows_is rule.Turn claims f looks some = by_plain rule.Turn claims f _ (λ k p i. refl) (number_is_new f some)
  shows_is rule.Fit claims f looks some = by_plain rule.Fit claims f _ (λ k p i. refl) (new_is rule.Fit f _ tt refl some (λ p a. fit_is p a f some))
  shows_is rule.Served claims f looks some = by_plain rule.Served claims f _ (λ k p i. refl) (new_is rule.Served f _ tt refl some (λ p a. served_is p a f some))
  shows_is rule.Code claims f looks some = by_plain rule.Code claims f _ (λ k p i. refl) (new_is rule.Code f _ tt refl some (λ p a. code_is p a f some))
  shows_is rule.Length claims f looks some = by_plain rule.Length claims f _ (λ k p i. refl) (new_is rule.Length f _ tt refl some (λ p a. length_is p a f some))
  shows_is rule.Read claims f looks some = by_plain rule.Read claims f _ (λ k p i. refl) (new_is rule.Read f _ tt refl some (λ p a. read_is a f))
  shows_is rule.Busy claims f looks some = by_plain rule.Busy claims f _ (λ k p i. refl) (new_is rule.Busy f _ tt refl some (λ p a. busy_is p a f some))
  shows_is rule.Repeat claims f looks some =
      by_plain rule.Repeat claims f _ (λ k p i. refl) (record { means = again_found f some; shows = found_again f some })
  shows_is rule.Wrong claims f looks some =
      by_plain rule.Wrong claims f _ (λ k p i. refl) (record { means = out_found f some; shows = found_out f some })
  shows_is rule.Block claims f looks some =
      by_plain rule.Block claims f _ (λ k p i. refl) (record { means = block_found f some; shows = found_block f })
  shows_is rule.Quiet claims f looks some =
      by_plain rule.Quiet claims f _ (λ k p i. refl) (record { means = quiet_found f x.packet some refl; shows = found_quiet f some })
  shows_is rule.Deaf claims f looks some =
      by_plain rule.Deaf claims f _ (λ k p i. refl) (record { means = deaf_found f x.packet some refl; shows = found_deaf f some })
  shows_is rule.Single claims f looks some = single_is (length x.answers) f some
  shows_is rule.Prompt claims f looks some = prompt_is f some
  shows_is rule.Listed claims f looks some = absurd looks
  shows_is rule.Beyond claims f looks some = absurd looks
