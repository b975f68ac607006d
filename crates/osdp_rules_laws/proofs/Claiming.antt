-- What is found at a place in a list of what the device said by CAP, and all rules together.
use Rattle.osdp_rules_laws.proofs.Common.{◌≡◌, ◌≢◌, inl, inr, ℕ, Bool, true, false, cond, List, [], ◌∷◌, Option, Some, None, refl, sym, subst, ap, ◌∙◌, cond-true, cond-false, Packet, takes_nothing, asked, told, Aspect, Unknown, Nothing, Broken}
use Rattle.std.specs.Prelude.{◌++◌}
use Rattle.std.proofs.Common.{append_assoc}
use Rattle.std.proofs.lemmas.List.{append-nil}
use Rattle.osdp_rules.specs.Claiming.{claim_finding, claim_heard, claim_judged}
use Rattle.osdp_rules.specs.Claims.{is_anew, no_claims}
use Rattle.osdp_rules.specs.Judging.{noise_judged}
use Rattle.osdp_rules.specs.Runs.{Sent, claims_next, found, heard, known_next, verdict_from, verdict_on, verdict_with}
use Rattle.osdp_rules.specs.Showing.{bytes_shown}
use Rattle.osdp_rules.specs.Verdicts.{verdict_after}
use Rattle.osdp_rules.specs.declared.aspect.Aspect.TheVariants as rule
use Rattle.osdp_rules.specs.declared.finding.Finding.{Finding}
use Rattle.osdp_rules.specs.declared.verdict.Verdict.{Verdict}
use Rattle.osdp_rules.specs.declared.verdict.Verdict.TheVariants as verdict
use Rattle.osdp_rules_laws.specs.Caps.{BeyondShows, ListedShows}
use Rattle.osdp_rules_laws.specs.Comes.{AccusesNoOther, Asked, Comes, FindsWhatBreaks, Judges}
use Rattle.osdp_rules_laws.specs.Lists.{Somewhere}
use Rattle.osdp_rules_laws.specs.Rules.{Shows, ToNew}
use Rattle.osdp_rules_laws.specs.Terms.{IsBusy, IsNakOf, TakesNothing}
use Rattle.osdp_rules_laws.proofs.Answering.{Is}
use Rattle.osdp_rules_laws.proofs.CapBeyond.{beyond_is}
use Rattle.osdp_rules_laws.proofs.CapFindings.{listed_is}
use Rattle.osdp_rules_laws.proofs.CapsAlong.{IsAnew, anew_says, claims_more, known_more, said}
use Rattle.osdp_rules_laws.proofs.Deciding.{no_says, says_no, takes_says}
use Rattle.osdp_rules_laws.proofs.Judges.{cond_is}
use Rattle.osdp_rules_laws.proofs.Placing.{shows_is}
use Rattle.osdp_rules_laws.proofs.Taking.{known}
use Rattle.osdp_rules_laws.proofs.Verdicts.{along, broken, left_open, ok, unclear, after_nothing}

module _ (address : ℕ) (past : List Sent) (x : Sent) where
  -- by what an aspect's finding means
  module _ (aspect : Aspect) (f : Finding) (Y : Packet → Packet → Type 0) (some : f ≢ Nothing)
      (is : (p a : Packet) → Is (claim_finding aspect (said address past) (asked p) (told a)) f (Y p a)) where
    heard_means : (p : Packet) (h : Option Packet) → x.packet ≡ Some p → heard x ≡ h → IsAnew address past p
        → claim_heard aspect (said address past) (asked p) h ≡ f → ToNew address (λ p a. (IsBusy a → ⊥) × Y p a) past x
    heard_means p None packet hears anew e = absurd (some (sym e))
    heard_means p (Some a) packet hears anew e =
        elim (cond_is (takes_nothing a) Nothing (claim_finding aspect (said address past) (asked p) (told a)) f e) [
          | inl nothing ↦ absurd (some (sym nothing.1))
          | inr takes ↦
              let other = says_no _ _ (takes_says a) takes.0 in (
                p,
                a,
                record { here = anew.here; packet = packet; to = anew.to.0; heard = hears; undamaged = λ n. other (inr (inl n)) },
                anew.to.1,
                anew.new,
                λ n. other (inr (inr n)),
                (λ b. other (inl b), (is p a).means takes.1),
              )
        ]

    by_packet : (o : Option Packet) → x.packet ≡ o → ((h : Option Packet) → noise_judged aspect h ≡ Nothing)
        → ((p : Packet) (h : Option Packet) → bytes_shown aspect address (known address past) (said address past) (Some p) h
        ≡ claim_judged aspect address (known address past) (said address past) p h)
        → ((h : Option Packet) → bytes_shown aspect address (known address past) (said address past) None h ≡ noise_judged aspect h)
        → bytes_shown aspect address (known address past) (said address past) o (heard x) ≡ f
        → ToNew address (λ p a. (IsBusy a → ⊥) × Y p a) past x
    by_packet None packet silent of_packet of_none e = absurd (some (sym e ∙ of_none (heard x) ∙ silent (heard x)))
    by_packet (Some p) packet silent of_packet of_none e =
        elim (cond_is (is_anew address (known address past) p) (claim_heard aspect (said address past) (asked p) (heard x)) Nothing f
        (sym (of_packet p (heard x)) ∙ e)) [
          | inr old ↦ absurd (some (sym old.1))
          | inl new ↦ heard_means p (heard x) packet refl ((anew_says address past p).means new.0) new.1
        ]

    back : ((p : Packet) (h : Option Packet) → bytes_shown aspect address (known address past) (said address past) (Some p) h
        ≡ claim_judged aspect address (known address past) (said address past) p h)
        → ToNew address (λ p a. (IsBusy a → ⊥) × Y p a) past x
        → bytes_shown aspect address (known address past) (said address past) x.packet (heard x) ≡ f
    back of_packet n =
        let p = n.0 in
        let a = n.1 in
        ap (λ o. bytes_shown aspect address (known address past) (said address past) o (heard x)) n.2.packet
        ∙ ap (λ h. bytes_shown aspect address (known address past) (said address past) (Some p) h) n.2.heard
        ∙ of_packet p (Some a)
        ∙ cond-true (is_anew address (known address past) p) (claim_heard aspect (said address past) (asked p) (Some a)) Nothing
        ((anew_says address past p).shows (record { here = n.2.here; to = (n.2.to, n.3); new = n.4 }))
        ∙ cond-false (takes_nothing a) Nothing (claim_finding aspect (said address past) (asked p) (told a))
        (no_says _ _ (takes_says a) (takes n.1 n.2.undamaged n.5 n.6.0))
        ∙ (is p a).shows n.6.1
      where
        takes : (a : Packet) → (IsNakOf 1 a → ⊥) → (IsNakOf 4 a → ⊥) → (IsBusy a → ⊥) → TakesNothing a → ⊥
        takes a one four busy (inl b) = busy b
        takes a one four busy (inr (inl n)) = one n
        takes a one four busy (inr (inr n)) = four n

  silent_listed : (h : Option Packet) → noise_judged rule.Listed h ≡ Nothing
  silent_listed None = refl
  silent_listed (Some a) = refl

  silent_beyond : (h : Option Packet) → noise_judged rule.Beyond h ≡ Nothing
  silent_beyond None = refl
  silent_beyond (Some a) = refl

  listed_shows : (f : Finding) → f ≢ Nothing → Is (found rule.Listed address (known address past) (said address past) x) f (Shows address rule.Listed f past x)
  listed_shows f some =
      let Y = λ (p a : Packet). ListedShows address f past (asked p) (told a) in
      record {
        means = by_packet rule.Listed f Y some (λ p a. listed_is address past (asked p) (told a) f some) x.packet refl silent_listed (λ p h. refl) (λ h. refl);
        shows = back rule.Listed f Y some (λ p a. listed_is address past (asked p) (told a) f some) (λ p h. refl);
      }

  beyond_shows : (f : Finding) → f ≢ Nothing → Is (found rule.Beyond address (known address past) (said address past) x) f (Shows address rule.Beyond f past x)
  beyond_shows f some =
      let Y = λ (p a : Packet). BeyondShows address f past (asked p) (told a) in
      record {
        means = by_packet rule.Beyond f Y some (λ p a. beyond_is address past (asked p) (told a) f some) x.packet refl silent_beyond (λ p h. refl) (λ h. refl);
        shows = back rule.Beyond f Y some (λ p a. beyond_is address past (asked p) (told a) f some) (λ p h. refl);
      }

  pub all_show : (aspect : Aspect) (f : Finding) → f ≢ Nothing
      → Is (found aspect address (known address past) (said address past) x) f (Shows address aspect f past x)
  all_show rule.Listed f some = listed_shows f some
  all_show rule.Beyond f some = beyond_shows f some
  all_show rule.Address f some = shows_is address past x rule.Address (said address past) f tt some
  all_show rule.Check f some = shows_is address past x rule.Check (said address past) f tt some
  all_show rule.Number f some = shows_is address past x rule.Number (said address past) f tt some
  all_show rule.Plain f some = shows_is address past x rule.Plain (said address past) f tt some
  all_show rule.Turn f some = shows_is address past x rule.Turn (said address past) f tt some
  all_show rule.Fit f some = shows_is address past x rule.Fit (said address past) f tt some
  all_show rule.Served f some = shows_is address past x rule.Served (said address past) f tt some
  all_show rule.Code f some = shows_is address past x rule.Code (said address past) f tt some
  all_show rule.Length f some = shows_is address past x rule.Length (said address past) f tt some
  all_show rule.Read f some = shows_is address past x rule.Read (said address past) f tt some
  all_show rule.Busy f some = shows_is address past x rule.Busy (said address past) f tt some
  all_show rule.Repeat f some = shows_is address past x rule.Repeat (said address past) f tt some
  all_show rule.Wrong f some = shows_is address past x rule.Wrong (said address past) f tt some
  all_show rule.Block f some = shows_is address past x rule.Block (said address past) f tt some
  all_show rule.Quiet f some = shows_is address past x rule.Quiet (said address past) f tt some
  all_show rule.Deaf f some = shows_is address past x rule.Deaf (said address past) f tt some
  all_show rule.Single f some = shows_is address past x rule.Single (said address past) f tt some
  all_show rule.Prompt f some = shows_is address past x rule.Prompt (said address past) f tt some

-- ---- the verdict

module _ (address : ℕ) (aspect : Aspect) where
  -- what a place comes to: nothing where the rule isn't judged by it
  abbrev pub at : List Sent → Sent → Finding
  at past x = cond x.asks (found aspect address (known address past) (said address past) x) Nothing

  at_is : (f : Finding) (past : List Sent) (x : Sent) → f ≢ Nothing → Is (at past x) f (Asked address aspect f past x)
  at_is f past x some = by x.asks refl
    where
      all : Is (found aspect address (known address past) (said address past) x) f (Shows address aspect f past x)
      all = all_show address past x aspect f some

      by : (b : Bool) → x.asks ≡ b → Is (cond b (found aspect address (known address past) (said address past) x) Nothing) f (Asked address aspect f past x)
      by true asks = record { means = λ e. (asks, all.means e); shows = λ h. all.shows h.1 }
      by false asks = record { means = λ e. absurd (some (sym e)); shows = λ h. absurd (cc (sym asks ∙ h.0)) }

  with_is : (b : Bool) (f : Finding) (v : Verdict) → verdict_with b f v ≡ verdict_after v (cond b f Nothing)
  with_is true f v = refl
  with_is false f v = sym (after_nothing v)

  verdict_is : (past xs : List Sent) (v : Verdict)
      → verdict_from aspect address (known address past) (said address past) v xs ≡ along at (Asked address aspect) at_is v past xs
  verdict_is past [] v = refl
  verdict_is past (x ∷ xs) v =
      let f = found aspect address (known address past) (said address past) x in
      let k = known_next address x.packet (heard x) (known address past) in
      let c = claims_next address (known address past) x.packet (heard x) (said address past) in
      ap (λ w. verdict_from aspect address k c w xs) (with_is x.asks f v)
      ∙ ap (λ j. verdict_from aspect address j c (verdict_after v (at past x)) xs) (sym (known_more address Unknown past x))
      ∙ ap (λ d. verdict_from aspect address (known address (past ++ x ∷ [])) d (verdict_after v (at past x)) xs)
      (sym (claims_more address Unknown no_claims past x))
      ∙ verdict_is (past ++ x ∷ []) xs (verdict_after v (at past x))

  pub comes : (earlier scenario : List Sent) → Comes address aspect earlier scenario (verdict_on aspect address earlier scenario)
  comes earlier scenario =
      subst (λ v. Comes address aspect earlier scenario v) (sym (verdict_is earlier scenario verdict.Unclear)) (record {
        broken = broken at (Asked address aspect) at_is earlier scenario;
        left_open = left_open at (Asked address aspect) at_is earlier scenario;
        ok = ok at (Asked address aspect) at_is earlier scenario;
        unclear = unclear at (Asked address aspect) at_is earlier scenario;
      })

pub judges : (aspect : Aspect) → Judges aspect
judges aspect address earlier scenario = comes address aspect earlier scenario

-- ---- one place

placed : (At : List Sent → Sent → Type 0) (past before : List Sent) (x : Sent) (after : List Sent) → At (past ++ before) x
    → Somewhere At past (before ++ x ∷ after)
placed At past [] x after h = inl (subst (λ (l : List Sent). At l x) (append-nil past) h)
placed At past (y ∷ before) x after h =
    inr (placed At (past ++ y ∷ []) before x after (subst (λ (l : List Sent). At l x) (sym (append_assoc past (y ∷ []) before)) h))

pub finds_what_breaks : FindsWhatBreaks
finds_what_breaks address aspect earlier before x after asks breaks =
    (comes address aspect earlier (before ++ x ∷ after)).broken.1
    (placed (Asked address aspect Broken) earlier before x after (asks, breaks))

-- a place of a list is one of its elements, with what stands before it
somewhere_is : (At : List Sent → Sent → Type 0) (past xs : List Sent) → Somewhere At past xs
    → (before : List Sent) × (x : Sent) × (after : List Sent) × (xs ≡ before ++ x ∷ after) × At (past ++ before) x
somewhere_is At past [] h = absurd h
somewhere_is At past (x ∷ xs) (inl here) = ([], x, xs, refl, subst (λ (l : List Sent). At l x) (sym (append-nil past)) here)
somewhere_is At past (x ∷ xs) (inr later) =
    let at = somewhere_is At (past ++ x ∷ []) xs later in
    (x ∷ at.0, at.1, at.2, ap (λ l. x ∷ l) at.3, subst (λ (l : List Sent). At l at.1) (append_assoc past (x ∷ []) at.0) at.4)

pub accuses_no_other : AccusesNoOther
accuses_no_other address aspect earlier scenario none e =
    let at = somewhere_is (Asked address aspect Broken) earlier scenario ((comes address aspect earlier scenario).broken.0 e) in
    none at.0 at.1 at.2 at.3 at.4.0 at.4.1
