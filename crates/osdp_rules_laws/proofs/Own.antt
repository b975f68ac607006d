-- What went over the line of a reader of ours breaks no rule, in whatever scenarios it is judged.
use Rattle.osdp_rules_laws.proofs.Common.{◌≡◌, ◌≢◌, inl, inr, ℕ, suc, nat_lt, Bool, true, false, List, [], ◌∷◌, length, Option, Some, None, refl, sym, subst, cond-false, Packet, Command, Answer, ReaderState, judged, known_after, Aspect, Known, Unknown, Nothing, Kept, Broken, Exchange, Follows, heard_in, reader_after}
use Rattle.std.specs.Prelude.{◌++◌, ◌≤◌, is_some, zero}
use Rattle.std.proofs.Common.{arith}
use Rattle.std.proofs.lemmas.Bool.{le-ltb}
use Rattle.osdp_msg.specs.declared.capability.Capability.{Capability}
use Rattle.osdp_rules.specs.Claiming.{claim_judged}
use Rattle.osdp_rules.specs.Claims.{claims_after, claims_of, is_anew, no_claims}
use Rattle.osdp_rules.specs.Findings.{prompt_finding, single_finding}
use Rattle.osdp_rules.specs.Runs.{Sent, claims_along, claims_next, first_answer, found, heard, known_along, known_next, verdict_from, verdict_on, verdict_with}
use Rattle.osdp_rules.specs.Showing.{shown}
use Rattle.osdp_rules.specs.declared.aspect.Aspect.TheVariants as rule
use Rattle.osdp_rules.specs.declared.claims.Claims.{Claims}
use Rattle.osdp_rules.specs.declared.finding.Finding.{Finding}
use Rattle.osdp_rules.specs.declared.verdict.Verdict.{Verdict}
use Rattle.osdp_rules.specs.declared.verdict.Verdict.TheVariants as verdict
use Rattle.osdp_rules_laws.specs.Claims.{BreaksNoClaim, KeepsClaims, SaysStill}
use Rattle.osdp_rules_laws.specs.Laws.{BreaksNoRule, IsNotOfCap}
use Rattle.osdp_rules_laws.specs.Runs.{IsNoise, IsSaid, WereSaid}
use Rattle.osdp_rules_laws.proofs.Along.{knows_still, one_fine, one_known}
use Rattle.osdp_rules_laws.proofs.Claims.{after_kept, by_way, judged_fine, nothing_said}
use Rattle.osdp_rules_laws.proofs.Fine.{IsFine, IsUnbroken, fine_both, stays}
use Rattle.osdp_rules_laws.proofs.Reading.{ReadsReplies}
use Rattle.osdp_rules_laws.proofs.Steps.{Knows}

-- ---- along a list

module _ (aspect : Aspect) (address : ℕ) where
  abbrev pub FineAlong : Known → Claims → List Sent → Type 0
  FineAlong k c [] = Unit {0}
  FineAlong k c (y ∷ ys) =
      IsFine (found aspect address k c y)
      × FineAlong (known_next address y.packet (heard y) k) (claims_next address k y.packet (heard y) c) ys

  fine_later : (k : Known) (c : Claims) (earlier scenario : List Sent) → FineAlong k c (earlier ++ scenario)
      → FineAlong (known_along address k earlier) (claims_along address k c earlier) scenario
  fine_later k c [] scenario fine = fine
  fine_later k c (y ∷ earlier) scenario fine =
      fine_later (known_next address y.packet (heard y) k) (claims_next address k y.packet (heard y) c) earlier scenario fine.1

  with_fine : (b : Bool) (f : Finding) (v : Verdict) → IsUnbroken v → IsFine f → IsUnbroken (verdict_with b f v)
  with_fine true f v unbroken fine = stays v f unbroken fine
  with_fine false f v unbroken fine = unbroken

  unbroken_along : (k : Known) (c : Claims) (v : Verdict) (ys : List Sent) → IsUnbroken v → FineAlong k c ys → IsUnbroken (verdict_from aspect address k c v ys)
  unbroken_along k c v [] unbroken fine = unbroken
  unbroken_along k c v (y ∷ ys) unbroken fine =
      unbroken_along (known_next address y.packet (heard y) k) (claims_next address k y.packet (heard y) c) (verdict_with y.asks (found aspect address k c y) v) ys
      (with_fine y.asks (found aspect address k c y) v unbroken fine.0) fine.1

  never_accused : (earlier scenario : List Sent) → FineAlong Unknown no_claims (earlier ++ scenario)
      → verdict_on aspect address earlier scenario ≢ verdict.Broken
  never_accused earlier scenario fine e =
      subst IsUnbroken e (unbroken_along (known_along address Unknown earlier) (claims_along address Unknown no_claims earlier) verdict.Unclear scenario tt
      (fine_later Unknown no_claims earlier scenario fine))

-- ---- bytes without a packet

noise_shown : (aspect : Aspect) (address : ℕ) (k : Known) (c : Claims) (delay : ℕ) → IsFine (shown aspect address k c None None 0 delay)
noise_shown rule.Single address k c delay = tt
noise_shown rule.Prompt address k c delay = tt
noise_shown aspect address k c delay = tt

noise_fine : (aspect : Aspect) (address : ℕ) (k : Known) (c : Claims) (y : Sent) → IsNoise y → IsFine (found aspect address k c y)
noise_fine aspect address k c y noise =
    subst (λ (o : Option Packet). IsFine (shown aspect address k c o (heard y) (length y.answers) y.delay)) (sym noise.packet)
    (subst (λ (l : List Packet). IsFine (shown aspect address k c None (first_answer l) (length l) y.delay)) (sym noise.answers)
    (noise_shown aspect address k c y.delay))

-- ---- one answer at most, in time

single_fine : (n : ℕ) → n ≤ 1 → IsFine (single_finding n)
single_fine zero within = tt
single_fine (suc zero) within = tt
single_fine (suc (suc n)) within = absurd (omega (arith, within))

prompt_fine : (delay : ℕ) → delay ≤ 200 → IsFine (prompt_finding delay)
prompt_fine delay within = subst IsFine (sym (cond-false (nat_lt 200 delay) Broken Kept (le-ltb 200 delay within))) tt

-- what is shown of a packet, by what is found of it alone
packet_fine : (aspect : Aspect) (address : ℕ) (k : Known) (c : Claims) (p : Packet) (h : Option Packet) (n delay : ℕ) → n ≤ 1 → delay ≤ 200
    → IsFine (judged aspect address k p h) → ((IsNotOfCap aspect → ⊥) → IsFine (claim_judged aspect address k c p h))
    → IsFine (shown aspect address k c (Some p) h n delay)
packet_fine rule.Single address k c p h n delay once in_time plain claim = single_fine n once
packet_fine rule.Prompt address k c p h n delay once in_time plain claim = fine_both (is_some h) (prompt_finding delay) Nothing (prompt_fine delay in_time) tt
packet_fine rule.Listed address k c p h n delay once in_time plain claim = claim (λ is. is)
packet_fine rule.Beyond address k c p h n delay once in_time plain claim = claim (λ is. is)
packet_fine aspect address k c p h n delay once in_time plain claim = plain

module _ {H : Type 0} (answer_of : H → Command → Answer) (after : H → Command → H) (reads : ReadsReplies) where
  module _ (aspect : Aspect) (address : ℕ) where
    after_noise : (k : Known) (c : Claims) (y : Sent) (ys : List Sent) → IsNoise y → FineAlong aspect address k c ys
        → FineAlong aspect address (known_next address y.packet (heard y) k) (claims_next address k y.packet (heard y) c) ys
    after_noise k c y ys noise fine =
        subst (λ (o : Option Packet). FineAlong aspect address (known_next address o (heard y) k) (claims_next address k o (heard y) c) ys) (sym noise.packet) fine

    after_said : (k : Known) (c : Claims) (x : Exchange H) (y : Sent) (ys : List Sent) → IsSaid answer_of after x y
        → FineAlong aspect address (known_after address x.packet (heard_in answer_of after x) k)
        (claims_after address k x.packet (heard_in answer_of after x) c) ys
        → FineAlong aspect address (known_next address y.packet (heard y) k) (claims_next address k y.packet (heard y) c) ys
    after_said k c x y ys said fine =
        subst (λ (o : Option Packet). FineAlong aspect address (known_next address o (heard y) k) (claims_next address k o (heard y) c) ys) (sym said.packet)
        (subst (λ (h : Option Packet). FineAlong aspect address (known_next address (Some x.packet) h k) (claims_next address k (Some x.packet) h c) ys)
        (sym said.answer) fine)

    said_fine : (k : Known) (c : Claims) (x : Exchange H) (y : Sent) → IsSaid answer_of after x y
        → IsFine (judged aspect address k x.packet (heard_in answer_of after x))
        → ((IsNotOfCap aspect → ⊥) → IsFine (claim_judged aspect address k c x.packet (heard_in answer_of after x)))
        → IsFine (found aspect address k c y)
    said_fine k c x y said plain claim =
        subst (λ (o : Option Packet). IsFine (shown aspect address k c o (heard y) (length y.answers) y.delay)) (sym said.packet)
        (subst (λ (h : Option Packet). IsFine (shown aspect address k c (Some x.packet) h (length y.answers) y.delay)) (sym said.answer)
        (packet_fine aspect address k c x.packet (heard_in answer_of after x) (length y.answers) y.delay said.once said.in_time plain claim))

    -- ---- the rules but those about CAP

    plain_along : (looks : IsNotOfCap aspect) (k : Known) (c : Claims) (r : ReaderState H) (xs : List (Exchange H)) (ys : List Sent)
        → Knows address k r → Follows answer_of after r xs → WereSaid answer_of after xs ys → FineAlong aspect address k c ys
    plain_along looks k c r xs [] knows follows said = tt
    plain_along looks k c r [] (y ∷ ys) knows follows said =
        (noise_fine aspect address k c y said.0, after_noise k c y ys said.0 (plain_along looks k c r [] ys knows follows said.1))
    plain_along looks k c r (x ∷ xs) (y ∷ ys) knows follows (inl noise) =
        (noise_fine aspect address k c y noise.0, after_noise k c y ys noise.0 (plain_along looks k c r (x ∷ xs) ys knows follows noise.1))
    plain_along looks k c r (x ∷ xs) (y ∷ ys) knows follows (inr said) =
        let here = knows_still address k r x.reader knows follows.0 in (
          said_fine k c x y said.0 (one_fine answer_of after reads aspect address k x here follows.1) (λ other. absurd (other looks)),
          after_said k c x y ys said.0 (plain_along looks (known_after address x.packet (heard_in answer_of after x) k)
              (claims_after address k x.packet (heard_in answer_of after x) c) (reader_after answer_of after x) xs ys
              (one_known answer_of after reads address k x here) follows.2 said.1),
        )

    -- ---- all rules, of a handler that does what its CAP says

    claims_along_fine : (caps : List Capability) (truth : KeepsClaims answer_of (claims_of caps)) (k : Known) (c : Claims) (keeps : KeepsClaims answer_of c)
        (r : ReaderState H) (xs : List (Exchange H)) (ys : List Sent)
        → Knows address k r → Follows answer_of after r xs → SaysStill caps xs → WereSaid answer_of after xs ys → FineAlong aspect address k c ys
    claims_along_fine caps truth k c keeps r xs [] knows follows still said = tt
    claims_along_fine caps truth k c keeps r [] (y ∷ ys) knows follows still said =
        (noise_fine aspect address k c y said.0, after_noise k c y ys said.0 (claims_along_fine caps truth k c keeps r [] ys knows follows still said.1))
    claims_along_fine caps truth k c keeps r (x ∷ xs) (y ∷ ys) knows follows still (inl noise) = (
      noise_fine aspect address k c y noise.0,
      after_noise k c y ys noise.0 (claims_along_fine caps truth k c keeps r (x ∷ xs) ys knows follows still noise.1),
    )
    claims_along_fine caps truth k c keeps r (x ∷ xs) (y ∷ ys) knows follows still (inr said) =
        let here = knows_still address k r x.reader knows follows.0 in
        let heard_ = heard_in answer_of after x in
        let so = λ (anew : is_anew address k x.packet ≡ true). by_way answer_of after reads caps truth c keeps address k x.reader x.packet x.way here anew still.0 follows.1 in (
          said_fine k c x y said.0 (one_fine answer_of after reads aspect address k x here follows.1)
              (λ of_cap. judged_fine answer_of after reads caps truth aspect c keeps address k x.packet heard_ so),
          after_said k c x y ys said.0 (claims_along_fine caps truth (known_after address x.packet heard_ k)
              (claims_after address k x.packet heard_ c) (after_kept answer_of after reads caps truth c keeps address k x.packet heard_ so)
              (reader_after answer_of after x) xs ys (one_known answer_of after reads address k x here) follows.2 still.1 said.1),
        )

  pub breaks_no_rule : BreaksNoRule answer_of after
  breaks_no_rule aspect r xs earlier scenario looks follows said =
      never_accused aspect r.config.address earlier scenario
      (plain_along aspect r.config.address looks Unknown no_claims r xs (earlier ++ scenario) refl follows said)

  pub breaks_no_claim : BreaksNoClaim answer_of after
  breaks_no_claim aspect r xs earlier scenario follows still truth said =
      never_accused aspect r.config.address earlier scenario
      (claims_along_fine aspect r.config.address r.config.caps.items truth Unknown no_claims (nothing_said answer_of after reads) r xs (earlier ++ scenario) refl follows still said)
