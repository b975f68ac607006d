-- What is found at a place in a list, by what was sent there and what was heard.
use Rattle.osdp_rules_laws.proofs.Common.{◌≡◌, ◌≢◌, ◌⊎◌, inl, inr, ℕ, Bool, true, false, cond, List, Option, Some, None, refl, sym, ap, ◌∙◌, cond-true, cond-false, Packet, judged, sent_judged, turn_judged, last_number, turn_of, has_reason, is_to, Aspect, Known, Gone, Opened, Took, Unknown, Turn, Again, New, NobodyKnows, Out, Nothing, block_finding, new_finding, quiet_finding, repeat_finding, taken_finding, turned_away, wrong_finding}
use Rattle.osdp_rules.specs.Findings.{deaf_finding, silent_finding}
use Rattle.osdp_rules.specs.Judging.{noise_judged}
use Rattle.osdp_rules.specs.Runs.{Sent, heard}
use Rattle.osdp_rules.specs.Showing.{bytes_shown, packet_shown}
use Rattle.osdp_rules.specs.declared.claims.Claims.{Claims}
use Rattle.osdp_rules.specs.declared.finding.Finding.{Finding}
use Rattle.osdp_rules_laws.specs.Lists.{IsAnswered, IsNew}
use Rattle.osdp_rules_laws.specs.Rules.{ToNew}
use Rattle.osdp_rules_laws.proofs.Deciding.{no_says, reason_says, says_no, to_says}
use Rattle.osdp_rules_laws.proofs.Taking.{here_known, known, known_here}
use Rattle.osdp_rules_laws.proofs.Turns.{new_turn, turn_new}

pub cond_is : (b : Bool) (x y f : Finding) → cond b x y ≡ f → ((b ≡ true) × (x ≡ f)) ⊎ ((b ≡ false) × (y ≡ f))
cond_is true x y f e = inl (refl, e)
cond_is false x y f e = inr (refl, e)

-- by what is known of numbers, and of bytes without a packet
abbrev pub plainly : Aspect → ℕ → Known → Option Packet → Option Packet → Finding
plainly aspect address k None h = noise_judged aspect h
plainly aspect address k (Some p) h = judged aspect address k p h

-- a rule about answers to packets: it is silent elsewhere
pub record IsOfAnswers (aspect : Aspect) : Type 0 where
  pub packet : (address : ℕ) (k : Known) (claims : Claims) (p : Packet) (h : Option Packet) → packet_shown aspect address k claims p h ≡ judged aspect address k p h
  pub quiet : (answered : Bool) → quiet_finding aspect answered ≡ Nothing
  pub deaf : (a : Packet) → deaf_finding aspect a ≡ Nothing
  pub silent : silent_finding aspect ≡ Nothing

-- an answer to a packet to the device, whose number and block aren't looked at
pub record IsHeard (aspect : Aspect) (address : ℕ) (k : Known) (o h : Option Packet) (f : Finding) : Type 0 where
  pub p : Packet
  pub a : Packet
  pub packet : o ≡ Some p
  pub answer : h ≡ Some a
  pub here : k ≢ Gone
  pub to : is_to address p ≡ true
  pub undamaged : has_reason 1 a ≡ false
  pub found : cond p.block (block_finding aspect a) (turn_judged (turn_of (last_number k) p.sequence) aspect k p a) ≡ f

pub judged_here : (aspect : Aspect) (address : ℕ) (k : Known) (p : Packet) (h : Option Packet) → k ≢ Gone → judged aspect address k p h ≡ sent_judged aspect address k p h
judged_here aspect address Gone p h here = absurd (here refl)
judged_here aspect address Unknown p h here = refl
judged_here aspect address Opened p h here = refl
judged_here aspect address (Took q b) p h here = refl

pub judged_gone : (aspect : Aspect) (address : ℕ) (k : Known) (p : Packet) (h : Option Packet) (f : Finding) → f ≢ Nothing → judged aspect address k p h ≡ f → k ≢ Gone
judged_gone aspect address Gone p h f some e g = some (sym e)
judged_gone aspect address Unknown p h f some e g = cc g
judged_gone aspect address Opened p h f some e g = cc g
judged_gone aspect address (Took q b) p h f some e g = cc g

pub nothing_is : (f : Finding) (x : Finding) → f ≢ Nothing → x ≡ f → x ≡ Nothing → ⊥
nothing_is f x some e is = some (sym e ∙ is)

pub heard_at : (aspect : Aspect) (address : ℕ) (k : Known) (o h : Option Packet) (f : Finding) → IsOfAnswers aspect → f ≢ Nothing
    → plainly aspect address k o h ≡ f → IsHeard aspect address k o h f
heard_at aspect address k None None f of some e = absurd (nothing_is f _ some e of.silent)
heard_at aspect address k None (Some a) f of some e = absurd (nothing_is f _ some e (of.deaf a))
heard_at aspect address k (Some p) None f of some e =
    let here = judged_gone aspect address k p None f some e in
    elim (cond_is (is_to address p) Nothing (quiet_finding aspect false) f (sym (judged_here aspect address k p None here) ∙ e)) [
      | inl to ↦ absurd (nothing_is f _ some to.1 refl)
      | inr other ↦ absurd (nothing_is f _ some other.1 (of.quiet false))
    ]
heard_at aspect address k (Some p) (Some a) f of some e =
    let here = judged_gone aspect address k p (Some a) f some e in
    let later = cond p.block (block_finding aspect a) (turn_judged (turn_of (last_number k) p.sequence) aspect k p a) in
    elim (cond_is (is_to address p) (cond (has_reason 1 a) Nothing later) (quiet_finding aspect true) f
    (sym (judged_here aspect address k p (Some a) here) ∙ e)) [
      | inr other ↦ absurd (nothing_is f _ some other.1 (of.quiet true))
      | inl to ↦ elim (cond_is (has_reason 1 a) Nothing later f to.1) [
        | inl damaged ↦ absurd (nothing_is f _ some damaged.1 refl)
        | inr whole ↦ record { p = p; a = a; packet = refl; answer = refl; here = here; to = to.0; undamaged = whole.0; found = whole.1 }
      ]
    ]

-- .. and back
pub at_heard : (aspect : Aspect) (address : ℕ) (k : Known) (p a : Packet) (f : Finding) → k ≢ Gone → is_to address p ≡ true → has_reason 1 a ≡ false
    → cond p.block (block_finding aspect a) (turn_judged (turn_of (last_number k) p.sequence) aspect k p a) ≡ f
    → judged aspect address k p (Some a) ≡ f
at_heard aspect address k p a f here to undamaged e =
    let later = cond p.block (block_finding aspect a) (turn_judged (turn_of (last_number k) p.sequence) aspect k p a) in
    judged_here aspect address k p (Some a) here
    ∙ cond-true (is_to address p) (cond (has_reason 1 a) Nothing later) (quiet_finding aspect true) to
    ∙ cond-false (has_reason 1 a) Nothing later undamaged
    ∙ e

pub bytes_plain : (aspect : Aspect) (address : ℕ) (k : Known) (claims : Claims) (o h : Option Packet) → IsOfAnswers aspect
    → bytes_shown aspect address k claims o h ≡ plainly aspect address k o h
bytes_plain aspect address k claims None h of = refl
bytes_plain aspect address k claims (Some p) h of = of.packet address k claims p h

-- ---- by turns

pub turn_cases : (t : Turn) (aspect : Aspect) (k : Known) (p a : Packet) (f : Finding) → f ≢ Nothing → turn_judged t aspect k p a ≡ f
    → ((t ≡ New) × (new_finding aspect p a ≡ f)) ⊎ ((t ≡ Again) × (repeat_finding aspect k p a ≡ f)) ⊎ ((t ≡ Out) × (wrong_finding aspect a ≡ f))
turn_cases New aspect k p a f some e = inl (refl, e)
turn_cases Again aspect k p a f some e = inr (inl (refl, e))
turn_cases Out aspect k p a f some e = inr (inr (refl, e))
turn_cases NobodyKnows aspect k p a f some e = absurd (some (sym e))

module _ (address : ℕ) (past : List Sent) (x : Sent) where
  abbrev pub Found : Aspect → Finding → Type 0
  Found aspect f = plainly aspect address (known address past) x.packet (heard x) ≡ f

  pub answered : (aspect : Aspect) (f : Finding) → (h : IsHeard aspect address (known address past) x.packet (heard x) f) → IsAnswered address past x h.p h.a
  answered aspect f h = record {
    here = known_here address past h.here;
    packet = h.packet;
    to = (to_says address h.p).means h.to;
    heard = h.answer;
    undamaged = says_no _ _ (reason_says 1 h.a) h.undamaged;
  }

  -- an answer is judged by its block, and by its turn
  pub back : (aspect : Aspect) (f : Finding) (p a : Packet) → IsAnswered address past x p a
      → cond p.block (block_finding aspect a) (turn_judged (turn_of (last_number (known address past)) p.sequence) aspect (known address past) p a) ≡ f
      → Found aspect f
  back aspect f p a is e =
      ap (λ o. plainly aspect address (known address past) o (heard x)) is.packet
      ∙ ap (λ h. judged aspect address (known address past) p h) is.heard
      ∙ at_heard aspect address (known address past) p a f (here_known address past is.here) ((to_says address p).shows is.to)
      (no_says _ _ (reason_says 1 a) is.undamaged) e

  pub by_turn : (aspect : Aspect) (f : Finding) (p a : Packet) (t : Turn) → IsAnswered address past x p a → p.block ≡ false
      → turn_of (last_number (known address past)) p.sequence ≡ t → turn_judged t aspect (known address past) p a ≡ f → Found aspect f
  by_turn aspect f p a t is plain turn e =
      back aspect f p a is
      (cond-false p.block (block_finding aspect a) _ plain ∙ ap (λ u. turn_judged u aspect (known address past) p a) turn ∙ e)

  -- a rule that looks at packets with a new number
  pub record IsOfNew (aspect : Aspect) : Type 0 where
    pub answers : IsOfAnswers aspect
    pub block : (a : Packet) → block_finding aspect a ≡ Nothing
    pub again : (k : Known) (p a : Packet) → repeat_finding aspect k p a ≡ Nothing
    pub out : (a : Packet) → wrong_finding aspect a ≡ Nothing

  pub new_found : (aspect : Aspect) (f : Finding) → IsOfNew aspect → f ≢ Nothing → Found aspect f
      → (p : Packet) × (a : Packet) × IsAnswered address past x p a × (p.block ≡ false) × IsNew address past p × (new_finding aspect p a ≡ f)
  new_found aspect f of some e =
      let h = heard_at aspect address (known address past) x.packet (heard x) f of.answers some e in
      let k = known address past in
      let is = answered aspect f h in
      elim (cond_is h.p.block (block_finding aspect h.a) (turn_judged (turn_of (last_number k) h.p.sequence) aspect k h.p h.a) f h.found) [
        | inl block ↦ absurd (nothing_is f _ some block.1 (of.block h.a))
        | inr plain ↦ elim (turn_cases (turn_of (last_number k) h.p.sequence) aspect k h.p h.a f some plain.1) [
          | inl new ↦ (h.p, h.a, is, plain.0, turn_new address past h.p is.here new.0, new.1)
          | inr (inl again) ↦ absurd (nothing_is f _ some again.1 (of.again k h.p h.a))
          | inr (inr out) ↦ absurd (nothing_is f _ some out.1 (of.out h.a))
        ]
      ]

  pub found_new : (aspect : Aspect) (f : Finding) (p a : Packet) → IsAnswered address past x p a → p.block ≡ false → IsNew address past p
      → new_finding aspect p a ≡ f → Found aspect f
  found_new aspect f p a is plain new e = by_turn aspect f p a New is plain (new_turn address past p is.here new) e

  -- .. other than NAK 4
  pub taken_found : (aspect : Aspect) (f : Finding) → IsOfNew aspect → turned_away aspect ≡ Nothing → f ≢ Nothing → Found aspect f
      → ToNew address (λ p a. taken_finding aspect p a ≡ f) past x
  taken_found aspect f of away some e =
      let n = new_found aspect f of some e in
      elim (cond_is (has_reason 4 n.1) (turned_away aspect) (taken_finding aspect n.0 n.1) f n.5) [
        | inl refused ↦ absurd (nothing_is f _ some refused.1 away)
        | inr taken ↦ (n.0, n.1, n.2, n.3, n.4, says_no _ _ (reason_says 4 n.1) taken.0, taken.1)
      ]

  pub found_taken : (aspect : Aspect) (f : Finding) → ToNew address (λ p a. taken_finding aspect p a ≡ f) past x → Found aspect f
  found_taken aspect f n =
      found_new aspect f n.0 n.1 n.2 n.3 n.4
      (cond-false (has_reason 4 n.1) (turned_away aspect) (taken_finding aspect n.0 n.1) (no_says _ _ (reason_says 4 n.1) n.5) ∙ n.6)
