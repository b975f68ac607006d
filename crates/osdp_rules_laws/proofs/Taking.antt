-- What is known after a list, and what the list says was taken.
use Rattle.osdp_rules_laws.proofs.Common.{◌≡◌, ◌≢◌, ◌⊎◌, inl, inr, ℕ, cond, eqb, not, ◌&&◌, List, [], ◌∷◌, Option, Some, None, refl, sym, subst, ap, ◌∙◌, cond-true, cond-false, cond_both, Packet, after_answer, after_heard, after_sent, known_after, asked, is_comset, is_to, takes_nothing, Known, Gone, Opened, Took, Unknown}
use Rattle.std.proofs.lemmas.Bool.{cases_Bool}
use Rattle.osdp_rules.specs.Runs.{Sent, heard, known_along, known_next}
use Rattle.osdp_rules_laws.specs.Lists.{AllLeave, Leaves, NoComset, Takes, TookLast}
use Rattle.osdp_rules_laws.specs.Terms.{IsComset, IsPlainTo}
use Rattle.osdp_rules_laws.proofs.Deciding.{Says, and_says, comset_says, no_says, not_says, says_no, takes_says, to_says}

-- what is known once a packet was taken
abbrev pub taken_as : Packet → Packet → Known
taken_as p a = cond (eqb p.sequence 0) Opened (Took p a)

plain_says : (address : ℕ) (p : Packet) → Says (is_to address p && not p.block) (IsPlainTo address p)
plain_says address p = and_says (is_to address p) (not p.block) _ _ (to_says address p) (not_says p.block)

same_packet_at : (o : Option Packet) (q p : Packet) → o ≡ Some q → o ≡ Some p → q ≡ p
same_packet_at o q p e f = cc

module _ (address : ℕ) where
  after_is : (k : Known) (p : Packet) (h : Option Packet) → k ≢ Gone → known_after address p h k ≡ after_sent address p h k
  after_is Gone p h here = absurd (here refl)
  after_is Unknown p h here = refl
  after_is Opened p h here = refl
  after_is (Took q b) p h here = refl

  -- a packet that is no COMSET
  sent_is : (k : Known) (p : Packet) (h : Option Packet) → k ≢ Gone → (IsComset p → ⊥)
      → known_after address p h k ≡ cond (is_to address p && not p.block) (after_heard p h k) k
  sent_is k p h here calm =
      after_is k p h here
      ∙ cond-false (is_comset (asked p)) Gone (cond (is_to address p && not p.block) (after_heard p h k) k) (no_says _ _ (comset_says p) calm)

  taken_here : (p a : Packet) → taken_as p a ≢ Gone
  taken_here p a = cond_both (eqb p.sequence 0) Opened (Took p a) (λ k. k ≢ Gone) (λ zero e. cc e) (λ above e. cc e)

  next_with : (k : Known) (x : Sent) (o h : Option Packet) → x.packet ≡ o → heard x ≡ h → known_next address x.packet (heard x) k ≡ known_next address o h k
  next_with k x o h packet hears = ap (λ y. known_next address y (heard x) k) packet ∙ ap (λ y. known_next address o y k) hears

  -- what one exchange comes to: nothing, that nothing is known, or that a packet was taken
  abbrev pub Came : Known → Sent → Known → Type 0
  Came k x new =
      ((new ≡ k) × Leaves address x) ⊎ (new ≡ Unknown) ⊎ ((q : Packet) × (b : Packet) × Takes address x q b × (new ≡ taken_as q b))

  came_by : (k : Known) (x : Sent) (o h : Option Packet) → x.packet ≡ o → heard x ≡ h → k ≢ Gone
      → ((p : Packet) → o ≡ Some p → IsComset p → ⊥) → Came k x (known_next address o h k)
  came_by k x None h packet hears here calm = inl (refl, λ p is own. absurd (cc (packet, is)))
  came_by k x (Some p) None packet hears here calm =
      let plain = is_to address p && not p.block in
      let is = sent_is k p None here (calm p refl) in
      elim (cases_Bool plain) [
        | inl own ↦ inr (inl (is ∙ cond-true plain Unknown k own))
        | inr other ↦ inl (
          is ∙ cond-false plain Unknown k other,
          λ q at own. absurd (says_no plain _ (plain_says address p) other
              (subst (λ r. IsPlainTo address r) (same_packet_at x.packet q p at packet) own)),
        )
      ]
  came_by k x (Some p) (Some a) packet hears here calm =
      let plain = is_to address p && not p.block in
      let later = after_answer p a k in
      let is = sent_is k p (Some a) here (calm p refl) in
      elim (cases_Bool plain) [
        | inr other ↦ inl (
          is ∙ cond-false plain later k other,
          λ q at own. absurd (says_no plain _ (plain_says address p) other
              (subst (λ r. IsPlainTo address r) (same_packet_at x.packet q p at packet) own)),
        )
        | inl own ↦ elim (cases_Bool (takes_nothing a)) [
          | inl nothing ↦ inl (
            is ∙ cond-true plain later k own ∙ cond-true (takes_nothing a) k (taken_as p a) nothing,
            λ q at to. (a, hears, (takes_says a).means nothing),
          )
          | inr takes ↦ inr (inr (
            p,
            a,
            record { packet = packet; own = (plain_says address p).means own; heard = hears; taken = says_no _ _ (takes_says a) takes },
            is ∙ cond-true plain later k own ∙ cond-false (takes_nothing a) k (taken_as p a) takes,
          ))
        ]
      ]

  came : (k : Known) (x : Sent) → k ≢ Gone → ((p : Packet) → x.packet ≡ Some p → IsComset p → ⊥)
      → Came k x (known_next address x.packet (heard x) k)
  came k x here calm = came_by k x x.packet (heard x) refl refl here calm

  still : (k : Known) (x : Sent) (new : Known) → k ≢ Gone → Came k x new → new ≢ Gone
  still k x new here (inl same) e = here (sym same.0 ∙ e)
  still k x new here (inr (inl unknown)) e = cc (sym unknown ∙ e)
  still k x new here (inr (inr took)) e = taken_here took.0 took.1 (sym took.3 ∙ e)

  abbrev pub Went : Known → List Sent → Known → Type 0
  Went k xs new =
      ((new ≡ k) × AllLeave address xs) ⊎ (new ≡ Unknown) ⊎ ((q : Packet) × (b : Packet) × TookLast address xs q b × (new ≡ taken_as q b))

  went_on : (k : Known) (x : Sent) (xs : List Sent) (next new : Known) → Came k x next → Went next xs new → Went k (x ∷ xs) new
  went_on k x xs next new came_ (inr (inl unknown)) = inr (inl unknown)
  went_on k x xs next new came_ (inr (inr took)) = inr (inr (took.0, took.1, inr took.2, took.3))
  went_on k x xs next new (inl same) (inl all) = inl (all.0 ∙ same.0, (same.1, all.1))
  went_on k x xs next new (inr (inl unknown)) (inl all) = inr (inl (all.0 ∙ unknown))
  went_on k x xs next new (inr (inr took)) (inl all) = inr (inr (took.0, took.1, inl (took.2, all.1), all.0 ∙ took.3))

  went : (k : Known) (xs : List Sent) → k ≢ Gone → NoComset xs → Went k xs (known_along address k xs)
  went k [] here calm = inl (refl, tt)
  went k (x ∷ xs) here calm =
      let next = known_next address x.packet (heard x) k in
      let at = came k x here calm.0 in
      went_on k x xs next (known_along address next xs) at (went next xs (still k x next here at) calm.1)

  -- ---- no COMSET

  gone_stays : (o h : Option Packet) → known_next address o h Gone ≡ Gone
  gone_stays None h = refl
  gone_stays (Some p) h = refl

  comset_next : (k : Known) (p : Packet) (h : Option Packet) → IsComset p → known_after address p h k ≡ Gone
  comset_next Gone p h is = refl
  comset_next Unknown p h is = cond-true (is_comset (asked p)) Gone _ ((comset_says p).shows is)
  comset_next Opened p h is = cond-true (is_comset (asked p)) Gone _ ((comset_says p).shows is)
  comset_next (Took q b) p h is = cond-true (is_comset (asked p)) Gone _ ((comset_says p).shows is)

  pub no_comset : (k : Known) (xs : List Sent) → known_along address k xs ≢ Gone → (k ≢ Gone) × NoComset xs
  no_comset k [] here = (here, tt)
  no_comset k (x ∷ xs) here =
      let later = no_comset (known_next address x.packet (heard x) k) xs here in (
        λ gone. later.0 (ap (λ y. known_next address x.packet (heard x) y) gone ∙ gone_stays x.packet (heard x)),
        (λ p is c. later.0 (ap (λ o. known_next address o (heard x) k) is ∙ comset_next k p (heard x) c), later.1),
      )

  pub not_gone : (k : Known) (xs : List Sent) → k ≢ Gone → NoComset xs → known_along address k xs ≢ Gone
  not_gone k [] here calm = here
  not_gone k (x ∷ xs) here calm =
      not_gone (known_next address x.packet (heard x) k) xs (still k x _ here (came k x here calm.0)) calm.1

  -- ---- what was taken

  leaves_by : (k : Known) (x : Sent) (o h : Option Packet) → x.packet ≡ o → heard x ≡ h → k ≢ Gone
      → ((p : Packet) → o ≡ Some p → IsComset p → ⊥) → Leaves address x → known_next address o h k ≡ k
  leaves_by k x None h packet hears here calm leaves = refl
  leaves_by k x (Some p) h packet hears here calm leaves =
      let plain = is_to address p && not p.block in
      let is = sent_is k p h here (calm p refl) in
      elim (cases_Bool plain) [
        | inr other ↦ is ∙ cond-false plain (after_heard p h k) k other
        | inl own ↦ is ∙ cond-true plain (after_heard p h k) k own
            ∙ (let at = leaves p packet ((plain_says address p).means own) in
            ap (λ y. after_heard p y k) (sym hears ∙ at.1) ∙ cond-true (takes_nothing at.0) k (taken_as p at.0) ((takes_says at.0).shows at.2))
      ]

  takes_next : (k : Known) (x : Sent) (p a : Packet) → k ≢ Gone → (IsComset p → ⊥) → Takes address x p a
      → known_next address x.packet (heard x) k ≡ taken_as p a
  takes_next k x p a here calm takes =
      let plain = is_to address p && not p.block in
      next_with k x (Some p) (Some a) takes.packet takes.heard ∙ sent_is k p (Some a) here calm
      ∙ cond-true plain (after_answer p a k) k ((plain_says address p).shows takes.own)
      ∙ cond-false (takes_nothing a) k (taken_as p a) (no_says _ _ (takes_says a) takes.taken)

  stays_along : (k : Known) (xs : List Sent) → k ≢ Gone → NoComset xs → AllLeave address xs → known_along address k xs ≡ k
  stays_along k [] here calm all = refl
  stays_along k (x ∷ xs) here calm all =
      let same = leaves_by k x x.packet (heard x) refl refl here calm.0 all.0 in
      ap (λ y. known_along address y xs) same ∙ stays_along k xs here calm.1 all.1

  took_along : (k : Known) (xs : List Sent) (p a : Packet) → k ≢ Gone → NoComset xs → TookLast address xs p a → known_along address k xs ≡ taken_as p a
  took_along k [] p a here calm took = absurd took
  took_along k (x ∷ xs) p a here calm (inl took) =
      let same = takes_next k x p a here (calm.0 p took.0.packet) took.0 in
      ap (λ y. known_along address y xs) same ∙ stays_along (taken_as p a) xs (taken_here p a) calm.1 took.1
  took_along k (x ∷ xs) p a here calm (inr took) =
      took_along (known_next address x.packet (heard x) k) xs p a (still k x _ here (came k x here calm.0)) calm.1 took

  -- ---- from a list's beginning, where nothing is known

  abbrev pub known : List Sent → Known
  known past = known_along address Unknown past

  unknown_here : Unknown ≢ Gone
  unknown_here e = cc e

  pub here_known : (past : List Sent) → NoComset past → known past ≢ Gone
  here_known past calm = not_gone Unknown past unknown_here calm

  pub known_here : (past : List Sent) → known past ≢ Gone → NoComset past
  known_here past here = (no_comset Unknown past here).1

  pub took : (past : List Sent) (p a : Packet) → NoComset past → TookLast address past p a → known past ≡ taken_as p a
  took past p a calm is = took_along Unknown past p a unknown_here calm is

  pub taken : (past : List Sent) → NoComset past
      → (known past ≡ Unknown) ⊎ ((q : Packet) × (b : Packet) × TookLast address past q b × (known past ≡ taken_as q b))
  taken past calm = elim (went Unknown past unknown_here calm) [
    | inl same ↦ inl same.0
    | inr o ↦ o
  ]
