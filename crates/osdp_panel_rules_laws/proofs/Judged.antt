-- What a packet shows of a rule is what it does by all that went over the line before.
use Rattle.osdp_panel_rules_laws.proofs.Common.{◌≡◌, ◌≢◌, ◌<◌, inl, inr, ℕ, ◌-◌, Bool, true, false, cond, eqb, Option, Some, None, refl, sym, ap, ◌∙◌, arith, cond-false, cond-true, cond_both, eq-eqb, eqb-true, eqb-false, ne_eqb, leb-true, leb-false, le-leb, nat_le, Packet, again_finding, is_order, lapse_finding, refusal_finding, sequel_of, wait_finding, after_judged, judged, last_judged, reply_judged, sent_judged, unanswered_judged, Aspect, Known, Said, Silence, Noise, Astray, Busy, Damage, Refusal, Answer, Sequel, Again, Anew, Altered, Next, Out, code_of, Finding, Nothing, Kept, Either, Broken, Line, known_of, Follows, IsTo, Breaks, IsOrder, Keeps, LeavesOpen}
use Rattle.osdp_panel_rules.specs.declared.aspect.Aspect.TheVariants as rule
use Rattle.osdp_panel_rules_laws.proofs.Following.{IsKnown, follows_so, is_known, next_above_zero}

-- what is known of the last packet
abbrev known_as : Option Packet → ℕ → Bool → Said → Known
known_as last at answered s = record { last = last; moment = at; answered = answered; said = s }

not_zero : (n : ℕ) (x y : Finding) → n ≢ 0 → cond (eqb n 0) x y ≡ y
not_zero n x y above = cond-false (eqb n 0) x y (ne_eqb n 0 above)

not_le : (m n : ℕ) → n < m → nat_le m n ≡ false
not_le m n less = by_case (nat_le m n) refl
  where
    by_case : (b : Bool) → nat_le m n ≡ b → nat_le m n ≡ false
    by_case false is = is
    by_case true is = let le = leb-true m n is in absurd (omega (arith, less, le))

module _ (address : ℕ) (earlier : Line) (moment : ℕ) (q : Packet) where
  -- what a finding says
  abbrev pub Does : Finding → Aspect → Type 0
  Does Nothing aspect = Unit {0}
  Does Kept aspect = Keeps address earlier moment q aspect
  Does Either aspect = LeavesOpen address earlier moment q aspect
  Does Broken aspect = Breaks address earlier moment q aspect

  -- ---- what is found is done

  abbrev Found : Packet → Option Packet → ℕ → Bool → Said → Sequel → ℕ → Aspect → Type 0
  Found p last at b s how wait aspect = Does (last_judged aspect (known_as last at b s) p q.sequence how wait) aspect

  -- .. by the number
  turn_found : (p : Packet) (last : Option Packet) (at : ℕ) (b : Bool) (s : Said) (how : Sequel) (wait : ℕ)
      → Follows address earlier moment q p b s how wait → Found p last at b s how wait rule.Turn
  turn_found p last at b s Next wait f = (p, b, s, wait, f)
  turn_found p last at b s Out wait f = (p, b, s, wait, f)
  turn_found p last at b s how wait f = tt

  copy_found : (p : Packet) (last : Option Packet) (at : ℕ) (b : Bool) (s : Said) (how : Sequel) (wait : ℕ)
      → Follows address earlier moment q p b s how wait → Found p last at b s how wait rule.Copy
  copy_found p last at b s Again wait f = (p, b, s, wait, f)
  copy_found p last at b s Altered wait f = (p, b, s, wait, f)
  copy_found p last at b s how wait f = tt

  answer_found : (p : Packet) (last : Option Packet) (at : ℕ) (b : Bool) (s : Said) (how : Sequel) (wait : ℕ)
      → Follows address earlier moment q p b s how wait → Found p last at b s how wait rule.Answer
  answer_found p last at b Answer Next wait f = (p, b, wait, f)
  answer_found p last at b Answer Anew wait f = (p, b, wait, f)
  answer_found p last at b Answer how wait f = tt
  answer_found p last at b s how wait f = tt

  -- .. by the clock
  haste_found : (p : Packet) (wait : ℕ) → q.sequence ≢ 0 → Follows address earlier moment q p false Silence Again wait → Does (wait_finding wait) rule.Wait
  haste_found p wait above f =
      cond_both (nat_le 200 wait) Kept (cond (nat_le 150 wait) Either Broken) (λ x. Does x rule.Wait)
      (λ long. (above, p, wait, leb-true 200 wait long, f))
      (λ short. cond_both (nat_le 150 wait) Either Broken (λ x. Does x rule.Wait)
      (λ nearly. (above, p, wait, (leb-true 150 wait nearly, leb-false 200 wait short), f))
      (λ shorter. (above, p, wait, leb-false 150 wait shorter, f)))

  wait_found : (p : Packet) (last : Option Packet) (at : ℕ) (b : Bool) (s : Said) (how : Sequel) (wait : ℕ)
      → Follows address earlier moment q p b s how wait → Found p last at b s how wait rule.Wait
  wait_found p last at true s how wait f = tt
  wait_found p last at false Silence Again wait f =
      cond_both (eqb q.sequence 0) Nothing (wait_finding wait) (λ x. Does x rule.Wait) (λ _. tt)
      (λ above. haste_found p wait (eqb-false q.sequence 0 above) f)
  wait_found p last at false Silence how wait f = tt
  wait_found p last at false s how wait f = tt

  online_found : (p : Packet) (last : Option Packet) (at : ℕ) (b : Bool) (s : Said) (how : Sequel) (wait : ℕ)
      → Follows address earlier moment q p b s how wait → Found p last at b s how wait rule.Online
  online_found p last at false s how wait f = tt
  online_found p last at true s Next wait f =
      cond_both (nat_le wait 8000) Kept (cond (nat_le wait 8500) Either Broken) (λ x. Does x rule.Online)
      (λ soon. (p, s, wait, leb-true wait 8000 soon, f))
      (λ late. cond_both (nat_le wait 8500) Either Broken (λ x. Does x rule.Online)
      (λ nearly. (p, s, wait, (leb-false wait 8000 late, leb-true wait 8500 nearly), f))
      (λ later. (p, s, wait, leb-false wait 8500 later, f)))
  online_found p last at true s how wait f = tt

  -- .. by what was said to a packet without an answer
  abbrev Unsaid : Aspect → Said → Packet → Sequel → Type 0
  Unsaid aspect s p how = Does (unanswered_judged aspect s p q.sequence how) aspect

  order_found : (p : Packet) (how : Sequel) (wait : ℕ) → IsOrder p → Follows address earlier moment q p false Silence how wait
      → Does (again_finding how) rule.Order
  order_found p Again wait order f = (p, wait, order, f)
  order_found p Anew wait order f = (p, wait, order, f)
  order_found p Next wait order f = (p, wait, order, f)
  order_found p how wait order f = tt

  -- a copy with number 0
  copy_found_anew : (aspect : Aspect) → (q.sequence ≡ 0 → Does Kept aspect) → Does (cond (eqb q.sequence 0) Kept Nothing) aspect
  copy_found_anew aspect kept = cond_both (eqb q.sequence 0) Kept Nothing (λ x. Does x aspect) (λ zero. kept (eqb-true q.sequence 0 zero)) (λ _. tt)

  refusal_found : (p : Packet) (how : Sequel) (wait : ℕ) → Follows address earlier moment q p false Refusal how wait
      → Does (refusal_finding q.sequence how) rule.Refusal
  refusal_found p Again wait f = copy_found_anew rule.Refusal (λ zero. (zero, Again, (p, wait, f)))
  refusal_found p Anew wait f = (f.comes.1, Anew, (p, wait, f))
  refusal_found p Altered wait f = inr (p, wait, f)
  refusal_found p Next wait f = inl (inl (p, wait, f))
  refusal_found p Out wait f = inl (inr (p, wait, f))

  lapse_found : (p : Packet) (how : Sequel) (wait : ℕ) → Follows address earlier moment q p false Silence how wait
      → Does (lapse_finding q.sequence how) rule.Lapse
  lapse_found p Again wait f = copy_found_anew rule.Lapse (λ zero. (zero, Again, (p, wait, f)))
  lapse_found p Anew wait f = (f.comes.1, Anew, (p, wait, f))
  lapse_found p Altered wait f = tt
  lapse_found p Next wait f = inl (p, wait, f)
  lapse_found p Out wait f = inr (p, wait, f)

  unsaid_found : (aspect : Aspect) (p : Packet) (s : Said) (how : Sequel) (wait : ℕ) → Follows address earlier moment q p false s how wait
      → Unsaid aspect s p how
  unsaid_found rule.Silence p Silence Again wait f = (p, wait, f)
  unsaid_found rule.Silence p Silence Anew wait f = (p, wait, f)
  unsaid_found rule.Silence p Silence Next wait f = (p, wait, f)
  unsaid_found rule.Noise p Noise Again wait f = (p, wait, f)
  unsaid_found rule.Noise p Noise Anew wait f = (p, wait, f)
  unsaid_found rule.Noise p Noise Next wait f = (p, wait, f)
  unsaid_found rule.Astray p Astray Again wait f = (p, wait, f)
  unsaid_found rule.Astray p Astray Anew wait f = (p, wait, f)
  unsaid_found rule.Astray p Astray Next wait f = (p, wait, f)
  unsaid_found rule.Busy p Busy Again wait f = (p, wait, f)
  unsaid_found rule.Busy p Busy Anew wait f = (p, wait, f)
  unsaid_found rule.Busy p Busy Next wait f = (p, wait, f)
  unsaid_found rule.Damage p Damage Again wait f = (p, wait, f)
  unsaid_found rule.Damage p Damage Anew wait f = inl (p, wait, f)
  unsaid_found rule.Damage p Damage Next wait f = inr (p, wait, f)
  unsaid_found rule.Order p Silence how wait f =
      cond_both (is_order p) (again_finding how) Nothing (λ x. Does x rule.Order) (λ order. order_found p how wait (leb-true 0x68 (code_of p) order) f) (λ _. tt)
  unsaid_found rule.Refusal p Refusal how wait f = refusal_found p how wait f
  unsaid_found rule.Lapse p Silence how wait f = lapse_found p how wait f
  unsaid_found aspect p s how wait f = tt

  other_found : (aspect : Aspect) (p : Packet) (b : Bool) (s : Said) (how : Sequel) (wait : ℕ) → Follows address earlier moment q p b s how wait
      → Does (cond b Nothing (unanswered_judged aspect s p q.sequence how)) aspect
  other_found aspect p true s how wait f = tt
  other_found aspect p false s how wait f = unsaid_found aspect p s how wait f

  last_found : (aspect : Aspect) (p : Packet) (last : Option Packet) (at : ℕ) (b : Bool) (s : Said) (how : Sequel) (wait : ℕ)
      → Follows address earlier moment q p b s how wait → Found p last at b s how wait aspect
  last_found rule.Turn p last at b s how wait f = turn_found p last at b s how wait f
  last_found rule.Copy p last at b s how wait f = copy_found p last at b s how wait f
  last_found rule.Answer p last at b s how wait f = answer_found p last at b s how wait f
  last_found rule.Wait p last at b s how wait f = wait_found p last at b s how wait f
  last_found rule.Online p last at b s how wait f = online_found p last at b s how wait f
  last_found aspect p last at b s how wait f = other_found aspect p b s how wait f

  abbrev k : Known
  k = known_of address earlier

  after_found : (aspect : Aspect) (last : Option Packet) → k.last ≡ last → IsTo address q → Does (after_judged last aspect k q moment) aspect
  after_found aspect None is to = tt
  after_found aspect (Some p) is to =
      last_found aspect p k.last k.moment k.answered k.said (sequel_of p q) (moment - k.moment) (follows_so address earlier moment q to p is)

  sent_found : (aspect : Aspect) → IsTo address q → Does (sent_judged aspect k q moment) aspect
  sent_found rule.Asks to = to
  sent_found rule.Reserved to =
      cond_both (eqb q.reserved 0) Kept Either (λ x. Does x rule.Reserved) (λ none. (to, eqb-true q.reserved 0 none)) (λ some. (to, eqb-false q.reserved 0 some))
  sent_found rule.Plain to =
      cond_both q.block Either Kept (λ x. Does x rule.Plain) (λ is. (to, is)) (λ is. (to, is))
  sent_found aspect to = after_found aspect k.last refl to

  reply_found : (aspect : Aspect) → q.reply ≡ true → q.address ≡ address → Does (reply_judged aspect) aspect
  reply_found rule.Asks reply at = (reply, at)
  reply_found aspect reply at = tt

  pub is_found : (aspect : Aspect) → Does (judged aspect address k q moment) aspect
  is_found aspect =
      cond_both (eqb q.address address) (cond q.reply (reply_judged aspect) (sent_judged aspect k q moment)) Nothing (λ x. Does x aspect)
      (λ at. cond_both q.reply (reply_judged aspect) (sent_judged aspect k q moment) (λ x. Does x aspect)
      (λ reply. reply_found aspect reply (eqb-true q.address address at))
      (λ asks. sent_found aspect (record { asks = asks; there = eqb-true q.address address at })))
      (λ _. tt)

  -- ---- what is done is found

  to_sent : (aspect : Aspect) → IsTo address q → judged aspect address k q moment ≡ sent_judged aspect k q moment
  to_sent aspect to =
      cond-true (eqb q.address address) (cond q.reply (reply_judged aspect) (sent_judged aspect k q moment)) Nothing (eq-eqb q.address address to.there)
      ∙ cond-false q.reply (reply_judged aspect) (sent_judged aspect k q moment) to.asks

  at_last : (aspect : Aspect) (p : Packet) (b : Bool) (s : Said) (how : Sequel) (wait : ℕ) → IsKnown address earlier moment q p b s how wait
      → after_judged k.last aspect k q moment ≡ last_judged aspect (known_as k.last k.moment b s) p q.sequence how wait
  at_last aspect p b s how wait h =
      ap (λ o. after_judged o aspect k q moment) h.last
      ∙ ap (λ x. last_judged aspect k p q.sequence x (moment - k.moment)) h.comes
      ∙ ap (λ x. last_judged aspect k p q.sequence how x) h.waits
      ∙ ap (λ x. last_judged aspect (known_as k.last k.moment x k.said) p q.sequence how wait) h.answers
      ∙ ap (λ x. last_judged aspect (known_as k.last k.moment b x) p q.sequence how wait) h.says

  by_last : (aspect : Aspect) (p : Packet) (b : Bool) (s : Said) (how : Sequel) (wait : ℕ) (found : Finding)
      → Follows address earlier moment q p b s how wait → sent_judged aspect k q moment ≡ after_judged k.last aspect k q moment
      → last_judged aspect (known_as k.last k.moment b s) p q.sequence how wait ≡ found → judged aspect address k q moment ≡ found
  by_last aspect p b s how wait found f sent is =
      to_sent aspect f.to ∙ sent ∙ at_last aspect p b s how wait (is_known address earlier moment q p b s how wait f) ∙ is

  -- an order
  ordered : (p : Packet) (x : Finding) → IsOrder p → cond (is_order p) x Nothing ≡ x
  ordered p x order = cond-true (is_order p) x Nothing (le-leb 0x68 (code_of p) order)

  -- the next number isn't 0
  next_above : (p : Packet) (b : Bool) (s : Said) (wait : ℕ) → Follows address earlier moment q p b s Next wait → q.sequence ≢ 0
  next_above p b s wait f zero = next_above_zero p.sequence (sym f.comes ∙ zero)

  -- number 0 is the same again, or another packet
  restarts : (p : Packet) (s : Said) (how : Sequel) (wait : ℕ) → q.sequence ≡ 0 → Follows address earlier moment q p false s how wait
      → (refusal_finding q.sequence how ≡ Kept) × (lapse_finding q.sequence how ≡ Kept)
  restarts p s Again wait zero f =
      let is = cond-true (eqb q.sequence 0) Kept Nothing (eq-eqb q.sequence 0 zero) in
      (is, is)
  restarts p s Anew wait zero f = (refl, refl)
  restarts p s Altered wait zero f = absurd (f.comes.1 zero)
  restarts p s Next wait zero f = absurd (next_above p false s wait f zero)
  restarts p s Out wait zero f = absurd (f.comes.0 zero)

  pub broken_found : (aspect : Aspect) → Breaks address earlier moment q aspect → judged aspect address k q moment ≡ Broken
  broken_found rule.Asks (reply, at) =
      cond-true (eqb q.address address) (cond q.reply Broken Kept) Nothing (eq-eqb q.address address at) ∙ cond-true q.reply Broken Kept reply
  broken_found rule.Turn (p, b, s, wait, f) = by_last rule.Turn p b s Out wait Broken f refl refl
  broken_found rule.Copy (p, b, s, wait, f) = by_last rule.Copy p b s Altered wait Broken f refl refl
  broken_found rule.Silence (p, wait, f) = by_last rule.Silence p false Silence Next wait Broken f refl refl
  broken_found rule.Order (p, wait, order, f) = by_last rule.Order p false Silence Next wait Broken f refl (ordered p Broken order)
  broken_found rule.Noise (p, wait, f) = by_last rule.Noise p false Noise Next wait Broken f refl refl
  broken_found rule.Astray (p, wait, f) = by_last rule.Astray p false Astray Next wait Broken f refl refl
  broken_found rule.Busy (p, wait, f) = by_last rule.Busy p false Busy Next wait Broken f refl refl
  broken_found rule.Refusal (inl (inl (p, wait, f))) = by_last rule.Refusal p false Refusal Next wait Broken f refl refl
  broken_found rule.Refusal (inl (inr (p, wait, f))) = by_last rule.Refusal p false Refusal Out wait Broken f refl refl
  broken_found rule.Refusal (inr (p, wait, f)) = by_last rule.Refusal p false Refusal Altered wait Broken f refl refl
  broken_found rule.Lapse (inl (p, wait, f)) = by_last rule.Lapse p false Silence Next wait Broken f refl refl
  broken_found rule.Lapse (inr (p, wait, f)) = by_last rule.Lapse p false Silence Out wait Broken f refl refl
  broken_found rule.Wait (above, p, wait, short, f) =
      by_last rule.Wait p false Silence Again wait Broken f refl
      (not_zero q.sequence Nothing (wait_finding wait) above
      ∙ cond-false (nat_le 200 wait) Kept (cond (nat_le 150 wait) Either Broken) (not_le 200 wait (omega (arith, short)))
      ∙ cond-false (nat_le 150 wait) Either Broken (not_le 150 wait short))
  broken_found rule.Online (p, s, wait, late, f) =
      by_last rule.Online p true s Next wait Broken f refl
      (cond-false (nat_le wait 8000) Kept (cond (nat_le wait 8500) Either Broken) (not_le wait 8000 (omega (arith, late)))
      ∙ cond-false (nat_le wait 8500) Either Broken (not_le wait 8500 late))
  broken_found aspect h = absurd h

  pub open_found : (aspect : Aspect) → LeavesOpen address earlier moment q aspect → judged aspect address k q moment ≡ Either
  open_found rule.Reserved (to, some) = to_sent rule.Reserved to ∙ cond-false (eqb q.reserved 0) Kept Either (ne_eqb q.reserved 0 some)
  open_found rule.Plain (to, is) = to_sent rule.Plain to ∙ cond-true q.block Either Kept is
  open_found rule.Answer (p, b, wait, f) = by_last rule.Answer p b Answer Anew wait Either f refl refl
  open_found rule.Silence (p, wait, f) = by_last rule.Silence p false Silence Anew wait Either f refl refl
  open_found rule.Order (p, wait, order, f) = by_last rule.Order p false Silence Anew wait Either f refl (ordered p Either order)
  open_found rule.Noise (p, wait, f) = by_last rule.Noise p false Noise Anew wait Either f refl refl
  open_found rule.Astray (p, wait, f) = by_last rule.Astray p false Astray Anew wait Either f refl refl
  open_found rule.Busy (p, wait, f) = by_last rule.Busy p false Busy Anew wait Either f refl refl
  open_found rule.Damage (inl (p, wait, f)) = by_last rule.Damage p false Damage Anew wait Either f refl refl
  open_found rule.Damage (inr (p, wait, f)) = by_last rule.Damage p false Damage Next wait Either f refl refl
  open_found rule.Wait (above, p, wait, (nearly, short), f) =
      by_last rule.Wait p false Silence Again wait Either f refl
      (not_zero q.sequence Nothing (wait_finding wait) above
      ∙ cond-false (nat_le 200 wait) Kept (cond (nat_le 150 wait) Either Broken) (not_le 200 wait short)
      ∙ cond-true (nat_le 150 wait) Either Broken (le-leb 150 wait nearly))
  open_found rule.Online (p, s, wait, (late, nearly), f) =
      by_last rule.Online p true s Next wait Either f refl
      (cond-false (nat_le wait 8000) Kept (cond (nat_le wait 8500) Either Broken) (not_le wait 8000 late)
      ∙ cond-true (nat_le wait 8500) Either Broken (le-leb wait 8500 nearly))
  open_found aspect h = absurd h

  pub kept_found : (aspect : Aspect) → Keeps address earlier moment q aspect → judged aspect address k q moment ≡ Kept
  kept_found rule.Asks to = to_sent rule.Asks to
  kept_found rule.Reserved (to, none) = to_sent rule.Reserved to ∙ cond-true (eqb q.reserved 0) Kept Either (eq-eqb q.reserved 0 none)
  kept_found rule.Plain (to, is) = to_sent rule.Plain to ∙ cond-false q.block Either Kept is
  kept_found rule.Turn (p, b, s, wait, f) = by_last rule.Turn p b s Next wait Kept f refl refl
  kept_found rule.Copy (p, b, s, wait, f) = by_last rule.Copy p b s Again wait Kept f refl refl
  kept_found rule.Answer (p, b, wait, f) = by_last rule.Answer p b Answer Next wait Kept f refl refl
  kept_found rule.Silence (p, wait, f) = by_last rule.Silence p false Silence Again wait Kept f refl refl
  kept_found rule.Order (p, wait, order, f) = by_last rule.Order p false Silence Again wait Kept f refl (ordered p Kept order)
  kept_found rule.Noise (p, wait, f) = by_last rule.Noise p false Noise Again wait Kept f refl refl
  kept_found rule.Astray (p, wait, f) = by_last rule.Astray p false Astray Again wait Kept f refl refl
  kept_found rule.Busy (p, wait, f) = by_last rule.Busy p false Busy Again wait Kept f refl refl
  kept_found rule.Damage (p, wait, f) = by_last rule.Damage p false Damage Again wait Kept f refl refl
  kept_found rule.Refusal (zero, how, (p, wait, f)) = by_last rule.Refusal p false Refusal how wait Kept f refl (restarts p Refusal how wait zero f).0
  kept_found rule.Lapse (zero, how, (p, wait, f)) = by_last rule.Lapse p false Silence how wait Kept f refl (restarts p Silence how wait zero f).1
  kept_found rule.Wait (above, p, wait, long, f) =
      by_last rule.Wait p false Silence Again wait Kept f refl
      (not_zero q.sequence Nothing (wait_finding wait) above
      ∙ cond-true (nat_le 200 wait) Kept (cond (nat_le 150 wait) Either Broken) (le-leb 200 wait long))
  kept_found rule.Online (p, s, wait, soon, f) =
      by_last rule.Online p true s Next wait Kept f refl
      (cond-true (nat_le wait 8000) Kept (cond (nat_le wait 8500) Either Broken) (le-leb wait 8000 soon))
