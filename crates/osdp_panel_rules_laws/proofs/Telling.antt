-- The verdict on a rule is told by the places of the line at which it looks.
use Rattle.osdp_panel_rules_laws.proofs.Common.{◌≡◌, ◌≢◌, ◌⊎◌, inl, inr, ℕ, Bool, true, false, cond, [], ◌∷◌, ◌++◌, Some, None, refl, sym, subst, ap, ◌∙◌, cond-true, Packet, judged, Aspect, Finding, Nothing, Kept, Either, Broken, Verdict, verdict_after, Event, Line, Rule, address_of, came, device, known_of, looks, said, shown, verdict_of, Breaks, Keeps, LeavesOpen, Finds, IsAt, IsNowhere, IsNumbered, Looks, NeverAccuses, Somewhere, TellsOk, TellsOpen, TellsUnclear}
use Rattle.osdp_rules.specs.declared.verdict.Verdict.TheVariants as verdict
use Rattle.osdp_panel_rules_laws.proofs.Looking.{at_address, is_address, looks_there, there_looks}
use Rattle.osdp_panel_rules_laws.proofs.Judged.{Does, broken_found, is_found, kept_found, open_found}

-- what a packet may do, as the laws say it
abbrev pub Deed : Type 1
Deed = ℕ → Line → ℕ → Packet → Aspect → Type 0

abbrev pub breaking : Deed
breaking address earlier moment q aspect = Breaks address earlier moment q aspect

abbrev pub opening : Deed
opening address earlier moment q aspect = LeavesOpen address earlier moment q aspect

abbrev pub keeping : Deed
keeping address earlier moment q aspect = Keeps address earlier moment q aspect

-- ---- the latest event

abbrev Here : Deed → Rule → Event → Line → Type 0
Here deed rule (device address) earlier = ⊥
Here deed rule (came number moment None) earlier = ⊥
Here deed rule (came number moment (Some q)) earlier = (looks rule earlier ≡ true) × deed (address_of earlier) earlier moment q rule.aspect
Here deed rule (said reply) earlier = ⊥

here_somewhere : (deed : Deed) (rule : Rule) (numbered : IsNumbered rule) (e : Event) (earlier : Line) → Here deed rule e earlier → Somewhere deed rule (e ∷ earlier)
here_somewhere deed rule numbered (device address) earlier h = absurd h
here_somewhere deed rule numbered (came number moment None) earlier h = absurd h
here_somewhere deed rule numbered (came number moment (Some q)) earlier h =
    record {
      later = [];
      number = number;
      moment = moment;
      packet = q;
      earlier = earlier;
      whole = refl;
      there = there_looks rule earlier numbered h.0;
      address = address_of earlier;
      at = at_address earlier;
      does = h.1;
    }
here_somewhere deed rule numbered (said reply) earlier h = absurd h

later_somewhere : (deed : Deed) (rule : Rule) (e : Event) (line : Line) → Somewhere deed rule line → Somewhere deed rule (e ∷ line)
later_somewhere deed rule e line h = record {
  later = e ∷ h.later;
  number = h.number;
  moment = h.moment;
  packet = h.packet;
  earlier = h.earlier;
  whole = ap (λ (l : Line). e ∷ l) h.whole;
  there = h.there;
  address = h.address;
  at = h.at;
  does = h.does;
}

same_head : (d e : Event) (k l : Line) → d ∷ k ≡ e ∷ l → (d ≡ e) × (k ≡ l)
same_head d e k l same = (cc, cc)

somewhere_by : (deed : Deed) (rule : Rule) (e : Event) (line later : Line) (number moment : ℕ) (q : Packet) (earlier : Line) (address : ℕ)
    → e ∷ line ≡ later ++ came number moment (Some q) ∷ earlier → Looks rule earlier → IsAt address earlier → deed address earlier moment q rule.aspect
    → Here deed rule e line ⊎ Somewhere deed rule line
somewhere_by deed rule e line [] number moment q earlier address whole there at does =
    let same = same_head e (came number moment (Some q)) line earlier whole in
    inl (subst (λ x. Here deed rule x line) (sym same.0)
    (subst (λ l. Here deed rule (came number moment (Some q)) l) (sym same.1)
    (looks_there rule earlier there, subst (λ a. deed a earlier moment q rule.aspect) (sym (is_address address earlier at)) does)))
somewhere_by deed rule e line (x ∷ later) number moment q earlier address whole there at does =
    let same = same_head e x line (later ++ came number moment (Some q) ∷ earlier) whole in
    inr (record {
      later = later;
      number = number;
      moment = moment;
      packet = q;
      earlier = earlier;
      whole = same.1;
      there = there;
      address = address;
      at = at;
      does = does;
    })

somewhere_cases : (deed : Deed) (rule : Rule) (e : Event) (line : Line) → Somewhere deed rule (e ∷ line) → Here deed rule e line ⊎ Somewhere deed rule line
somewhere_cases deed rule e line h = somewhere_by deed rule e line h.later h.number h.moment h.packet h.earlier h.address h.whole h.there h.at h.does

nowhere_more : (deed : Deed) (rule : Rule) (e : Event) (line : Line) → (Here deed rule e line → ⊥) → IsNowhere deed rule line → IsNowhere deed rule (e ∷ line)
nowhere_more deed rule e line none nowhere h = elim (somewhere_cases deed rule e line h) [
  | inl here ↦ none here
  | inr there ↦ nowhere there
]

nowhere_none : (deed : Deed) (rule : Rule) → IsNowhere deed rule []
nowhere_none deed rule h = no_place h.later h.whole
  where
    no_place : (later : Line) → [] ≡ later ++ came h.number h.moment (Some h.packet) ∷ h.earlier → ⊥
    no_place [] whole = cc
    no_place (x ∷ later) whole = cc

-- ---- what it shows

-- the rule looks, and finds it
at_place : (rule : Rule) (moment : ℕ) (q : Packet) (earlier : Line) (number : ℕ) (found : Finding) → looks rule earlier ≡ true
    → judged rule.aspect (address_of earlier) (known_of (address_of earlier) earlier) q moment ≡ found
    → shown rule (came number moment (Some q)) earlier ≡ found
at_place rule moment q earlier number found there is =
    cond-true (looks rule earlier) (judged rule.aspect (address_of earlier) (known_of (address_of earlier) earlier) q moment) Nothing there ∙ is

broken_here : (rule : Rule) (e : Event) (earlier : Line) → Here breaking rule e earlier → shown rule e earlier ≡ Broken
broken_here rule (device address) earlier h = absurd h
broken_here rule (came number moment None) earlier h = absurd h
broken_here rule (came number moment (Some q)) earlier h =
    at_place rule moment q earlier number Broken h.0 (broken_found (address_of earlier) earlier moment q rule.aspect h.1)
broken_here rule (said reply) earlier h = absurd h

open_here : (rule : Rule) (e : Event) (earlier : Line) → Here opening rule e earlier → shown rule e earlier ≡ Either
open_here rule (device address) earlier h = absurd h
open_here rule (came number moment None) earlier h = absurd h
open_here rule (came number moment (Some q)) earlier h =
    at_place rule moment q earlier number Either h.0 (open_found (address_of earlier) earlier moment q rule.aspect h.1)
open_here rule (said reply) earlier h = absurd h

kept_here : (rule : Rule) (e : Event) (earlier : Line) → Here keeping rule e earlier → shown rule e earlier ≡ Kept
kept_here rule (device address) earlier h = absurd h
kept_here rule (came number moment None) earlier h = absurd h
kept_here rule (came number moment (Some q)) earlier h =
    at_place rule moment q earlier number Kept h.0 (kept_found (address_of earlier) earlier moment q rule.aspect h.1)
kept_here rule (said reply) earlier h = absurd h

abbrev IsHere : Finding → Rule → Event → Line → Type 0
IsHere Nothing rule e earlier = Unit {0}
IsHere Kept rule e earlier = Here keeping rule e earlier
IsHere Either rule e earlier = Here opening rule e earlier
IsHere Broken rule e earlier = Here breaking rule e earlier

does_here : (rule : Rule) (number moment : ℕ) (q : Packet) (earlier : Line) (found : Finding) → looks rule earlier ≡ true
    → Does (address_of earlier) earlier moment q found rule.aspect → IsHere found rule (came number moment (Some q)) earlier
does_here rule number moment q earlier Nothing there does = tt
does_here rule number moment q earlier Kept there does = (there, does)
does_here rule number moment q earlier Either there does = (there, does)
does_here rule number moment q earlier Broken there does = (there, does)

is_here : (rule : Rule) (e : Event) (earlier : Line) → IsHere (shown rule e earlier) rule e earlier
is_here rule (device address) earlier = tt
is_here rule (came number moment None) earlier = tt
is_here rule (came number moment (Some q)) earlier = by_looks (looks rule earlier) refl
  where
    found : Finding
    found = judged rule.aspect (address_of earlier) (known_of (address_of earlier) earlier) q moment

    by_looks : (b : Bool) → looks rule earlier ≡ b → IsHere (cond b found Nothing) rule (came number moment (Some q)) earlier
    by_looks true there = does_here rule number moment q earlier found there (is_found (address_of earlier) earlier moment q rule.aspect)
    by_looks false there = tt
is_here rule (said reply) earlier = tt

-- ---- the verdict

abbrev pub Told : Verdict → Rule → Line → Type 0
Told verdict.Broken rule line = Somewhere breaking rule line
Told verdict.Either rule line = IsNowhere breaking rule line × Somewhere opening rule line
Told verdict.Ok rule line = IsNowhere breaking rule line × IsNowhere opening rule line × Somewhere keeping rule line
Told verdict.Unclear rule line = IsNowhere breaking rule line × IsNowhere opening rule line × IsNowhere keeping rule line

module _ (rule : Rule) (numbered : IsNumbered rule) (e : Event) (line : Line) where
  no_break : (found : Finding) → shown rule e line ≡ found → found ≢ Broken → Here breaking rule e line → ⊥
  no_break found is differ h = differ (sym is ∙ broken_here rule e line h)

  no_open : (found : Finding) → shown rule e line ≡ found → found ≢ Either → Here opening rule e line → ⊥
  no_open found is differ h = differ (sym is ∙ open_here rule e line h)

  no_keep : (found : Finding) → shown rule e line ≡ found → found ≢ Kept → Here keeping rule e line → ⊥
  no_keep found is differ h = differ (sym is ∙ kept_here rule e line h)

  unbroken : (found : Finding) → shown rule e line ≡ found → found ≢ Broken → IsNowhere breaking rule line → IsNowhere breaking rule (e ∷ line)
  unbroken found is differ = nowhere_more breaking rule e line (no_break found is differ)

  unopen : (found : Finding) → shown rule e line ≡ found → found ≢ Either → IsNowhere opening rule line → IsNowhere opening rule (e ∷ line)
  unopen found is differ = nowhere_more opening rule e line (no_open found is differ)

  unkept : (found : Finding) → shown rule e line ≡ found → found ≢ Kept → IsNowhere keeping rule line → IsNowhere keeping rule (e ∷ line)
  unkept found is differ = nowhere_more keeping rule e line (no_keep found is differ)

  told_more : (v : Verdict) (found : Finding) → Told v rule line → shown rule e line ≡ found → IsHere found rule e line
      → Told (verdict_after v found) rule (e ∷ line)
  told_more verdict.Broken found told is here = later_somewhere breaking rule e line told
  told_more verdict.Unclear Broken told is here = here_somewhere breaking rule numbered e line here
  told_more verdict.Ok Broken told is here = here_somewhere breaking rule numbered e line here
  told_more verdict.Either Broken told is here = here_somewhere breaking rule numbered e line here
  told_more verdict.Unclear Nothing told is here = (
    unbroken Nothing is (λ x. cc) told.0,
    unopen Nothing is (λ x. cc) told.1,
    unkept Nothing is (λ x. cc) told.2,
  )
  told_more verdict.Ok Nothing told is here = (
    unbroken Nothing is (λ x. cc) told.0,
    unopen Nothing is (λ x. cc) told.1,
    later_somewhere keeping rule e line told.2,
  )
  told_more verdict.Either Nothing told is here = (unbroken Nothing is (λ x. cc) told.0, later_somewhere opening rule e line told.1)
  told_more verdict.Unclear Either told is here = (unbroken Either is (λ x. cc) told.0, here_somewhere opening rule numbered e line here)
  told_more verdict.Ok Either told is here = (unbroken Either is (λ x. cc) told.0, here_somewhere opening rule numbered e line here)
  told_more verdict.Either Either told is here = (unbroken Either is (λ x. cc) told.0, here_somewhere opening rule numbered e line here)
  told_more verdict.Unclear Kept told is here = (
    unbroken Kept is (λ x. cc) told.0,
    unopen Kept is (λ x. cc) told.1,
    here_somewhere keeping rule numbered e line here,
  )
  told_more verdict.Ok Kept told is here = (
    unbroken Kept is (λ x. cc) told.0,
    unopen Kept is (λ x. cc) told.1,
    later_somewhere keeping rule e line told.2,
  )
  told_more verdict.Either Kept told is here = (unbroken Kept is (λ x. cc) told.0, later_somewhere opening rule e line told.1)

told_so : (rule : Rule) (numbered : IsNumbered rule) (line : Line) → Told (verdict_of rule line) rule line
told_so rule numbered [] = (nowhere_none breaking rule, nowhere_none opening rule, nowhere_none keeping rule)
told_so rule numbered (e ∷ line) =
    told_more rule numbered e line (verdict_of rule line) (shown rule e line) (told_so rule numbered line) refl (is_here rule e line)

-- one verdict is told
one_told : (rule : Rule) (line : Line) (v w : Verdict) → Told v rule line → Told w rule line → v ≡ w
one_told rule line verdict.Broken verdict.Broken t u = refl
one_told rule line verdict.Either verdict.Either t u = refl
one_told rule line verdict.Ok verdict.Ok t u = refl
one_told rule line verdict.Unclear verdict.Unclear t u = refl
one_told rule line verdict.Broken verdict.Either t u = absurd (u.0 t)
one_told rule line verdict.Broken verdict.Ok t u = absurd (u.0 t)
one_told rule line verdict.Broken verdict.Unclear t u = absurd (u.0 t)
one_told rule line verdict.Either verdict.Broken t u = absurd (t.0 u)
one_told rule line verdict.Ok verdict.Broken t u = absurd (t.0 u)
one_told rule line verdict.Unclear verdict.Broken t u = absurd (t.0 u)
one_told rule line verdict.Either verdict.Ok t u = absurd (u.1 t.1)
one_told rule line verdict.Either verdict.Unclear t u = absurd (u.1 t.1)
one_told rule line verdict.Ok verdict.Either t u = absurd (t.1 u.1)
one_told rule line verdict.Unclear verdict.Either t u = absurd (t.1 u.1)
one_told rule line verdict.Ok verdict.Unclear t u = absurd (u.2 t.2)
one_told rule line verdict.Unclear verdict.Ok t u = absurd (t.2 u.2)

pub told_of : (rule : Rule) (numbered : IsNumbered rule) (line : Line) (v : Verdict) → verdict_of rule line ≡ v → Told v rule line
told_of rule numbered line v is = subst (λ w. Told w rule line) is (told_so rule numbered line)

verdict_is : (rule : Rule) (numbered : IsNumbered rule) (line : Line) (v : Verdict) → Told v rule line → verdict_of rule line ≡ v
verdict_is rule numbered line v told = one_told rule line (verdict_of rule line) v (told_so rule numbered line) told

pub finds : Finds
finds rule line numbered h = verdict_is rule numbered line verdict.Broken h

pub never_accuses : NeverAccuses
never_accuses rule line numbered nowhere broken = nowhere (told_of rule numbered line verdict.Broken broken)

pub tells_open : TellsOpen
tells_open rule line numbered = (told_of rule numbered line verdict.Either, verdict_is rule numbered line verdict.Either)

pub tells_ok : TellsOk
tells_ok rule line numbered = (told_of rule numbered line verdict.Ok, verdict_is rule numbered line verdict.Ok)

pub tells_unclear : TellsUnclear
tells_unclear rule line numbered = (told_of rule numbered line verdict.Unclear, verdict_is rule numbered line verdict.Unclear)
