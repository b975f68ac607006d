-- At which packets a rule looks, and the device's address there, are told by what went over the line.
use Rattle.osdp_panel_rules_laws.proofs.Common.{◌≡◌, ◌≢◌, inl, inr, ℕ, Bool, true, false, eqb, ◌||◌, [], ◌∷◌, ◌++◌, Option, refl, sym, ap, ◌∙◌, or_cases, eqb-true, eq-eqb, Packet, Event, Line, Rule, address_of, asked_in, came, device, looks, said, Each, IsAt, IsNoName, IsNumbered, IsSpoken, Looks, WasFor}

-- ---- the address

named_later : (e : Event) (address : ℕ) (line : Line) → IsNoName e → IsAt address line → IsAt address (e ∷ line)
named_later e address line none (inl h) =
    inl (record { since = e ∷ h.since; before = h.before; whole = ap (λ (l : Line). e ∷ l) h.whole; last = (none, h.last) })
named_later e address line none (inr h) = inr ((none, h.0), h.1)

pub at_address : (line : Line) → IsAt (address_of line) line
at_address [] = inr (tt, refl)
at_address (device address ∷ line) = inl (record { since = []; before = line; whole = refl; last = tt })
at_address (came number moment sent ∷ line) = named_later (came number moment sent) (address_of line) line tt (at_address line)
at_address (said reply ∷ line) = named_later (said reply) (address_of line) line tt (at_address line)

named_past : (since before : Line) (address : ℕ) → Each IsNoName since → address_of (since ++ device address ∷ before) ≡ address
named_past [] before address each = refl
named_past (device other ∷ since) before address each = absurd each.0
named_past (came number moment sent ∷ since) before address each = named_past since before address each.1
named_past (said reply ∷ since) before address each = named_past since before address each.1

never_named : (line : Line) → Each IsNoName line → address_of line ≡ 0
never_named [] each = refl
never_named (device other ∷ line) each = absurd each.0
never_named (came number moment sent ∷ line) each = never_named line each.1
never_named (said reply ∷ line) each = never_named line each.1

pub is_address : (address : ℕ) (line : Line) → IsAt address line → address_of line ≡ address
is_address address line (inl h) = ap address_of h.whole ∙ named_past h.since h.before address h.last
is_address address line (inr h) = never_named line h.0 ∙ sym h.1

-- ---- the rule for which something was answered

for_later : (reply : Option Packet) (number : ℕ) (line : Line) → WasFor number line → WasFor number (said reply ∷ line)
for_later reply number line h = record {
  since = said reply ∷ h.since;
  at = h.at;
  sent = h.sent;
  before = h.before;
  whole = ap (λ (l : Line). said reply ∷ l) h.whole;
  last = (tt, h.last);
}

was_for : (number : ℕ) (line : Line) → number ≢ 0 → number ≡ asked_in line → WasFor number line
was_for number [] above is = absurd (above is)
was_for number (device address ∷ line) above is = absurd (above is)
was_for number (came n moment sent ∷ line) above is =
    record { since = []; at = moment; sent = sent; before = line; whole = ap (λ m. came m moment sent ∷ line) (sym is); last = tt }
was_for number (said reply ∷ line) above is = for_later reply number line (was_for number line above is)

asked_past : (since before : Line) (number at : ℕ) (sent : Option Packet) → Each IsSpoken since → asked_in (since ++ came number at sent ∷ before) ≡ number
asked_past [] before number at sent each = refl
asked_past (device other ∷ since) before number at sent each = absurd each.0
asked_past (came n moment o ∷ since) before number at sent each = absurd each.0
asked_past (said reply ∷ since) before number at sent each = asked_past since before number at sent each.1

pub looks_there : (rule : Rule) (line : Line) → Looks rule line → looks rule line ≡ true
looks_there rule line (inl always) = ap (λ b. b || eqb rule.number (asked_in line)) always
looks_there rule line (inr h) =
    let asked : asked_in line ≡ rule.number = ap asked_in h.whole ∙ asked_past h.since h.before rule.number h.at h.sent h.last in
    or_last rule.is_always (eqb rule.number (asked_in line)) (eq-eqb rule.number (asked_in line) (sym asked))
  where
    or_last : (a b : Bool) → b ≡ true → (a || b) ≡ true
    or_last true b is = refl
    or_last false b is = is

pub there_looks : (rule : Rule) (line : Line) → IsNumbered rule → looks rule line ≡ true → Looks rule line
there_looks rule line numbered is = elim (or_cases rule.is_always (eqb rule.number (asked_in line)) is) [
  | inl always ↦ inl always
  | inr asked ↦ inr (was_for rule.number line numbered (eqb-true rule.number (asked_in line) asked))
]
