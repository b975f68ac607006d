-- Lines all of whose characters count.
use Rattle.osdp_tool_streams.proofs.Common.{◌≡◌, inl, inr, ℕ, cond, not, true, false, List, [], ◌∷◌, ◌++◌, length, Bool, Option, Some, None, MatchOption, refl, sym, subst, ap, ◌∙◌, arith, hex_digit_value, is_blank, kept, said, IsComment, SpellsBytes}
use Rattle.osdp_tool_streams.proofs.Spelled.{said_is, is_said}

-- a digit is no blank
digit_counts : (c v : ℕ) → hex_digit_value c ≡ Some v → is_blank c ≡ false
digit_counts c v h = grind (arith)

kept_spelled : (characters bytes : List ℕ) → SpellsBytes characters bytes → kept characters ≡ characters
kept_spelled [] bytes s = refl
kept_spelled (high ∷ []) bytes s = absurd s
kept_spelled (high ∷ low ∷ digits) [] s = absurd s
kept_spelled (high ∷ low ∷ digits) (b ∷ bytes) s =
    ap (λ t. cond (not t) (high ∷ kept (low ∷ digits)) (kept (low ∷ digits))) (digit_counts high _ s.0)
    ∙ ap (λ l. high ∷ l) (ap (λ t. cond (not t) (low ∷ kept digits) (kept digits)) (digit_counts low _ s.1)
    ∙ ap (λ l. low ∷ l) (kept_spelled digits bytes s.2))

comment_kept : (characters : List ℕ) → IsComment characters → IsComment (kept characters)
comment_kept [] h = absurd h
comment_kept (c ∷ characters) h =
    subst (λ n. IsComment (cond (not (is_blank n)) (n ∷ kept characters) (kept characters))) (sym h) refl

-- what all characters of a line say is what those say that count
pub said_kept : (characters bytes : List ℕ) → said characters ≡ Some bytes → said (kept characters) ≡ Some bytes
said_kept characters bytes h =
    elim (said_is characters bytes h) [
      | inl comment ↦ is_said (kept characters) bytes (inl (comment_kept characters comment.0, comment.1))
      | inr spelled ↦ ap said (kept_spelled characters bytes spelled) ∙ h
    ]

pub no_items : (items : List ℕ) → length items ≡ 0 → items ≡ []
no_items [] h = refl
no_items (item ∷ items) h = absurd (omega arith)

-- where a line said something all at once, nothing was held
pub says_at_once : (held characters bytes : List ℕ) (good : Bool) → held ≡ []
    → MatchOption (said characters) (good ≡ false) (λ read. (good ≡ true) × (bytes ≡ read)) → good ≡ true
    → MatchOption (said (held ++ kept characters)) (true ≡ false) (λ read. (true ≡ true) × (bytes ≡ read))
says_at_once held characters bytes good none h is =
    let says = said_kept characters bytes (some_said (said characters) h) in
    subst (λ o. MatchOption o (true ≡ false) (λ read. (true ≡ true) × (bytes ≡ read))) (sym (ap (λ l. said (l ++ kept characters)) none ∙ says)) (refl, refl)
  where
    some_said : (o : Option (List ℕ)) → MatchOption o (good ≡ false) (λ read. (good ≡ true) × (bytes ≡ read)) → o ≡ Some bytes
    some_said None m = cc
    some_said (Some read) m = ap Some (sym m.1)
