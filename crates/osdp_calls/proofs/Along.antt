-- What a program notes along the moves of a net, and its rule.
use Rattle.osdp_calls.proofs.Common.{◌≡◌, ℕ, List, [], ◌∷◌, ◌++◌, Option, Some, None, refl, sym, subst, ap, ◌∙◌, Command, Answer, Each, IsSetUp, NetMoveFits, NetMovesFit, NobodyElseHears, Net, NetMove, Reopen, RestartPanel, RestartReader, Retarget, Site, Submit, ToPanel, after_net, run, site_at, HeardByOwn, fits_then, net_more}
use Rattle.osdp_shared_line.specs.Programs.{KeepRule, KeepsRule, Note, RestFits, RuleSuffices, no_notes, note_after, noted_at, notes_after}
use Rattle.osdp_calls.proofs.Losing.{IsStill}

module _ {H : Type 0} where
  -- a move on which the rule asks nothing
  abbrev pub IsFree : NetMove H → Type 0
  IsFree (Submit k command) = ⊥
  IsFree (Retarget k address) = ⊥
  IsFree (RestartReader k config handler room) = ⊥
  IsFree (RestartPanel settings) = ⊥
  IsFree _ = Unit {0}

  pub still_free : (move : NetMove H) → IsStill move → IsFree move
  still_free (Submit k command) still = still
  still_free (Retarget k address) still = still
  still_free (RestartReader k config handler room) still = still
  still_free (RestartPanel settings) still = still
  still_free _ still = tt

  still_note : (j : ℕ) (s : Site H) (move : NetMove H) (n : Net H) (note : Note) → IsStill move → note_after j s move n note ≡ note
  still_note j s (Submit k command) n note still = absurd still
  still_note j s (Retarget k address) n note still = absurd still
  still_note j s (ToPanel how now) n note still = absurd still
  still_note j s (Reopen k now) n note still = absurd still
  still_note j s (RestartReader k config handler room) n note still = absurd still
  still_note j s (RestartPanel settings) n note still = absurd still
  still_note j s _ n note still = refl

  still_noted : (move : NetMove H) (n : Net H) (notes : ℕ → Note) → IsStill move → notes_after move n notes ≡ notes
  still_noted move n notes still = λ i j. at j (site_at j n.sites) i
    where
      at : (j : ℕ) (o : Option (Site H)) → noted_at j o move n (notes j) ≡ notes j
      at j None = refl
      at j (Some s) = still_note j s move n (notes j) still

  rule_free : (move : NetMove H) (n : Net H) (notes : ℕ → Note) → IsFree move → KeepsRule move n notes
  rule_free (Submit k command) n notes free = absurd free
  rule_free (Retarget k address) n notes free = absurd free
  rule_free (RestartReader k config handler room) n notes free = absurd free
  rule_free (RestartPanel settings) n notes free = absurd free
  rule_free _ n notes free = tt

  module _ (answer_of : H → Command → Answer) (after : H → Command → H) where
    rest_free : (move : NetMove H) (n : Net H) → IsFree move → NetMoveFits answer_of after move n → RestFits answer_of after move n
    rest_free (Submit k command) n free fits = absurd free
    rest_free (Retarget k address) n free fits = absurd free
    rest_free (RestartReader k config handler room) n free fits = absurd free
    rest_free (RestartPanel settings) n free fits = absurd free
    rest_free _ n free fits = fits

    pub free_rule : (ms : List (NetMove H)) (n : Net H) (notes : ℕ → Note) → Each IsFree ms → NetMovesFit answer_of after ms n
        → KeepRule answer_of after ms n notes
    free_rule [] n notes free fit = tt
    free_rule (m ∷ ms) n notes free fit = (
      rest_free m n free.0 fit.0,
      rule_free m n notes free.0,
      free_rule ms (after_net answer_of after m n) (notes_after m n notes) free.1 fit.1,
    )

    -- ---- what is noted after a list of them

    abbrev pub notes_along : List (NetMove H) → Net H → (ℕ → Note) → ℕ → Note
    notes_along [] n notes = notes
    notes_along (m ∷ ms) n notes = notes_along ms (after_net answer_of after m n) (notes_after m n notes)

    pub still_along : (ms : List (NetMove H)) (n : Net H) (notes : ℕ → Note) → Each IsStill ms → notes_along ms n notes ≡ notes
    still_along [] n notes still = refl
    still_along (m ∷ ms) n notes still =
        still_along ms (after_net answer_of after m n) (notes_after m n notes) still.1 ∙ still_noted m n notes still.0

    pub along_then : (ms more : List (NetMove H)) (n : Net H) (notes : ℕ → Note)
        → notes_along (ms ++ more) n notes ≡ notes_along more (run answer_of after ms n) (notes_along ms n notes)
    along_then [] more n notes = refl
    along_then (m ∷ ms) more n notes = along_then ms more (after_net answer_of after m n) (notes_after m n notes)

    rule_then : (ms more : List (NetMove H)) (n : Net H) (notes : ℕ → Note) → KeepRule answer_of after ms n notes
        → KeepRule answer_of after more (run answer_of after ms n) (notes_along ms n notes) → KeepRule answer_of after (ms ++ more) n notes
    rule_then [] more n notes first last = last
    rule_then (m ∷ ms) more n notes first last =
        (first.0, first.1, rule_then ms more (after_net answer_of after m n) (notes_after m n notes) first.2 last)

    -- moves that keep to the rule come to this net, and to this that is noted
    pub record Path (n0 n : Net H) (notes : ℕ → Note) : Type 0 where
      pub moves : List (NetMove H)
      pub rule : KeepRule answer_of after moves n0 no_notes
      pub is : run answer_of after moves n0 ≡ n
      pub noted : notes_along moves n0 no_notes ≡ notes

    pub path_on : (n0 n m : Net H) (notes : ℕ → Note) (ms : List (NetMove H)) → Path n0 n notes → KeepRule answer_of after ms n notes
        → run answer_of after ms n ≡ m → Path n0 m (notes_along ms n notes)
    path_on n0 n m notes ms x rule is = record {
      moves = x.moves ++ ms;
      rule = rule_then x.moves ms n0 no_notes x.rule
          (subst (λ (p : Net H × (ℕ → Note)). KeepRule answer_of after ms p.0 p.1) (λ i. (sym x.is i, sym x.noted i)) rule);
      is = net_more answer_of after x.moves ms n0 ∙ ap (run answer_of after ms) x.is ∙ is;
      noted = along_then x.moves ms n0 no_notes ∙ (λ i. notes_along ms (x.is i) (x.noted i));
    }

    module _ (suffices : RuleSuffices answer_of after) (n0 : Net H) (up : IsSetUp n0) where
      -- one more that keeps to it fits
      pub next_fits : (n : Net H) (notes : ℕ → Note) → Path n0 n notes → (m : NetMove H) → RestFits answer_of after m n → KeepsRule m n notes
          → NetMoveFits answer_of after m n
      next_fits n notes x m rest rule =
          let all = suffices n0 (x.moves ++ m ∷ []) up (rule_then x.moves (m ∷ []) n0 no_notes x.rule
          (subst (λ (p : Net H × (ℕ → Note)). KeepRule answer_of after (m ∷ []) p.0 p.1) (λ i. (sym x.is i, sym x.noted i)) (rest, rule, tt))) in
          (subst (NetMovesFit answer_of after (m ∷ [])) x.is (fits_then answer_of after x.moves (m ∷ []) n0 all)).0

      pub heard_by_own : NobodyElseHears answer_of after → (n : Net H) (notes : ℕ → Note) → Path n0 n notes → HeardByOwn n
      heard_by_own nobody n notes x = subst HeardByOwn x.is (nobody n0 x.moves up (suffices n0 x.moves up x.rule)).heard
