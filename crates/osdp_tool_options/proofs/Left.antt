-- Options that are read one after the other.
use Rattle.std.proofs.Common.{◌≡◌, ℕ, List, [], ◌∷◌, ◌++◌, Some, None, refl, sym, ap, ◌∙◌}
use Rattle.std.specs.Prelude.{flat_map}
use Rattle.osdp_tool_options.specs.Options.{AreOptions, ReadsOptions, TakesFirst, Words, option_words, with_options}

module _ {O M : Type 0} (name : O → List ℕ) (numbers : O → List ℕ) (Fits : O → Type 0) (with_option : O → M → M) (start : M) where
  -- what was read of the words, and what is left of them: options of what is left are the last of all
  pub record Left (given left : Words) (mode : M) : Type 0 where
    pub all : (rest : List O) → AreOptions name numbers Fits left rest
        → (options : List O) × AreOptions name numbers Fits given options × (with_options with_option options start ≡ with_options with_option rest mode)
    pub last : (options : List O) → AreOptions name numbers Fits given options
        → (rest : List O) × AreOptions name numbers Fits left rest × (with_options with_option options start ≡ with_options with_option rest mode)

  pub left_first : (given : Words) → Left given given start
  left_first given = record { all = λ rest g. (rest, g, refl); last = λ options g. (options, g, refl) }

  pub left_done : (given left : Words) (mode : M) → left ≡ [] → Left given left mode → ReadsOptions name numbers Fits with_option start given (Some mode)
  left_done given left mode none so_far = record {
    value = value_of (so_far.all [] (record { are = none; fit = tt }));
    only = λ options g. by_rest options (so_far.last options g);
  }
    where
      value_of : (options : List O) × AreOptions name numbers Fits given options × (with_options with_option options start ≡ mode)
          → (options : List O) × AreOptions name numbers Fits given options × (mode ≡ with_options with_option options start)
      value_of (options, g, e) = (options, g, sym e)

      no_words : (words : Words) (first : List ℕ) (rest : Words) → words ≡ [] → words ≡ first ∷ rest → ⊥
      no_words words first rest e h = cc

      by_rest : (options : List O) → (rest : List O) × AreOptions name numbers Fits left rest × (with_options with_option options start ≡ with_options with_option rest mode)
          → Some mode ≡ Some (with_options with_option options start)
      by_rest options ([], g, e) = ap Some (sym e)
      by_rest options (o ∷ rest, g, e) = absurd (no_words left _ _ none g.are)

  module _ (given : Words) (word : List ℕ) (left : Words) (mode : M) (so_far : Left given (word ∷ left) mode) (next : Words) where
    empty : word ∷ left ≡ [] → ⊥
    empty e = cc

    -- the words begin with no option
    pub no_option : TakesFirst name numbers Fits word left next None → ReadsOptions name numbers Fits with_option start given None
    no_option took = record { value = tt; only = λ options g. absurd (never (so_far.last options g)) }
      where
        none : {o : O} → None ≡ Some o → ⊥
        none e = cc

        never : {E : List O → Type 0} → (rest : List O) × AreOptions name numbers Fits (word ∷ left) rest × E rest → ⊥
        never ([], g, e) = empty g.are
        never (o ∷ rest, g, e) = none (took.only o (flat_map (option_words name numbers Fits) rest) g.fit.0 g.are).0

    -- this option is taken off
    pub left_more : (o : O) → TakesFirst name numbers Fits word left next (Some o) → Left given next (with_option o mode)
    left_more o took = record {
      all = λ rest g. so_far.all (o ∷ rest) (record { are = took.value.1 ∙ ap (λ l. option_words name numbers Fits o ++ l) g.are; fit = (took.value.0, g.fit) });
      last = λ options g. of_last options (so_far.last options g);
    }
      where
        same : {p : O} → Some o ≡ Some p → p ≡ o
        same e = cc

        of_last : (options : List O)
            → (rest : List O) × AreOptions name numbers Fits (word ∷ left) rest × (with_options with_option options start ≡ with_options with_option rest mode)
            → (rest : List O) × AreOptions name numbers Fits next rest × (with_options with_option options start ≡ with_options with_option rest (with_option o mode))
        of_last options ([], g, e) = absurd (empty g.are)
        of_last options (p ∷ others, g, e) =
            let taken = took.only p (flat_map (option_words name numbers Fits) others) g.fit.0 g.are in
            (others, record { are = taken.1; fit = g.fit.1 }, e ∙ ap (λ q. with_options with_option others (with_option q mode)) (same taken.0))
