-- Options of a command, in any order; a later one of a kind holds.
use Rattle.std.specs.Prelude.{◌≡◌, ℕ, List, [], ◌∷◌, ◌++◌, flat_map, map, Option, None, Some, IfSome}
use Rattle.std.specs.Fmt.{decimal}
use Rattle.std.specs.List.{AllByRecursion}

abbrev pub Words : Type 0
Words = List (List ℕ)

module _ {O : Type 0} (name : O → List ℕ) (numbers : O → List ℕ) (Fits : O → Type 0) where
  -- the words of an option: its name, and each of its numbers in decimal digits
  abbrev pub option_words : O → Words
  option_words option = name option ∷ map decimal (numbers option)

  -- the words are these options, one after the other
  pub record AreOptions (words : Words) (options : List O) : Type 0 where
    pub are : words ≡ flat_map option_words options
    pub fit : AllByRecursion Fits options

  -- these words begin with the option, which leaves the new ones; where there is none, they begin with no option
  pub record TakesFirst (word : List ℕ) (old new : Words) (result : Option O) : Type 0 where
    pub value : IfSome result (λ option. Fits option × (word ∷ old ≡ option_words option ++ new))
    pub only : (option : O) (rest : Words) → Fits option → word ∷ old ≡ option_words option ++ rest → (result ≡ Some option) × (new ≡ rest)

-- each after those before it
abbrev pub with_options : {O M : Type 0} → (O → M → M) → List O → M → M
with_options with_option [] mode = mode
with_options with_option (option ∷ options) mode = with_options with_option options (with_option option mode)

-- what the words ask for: it is what options that they are make of the start, and there are no others that they are
pub record ReadsOptions {O M : Type 0} (name : O → List ℕ) (numbers : O → List ℕ) (Fits : O → Type 0) (with_option : O → M → M) (start : M)
    (words : Words) (result : Option M) : Type 0 where
  pub value : IfSome result (λ mode. (options : List O) × AreOptions name numbers Fits words options × (mode ≡ with_options with_option options start))
  pub only : (options : List O) → AreOptions name numbers Fits words options → result ≡ Some (with_options with_option options start)

-- ---- the number of an option

-- the number at the head of the words, which it takes off; of the numbers that are allowed
pub record TakesNumber (Allowed : ℕ → Type 0) (old new : Words) (result : Option ℕ) : Type 0 where
  pub value : IfSome result (λ n. Allowed n × (old ≡ decimal n ∷ new))
  pub only : (n : ℕ) (rest : Words) → Allowed n → old ≡ decimal n ∷ rest → result ≡ Some n

-- an option with that number
abbrev pub numbered : {O : Type 0} → (ℕ → O) → Option ℕ → Option O
numbered option None = None
numbered option (Some n) = Some (option n)
