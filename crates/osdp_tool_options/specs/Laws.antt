-- What holds of options, in the words of who writes them.
use Rattle.std.specs.Prelude.{◌≡◌, ℕ, Bool, true, List, Option, IfSome}
use Rattle.osdp_tool_options.specs.Options.{TakesFirst, TakesNumber, Words}

-- words begin with one option at most, and what follows it is one list of words
abbrev pub BeginWithOne : {O : Type 0} → (O → List ℕ) → (O → List ℕ) → (O → Type 0) → Type 0
BeginWithOne {O} name numbers Fits =
    (word : List ℕ) (words rest others : Words) (one other : Option O)
    → TakesFirst name numbers Fits word words rest one → TakesFirst name numbers Fits word words others other
    → (one ≡ other) × IfSome one (λ option. rest ≡ others)

-- the same of the number of an option, whichever numbers are allowed
abbrev pub BeginWithOneNumber : Type 0
BeginWithOneNumber =
    (allowed : ℕ → Bool) (words rest others : Words) (one other : Option ℕ)
    → TakesNumber (λ n. allowed n ≡ true) words rest one → TakesNumber (λ n. allowed n ≡ true) words others other
    → (one ≡ other) × IfSome one (λ n. rest ≡ others)
