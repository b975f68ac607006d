-- Words ask for one thing.
use Rattle.std.proofs.Common.{◌≡◌, ℕ, Bool, true, List, ◌∷◌, ◌++◌, Option, Some, None, refl, sym, ap, ◌∙◌}
use Rattle.std.specs.Prelude.{IfSome}
use Rattle.std.specs.Fmt.{decimal}
use Rattle.osdp_tool_options.specs.Laws.{BeginWithOne, BeginWithOneNumber}
use Rattle.osdp_tool_options.specs.Options.{AreOptions, ReadsOptions, TakesFirst, TakesNumber, Words, option_words, with_options}

module _ {O M : Type 0} (name : O → List ℕ) (numbers : O → List ℕ) (Fits : O → Type 0) (with_option : O → M → M) (start : M) (words : Words) where
  found : (m : M) (s : Option M) → (options : List O) × AreOptions name numbers Fits words options × (m ≡ with_options with_option options start)
      → ReadsOptions name numbers Fits with_option start words s → Some m ≡ s
  found m s (options, are, is) b = ap Some is ∙ sym (b.only options are)

  -- reading has one result
  pub one_reading : (r s : Option M) → ReadsOptions name numbers Fits with_option start words r → ReadsOptions name numbers Fits with_option start words s → r ≡ s
  one_reading None None a b = refl
  one_reading None (Some m) a b = sym (found m None b.value a)
  one_reading (Some m) s a b = found m s a.value b

-- ---- one option, and one number

module _ {O : Type 0} (name : O → List ℕ) (numbers : O → List ℕ) (Fits : O → Type 0) (word : List ℕ) (words rest others : Words) where
  taken : (o : O) (other : Option O) → Fits o × (word ∷ words ≡ option_words name numbers Fits o ++ rest)
      → TakesFirst name numbers Fits word words others other → (other ≡ Some o) × (others ≡ rest)
  taken o other begins takes = takes.only o rest begins.0 begins.1

  one_begun : (one other : Option O) → TakesFirst name numbers Fits word words rest one → TakesFirst name numbers Fits word words others other
      → (one ≡ other) × IfSome one (λ option. rest ≡ others)
  one_begun None None a b = (refl, tt)
  one_begun None (Some o) a b = ((a.only o others b.value.0 b.value.1).0, tt)
  one_begun (Some o) other a b = let t = taken o other a.value b in (sym t.0, sym t.1)

pub one_first : {O : Type 0} (name : O → List ℕ) (numbers : O → List ℕ) (Fits : O → Type 0) → BeginWithOne name numbers Fits
one_first name numbers Fits word words rest others one other a b = one_begun name numbers Fits word words rest others one other a b

module _ (allowed : ℕ → Bool) (words rest others : Words) where
  abbrev Takes : Words → Option ℕ → Type 0
  Takes new result = TakesNumber (λ n. allowed n ≡ true) words new result

  same_rest : (n : ℕ) → words ≡ decimal n ∷ rest → words ≡ decimal n ∷ others → rest ≡ others
  same_rest n a b = cc

  with_number : (n : ℕ) (other : Option ℕ) → words ≡ decimal n ∷ rest → other ≡ Some n → Takes others other → rest ≡ others
  with_number n None begins is b = cc
  with_number n (Some m) begins is b =
      let m_is : m ≡ n = cc in
      same_rest n begins (b.value.1 ∙ ap (λ k. decimal k ∷ others) m_is)

  one_counted : (one other : Option ℕ) → Takes rest one → Takes others other → (one ≡ other) × IfSome one (λ n. rest ≡ others)
  one_counted None None a b = (refl, tt)
  one_counted None (Some m) a b = (a.only m others b.value.0 b.value.1, tt)
  one_counted (Some n) other a b =
      let is = b.only n rest a.value.0 a.value.1 in (sym is, with_number n other a.value.1 is b)

pub one_number : BeginWithOneNumber
one_number allowed words rest others one other a b = one_counted allowed words rest others one other a b
