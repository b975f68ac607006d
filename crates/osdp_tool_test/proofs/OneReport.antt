-- What lines show by the rows of rules is one list, and so a test of lines ends in one way.
use Rattle.osdp_tool_test.proofs.Common.{◌≡◌, ◌∙◌, ℕ, ◌-◌, ◌==◌, Bool, true, false, if◌then◌else◌, List, [], ◌∷◌, map, Option, Some, None, refl, sym, ap, option_map, slice_get, Word, Told, EndsByItsLines, rule_in, Tests, IsFirstBad, LinesFind, LinesSay, ShowsByRows, after_all, Form}
use Rattle.std.proofs.lemmas.Option.{slice_get-map}
use Rattle.osdp_tool_test.proofs.ByLines.{by_lines}
use Rattle.osdp_tool_test.proofs.Once.{AreNamed, first_bad_once, lines_once, none_bad}

module _ {R Row : Type 0} (row : R → Row) (of_row : Row → R) where
  -- a rule by its row alone
  abbrev pub plain : R → R
  plain rule = of_row (row rule)

  abbrev pub all_plain : List R → List R
  all_plain rules = map of_row (map row rules)

  plain_got : (rules : List R) (n : ℕ) → slice_get (all_plain rules) n ≡ option_map plain (slice_get rules n)
  plain_got rules n = slice_get-map of_row (map row rules) n ∙ ap (option_map of_row) (slice_get-map row rules n) ∙ twice (slice_get rules n)
    where
      twice : (o : Option R) → option_map of_row (option_map row o) ≡ option_map plain o
      twice None = refl
      twice (Some rule) = refl

  if_zero : (b : Bool) (o p : Option R) → o ≡ option_map plain p → (if b then None else o) ≡ option_map plain (if b then None else p)
  if_zero true o p e = refl
  if_zero false o p e = e

  pub plain_rule : (rules : List R) (n : ℕ) → rule_in (all_plain rules) n ≡ option_map plain (rule_in rules n)
  plain_rule rules n = if_zero (n == 0) (slice_get (all_plain rules) (n - 1)) (slice_get rules (n - 1)) (plain_got rules (n - 1))

module _ {C M R Row : Type 0} (words_of : C → List Word) (Fits : C → Type 0) (adds : Option C → M → M) (found : M → List Told) (begun : Form → List R → M)
    (row : R → Row) (of_row : Row → R) (plainly : M → M) where
  -- a line says one thing at most, and what it adds goes by the rows of the rules alone
  pub record GoesByRows : Type 0 where
    pub named : AreNamed words_of Fits
    pub begun_same : (form : Form) (rules : List R) → plainly (begun form rules) ≡ begun form (map of_row (map row rules))
    pub adds_same : (said : Option C) (t : M) → plainly (adds said t) ≡ adds said (plainly t)
    pub found_same : (t : M) → found (plainly t) ≡ found t

  module _ (goes : GoesByRows) (rows : List Row) where
    abbrev along : M → List (Option C) → M → M
    along start = after_all words_of Fits adds start found

    along_same : (start other : M) (said : List (Option C)) (t : M) → plainly (along start said t) ≡ along other said (plainly t)
    along_same start other [] t = refl
    along_same start other (s ∷ said) t = along_same start other said (adds s t) ∙ ap (along other said) (goes.adds_same s t)

    abbrev Shows : Form → List (List ℕ) → List Told → Type 0
    Shows = ShowsByRows row rows (λ form rules. LinesFind words_of Fits adds (begun form rules) found)

    abbrev Stops : List (List ℕ) → ℕ → Type 0
    Stops = IsFirstBad words_of Fits

    abbrev begun_by : Form → List Row → M
    begun_by form its_rows = begun form (map of_row its_rows)

    record ShowsSo (form : Form) (lines : List (List ℕ)) (entries : List Told) : Type 0 where
      said : List (Option C)
      says : LinesSay words_of Fits lines said
      are : entries ≡ found (along (begun_by form rows) said (begun_by form rows))

    shows_so : (form : Form) (lines : List (List ℕ)) (entries : List Told) → Shows form lines entries → ShowsSo form lines entries
    shows_so form lines entries (rules, known, finds) = record {
      said = finds.0;
      says = finds.1;
      are = finds.2 ∙ sym (goes.found_same (along (begun form rules) finds.0 (begun form rules)))
          ∙ ap found (along_same (begun form rules) (begun_by form rows) finds.0 (begun form rules))
          ∙ ap (λ (t : M). found (along (begun_by form rows) finds.0 t)) (goes.begun_same form rules)
          ∙ ap (λ (its_rows : List Row). found (along (begun_by form rows) finds.0 (begun_by form its_rows))) known;
    }

    shows_once : (form : Form) (lines : List (List ℕ)) (a b : List Told) → Shows form lines a → Shows form lines b → a ≡ b
    shows_once form lines a b h g =
        let one = shows_so form lines a h in
        let other = shows_so form lines b g in
        one.are
        ∙ ap (λ (said : List (Option C)). found (along (begun_by form rows) said (begun_by form rows)))
        (lines_once words_of Fits goes.named lines one.said other.said one.says other.says)
        ∙ sym other.are

    stops_once : (lines : List (List ℕ)) (m n : ℕ) → Stops lines m → Stops lines n → m ≡ n
    stops_once lines m n h g = first_bad_once words_of Fits goes.named lines m n h g

    not_both : (form : Form) (lines : List (List ℕ)) (entries : List Told) (n : ℕ) → Shows form lines entries → Stops lines n → ⊥
    not_both form lines entries n (rules, known, finds) bad = none_bad words_of Fits goes.named lines finds.0 n finds.1 bad

    pub ends_one_way : (limit : ℕ) → EndsByItsLines (Tests Shows Stops limit)
    ends_one_way limit words bytes start one_left other_left one other one_failed other_failed r s on too h g =
        by_lines Shows Stops shows_once stops_once not_both limit bytes start words one_left other_left one other one_failed other_failed r s on too h g
