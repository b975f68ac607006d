-- Lines that are left, and echoes that are not.
use Rattle.osdp_tool_inputs.proofs.Common.{◌≡◌, ℕ, ◌+◌, ◌==◌, ◌&&◌, inl, inr, Bool, true, false, cond, List, [], ◌∷◌, ◌++◌, ◌≤◌, length, codes, drop, flat_map, refl, sym, ap, ◌∙◌, arith, append-nil, AllByRecursion, cases_Bool, cond-false, cond-true, eqb-true, bytes_eq, IsLine, ended_lines, last_line, lines_of, unended_line, Rest, ends_so, has_digits, is_stamp, no_stamp}
use Rattle.std.proofs.lemmas.List.Elements.{All-head, All-tail}
use Rattle.std.proofs.lemmas.Slice.Eq.{bytes_eq-Decides}
use Rattle.osdp_tool_streams.proofs.Bytes.{is_cut}
use Rattle.osdp_tool_streams.proofs.CutLemmas.{ended_lines-cut}
use Rattle.osdp_tool_inputs.specs.Echoes.{AreSorted, Goes, KeepsOthers, LeavesAllElse, LeavesEchoOut, NoLines, SortsAll, Stays, all_echoes, echoes_below, echoes_in, ended, heard_part, is_echo, left_below, left_in, left_of, next_stamp, next_went, only, unless}

pub one_line : (stamp went line : List ℕ) (lines : List (List ℕ))
    → left_below stamp went (line ∷ lines) ≡ unless (is_echo stamp went line) line ∷ left_below (next_stamp stamp line) (next_went stamp went line) lines
unfolding left_below
one_line stamp went line lines = refl

pub one_echo : (stamp went line : List ℕ) (lines : List (List ℕ))
    → echoes_below stamp went (line ∷ lines) ≡ only (is_echo stamp went line) line ++ echoes_below (next_stamp stamp line) (next_went stamp went line) lines
unfolding echoes_below
one_echo stamp went line lines = refl

-- ---- the next line

module _ (stamp went line s w : List ℕ) (all lines : List (List ℕ)) (split : all ≡ line ∷ lines) (s_is : s ≡ next_stamp stamp line) (w_is : w ≡ next_went stamp went line) where
  left_next : (echo : Bool) → is_echo stamp went line ≡ echo → left_below stamp went all ≡ unless echo line ∷ left_below s w lines
  left_next echo is =
      ap (left_below stamp went) split ∙ one_line stamp went line lines ∙ ap (λ x. unless x line ∷ left_below (next_stamp stamp line) (next_went stamp went line) lines) is
      ∙ ap (λ x. unless echo line ∷ left_below x (next_went stamp went line) lines) (sym s_is) ∙ ap (λ x. unless echo line ∷ left_below s x lines) (sym w_is)

  echoes_next : (echo : Bool) → is_echo stamp went line ≡ echo → echoes_below stamp went all ≡ only echo line ++ echoes_below s w lines
  echoes_next echo is =
      ap (echoes_below stamp went) split ∙ one_echo stamp went line lines ∙ ap (λ x. only x line ++ echoes_below (next_stamp stamp line) (next_went stamp went line) lines) is
      ∙ ap (λ x. only echo line ++ echoes_below x (next_went stamp went line) lines) (sym s_is) ∙ ap (λ x. only echo line ++ echoes_below s x lines) (sym w_is)

  pub echo_next : is_echo stamp went line ≡ true → left_below stamp went all ≡ [] ∷ left_below s w lines
  echo_next is = left_next true is

  pub other_next : is_echo stamp went line ≡ false → left_below stamp went all ≡ line ∷ left_below s w lines
  other_next is = left_next false is

  pub echo_counts : is_echo stamp went line ≡ true → length (echoes_below stamp went all) ≡ length (echoes_below s w lines) + 1
  echo_counts is =
      let more : length (echoes_below stamp went all) ≡ length (line ∷ echoes_below s w lines) = ap length (echoes_next true is) in
      omega (arith, more)

  pub other_counts : is_echo stamp went line ≡ false → length (echoes_below stamp went all) ≡ length (echoes_below s w lines)
  other_counts is = ap length (echoes_next false is)

pub none_next : (stamp went : List ℕ) (lines : List (List ℕ)) → lines ≡ [] → left_below stamp went lines ≡ []
unfolding left_below
none_next stamp went lines is = ap (left_below stamp went) is

-- none is to come where no line is
pub no_echoes : (stamp went : List ℕ) (lines : List (List ℕ)) → left_below stamp went lines ≡ [] → echoes_below stamp went lines ≡ []
unfolding left_below echoes_below
no_echoes stamp went [] is = refl
no_echoes stamp went (line ∷ lines) is = absurd cc

-- ---- all lines are there

sorted_one : (echo : Bool) (line : List ℕ) (lines left echoes : List (List ℕ)) → (echo ≡ true → has_digits line ≡ true) → AreSorted lines left echoes
    → AreSorted (line ∷ lines) (unless echo line ∷ left) (only echo line ++ echoes)
sorted_one true line lines left echoes digits sorted = Goes line lines left echoes (digits refl) sorted
sorted_one false line lines left echoes digits sorted = Stays line lines left echoes sorted

echo_digits : (stamp went line : List ℕ) → is_echo stamp went line ≡ true → has_digits line ≡ true
echo_digits stamp went line e = first (has_digits line) (ends_so stamp (codes " in") && bytes_eq went line) e
  where
    first : (a b : Bool) → (a && b) ≡ true → a ≡ true
    first true b e = refl
    first false b e = absurd cc

pub sorts_all : SortsAll
unfolding left_below echoes_below
sorts_all stamp went [] = NoLines
sorts_all stamp went (line ∷ lines) =
    sorted_one (is_echo stamp went line) line lines (left_below (next_stamp stamp line) (next_went stamp went line) lines)
    (echoes_below (next_stamp stamp line) (next_went stamp went line) lines) (echo_digits stamp went line) (sorts_all (next_stamp stamp line) (next_went stamp went line) lines)

-- there are as many, and no more echoes
pub sorted_size : (lines left echoes : List (List ℕ)) → AreSorted lines left echoes → (length left ≡ length lines) × (length echoes ≤ length lines)
sorted_size _ _ _ NoLines = (refl, omega arith)
sorted_size _ _ _ (Stays line lines left echoes sorted) = let rest = sorted_size lines left echoes sorted in (omega (arith, rest.0), omega (arith, rest.1))
sorted_size _ _ _ (Goes line lines left echoes digits sorted) = let rest = sorted_size lines left echoes sorted in (omega (arith, rest.0), omega (arith, rest.1))

-- without an echo all stay
sorted_none : (lines left echoes : List (List ℕ)) → AreSorted lines left echoes → length echoes ≡ 0 → left ≡ lines
sorted_none _ _ _ NoLines none = refl
sorted_none _ _ _ (Stays line lines left echoes sorted) none = ap (λ l. line ∷ l) (sorted_none lines left echoes sorted none)
sorted_none _ _ _ (Goes line lines left echoes digits sorted) none = absurd (omega (arith, none))

-- lines stay lines
sorted_lines : (lines left echoes : List (List ℕ)) → AreSorted lines left echoes → AllByRecursion IsLine lines → AllByRecursion IsLine left
sorted_lines _ _ _ NoLines each = tt
sorted_lines _ _ _ (Stays line lines left echoes sorted) each = (each.0, sorted_lines lines left echoes sorted each.1)
sorted_lines _ _ _ (Goes line lines left echoes digits sorted) each = (tt, sorted_lines lines left echoes sorted each.1)

each_line : (xs ys : List (List ℕ)) → AllByRecursion IsLine xs → AllByRecursion IsLine ys → AllByRecursion IsLine (xs ++ ys)
each_line [] ys a b = b
each_line (x ∷ xs) ys a b = (a.0, each_line xs ys a.1 b)

last_each : (line : List ℕ) → IsLine line → AllByRecursion IsLine (last_line line)
last_each [] is = tt
last_each (b ∷ line) is = (is, tt)

left_lines : (text : List ℕ) → AllByRecursion IsLine (left_of text)
left_lines text =
    let cut = is_cut text in
    sorted_lines (lines_of text) (left_of text) (echoes_below no_stamp [] (lines_of text)) (sorts_all no_stamp [] (lines_of text))
    (each_line (ended_lines text) (last_line (unended_line text)) cut.each (last_each (unended_line text) cut.last))

lines_again : (lines : List (List ℕ)) → AllByRecursion IsLine lines → lines_of (flat_map ended lines) ≡ lines
lines_again lines each =
    let cut = ended_lines-cut (flat_map ended lines) lines [] each tt (sym (append-nil (flat_map ended lines))) in
    ap (λ l. l ++ last_line (unended_line (flat_map ended lines))) cut.0 ∙ ap (λ u. lines ++ last_line u) cut.1 ∙ append-nil lines

-- what is listened to has the lines that are left
pub heard_lines : (text : List ℕ) → lines_of (heard_part text) ≡ left_of text
heard_lines text = elim (cases_Bool (echoes_in text == 0)) [
  | inl none ↦ ap lines_of (cond-true (echoes_in text == 0) text (flat_map ended (left_of text)) none)
      ∙ sym (sorted_none (lines_of text) (left_of text) (echoes_below no_stamp [] (lines_of text)) (sorts_all no_stamp [] (lines_of text)) (eqb-true (echoes_in text) 0 none))
  | inr some ↦ ap lines_of (cond-false (echoes_in text == 0) text (flat_map ended (left_of text)) some) ∙ lines_again (left_of text) (left_lines text)
]

-- ---- one line, by what is known of it

module _ (stamp went line : List ℕ) (lines : List (List ℕ)) where
  abbrev shape : Bool → Bool → Bool → Bool → Bool → List (List ℕ)
  shape stamped digits came out same =
      cond (digits && (came && same)) [] line
      ∷ left_below (cond stamped (drop 2 line) (cond digits no_stamp stamp)) (cond digits (cond (digits && (came && same)) [] (cond out line [])) went) lines

  by : (stamped digits came out same : Bool) → is_stamp line ≡ stamped → has_digits line ≡ digits → ends_so stamp (codes " in") ≡ came → ends_so stamp (codes " out") ≡ out
      → bytes_eq went line ≡ same → left_below stamp went (line ∷ lines) ≡ shape stamped digits came out same
  by stamped digits came out same e d c o q =
      one_line stamp went line lines
      ∙ (ap (λ x. shape x (has_digits line) (ends_so stamp (codes " in")) (ends_so stamp (codes " out")) (bytes_eq went line)) e
      ∙ (ap (λ x. shape stamped x (ends_so stamp (codes " in")) (ends_so stamp (codes " out")) (bytes_eq went line)) d
      ∙ (ap (λ x. shape stamped digits x (ends_so stamp (codes " out")) (bytes_eq went line)) c
      ∙ (ap (λ x. shape stamped digits came x (bytes_eq went line)) o ∙ ap (λ x. shape stamped digits came out x) q))))

  comment : is_stamp line ≡ true → has_digits line ≡ false → left_below stamp went (line ∷ lines) ≡ line ∷ left_below (drop 2 line) went lines
  comment e d = by true false (ends_so stamp (codes " in")) (ends_so stamp (codes " out")) (bytes_eq went line) e d refl refl refl

  goes_out : is_stamp line ≡ false → has_digits line ≡ true → ends_so stamp (codes " in") ≡ false → ends_so stamp (codes " out") ≡ true
      → left_below stamp went (line ∷ lines) ≡ line ∷ left_below no_stamp line lines
  goes_out e d c o = by false true false true (bytes_eq went line) e d c o refl

  comes_back : is_stamp line ≡ false → has_digits line ≡ true → ends_so stamp (codes " in") ≡ true → bytes_eq went line ≡ true
      → left_below stamp went (line ∷ lines) ≡ [] ∷ left_below no_stamp [] lines
  comes_back e d c q = by false true true (ends_so stamp (codes " out")) true e d c refl q

false_true : false ≡ true → ⊥
false_true e = absurd cc

pub keeps_others : KeepsOthers
keeps_others stamp went line lines other =
    one_line stamp went line lines
    ∙ ap (λ x. cond x [] line ∷ left_below (next_stamp stamp line) (next_went stamp went line) lines) (no_echo (bytes_eq went line) refl)
  where
    and_none : (a b : Bool) → (a && (b && false)) ≡ false
    and_none true true = refl
    and_none true false = refl
    and_none false b = refl

    no_echo : (same : Bool) → bytes_eq went line ≡ same → is_echo stamp went line ≡ false
    no_echo true is = absurd (other ((bytes_eq-Decides went line).0 is))
    no_echo false is = ap (λ x. has_digits line && (ends_so stamp (codes " in") && x)) is ∙ and_none (has_digits line) (ends_so stamp (codes " in"))

-- nothing went out before, so it is no echo
alone : (stamp line : List ℕ) (lines : List (List ℕ)) → is_stamp line ≡ false → has_digits line ≡ true
    → left_below stamp [] (line ∷ lines) ≡ line ∷ left_below no_stamp (next_went stamp [] line) lines
alone stamp line lines e d =
    keeps_others stamp [] line lines (λ none. false_true (ap has_digits none ∙ d))
    ∙ (ap (λ x. line ∷ left_below (cond x (drop 2 line) (cond (has_digits line) no_stamp stamp)) (next_went stamp [] line) lines) e
    ∙ ap (λ x. line ∷ left_below (cond x no_stamp stamp) (next_went stamp [] line) lines) d)

pub leaves_echo_out : LeavesEchoOut
leaves_echo_out stamp went out line came again lines out_is goes no_in came_is comes again_is digits no_stamp_line out_none came_none again_none =
    comment stamp went out (line ∷ came ∷ line ∷ again ∷ line ∷ lines) out_is out_none
    ∙ ap (λ l. out ∷ l) (goes_out (drop 2 out) went line (came ∷ line ∷ again ∷ line ∷ lines) no_stamp_line digits no_in goes
    ∙ ap (λ l. line ∷ l) (comment no_stamp line came (line ∷ again ∷ line ∷ lines) came_is came_none
    ∙ ap (λ l. came ∷ l) (comes_back (drop 2 came) line line (again ∷ line ∷ lines) no_stamp_line digits comes ((bytes_eq-Decides line line).1 refl)
    ∙ ap (λ l. [] ∷ l) (comment no_stamp [] again (line ∷ lines) again_is again_none
    ∙ ap (λ l. again ∷ l) (alone (drop 2 again) line lines no_stamp_line digits)))))

one_plain : (line : List ℕ) (lines : List (List ℕ)) (digits : Bool) → is_stamp line ≡ false → has_digits line ≡ digits
    → left_below no_stamp [] (line ∷ lines) ≡ line ∷ left_below no_stamp [] lines
one_plain line lines true e d = by no_stamp [] line lines false true false false (bytes_eq [] line) e d refl refl refl
one_plain line lines false e d = by no_stamp [] line lines false false false false (bytes_eq [] line) e d refl refl refl

pub leaves_all_else : LeavesAllElse
unfolding left_below
leaves_all_else [] all = refl
leaves_all_else (line ∷ lines) all =
    one_plain line lines (has_digits line) (All-head (λ l. is_stamp l ≡ false) line lines all) refl
    ∙ ap (λ l. line ∷ l) (leaves_all_else lines (All-tail (λ l. is_stamp l ≡ false) line lines all))

pub no_more_echoes : (r : Rest) → left_in r ≡ [] → r.echoes ≡ all_echoes r
no_more_echoes r is = let none = ap length (no_echoes r.stamp.now r.went.now r.lines is) in omega (arith, none)
