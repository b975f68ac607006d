-- What a line of a test says, where what it may say is words.
use Rattle.std.specs.Prelude.{◌≡◌, ◌⊎◌, ℕ, ◌+◌, List, [], ◌∷◌, ◌++◌, length, map, IsUtf8, Option, Some, None}
use Rattle.std.specs.List.{AllZip}
use Rattle.osdp_words.specs.Word.{AllStandFor, Word, words_in}
use Rattle.osdp_tool_test.specs.Entries.{Told}
use Rattle.osdp_tool_test.specs.declared.report.Form.{Form}

-- the line begins with a #
abbrev pub IsComment : List ℕ → Type 0
IsComment [] = ⊥
IsComment (c ∷ line) = c ≡ 35

module _ {C : Type 0} (words_of : C → List Word) (Fits : C → Type 0) where
  -- no words say nothing
  abbrev pub WordsSay : List (List ℕ) → Option C → Type 0
  WordsSay words None = words ≡ []
  WordsSay words (Some said) = AllStandFor (words_of said) words × Fits said

  -- a comment says nothing, and any other line what its words say
  abbrev pub LineSays : List ℕ → Option C → Type 0
  LineSays line said = (IsComment line × (said ≡ None)) ⊎ (IsUtf8 line × WordsSay (words_in line) said)

  -- a bad line says neither anything nor nothing
  abbrev pub SaysNone : List ℕ → Type 0
  SaysNone line = (said : Option C) → LineSays line said → ⊥

  -- the lines say these, one by one
  abbrev pub LinesSay : List (List ℕ) → List (Option C) → Type 0
  LinesSay lines said = AllZip LineSays lines said

  -- the first bad line has this number, counted from 1
  pub record IsFirstBad (lines : List (List ℕ)) (number : ℕ) : Type 0 where
    pub above : List (List ℕ)
    pub line : List ℕ
    pub below : List (List ℕ)
    pub whole : lines ≡ above ++ line ∷ below
    pub said : List (Option C)
    pub good : LinesSay above said
    pub bad : SaysNone line
    pub place : number ≡ length above + 1

  -- what is found by lines, of which each adds something to a test
  module _ {M : Type 0} (after : Option C → M → M) (start : M) (found : M → List Told) where
    abbrev pub after_all : List (Option C) → M → M
    after_all [] m = m
    after_all (said ∷ more) m = after_all more (after said m)

    abbrev pub LinesFind : List (List ℕ) → List Told → Type 0
    LinesFind lines entries = (said : List (Option C)) × LinesSay lines said × (entries ≡ found (after_all said start))

  -- what a test takes and refuses: the words of a line add to what it stands for, or they are those of none
  module _ {T M : Type 0} (model : T → M) (after : Option C → M → M) where
    abbrev pub TakesSaid : T → List (List ℕ) → T → Type 0
    TakesSaid old words new = (said : Option C) × WordsSay words said × (model new ≡ after said (model old))

  abbrev pub RefusesSaid : List (List ℕ) → Type 0
  RefusesSaid words = (said : Option C) → WordsSay words said → ⊥

-- what lines show of rules that have these rows, where what they show is known for any rules
abbrev pub ShowsByRows : {R Row : Type 0} → (R → Row) → List Row → (Form → List R → List (List ℕ) → List Told → Type 0) → Form → List (List ℕ) → List Told → Type 0
ShowsByRows {R} row rows Finds form lines entries = (rules : List R) × (map row rules ≡ rows) × Finds form rules lines entries
