-- What the lines that were taken say, and how a command ends by them.
use Rattle.osdp_tool_test.proofs.Common.{◌≡◌, ◌⊎◌, ℕ, ◌+◌, Bool, List, [], ◌∷◌, ◌++◌, length, map, Option, None, Result, Ok, Err, refl, sym, ap, subst, ◌∙◌, arith, inl, inr, ToolFault, NotHex, TooLong, BadWords, BadStep, HoldsPacket, NotQuiet, ReadFailed, WriteFailed, NoMemory, Keeps, IsUtf8, Word, words_in, Ends, IsPart, Told, RefusesLine, StopsAt, TakesAll, TakesLine, Finds, Stops, Tests, IsFirstBad, LineSays, LinesSay, LinesFind, RefusesSaid, SaysNone, ShowsByRows, TakesSaid, after_all, Form}

module _ {C T M : Type 0} (words_of : C → List Word) (Fits : C → Type 0) (model : T → M) (after : Option C → M → M) (all : M → List Told)
    (none : (m : M) → after None m ≡ m) (start : T) where
  abbrev pub takes : T → List (List ℕ) → T → Type 0
  takes = TakesSaid words_of Fits model after

  abbrev pub refuses : List (List ℕ) → Type 0
  refuses = RefusesSaid words_of Fits

  abbrev pub found : T → List Told
  found t = all (model t)

  abbrev pub along : List (Option C) → M → M
  along = after_all words_of Fits after (model start) all

  line_said : (old new : T) (line : List ℕ) → TakesLine takes refuses found old line new → (said : Option C) × LineSays words_of Fits line said × (model new ≡ after said (model old))
  line_said old new line (inl h) = (None, inl (h.0, refl), ap model h.1 ∙ sym (none (model old)))
  line_said old new line (inr h) = (h.1.0, inr (h.0, h.1.1), h.1.2)

  lines_said : (lines : List (List ℕ)) (old new : T) → TakesAll takes refuses found old lines new
      → (said : List (Option C)) × LinesSay words_of Fits lines said × (model new ≡ along said (model old))
  lines_said [] old new same = ([], tt, ap model same)
  lines_said (line ∷ lines) old new h =
      let first = line_said old h.0 line h.1 in
      let more = lines_said lines h.0 new h.2 in
      (first.0 ∷ more.0, (first.1, more.1), more.2 ∙ ap (along more.0) first.2)

  refused : (line : List ℕ) → RefusesLine takes refuses found line → SaysNone words_of Fits line
  refused line h said (inl says) = h.0 says.0
  refused line h said (inr says) = no_words h.1
    where
      no_words : (IsUtf8 line → ⊥) ⊎ refuses (words_in line) → ⊥
      no_words (inl no_text) = no_text says.0
      no_words (inr none_say) = none_say said says.1

  -- the lines above the first that is refused
  pub record Above (lines : List (List ℕ)) (first number : ℕ) (old new : T) : Type 0 where
    pub said : List (Option C)
    pub above : List (List ℕ)
    pub line : List ℕ
    pub below : List (List ℕ)
    pub whole : lines ≡ above ++ line ∷ below
    pub good : LinesSay words_of Fits above said
    pub bad : SaysNone words_of Fits line
    pub place : number ≡ length above + first
    pub added : model new ≡ along said (model old)

  stops_above : (lines : List (List ℕ)) (first number : ℕ) (old new : T) → StopsAt takes refuses found first old lines number new → Above lines first number old new
  stops_above [] first number old new h = absurd h
  stops_above (line ∷ lines) first number old new (inl h) = record {
    said = [];
    above = [];
    line = line;
    below = lines;
    whole = refl;
    good = tt;
    bad = refused line h.0;
    place = h.1 ∙ omega arith;
    added = ap model h.2;
  }
  stops_above (line ∷ lines) first number old new (inr h) =
      let here = line_said old h.0 line h.1 in
      let more = stops_above lines (first + 1) number h.0 new h.2 in
      record {
        said = here.0 ∷ more.said;
        above = line ∷ more.above;
        line = more.line;
        below = more.below;
        whole = ap (λ l. line ∷ l) more.whole;
        good = (here.1, more.good);
        bad = more.bad;
        place = more.place ∙ omega arith;
        added = more.added ∙ ap (along more.said) here.2;
      }

  -- what a test finds by lines is what these show
  pub finds_said : (lines : List (List ℕ)) (entries : List Told) → Finds takes refuses found start lines entries
      → LinesFind words_of Fits after (model start) all lines entries
  finds_said lines entries h =
      let all_said = lines_said lines start h.0 h.1 in
      (all_said.0, all_said.1, h.2 ∙ ap all all_said.2)

  pub stops_said : (lines : List (List ℕ)) (number : ℕ) → Stops takes refuses found start lines number → IsFirstBad words_of Fits lines number
  stops_said lines number h =
      let above = stops_above lines 1 number start h.0 h.1 in
      record { above = above.above; line = above.line; below = above.below; whole = above.whole; said = above.said; good = above.good; bad = above.bad; place = above.place }

-- a command ends by what its lines show
module _ (A B : List (List ℕ) → List Told → Type 0) (C D : List (List ℕ) → ℕ → Type 0) (finds : (lines : List (List ℕ)) (entries : List Told) → A lines entries → B lines entries)
    (stops : (lines : List (List ℕ)) (number : ℕ) → C lines number → D lines number)
    (limit : ℕ) (input_before input_after : Option (List ℕ)) (form : Form) (before after : Option (List ℕ)) where
  failed_as : IsPart A C limit input_before input_after form before after ⊎ (Keeps input_before input_after × Keeps before after)
      → IsPart B D limit input_before input_after form before after ⊎ (Keeps input_before input_after × Keeps before after)
  failed_as (inl h) = inl (record { whole = h.whole; entries = h.entries; finds = finds _ h.entries h.finds; count = h.count; written = h.written })
  failed_as (inr h) = inr h

  pub ends_as : (failed : Bool) (r : Result ℕ ToolFault) → Ends A C limit input_before input_after form before after failed r
      → Ends B D limit input_before input_after form before after failed r
  ends_as failed (Ok status) h =
      (record { whole = h.0.whole; entries = h.0.entries; finds = finds _ h.0.entries h.0.finds; written = h.0.written; is = h.0.is }, h.1)
  ends_as failed (Err (BadStep number)) h = ((h.0.0, stops _ number h.0.1), h.1, h.2)
  ends_as failed (Err TooLong) h = h
  ends_as failed (Err ReadFailed) h = h
  ends_as failed (Err NoMemory) h = h
  ends_as failed (Err WriteFailed) h = (failed_as h.0, h.1)
  ends_as failed (Err (NotHex number)) h = h
  ends_as failed (Err BadWords) h = h
  ends_as failed (Err (HoldsPacket number)) h = h
  ends_as failed (Err (NotQuiet number)) h = h

-- a test of lines ends by what these show
pub said_ends : {C T M : Type 0} (words_of : C → List Word) (Fits : C → Type 0) (model : T → M) (adds : Option C → M → M) (all : M → List Told) (none : (m : M) → adds None m ≡ m)
    (start : T) (begun : M) → model start ≡ begun
    → (limit : ℕ) (input_before input_after : Option (List ℕ)) (form : Form) (before after : Option (List ℕ)) (failed : Bool) (r : Result ℕ ToolFault)
    → Ends (Finds (TakesSaid words_of Fits model adds) (RefusesSaid words_of Fits) (λ t. all (model t)) start)
    (Stops (TakesSaid words_of Fits model adds) (RefusesSaid words_of Fits) (λ t. all (model t)) start) limit input_before input_after form before after failed r
    → Ends (LinesFind words_of Fits adds begun all) (IsFirstBad words_of Fits) limit input_before input_after form before after failed r
said_ends words_of Fits model adds all none start begun is limit input_before input_after form before after failed r ends =
    ends_as (Finds (TakesSaid words_of Fits model adds) (RefusesSaid words_of Fits) (λ t. all (model t)) start) (LinesFind words_of Fits adds begun all)
    (Stops (TakesSaid words_of Fits model adds) (RefusesSaid words_of Fits) (λ t. all (model t)) start) (IsFirstBad words_of Fits)
    (λ lines entries h. subst (λ m. LinesFind words_of Fits adds m all lines entries) is (finds_said words_of Fits model adds all none start lines entries h))
    (λ lines number h. stops_said words_of Fits model adds all none start lines number h)
    limit input_before input_after form before after failed r ends

-- what lines show by some rules they show by the rows of these
pub tests_by_rows : {R Row : Type 0} (row : R → Row) (rows : List Row) (FindsBy : Form → List R → List (List ℕ) → List Told → Type 0) (StopsBy : List (List ℕ) → ℕ → Type 0)
    (rules : List R) → map row rules ≡ rows
    → (limit : ℕ) (words : List (List ℕ)) (input_before input_after before after : Option (List ℕ)) (failed : Bool) (r : Result ℕ ToolFault)
    → Tests (λ form. FindsBy form rules) StopsBy limit words input_before input_after before after failed r
    → Tests (ShowsByRows row rows FindsBy) StopsBy limit words input_before input_after before after failed r
tests_by_rows row rows FindsBy StopsBy rules are limit words input_before input_after before after failed r (inl h) =
    inl (
      h.0,
      h.1,
      ends_as (FindsBy h.0 rules) (ShowsByRows row rows FindsBy h.0) StopsBy StopsBy (λ lines entries finds. (rules, are, finds)) (λ lines number stops. stops)
          limit input_before input_after h.0 before after failed r h.2,
    )
tests_by_rows row rows FindsBy StopsBy rules are limit words input_before input_after before after failed r (inr h) = inr h
