-- The runs of an input, step by step: part of a line, a line feed, the end.
use Rattle.osdp_tool_streams.proofs.Common.{◌≡◌, ℕ, ◌+◌, List, [], ◌∷◌, ◌++◌, length, Some, None, refl, sym, ap, ◌∙◌, arith, append_assoc, append-nil, ◌⊎◌, inl, inr, concat, option_map_or, Form, Raw, Joined, Apart, line_bytes, kept}
use Rattle.std.proofs.lemmas.List.Elements.{filter-append}
use Rattle.osdp_tool_streams.specs.Cut.{ended_after, unended_after, line_feed, ended_lines, unended_line, last_line, IsLine}
use Rattle.osdp_tool_streams.specs.Runs.{good_front, bad_line, with_bytes, runs_of, ended_runs, open_run, first_bad, first_bad_ended, closed_runs}
use Rattle.osdp_tool_streams.proofs.CutLemmas.{ended_after-line, unended_after-line, ended_after-append, unended_after-append, ended_after-feed, unended_after-feed}
use Rattle.osdp_tool_streams.proofs.RunsLemmas.{good_front-append, bad_line-append, good_front-stays, bad_line-stays}

pub ended_lines-hold : (read xs : List ℕ) → IsLine xs → ended_lines (read ++ xs) ≡ ended_lines read
ended_lines-hold read xs h =
    ended_after-append [] read xs ∙ ap (λ l. ended_lines read ++ l) (ended_after-line (unended_line read) xs h) ∙ append-nil (ended_lines read)

pub unended_line-hold : (read xs : List ℕ) → IsLine xs → unended_line (read ++ xs) ≡ unended_line read ++ xs
unended_line-hold read xs h = unended_after-append [] read xs ∙ unended_after-line (unended_line read) xs h

pub ended_lines-feed : (read : List ℕ) → ended_lines (read ++ line_feed ∷ []) ≡ ended_lines read ++ unended_line read ∷ []
unfolding ended_after
ended_lines-feed read =
    ended_after-append [] read (line_feed ∷ [])
    ∙ ap (λ l. ended_lines read ++ l) (ended_after-feed (unended_line read) [] [] tt ∙ ap (λ l. l ∷ []) (append-nil (unended_line read)))

pub unended_line-feed : (read : List ℕ) → unended_line (read ++ line_feed ∷ []) ≡ []
unfolding unended_after
unended_line-feed read = unended_after-append [] read (line_feed ∷ []) ∙ unended_after-feed (unended_line read) [] []

pub kept-append : (xs ys : List ℕ) → kept (xs ++ ys) ≡ kept xs ++ kept ys
kept-append xs ys = filter-append _ xs ys

concat-append : (xs ys : List (List ℕ)) → concat (xs ++ ys) ≡ concat xs ++ concat ys
concat-append [] ys = refl
concat-append (x ∷ xs) ys = ap (λ l. x ++ l) (concat-append xs ys) ∙ sym (append_assoc x (concat xs) (concat ys))

good_one : (line bytes : List ℕ) → line_bytes line ≡ Some bytes → good_front (line ∷ []) ≡ bytes ∷ []
unfolding good_front
good_one line bytes h = ap (λ o. option_map_or (λ b. b ∷ []) o []) h

bad_none : (number : ℕ) (line bytes : List ℕ) → line_bytes line ≡ Some bytes → bad_line number (line ∷ []) ≡ None
unfolding bad_line
bad_none number line bytes h = ap (λ o. option_map_or (λ b. None) o (Some number)) h

good_none : (line : List ℕ) → line_bytes line ≡ None → good_front (line ∷ []) ≡ []
unfolding good_front
good_none line h = ap (λ o. option_map_or (λ b. b ∷ []) o []) h

bad_one : (number : ℕ) (line : List ℕ) → line_bytes line ≡ None → bad_line number (line ∷ []) ≡ Some number
unfolding bad_line
bad_one number line h = ap (λ o. option_map_or (λ b. None) o (Some number)) h

-- lines that are all good, and one more good one
pub good_front-more : (lines : List (List ℕ)) (line bytes : List ℕ) → bad_line 1 lines ≡ None → line_bytes line ≡ Some bytes
    → good_front (lines ++ line ∷ []) ≡ good_front lines ++ bytes ∷ []
good_front-more lines line bytes good says =
    good_front-append 1 lines (line ∷ []) good ∙ ap (λ l. good_front lines ++ l) (good_one line bytes says)

pub bad_line-more : (lines : List (List ℕ)) (line bytes : List ℕ) → bad_line 1 lines ≡ None → line_bytes line ≡ Some bytes
    → bad_line 1 (lines ++ line ∷ []) ≡ None
bad_line-more lines line bytes good says =
    bad_line-append 1 lines (line ∷ []) good ∙ bad_none (1 + length lines) line bytes says

-- and then a bad one
pub good_front-bad : (lines : List (List ℕ)) (line : List ℕ) → bad_line 1 lines ≡ None → line_bytes line ≡ None
    → good_front (lines ++ line ∷ []) ≡ good_front lines
good_front-bad lines line good says =
    good_front-append 1 lines (line ∷ []) good ∙ ap (λ l. good_front lines ++ l) (good_none line says) ∙ append-nil (good_front lines)

pub bad_line-bad : (lines : List (List ℕ)) (line : List ℕ) → bad_line 1 lines ≡ None → line_bytes line ≡ None
    → bad_line 1 (lines ++ line ∷ []) ≡ Some (length lines + 1)
bad_line-bad lines line good says =
    bad_line-append 1 lines (line ∷ []) good ∙ bad_one (1 + length lines) line says ∙ ap Some (omega arith)

-- ---- by forms

-- part of a line changes nothing but the line
pub hold_runs : (form : Form) (read xs : List ℕ) → (form ≡ Joined) ⊎ (form ≡ Apart) → IsLine xs
    → (ended_runs form (read ++ xs) ≡ ended_runs form read) × (open_run form (read ++ xs) ≡ open_run form read)
    × (first_bad_ended form (read ++ xs) ≡ first_bad_ended form read)
hold_runs Raw read xs lines h = elim lines [ inl j ↦ cc | inr a ↦ cc ]
hold_runs Joined read xs lines h =
    let e = ended_lines-hold read xs h in
    (refl, ap (λ l. concat (good_front l)) e, ap (bad_line 1) e)
hold_runs Apart read xs lines h =
    let e = ended_lines-hold read xs h in
    (ap (λ l. with_bytes (good_front l)) e, refl, ap (bad_line 1) e)

-- a good line ends
pub feed_joined : (read bytes : List ℕ) → first_bad_ended Joined read ≡ None → line_bytes (unended_line read) ≡ Some bytes
    → (open_run Joined (read ++ line_feed ∷ []) ≡ open_run Joined read ++ bytes) × (first_bad_ended Joined (read ++ line_feed ∷ []) ≡ None)
feed_joined read bytes good says =
    let e = ended_lines-feed read in (
      ap (λ l. concat (good_front l)) e ∙ ap concat (good_front-more (ended_lines read) (unended_line read) bytes good says)
          ∙ concat-append (good_front (ended_lines read)) (bytes ∷ []) ∙ ap (λ l. open_run Joined read ++ l) (append-nil bytes),
      ap (bad_line 1) e ∙ bad_line-more (ended_lines read) (unended_line read) bytes good says,
    )

pub feed_apart : (read bytes : List ℕ) → first_bad_ended Apart read ≡ None → line_bytes (unended_line read) ≡ Some bytes
    → (ended_runs Apart (read ++ line_feed ∷ []) ≡ closed_runs (ended_runs Apart read) bytes) × (first_bad_ended Apart (read ++ line_feed ∷ []) ≡ None)
feed_apart read bytes good says =
    let e = ended_lines-feed read in (
      ap (λ l. with_bytes (good_front l)) e ∙ ap with_bytes (good_front-more (ended_lines read) (unended_line read) bytes good says)
          ∙ filter-append _ (good_front (ended_lines read)) (bytes ∷ []),
      ap (bad_line 1) e ∙ bad_line-more (ended_lines read) (unended_line read) bytes good says,
    )

-- a bad line ends
pub feed_bad : (form : Form) (read : List ℕ) → (form ≡ Joined) ⊎ (form ≡ Apart) → first_bad_ended form read ≡ None → line_bytes (unended_line read) ≡ None
    → (ended_runs form (read ++ line_feed ∷ []) ≡ ended_runs form read) × (open_run form (read ++ line_feed ∷ []) ≡ open_run form read)
    × (first_bad_ended form (read ++ line_feed ∷ []) ≡ Some (length (ended_lines read) + 1))
feed_bad Raw read lines good says = elim lines [ inl j ↦ cc | inr a ↦ cc ]
feed_bad Joined read lines good says =
    let e = ended_lines-feed read in (
      refl,
      ap (λ l. concat (good_front l)) (e) ∙ ap concat (good_front-bad (ended_lines read) (unended_line read) good says),
      ap (bad_line 1) e ∙ bad_line-bad (ended_lines read) (unended_line read) good says,
    )
feed_bad Apart read lines good says =
    let e = ended_lines-feed read in (
      ap (λ l. with_bytes (good_front l)) e ∙ ap with_bytes (good_front-bad (ended_lines read) (unended_line read) good says),
      refl,
      ap (bad_line 1) e ∙ bad_line-bad (ended_lines read) (unended_line read) good says,
    )

-- ---- the end of the input

blank_good : (lines : List (List ℕ)) (line bytes : List ℕ) → bad_line 1 lines ≡ None → line_bytes line ≡ Some bytes
    → (bad_line 1 (lines ++ last_line line) ≡ None)
    × (concat (good_front (lines ++ last_line line)) ≡ concat (good_front lines) ++ bytes)
    × (with_bytes (good_front (lines ++ last_line line)) ≡ closed_runs (with_bytes (good_front lines)) bytes)
blank_good lines [] bytes good says =
    let none : bytes ≡ [] = cc in
    let e = append-nil lines in (
      ap (bad_line 1) e ∙ good,
      ap (λ l. concat (good_front l)) e ∙ sym (append-nil (concat (good_front lines))) ∙ ap (λ b. concat (good_front lines) ++ b) (sym none),
      ap (λ l. with_bytes (good_front l)) e ∙ sym (append-nil (with_bytes (good_front lines))) ∙ ap (λ b. closed_runs (with_bytes (good_front lines)) b) (sym none),
    )
blank_good lines (b ∷ line) bytes good says =
    let e = good_front-more lines (b ∷ line) bytes good says in (
      bad_line-more lines (b ∷ line) bytes good says,
      ap concat e ∙ concat-append (good_front lines) (bytes ∷ []) ∙ ap (λ l. concat (good_front lines) ++ l) (append-nil bytes),
      ap with_bytes e ∙ filter-append _ (good_front lines) (bytes ∷ []),
    )

-- the last line is good
pub end_joined : (read bytes : List ℕ) → first_bad_ended Joined read ≡ None → line_bytes (unended_line read) ≡ Some bytes
    → (first_bad Joined read ≡ None) × (runs_of Joined read ≡ closed_runs (ended_runs Joined read) (open_run Joined read ++ bytes))
end_joined read bytes good says =
    let g = blank_good (ended_lines read) (unended_line read) bytes good says in
    (g.0, ap (λ run. with_bytes (run ∷ [])) g.1)

pub end_apart : (read bytes : List ℕ) → first_bad_ended Apart read ≡ None → line_bytes (unended_line read) ≡ Some bytes
    → (first_bad Apart read ≡ None) × (runs_of Apart read ≡ closed_runs (ended_runs Apart read) bytes)
end_apart read bytes good says =
    let g = blank_good (ended_lines read) (unended_line read) bytes good says in
    (g.0, g.2)

-- the last line is bad
bad_last : (lines : List (List ℕ)) (line : List ℕ) → bad_line 1 lines ≡ None → line_bytes line ≡ None
    → (bad_line 1 (lines ++ last_line line) ≡ Some (length lines + 1)) × (good_front (lines ++ last_line line) ≡ good_front lines)
bad_last lines [] good says = cc
bad_last lines (b ∷ line) good says = (bad_line-bad lines (b ∷ line) good says, good_front-bad lines (b ∷ line) good says)

pub end_bad : (form : Form) (read : List ℕ) → (form ≡ Joined) ⊎ (form ≡ Apart) → first_bad_ended form read ≡ None → line_bytes (unended_line read) ≡ None
    → (first_bad form read ≡ Some (length (ended_lines read) + 1)) × (runs_of form read ≡ closed_runs (ended_runs form read) (open_run form read))
end_bad Raw read lines good says = elim lines [ inl j ↦ cc | inr a ↦ cc ]
end_bad Joined read lines good says =
    let g = bad_last (ended_lines read) (unended_line read) good says in
    (g.0, ap (λ l. with_bytes (concat l ∷ [])) g.1)
end_bad Apart read lines good says =
    let g = bad_last (ended_lines read) (unended_line read) good says in
    (g.0, ap with_bytes g.1 ∙ sym (append-nil (ended_runs Apart read)))

-- ---- after a bad line

ended_lines-more : (read more : List ℕ) → (lines : List (List ℕ)) × (ended_lines (read ++ more) ≡ ended_lines read ++ lines) × ((last : List (List ℕ)) → ended_lines (read ++ more) ++ last ≡ ended_lines read ++ (lines ++ last))
ended_lines-more read more =
    let e = ended_after-append [] read more in
    (ended_after (unended_line read) more, e, λ last. ap (λ l. l ++ last) e ∙ append_assoc (ended_lines read) (ended_after (unended_line read) more) last)

-- a bad line that has ended is the first, whatever comes after it
pub bad_stays : (form : Form) (read more : List ℕ) (line : ℕ) → first_bad_ended form read ≡ Some line
    → (first_bad form (read ++ more) ≡ Some line) × (first_bad_ended form (read ++ more) ≡ Some line)
    × (runs_of form (read ++ more) ≡ closed_runs (ended_runs form read) (open_run form read))
bad_stays Raw read more line bad = cc
bad_stays Joined read more line bad =
    let m = ended_lines-more read more in
    let last = last_line (unended_line (read ++ more)) in (
      ap (bad_line 1) (m.2 last) ∙ bad_line-stays 1 line (ended_lines read) (m.0 ++ last) bad,
      ap (bad_line 1) m.1 ∙ bad_line-stays 1 line (ended_lines read) m.0 bad,
      ap (λ l. with_bytes (concat (good_front l) ∷ [])) (m.2 last)
          ∙ ap (λ l. with_bytes (concat l ∷ [])) (good_front-stays 1 line (ended_lines read) (m.0 ++ last) bad),
    )
bad_stays Apart read more line bad =
    let m = ended_lines-more read more in
    let last = last_line (unended_line (read ++ more)) in (
      ap (bad_line 1) (m.2 last) ∙ bad_line-stays 1 line (ended_lines read) (m.0 ++ last) bad,
      ap (bad_line 1) m.1 ∙ bad_line-stays 1 line (ended_lines read) m.0 bad,
      ap (λ l. with_bytes (good_front l)) (m.2 last)
          ∙ ap with_bytes (good_front-stays 1 line (ended_lines read) (m.0 ++ last) bad)
          ∙ sym (append-nil (ended_runs Apart read)),
    )
