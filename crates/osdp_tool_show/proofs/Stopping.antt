-- Where a call on a capture stopped: within a piece, at its last line, or at its end.
use Rattle.osdp_tool_show.proofs.Common.{◌≡◌, ℕ, ◌+◌, Bool, true, List, [], ◌∷◌, ◌++◌, length, take, drop, take-append-drop, Option, Some, None, ◌⊎◌, inl, inr, refl, sym, subst, ap, ◌∙◌, arith, append_assoc, append-nil, length-append, take_more, AreBytes, Held, items, left_over, Form, Raw, Joined, Apart, HasLine, line_feed, unended_line, IsLine, said, line_bytes, feed_joined, feed_apart, good_front-bytes, AllByRecursion, option_map_or, Detail, no_tally, shown_lines, after_runs, runs_lines, end_line, tally_so_far, lines_so_far, Capture, Report, written_or_held, IsSettled, Took, EndedRun, StopsIn, StopsAtRunEnd, shown, shown_so_far, HasShown, TookPiece, StopsInPiece, EndsLine, StopsAtEnd, StopsClosing, StopsWithin}
use Rattle.osdp_tool_streams.specs.Runs.{good_front, ended_runs, open_run, first_bad_ended, closed_runs}
use Rattle.osdp_tool_show.proofs.Beginnings.{begun_told, stops_by, stops_longer, stops_after}
use Rattle.osdp_tool_show.proofs.Standing.{closed_lines}
use Rattle.osdp_tool_show.proofs.Pieces.{Room, holding, held_by}
use Rattle.osdp_tool_show.proofs.Readings.{lines_have_bytes}
use Rattle.osdp_tool_show.proofs.Works.{fed_end, lines_closed, tally_closed}

-- ---- within a piece

-- nothing of the piece was told
pub stops_before : (piece : List ℕ) (old : Capture) (contents : Option (List ℕ)) → StopsInPiece piece old (written_or_held contents old.report) contents
stops_before piece old contents = λ detail form start read f. (
  [],
  piece,
  refl,
  stops_by start (written_or_held contents old.report) contents (shown_so_far detail form read) (shown_so_far detail form (read ++ [])) [] f.stands.lines (begun_told contents old.report)
      (ap (shown_so_far detail form) (append-nil read) ∙ sym (append-nil (shown_so_far detail form read))),
)

-- after a front of the piece that was taken
pub stops_further : (piece xs ys rest : List ℕ) (a b : Capture) (before middle now : Option (List ℕ)) → TookPiece xs true a b before middle
    → StopsInPiece ys b middle now → piece ≡ xs ++ (ys ++ rest) → StopsInPiece piece a before now
stops_further piece xs ys rest a b before middle now t h is = λ detail form start read f.
    let g = h detail form start (read ++ xs) (t.follows detail form start read f) in (
      xs ++ g.0,
      g.1 ++ rest,
      is ∙ ap (λ l. xs ++ (l ++ rest)) g.2 ∙ ap (λ l. xs ++ l) (append_assoc g.0 g.1 rest) ∙ sym (append_assoc xs g.0 (g.1 ++ rest)),
      subst (λ l. StopsWithin start now (shown_so_far detail form l)) (append_assoc read xs g.0) g.3,
    )

-- a piece, cut before and after a line in it
pub feed_cut : (piece : List ℕ) (at count : ℕ) → HasLine (drop at piece) count
    → piece ≡ take at piece ++ ((take count (drop at piece) ++ line_feed ∷ []) ++ drop (count + 1) (drop at piece))
feed_cut piece at count h =
    let rest = drop at piece in
    let more = drop (count + 1) rest in
    let one_more : take (count + 1) rest ≡ take count rest ++ line_feed ∷ [] =
    take_more rest count 0 h.below ∙ ap (λ n. take count rest ++ n ∷ []) h.feed in
    sym (take-append-drop at piece) ∙ ap (λ l. take at piece ++ l) (sym (take-append-drop (count + 1) rest) ∙ ap (λ l. l ++ more) one_more)

-- at the end of a line, as one that held these characters before it
pub stops_ended_line : (characters : List ℕ) (old : Capture) (room : Room old characters) (before now : Option (List ℕ)) → IsLine characters
    → (old.form ≡ Raw → ⊥) → IsSettled old.framer → StopsInPiece (line_feed ∷ []) (holding old characters room) before now
    → StopsInPiece (characters ++ line_feed ∷ []) old before now
stops_ended_line characters old room before now whole lines settled h =
    stops_further (characters ++ line_feed ∷ []) characters (line_feed ∷ []) [] old (holding old characters room) before before now
    (held_by characters old room before whole lines settled) h refl

-- in bytes of one run
pub stops_raw : (piece : List ℕ) (old : Capture) (before now : Option (List ℕ)) → old.form ≡ Raw → StopsIn piece old.framer old.report before now
    → StopsInPiece piece old before now
stops_raw piece old before now raw h = λ detail form start read f. (piece, [], sym (append-nil piece), by_form detail form start read f (sym f.form_is ∙ raw))
  where
    by_form : (detail : Detail) (form : Form) (start : Option (List ℕ)) (read : List ℕ) → HasShown detail form start read old before → form ≡ Raw
        → StopsWithin start now (shown_so_far detail form (read ++ piece))
    by_form detail Raw start read f is = h detail start [] read f.stands
    by_form detail Joined start read f is = cc
    by_form detail Apart start read f is = cc

line_are_bytes : (line bytes : List ℕ) → line_bytes line ≡ Some bytes → AreBytes bytes
unfolding good_front
line_are_bytes line bytes says =
    (subst (λ (o : Option (List ℕ)). AllByRecursion AreBytes (option_map_or (λ b. b ∷ good_front []) o [])) says (good_front-bytes (line ∷ []))).0

-- in the bytes of a line that ends
pub stops_line : (bytes : List ℕ) (old : Capture) (before now : Option (List ℕ)) → (old.form ≡ Raw → ⊥)
    → said old.line.items ≡ Some bytes → StopsIn bytes old.framer old.report before now → StopsInPiece (line_feed ∷ []) old before now
stops_line bytes old before now lines says h = λ detail form start read f.
    (line_feed ∷ [], [], refl, by_form detail form start read f (λ e. lines (f.form_is ∙ e)))
  where
    by_form : (detail : Detail) (form : Form) (start : Option (List ℕ)) (read : List ℕ) → HasShown detail form start read old before → (form ≡ Raw → ⊥)
        → StopsWithin start now (shown_so_far detail form (read ++ line_feed ∷ []))
    by_form detail Raw start read f is = absurd (is refl)
    by_form detail Joined start read f is =
        let fed = feed_joined read bytes f.good (ap said (sym f.open_line.line) ∙ says) in
        subst (λ r. StopsWithin start now (lines_so_far detail [] r)) (sym fed.0) (h detail start [] (open_run Joined read) f.stands)
    by_form detail Apart start read f is =
        let line_says : line_bytes (unended_line read) ≡ Some bytes = ap said (sym f.open_line.line) ∙ says in
        let fed = feed_apart read bytes f.good line_says in
        let ended = ended_runs Apart read in
        let fits = line_are_bytes (unended_line read) bytes line_says in
        subst (λ r. StopsWithin start now (lines_so_far detail r [])) (sym fed.0)
        (stops_longer start now (lines_so_far detail ended bytes) (lines_so_far detail (closed_runs ended bytes) [])
        (shown_lines detail (tally_so_far ended bytes) (items true (left_over bytes))) (h detail start ended [] f.stands) (closed_lines detail ended bytes fits))

-- at the end of the run that a line is
pub stops_line_end : (bytes : List ℕ) (old : Capture) (held : Held) (mid : Report) (before middle now : Option (List ℕ)) → old.form ≡ Apart
    → said old.line.items ≡ Some bytes → Took bytes old.framer held old.report mid before middle → StopsAtRunEnd held mid middle now
    → StopsInPiece (line_feed ∷ []) old before now
stops_line_end bytes old held mid before middle now apart says t h = λ detail form start read f.
    (line_feed ∷ [], [], refl, by_form detail form start read f (sym f.form_is ∙ apart))
  where
    by_form : (detail : Detail) (form : Form) (start : Option (List ℕ)) (read : List ℕ) → HasShown detail form start read old before → form ≡ Apart
        → StopsWithin start now (shown_so_far detail form (read ++ line_feed ∷ []))
    by_form detail Raw start read f is = cc
    by_form detail Joined start read f is = cc
    by_form detail Apart start read f is =
        let fed = feed_apart read bytes f.good (ap said (sym f.open_line.line) ∙ says) in
        subst (λ r. StopsWithin start now (lines_so_far detail r [])) (sym fed.0)
        (h detail start (ended_runs Apart read) bytes (t.stands detail start (ended_runs Apart read) [] f.stands))

-- ---- at the end

abbrev closed_text : Detail → List (List ℕ) → List ℕ
closed_text detail runs = runs_lines detail no_tally runs ++ end_line detail (after_runs no_tally runs)

-- an input whose last line was told is within the text of the input as one that has ended
ended_text : (detail : Detail) (form : Form) (read : List ℕ) → (form ≡ Joined) ⊎ (form ≡ Apart) → first_bad_ended form read ≡ None
    → (rest : List ℕ) × (shown detail form read ≡ shown_so_far detail form (read ++ line_feed ∷ []) ++ rest)
ended_text detail form read lines good =
    let here = read ++ line_feed ∷ [] in
    let ended = ended_runs form here in
    let open_bytes = open_run form here in
    let runs = closed_runs ended open_bytes in
    let more = shown_lines detail (tally_so_far ended open_bytes) (items true (left_over open_bytes)) in
    let last = end_line detail (after_runs no_tally runs) in (
      more ++ last,
      ap (closed_text detail) (fed_end form read lines good).0
          ∙ ap (λ l. l ++ last) (sym (lines_closed detail runs) ∙ closed_lines detail ended open_bytes (lines_have_bytes form lines here))
          ∙ append_assoc (lines_so_far detail ended open_bytes) more last,
    )

-- at the last line
pub stops_last_line : (old : Capture) (before now : Option (List ℕ)) → (old.form ≡ Joined) ⊎ (old.form ≡ Apart)
    → StopsInPiece (line_feed ∷ []) old before now → StopsAtEnd old before now
stops_last_line old before now is h = λ detail form start read f.
    let lines = subst (λ x. (x ≡ Joined) ⊎ (x ≡ Apart)) f.form_is is in
    let g = h detail form start read f in
    by_front detail form start read g.0 g.1 g.2 g.3 (ended_text detail form read lines f.good)
  where
    by_front : (detail : Detail) (form : Form) (start : Option (List ℕ)) (read front rest : List ℕ) → line_feed ∷ [] ≡ front ++ rest
        → StopsWithin start now (shown_so_far detail form (read ++ front))
        → (rest : List ℕ) × (shown detail form read ≡ shown_so_far detail form (read ++ line_feed ∷ []) ++ rest)
        → StopsWithin start now (shown_so_far detail form read) ⊎ StopsWithin start now (shown detail form read)
    by_front detail form start read [] rest cut g text = inl (subst (λ l. StopsWithin start now (shown_so_far detail form l)) (append-nil read) g)
    by_front detail form start read (x ∷ []) rest cut g text =
        let one : x ∷ [] ≡ line_feed ∷ [] = sym (ap (take 1) cut) in
        inr (stops_longer start now (shown_so_far detail form (read ++ line_feed ∷ [])) (shown detail form read) text.0
        (subst (λ l. StopsWithin start now (shown_so_far detail form (read ++ l))) one g) text.1)
    by_front detail form start read (x ∷ y ∷ front) rest cut g text =
        let lengths = ap length cut in
        absurd (omega (arith, length-append front rest))

-- at the end of the run
pub stops_closing_run : (old : Capture) (before now : Option (List ℕ)) → StopsAtRunEnd old.framer old.report before now → StopsClosing old before now
stops_closing_run old before now h = λ detail start ended open_bytes s.
    let runs = closed_runs ended open_bytes in
    let last = end_line detail (after_runs no_tally runs) in
    stops_longer start now (lines_so_far detail runs []) (closed_text detail runs) last (h detail start ended open_bytes s)
    (ap (λ l. l ++ last) (sym (lines_closed detail runs)))

-- at the counts
pub stops_counting : (old : Capture) (next : Held) (mid : Report) (before middle now : Option (List ℕ)) → EndedRun old.framer next old.report mid before middle
    → StopsWithin middle now (end_line mid.detail mid.tally) → StopsClosing old before now
stops_counting old next mid before middle now e h = λ detail start ended open_bytes s.
    let runs = closed_runs ended open_bytes in
    let last = end_line detail (after_runs no_tally runs) in
    let at = e.stands detail start ended open_bytes s in
    let here : end_line mid.detail mid.tally ≡ last = ap (λ f. end_line f mid.tally) at.detail_is ∙ ap (end_line detail) (at.tally ∙ tally_closed runs) in
    stops_after start middle now (lines_so_far detail runs []) last (closed_text detail runs) [] at.lines (subst (StopsWithin middle now) here h)
    (ap (λ l. l ++ last) (sym (lines_closed detail runs)) ∙ sym (append-nil _))

-- at the end of an input whose last line was told
pub stops_ended : (good : Bool) (old mid : Capture) (before middle now : Option (List ℕ)) → EndsLine good old mid before middle → StopsClosing mid middle now
    → StopsAtEnd old before now
stops_ended good old mid before middle now e h = λ detail form start read f.
    let here = e.ends detail form start read f in
    inr (subst (StopsWithin start now) (sym (ap (closed_text detail) here.runs)) (h detail start here.ended here.open_bytes here.stands))
