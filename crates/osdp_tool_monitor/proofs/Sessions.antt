-- Sessions: what stays in them, and what goes on.
use Rattle.osdp_tool_monitor.proofs.Common.{◌≡◌, ℕ, ◌+◌, ◌-◌, ◌<◌, ◌≤◌, Bool, true, false, cond, not, is_some, List, [], ◌∷◌, ◌++◌, length, map, take, drop, get_or, Option, Some, None, MatchOption, refl, sym, subst, ap, ◌∙◌, arith, append_assoc, append-nil, length-append, length-drop, take-append-drop, drop_more, map-append, take_rest, IsLine, ended_after, line_feed, unended_after, is_blank, kept, line_bytes, said, ended_after-feed, ended_after-line, unended_after-feed, unended_after-line, kept-append, bad_line-append, good_front-append, OpenLine, Come, Hearing, Hears, IsOpen, LineEvent, RunEnds, TableDue, TableTold, after_events, hearing_of, MonitorMode, Session, Cut, Piece, after_piece, byte_events, bytes_events, closing_events, gap_events, is_due, lines_in, piece_events, run_events, table_events, tabled_after, Breaks, EndsAll, EndsInput, Goes, GoesOrBreaks, IsReady, TakesBytes, TakesPiece, cut_of}
use Rattle.std.proofs.Math.Seq.{drop-drop}
use Rattle.osdp_tool_streams.specs.Runs.{bad_line, good_front}
use Rattle.osdp_tool_monitor.proofs.OpenRuns.{hears_nothing, hears_then}
use Rattle.osdp_tool_monitor.specs.InTurn.{after_all}

pub goes_none : (s : Session) (text : List ℕ) → IsReady s → Goes [] (cut_of s) s s text text
goes_none s text ready = record { mode = refl; cut = refl; hears = hears_nothing s.line text ready.is_open; ready = ready }

pub goes_then : (xs ys : List LineEvent) (c next : Cut) (old mid new : Session) (before middle after : List ℕ) → Goes xs c old mid before middle
    → Goes ys next mid new middle after → Goes (xs ++ ys) next old new before after
goes_then xs ys c next old mid new before middle after a b = record {
  mode = b.mode ∙ a.mode;
  cut = b.cut;
  hears = hears_then xs ys old.line mid.line new.line before middle after a.hears b.hears;
  ready = b.ready;
}

-- the line alone went on
pub goes_open : (events : List LineEvent) (s : Session) (l : OpenLine) (before after : List ℕ) → IsReady s → s.mode.hex ≡ false
    → Hears events s.line l before after → Goes events (cut_of s) s (record s { line = l }) before after
goes_open events s l before after ready bytes hears = record {
  mode = refl;
  cut = refl;
  hears = hears;
  ready = record { is_open = hears.is_open; counts = ready.counts; none = λ hex. absurd (no_hex s.mode.hex bytes hex) };
}
  where
    no_hex : (b : Bool) → b ≡ false → b ≡ true → ⊥
    no_hex b e f = cc

pub gap_none : (over : Bool) (s : Session) (text : List ℕ) → over ≡ false → IsReady s → Goes (gap_events over) (cut_of s) s s text text
gap_none over s text is ready = subst (λ b. Goes (gap_events b) (cut_of s) s s text text) (sym is) (goes_none s text ready)

pub gap_ends : (over : Bool) (s : Session) (l : OpenLine) (before after : List ℕ) → over ≡ true → IsReady s → s.mode.hex ≡ false
    → Hears (RunEnds [] ∷ []) s.line l before after → Goes (gap_events over) (cut_of s) s (record s { line = l }) before after
gap_ends over s l before after is ready bytes hears =
    subst (λ b. Goes (gap_events b) (cut_of s) s (record s { line = l }) before after) (sym is) (goes_open (RunEnds [] ∷ []) s l before after ready bytes hears)

pub table_none : (due : Bool) (s : Session) (text : List ℕ) → due ≡ false → IsReady s → Goes (table_events due) (cut_of s) s s text text
table_none due s text is ready = subst (λ b. Goes (table_events b) (cut_of s) s s text text) (sym is) (goes_none s text ready)

pub table_tells : (due : Bool) (s : Session) (l : OpenLine) (before after : List ℕ) → due ≡ true → IsReady s → Hears (TableDue ∷ []) s.line s.line before after
    → l.framer.bytes ≡ s.line.framer.bytes → ((text : List ℕ) → Hears (TableTold ∷ []) s.line l text text)
    → Goes (table_events due) (cut_of s) s (record s { line = l }) before after
table_tells due s l before after is ready hears none told =
    subst (λ b. Goes (table_events b) (cut_of s) s (record s { line = l }) before after) (sym is) (record {
      mode = refl;
      cut = refl;
      hears = hears_then (TableDue ∷ []) (TableTold ∷ []) s.line s.line l before after after hears (told after);
      ready = record { is_open = (told after).is_open; counts = ready.counts; none = λ hex. none ∙ ready.none hex };
    })

-- a moment is kept, and that of the last table
pub table_went : (due now : Bool) (last tabled kept : Option ℕ) (old mid : Session) (before after : List ℕ) → due ≡ now → tabled ≡ kept
    → Goes (table_events due) (cut_of old) old mid before after
    → Goes (table_events now) (record (cut_of old) { last = last; tabled = kept }) old (record mid { last = last; tabled = tabled }) before after
table_went due now last tabled kept old mid before after is same g =
    subst (λ b. Goes (table_events b) (record (cut_of old) { last = last; tabled = kept }) old (record mid { last = last; tabled = tabled }) before after) is (record {
      mode = g.mode;
      cut = ap (λ (c : Cut). record c { last = last; tabled = tabled }) g.cut ∙ ap (λ t. record (cut_of old) { last = last; tabled = t }) same;
      hears = g.hears;
      ready = record { is_open = g.ready.is_open; counts = g.ready.counts; none = g.ready.none };
    })

-- bytes, after the end of a run where it is over
pub bytes_came : (over : Bool) (bytes : List ℕ) (old mid : Session) (l : OpenLine) (before middle after : List ℕ) → old.mode.hex ≡ false
    → Goes (gap_events over) (cut_of old) old mid before middle → Hears (Come bytes ∷ []) mid.line l middle after
    → Goes (gap_events over ++ Come bytes ∷ []) (cut_of old) old (record mid { line = l }) before after
bytes_came over bytes old mid l before middle after form a h =
    let form_mid : mid.mode.hex ≡ false = ap (λ (m : MonitorMode). m.hex) a.mode ∙ form in
    subst (λ c. Goes (gap_events over ++ Come bytes ∷ []) c old (record mid { line = l }) before after) a.cut
    (goes_then (gap_events over) (Come bytes ∷ []) (cut_of old) (cut_of mid) old mid (record mid { line = l }) before middle after a
    (goes_open (Come bytes ∷ []) mid l middle after a.ready form_mid h))

-- ---- characters that count

kept_one : (x : ℕ) (xs : List ℕ) → kept (kept xs) ≡ kept xs → (t : Bool) → not (is_blank x) ≡ t → kept (cond t (x ∷ kept xs) (kept xs)) ≡ cond t (x ∷ kept xs) (kept xs)
kept_one x xs again true e = ap (λ b. cond b (x ∷ kept (kept xs)) (kept (kept xs))) e ∙ ap (λ l. x ∷ l) again
kept_one x xs again false e = again

pub kept_again : (xs : List ℕ) → kept (kept xs) ≡ kept xs
kept_again [] = refl
kept_again (x ∷ xs) = kept_one x xs (kept_again xs) (not (is_blank x)) refl

pub goes_held : (s : Session) (characters line : List ℕ) (next : Session) (text : List ℕ) → IsReady s → next.mode ≡ s.mode → next.line ≡ s.line → next.last ≡ s.last
    → next.tabled ≡ s.tabled → next.ended ≡ s.ended → next.characters.items ≡ s.characters.items ++ kept characters
    → Goes [] (record (cut_of s) { line = s.characters.items ++ kept characters }) s next text text
goes_held s characters line next text ready mode line_is last tabled ended is = record {
  mode = mode;
  cut = rw (last, tabled, ended, is) refl;
  hears = subst (λ l. Hears [] s.line l text text) (sym line_is) (hears_nothing s.line text ready.is_open);
  ready = record {
    is_open = subst IsOpen (sym line_is) ready.is_open;
    counts = ap kept is ∙ kept-append s.characters.items (kept characters) ∙ ap (λ l. l ++ kept (kept characters)) ready.counts
        ∙ ap (λ l. s.characters.items ++ l) (kept_again characters) ∙ sym is;
    none = λ hex. ap (λ (l : OpenLine). l.framer.bytes) line_is ∙ ready.none (ap (λ (m : MonitorMode). m.hex) (sym mode) ∙ hex);
  };
}

-- ---- lines

-- what the characters of an ended line say
pub line_is : (s : Session) (characters : List ℕ) → IsReady s → line_bytes (s.characters.items ++ characters) ≡ said (s.characters.items ++ kept characters)
line_is s characters ready = ap said (kept-append s.characters.items characters ∙ ap (λ l. l ++ kept characters) ready.counts)

one_good : (line bytes : List ℕ) → line_bytes line ≡ Some bytes → run_events (line ∷ []) ≡ RunEnds bytes ∷ []
unfolding good_front
one_good line bytes is = rw is refl

one_none : (line : List ℕ) → line_bytes line ≡ None → run_events (line ∷ []) ≡ []
unfolding good_front
one_none line is = rw is refl

bad_one : (number : ℕ) (line : List ℕ) → line_bytes line ≡ None → bad_line number (line ∷ []) ≡ Some number
unfolding bad_line
bad_one number line is = rw is refl

good_one : (number : ℕ) (line bytes : List ℕ) → line_bytes line ≡ Some bytes → bad_line number (line ∷ []) ≡ None
unfolding bad_line
good_one number line bytes is = rw is refl

run_over : (h : Hearing) (bytes : List ℕ) → (after_events h (RunEnds bytes ∷ [])).held ≡ []
unfolding after_all
run_over h bytes = refl

-- by what is read of a line
said_some : (o : Option (List ℕ)) (good : Bool) (bytes : List ℕ) → MatchOption o (good ≡ false) (λ read. (good ≡ true) × (bytes ≡ read)) → good ≡ true → o ≡ Some bytes
said_some None good bytes is e = absurd (no is e)
  where
    no : good ≡ false → good ≡ true → ⊥
    no x y = cc
said_some (Some read) good bytes is e = ap Some (sym is.1)

said_none : (o : Option (List ℕ)) (good : Bool) (bytes : List ℕ) → MatchOption o (good ≡ false) (λ read. (good ≡ true) × (bytes ≡ read)) → good ≡ false → o ≡ None
said_none None good bytes is e = refl
said_none (Some read) good bytes is e = absurd (no is.0 e)
  where
    no : good ≡ true → good ≡ false → ⊥
    no x y = cc

pub line_broke : (s next : Session) (characters bytes : List ℕ) (good : Bool) (text : List ℕ) → IsReady s
    → MatchOption (said (s.characters.items ++ kept characters)) (good ≡ false) (λ read. (good ≡ true) × (bytes ≡ read)) → good ≡ false
    → next.mode ≡ s.mode → next.line ≡ s.line → next.ended ≡ s.ended + 1
    → Breaks (run_events ((s.characters.items ++ characters) ∷ [])) (bad_line (s.ended + 1) ((s.characters.items ++ characters) ∷ [])) s next text text
line_broke s next characters bytes good text ready read is mode line ended =
    let none : line_bytes (s.characters.items ++ characters) ≡ None = line_is s characters ready ∙ said_none _ good bytes read is in
    record {
      mode = mode;
      bad_is = bad_one (s.ended + 1) (s.characters.items ++ characters) none ∙ ap Some (sym ended);
      hears = subst (λ l. Hears l s.line next.line text text) (sym (one_none (s.characters.items ++ characters) none))
          (subst (λ l. Hears [] s.line l text text) (sym line) (hears_nothing s.line text ready.is_open));
    }

pub line_went : (s next : Session) (characters bytes : List ℕ) (good : Bool) (before after : List ℕ) → IsReady s
    → MatchOption (said (s.characters.items ++ kept characters)) (good ≡ false) (λ read. (good ≡ true) × (bytes ≡ read)) → good ≡ true
    → Hears (RunEnds bytes ∷ []) s.line next.line before after
    → next.mode ≡ s.mode → next.last ≡ s.last → next.tabled ≡ s.tabled → next.characters.items ≡ [] → next.ended ≡ s.ended + 1
    → GoesOrBreaks true (run_events ((s.characters.items ++ characters) ∷ [])) (bad_line (s.ended + 1) ((s.characters.items ++ characters) ∷ []))
    (record (cut_of s) { line = []; ended = s.ended + 1 }) s next before after
line_went s next characters bytes good before after ready read is hears mode last tabled empty ended =
    let some : line_bytes (s.characters.items ++ characters) ≡ Some bytes = line_is s characters ready ∙ said_some _ good bytes read is in (
      record {
        mode = mode;
        cut = rw (last, tabled, empty, ended) refl;
        hears = subst (λ l. Hears l s.line next.line before after) (sym (one_good (s.characters.items ++ characters) bytes some)) hears;
        ready = record {
          is_open = hears.is_open;
          counts = ap kept empty ∙ sym empty;
          none = λ hex. ap (λ (h : Hearing). h.held) hears.heard ∙ run_over (hearing_of s.line) bytes;
        };
      },
      good_one (s.ended + 1) (s.characters.items ++ characters) bytes some,
    )

-- a bad line, and lines after it
by_line : (number : ℕ) (bad : List ℕ) (rest : List (List ℕ)) (ended : ℕ) (o : Option (List ℕ)) → line_bytes bad ≡ o → bad_line number (bad ∷ []) ≡ Some ended
    → (bad_line number (bad ∷ rest) ≡ Some ended) × (run_events (bad ∷ []) ≡ run_events (bad ∷ rest))
unfolding bad_line good_front
by_line number bad rest ended None is h = (rw is (rw is at h), rw is refl)
by_line number bad rest ended (Some bytes) is h = absurd (never (bad_line number (bad ∷ [])) (good_one number bad bytes is) h)
  where
    never : (o : Option ℕ) → o ≡ None → o ≡ Some ended → ⊥
    never o e f = cc

bad_first : (number : ℕ) (bad : List ℕ) (rest : List (List ℕ)) (ended : ℕ) → bad_line number (bad ∷ []) ≡ Some ended
    → (bad_line number (bad ∷ rest) ≡ Some ended) × (run_events (bad ∷ []) ≡ run_events (bad ∷ rest))
bad_first number bad rest ended h = by_line number bad rest ended (line_bytes bad) refl h

-- ---- the lines of a piece, one after the other

-- so many lines have ended, none of which is bad
pub record LinesDone (piece : List ℕ) (at : ℕ) (old now : Session) (before text : List ℕ) : Type 0 where
  pub within : at ≤ length piece
  pub done : List (List ℕ)
  pub lines : ended_after old.characters.items piece ≡ done ++ ended_after now.characters.items (drop at piece)
  pub line : unended_after old.characters.items piece ≡ unended_after now.characters.items (drop at piece)
  pub good : bad_line (old.ended + 1) done ≡ None
  pub goes : Goes (run_events done) (record (cut_of old) { line = now.characters.items; ended = old.ended + length done }) old now before text

pub lines_start : (piece : List ℕ) (old : Session) (text : List ℕ) → IsReady old → LinesDone piece 0 old old text text
unfolding bad_line good_front
lines_start piece old text ready = record {
  within = omega arith;
  done = [];
  lines = refl;
  line = refl;
  good = refl;
  goes = subst (λ n. Goes [] (record (cut_of old) { ended = n }) old old text text) (omega arith) (goes_none old text ready);
}

-- a line stands at this place
split_at : (piece : List ℕ) (at count : ℕ) → count < length (drop at piece) → get_or (drop at piece) count 0 ≡ line_feed
    → drop at piece ≡ take count (drop at piece) ++ line_feed ∷ drop (count + 1) (drop at piece)
split_at piece at count below feed =
    sym (take-append-drop count (drop at piece)) ∙ ap (λ l. take count (drop at piece) ++ l) (drop_more (drop at piece) count 0 below)
    ∙ ap (λ b. take count (drop at piece) ++ b ∷ drop (count + 1) (drop at piece)) feed

-- what ends with it
line_ends : (piece : List ℕ) (at count : ℕ) (held : List ℕ) → count < length (drop at piece) → IsLine (take count (drop at piece)) → get_or (drop at piece) count 0 ≡ line_feed
    → (ended_after held (drop at piece) ≡ (held ++ take count (drop at piece)) ∷ ended_after [] (drop (at + (count + 1)) piece))
    × (unended_after held (drop at piece) ≡ unended_after [] (drop (at + (count + 1)) piece))
line_ends piece at count held below line feed =
    let split = split_at piece at count below feed in
    let rest : drop (count + 1) (drop at piece) ≡ drop (at + (count + 1)) piece = drop-drop (count + 1) at piece in (
      ap (ended_after held) split ∙ ended_after-feed held (take count (drop at piece)) (drop (count + 1) (drop at piece)) line
          ∙ ap (λ l. (held ++ take count (drop at piece)) ∷ ended_after [] l) rest,
      ap (unended_after held) split ∙ unended_after-feed held (take count (drop at piece)) (drop (count + 1) (drop at piece)) ∙ ap (unended_after []) rest,
    )

runs_more : (number : ℕ) (done lines : List (List ℕ)) → bad_line number done ≡ None → run_events (done ++ lines) ≡ run_events done ++ run_events lines
runs_more number done lines good = ap (map RunEnds) (good_front-append number done lines good) ∙ map-append RunEnds (good_front done) (good_front lines)

pub lines_step : (piece : List ℕ) (at count : ℕ) (old now next : Session) (before text after : List ℕ) → LinesDone piece at old now before text
    → count < length (drop at piece) → IsLine (take count (drop at piece)) → get_or (drop at piece) count 0 ≡ line_feed
    → GoesOrBreaks true (run_events ((now.characters.items ++ take count (drop at piece)) ∷ [])) (bad_line (now.ended + 1) ((now.characters.items ++ take count (drop at piece)) ∷ []))
    (record (cut_of now) { line = []; ended = now.ended + 1 }) now next text after
    → LinesDone piece (at + (count + 1)) old next before after
lines_step piece at count old now next before text after d below line feed (goes, none) =
    let one = (now.characters.items ++ take count (drop at piece)) ∷ [] in
    let ends = line_ends piece at count now.characters.items below line feed in
    let cut : cut_of now ≡ record (cut_of old) { line = now.characters.items; ended = old.ended + length d.done } = d.goes.cut in
    let count_is : now.ended ≡ old.ended + length d.done = ap (λ (c : Cut). c.ended) cut in
    let empty : next.characters.items ≡ [] = ap (λ (c : Cut). c.line) goes.cut in
    let number : old.ended + 1 + length d.done ≡ now.ended + 1 = omega arith in
    record {
      within = omega (arith, length-drop at piece);
      done = d.done ++ one;
      lines = d.lines ∙ ap (λ l. d.done ++ l) (ends.0 ∙ ap (λ l. (now.characters.items ++ take count (drop at piece)) ∷ ended_after l (drop (at + (count + 1)) piece)) (sym empty))
          ∙ sym (append_assoc d.done one (ended_after next.characters.items (drop (at + (count + 1)) piece)));
      line = d.line ∙ ends.1 ∙ ap (λ l. unended_after l (drop (at + (count + 1)) piece)) (sym empty);
      good = bad_line-append (old.ended + 1) d.done one d.good ∙ ap (λ n. bad_line n one) number ∙ none;
      goes = subst (λ l. Goes l (record (cut_of old) { line = next.characters.items; ended = old.ended + length (d.done ++ one) }) old next before after)
          (sym (runs_more (old.ended + 1) d.done one d.good))
          (subst (λ c. Goes (run_events d.done ++ run_events one) c old next before after) (next_cut cut empty count_is)
          (goes_then (run_events d.done) (run_events one) _ _ old now next before text after d.goes goes));
    }
  where
    next_cut : cut_of now ≡ record (cut_of old) { line = now.characters.items; ended = old.ended + length d.done } → next.characters.items ≡ [] → now.ended ≡ old.ended + length d.done
        → record (cut_of now) { line = []; ended = now.ended + 1 }
        ≡ record (cut_of old) { line = next.characters.items; ended = old.ended + length (d.done ++ (now.characters.items ++ take count (drop at piece)) ∷ []) }
    next_cut cut empty count_is =
        let last : now.last ≡ old.last = ap (λ (c : Cut). c.last) cut in
        let tabled : now.tabled ≡ old.tabled = ap (λ (c : Cut). c.tabled) cut in
        let ended : now.ended + 1 ≡ old.ended + length (d.done ++ (now.characters.items ++ take count (drop at piece)) ∷ []) =
        omega (arith, length-append d.done ((now.characters.items ++ take count (drop at piece)) ∷ [])) in
        rw (last, tabled, empty, sym ended) refl

pub lines_broke : (piece : List ℕ) (at count : ℕ) (old now next : Session) (before text after : List ℕ) → LinesDone piece at old now before text
    → count < length (drop at piece) → IsLine (take count (drop at piece)) → get_or (drop at piece) count 0 ≡ line_feed
    → Breaks (run_events ((now.characters.items ++ take count (drop at piece)) ∷ [])) (bad_line (now.ended + 1) ((now.characters.items ++ take count (drop at piece)) ∷ [])) now next text after
    → Breaks (run_events (ended_after old.characters.items piece)) (bad_line (old.ended + 1) (ended_after old.characters.items piece)) old next before after
lines_broke piece at count old now next before text after d below line feed b =
    let bad = now.characters.items ++ take count (drop at piece) in
    let rest = ended_after [] (drop (at + (count + 1)) piece) in
    let ends = line_ends piece at count now.characters.items below line feed in
    let lines : ended_after old.characters.items piece ≡ d.done ++ (bad ∷ rest) = d.lines ∙ ap (λ l. d.done ++ l) ends.0 in
    let count_is : now.ended ≡ old.ended + length d.done = ap (λ (c : Cut). c.ended) d.goes.cut in
    let number : old.ended + 1 + length d.done ≡ now.ended + 1 = omega arith in
    let some = bad_first (now.ended + 1) bad rest next.ended b.bad_is in
    record {
      mode = b.mode ∙ d.goes.mode;
      bad_is = ap (bad_line (old.ended + 1)) lines ∙ bad_line-append (old.ended + 1) d.done (bad ∷ rest) d.good ∙ ap (λ n. bad_line n (bad ∷ rest)) number ∙ some.0;
      hears = subst (λ l. Hears l old.line next.line before after)
          (ap (λ l. run_events d.done ++ l) some.1 ∙ sym (runs_more (old.ended + 1) d.done (bad ∷ rest) d.good) ∙ ap run_events (sym lines))
          (hears_then (run_events d.done) (run_events (bad ∷ [])) old.line now.line next.line before text after d.goes.hears b.hears);
    }

pub lines_end : (piece : List ℕ) (at : ℕ) (old now next : Session) (before text : List ℕ) → LinesDone piece at old now before text → IsLine (drop at piece)
    → Goes [] (record (cut_of now) { line = now.characters.items ++ kept (drop at piece) }) now next text text
    → GoesOrBreaks true (run_events (ended_after old.characters.items piece)) (bad_line (old.ended + 1) (ended_after old.characters.items piece))
    (record (cut_of old) { line = kept (unended_after old.characters.items piece); ended = old.ended + length (ended_after old.characters.items piece) }) old next before text
lines_end piece at old now next before text d line goes =
    let lines : ended_after old.characters.items piece ≡ d.done = d.lines ∙ ap (λ l. d.done ++ l) (ended_after-line now.characters.items (drop at piece) line) ∙ append-nil d.done in
    let rest : kept (unended_after old.characters.items piece) ≡ now.characters.items ++ kept (drop at piece) =
    ap kept (d.line ∙ unended_after-line now.characters.items (drop at piece) line) ∙ kept-append now.characters.items (drop at piece)
    ∙ ap (λ l. l ++ kept (drop at piece)) d.goes.ready.counts in
    let last : now.last ≡ old.last = ap (λ (c : Cut). c.last) d.goes.cut in
    let tabled : now.tabled ≡ old.tabled = ap (λ (c : Cut). c.tabled) d.goes.cut in
    let ended : now.ended ≡ old.ended + length d.done = ap (λ (c : Cut). c.ended) d.goes.cut in (
      subst (λ (l : List (List ℕ)). Goes (run_events l) (record (cut_of old) { line = kept (unended_after old.characters.items piece); ended = old.ended + length l }) old next before text) (sym lines)
          (subst (λ c. Goes (run_events d.done) c old next before text) (rw (last, tabled, ended, sym rest) refl)
          (subst (λ l. Goes l (record (cut_of now) { line = now.characters.items ++ kept (drop at piece) }) old next before text) (append-nil (run_events d.done))
          (goes_then (run_events d.done) [] _ _ old now next before text text d.goes goes))),
      ap (bad_line (old.ended + 1)) lines ∙ d.good,
    )

-- the same in slices of the piece

-- where a line feed stands first
abbrev pub Feeds : List ℕ → ℕ → Type 0
Feeds bytes count = (count < length bytes) × IsLine (take count bytes) × (get_or bytes count 0 ≡ line_feed)

slice_part : (piece : List ℕ) (at count : ℕ) → take (at + count - at) (drop at piece) ≡ take count (drop at piece)
slice_part piece at count = ap (λ n. take n (drop at piece)) (omega arith)

pub lines_step_in : (piece : List ℕ) (at count : ℕ) (old now next : Session) (before text after : List ℕ) → LinesDone piece at old now before text
    → Feeds (take (length piece - at) (drop at piece)) count
    → GoesOrBreaks true (run_events ((now.characters.items ++ take (at + count - at) (drop at piece)) ∷ []))
    (bad_line (now.ended + 1) ((now.characters.items ++ take (at + count - at) (drop at piece)) ∷ []))
    (record (cut_of now) { line = []; ended = now.ended + 1 }) now next text after
    → LinesDone piece (at + (count + 1)) old next before after
lines_step_in piece at count old now next before text after d feeds goes =
    let here = subst (λ l. Feeds l count) (take_rest piece at) feeds in
    lines_step piece at count old now next before text after d here.0 here.1 here.2
    (subst (λ l. GoesOrBreaks true (run_events ((now.characters.items ++ l) ∷ [])) (bad_line (now.ended + 1) ((now.characters.items ++ l) ∷ []))
    (record (cut_of now) { line = []; ended = now.ended + 1 }) now next text after) (slice_part piece at count) goes)

pub lines_broke_in : (piece : List ℕ) (at count : ℕ) (old now next : Session) (before text after : List ℕ) → LinesDone piece at old now before text
    → Feeds (take (length piece - at) (drop at piece)) count
    → Breaks (run_events ((now.characters.items ++ take (at + count - at) (drop at piece)) ∷ []))
    (bad_line (now.ended + 1) ((now.characters.items ++ take (at + count - at) (drop at piece)) ∷ [])) now next text after
    → Breaks (run_events (ended_after old.characters.items piece)) (bad_line (old.ended + 1) (ended_after old.characters.items piece)) old next before after
lines_broke_in piece at count old now next before text after d feeds b =
    let here = subst (λ l. Feeds l count) (take_rest piece at) feeds in
    lines_broke piece at count old now next before text after d here.0 here.1 here.2
    (subst (λ l. Breaks (run_events ((now.characters.items ++ l) ∷ [])) (bad_line (now.ended + 1) ((now.characters.items ++ l) ∷ [])) now next text after)
    (slice_part piece at count) b)

pub lines_end_in : (piece : List ℕ) (at : ℕ) (old now next : Session) (before text : List ℕ) → LinesDone piece at old now before text
    → IsLine (take (length piece - at) (drop at piece))
    → Goes [] (record (cut_of now) { line = now.characters.items ++ kept (take (length piece - at) (drop at piece)) }) now next text text
    → GoesOrBreaks true (run_events (ended_after old.characters.items piece)) (bad_line (old.ended + 1) (ended_after old.characters.items piece))
    (record (cut_of old) { line = kept (unended_after old.characters.items piece); ended = old.ended + length (ended_after old.characters.items piece) }) old next before text
lines_end_in piece at old now next before text d line goes =
    lines_end piece at old now next before text d (subst IsLine (take_rest piece at) line)
    (subst (λ l. Goes [] (record (cut_of now) { line = now.characters.items ++ kept l }) now next text text) (take_rest piece at) goes)

-- by whether the line is good
pub lines_step_by : (good : Bool) (piece : List ℕ) (at count : ℕ) (old now next : Session) (before text after : List ℕ) → LinesDone piece at old now before text
    → Feeds (take (length piece - at) (drop at piece)) count → good ≡ true
    → GoesOrBreaks good (run_events ((now.characters.items ++ take (at + count - at) (drop at piece)) ∷ []))
    (bad_line (now.ended + 1) ((now.characters.items ++ take (at + count - at) (drop at piece)) ∷ []))
    (record (cut_of now) { line = []; ended = now.ended + 1 }) now next text after
    → LinesDone piece (at + count + 1) old next before after
lines_step_by true piece at count old now next before text after d feeds is goes =
    subst (λ k. LinesDone piece k old next before after) (omega arith) (lines_step_in piece at count old now next before text after d feeds goes)
lines_step_by false piece at count old now next before text after d feeds is goes = absurd cc

pub lines_broke_by : (good : Bool) (piece : List ℕ) (at count : ℕ) (old now next : Session) (before text after : List ℕ) → LinesDone piece at old now before text
    → Feeds (take (length piece - at) (drop at piece)) count → good ≡ false
    → GoesOrBreaks good (run_events ((now.characters.items ++ take (at + count - at) (drop at piece)) ∷ []))
    (bad_line (now.ended + 1) ((now.characters.items ++ take (at + count - at) (drop at piece)) ∷ []))
    (record (cut_of now) { line = []; ended = now.ended + 1 }) now next text after
    → Breaks (run_events (ended_after old.characters.items piece)) (bad_line (old.ended + 1) (ended_after old.characters.items piece)) old next before after
lines_broke_by false piece at count old now next before text after d feeds is b = lines_broke_in piece at count old now next before text after d feeds b
lines_broke_by true piece at count old now next before text after d feeds is b = absurd cc

-- ---- a piece

bytes_by : (hex : Bool) (piece : Piece) (old new : Session) (before after : List ℕ) → hex ≡ false
    → Goes (byte_events old.mode.recorded old.mode.gap old.last piece) (cut_of old) old new before after
    → Goes (cond hex (run_events (ended_after old.characters.items piece.bytes)) (byte_events old.mode.recorded old.mode.gap old.last piece))
    (record (cut_of old) { line = cond hex (kept (unended_after old.characters.items piece.bytes)) old.characters.items; ended = old.ended + length (lines_in hex (cut_of old) piece) })
    old new before after × (bad_line (old.ended + 1) (lines_in hex (cut_of old) piece) ≡ None)
unfolding bad_line
bytes_by true piece old new before after form goes = absurd cc
bytes_by false piece old new before after form goes =
    (subst (λ n. Goes (byte_events old.mode.recorded old.mode.gap old.last piece) (record (cut_of old) { ended = n }) old new before after) (omega arith) goes, refl)

pub took_bytes : (piece : Piece) (old new : Session) (before after : List ℕ) → old.mode.hex ≡ false
    → Goes (byte_events old.mode.recorded old.mode.gap old.last piece) (cut_of old) old new before after → TakesBytes true piece old new before after
took_bytes piece old new before after form goes = bytes_by old.mode.hex piece old new before after form goes

pub piece_went : (piece : Piece) (old mid new : Session) (before middle after : List ℕ) → TakesBytes true piece old mid before middle
    → Goes (table_events (is_due mid.mode.every mid.tabled piece.moment)) (record (cut_of mid) { last = Some piece.moment; tabled = tabled_after (is_due mid.mode.every mid.tabled piece.moment) mid.tabled piece.moment })
    mid new middle after → TakesPiece true piece old new before after
piece_went piece old mid new before middle after (goes, none) table =
    let due : is_due mid.mode.every mid.tabled piece.moment ≡ is_due old.mode.every old.tabled piece.moment =
    ap (λ (m : MonitorMode). is_due m.every mid.tabled piece.moment) goes.mode ∙ ap (λ (c : Cut). is_due old.mode.every c.tabled piece.moment) goes.cut in
    let now = table_events (is_due old.mode.every old.tabled piece.moment) in
    let cut : record (cut_of mid) { last = Some piece.moment; tabled = tabled_after (is_due mid.mode.every mid.tabled piece.moment) mid.tabled piece.moment }
    ≡ after_piece old.mode (cut_of old) piece =
    ap (λ d. record (cut_of mid) { last = Some piece.moment; tabled = tabled_after d mid.tabled piece.moment }) due
    ∙ ap (λ (c : Cut). record c { last = Some piece.moment; tabled = tabled_after (is_due old.mode.every old.tabled piece.moment) c.tabled piece.moment }) goes.cut in
    let events : bytes_events old.mode (cut_of old) piece ++ table_events (is_due mid.mode.every mid.tabled piece.moment) ≡ piece_events old.mode (cut_of old) piece =
    ap (λ d. bytes_events old.mode (cut_of old) piece ++ table_events d) due
    ∙ sym (ap (λ o. bytes_events old.mode (cut_of old) piece ++ cond (is_some o) [] now) none) in (
      subst (λ l. Goes l (after_piece old.mode (cut_of old) piece) old new before after) events
          (subst (λ c. Goes (bytes_events old.mode (cut_of old) piece ++ table_events (is_due mid.mode.every mid.tabled piece.moment)) c old new before after) cut
          (goes_then (bytes_events old.mode (cut_of old) piece) (table_events (is_due mid.mode.every mid.tabled piece.moment)) _ _ old mid new before middle after goes table)),
      none,
    )

-- ---- the end

pub ended_bytes : (old : Session) (l : OpenLine) (before after : List ℕ) → old.mode.hex ≡ false → Hears (RunEnds [] ∷ []) old.line l before after
    → EndsInput true old (record old { line = l }) before after
unfolding bad_line
ended_bytes old l before after form hears = record {
  hears = rw form hears;
  bad = rw form refl;
}

pub ended_all : (good : Bool) (old new : Session) (before middle after : List ℕ) → EndsInput good old new before middle → Hears (TableDue ∷ []) new.line new.line middle after
    → EndsAll good old new before after
ended_all good old new before middle after e table = record {
  hears = hears_then (closing_events old.mode.hex (cut_of old)) (TableDue ∷ []) old.line new.line new.line before middle after e.hears table;
  bad = e.bad;
}

pub piece_went_by : (good : Bool) (piece : Piece) (old mid new : Session) (before middle after : List ℕ) → good ≡ true → TakesBytes good piece old mid before middle
    → Goes (table_events (is_due mid.mode.every mid.tabled piece.moment)) (record (cut_of mid) { last = Some piece.moment; tabled = tabled_after (is_due mid.mode.every mid.tabled piece.moment) mid.tabled piece.moment })
    mid new middle after → TakesPiece true piece old new before after
piece_went_by true piece old mid new before middle after is took table = piece_went piece old mid new before middle after took table
piece_went_by false piece old mid new before middle after is took table = absurd cc
