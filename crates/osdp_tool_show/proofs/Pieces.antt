-- A capture that goes on, piece by piece.
use Rattle.osdp_tool_show.proofs.Common.{◌≡◌, ℕ, ◌+◌, ◌*◌, ◌^◌, ◌<◌, ◌≤◌, not, Bool, true, false, List, [], ◌∷◌, ◌++◌, length, take, drop, string_bytes, Option, Some, None, MatchOption, ◌⊎◌, inl, inr, refl, sym, subst, ap, ◌∙◌, arith, append_assoc, append-nil, length-append, Appends, append_known, Appends-nil, take-add, take-append-drop, take_more, Detail, AreBytes, AreBytes-nil, items_nothing, left_nothing, Held, new_run, items, left_over, Form, Raw, Joined, Apart, is_blank, kept, said, ended_lines-hold, unended_line-hold, ended_lines-feed, unended_line-feed, kept-append, hold_runs, feed_joined, feed_apart, feed_bad, said_short, no_tally, counted, tally_after_all, Capture, Report, written_or_held, IsSettled, Stands, Took, EndedRun, load, LineStands, OpenLine, HasShown, Stops, HasShownIf, TookPiece}
use Rattle.std.proofs.lemmas.List.Filters.{length-filter_both}
use Rattle.osdp_tool_streams.specs.Cut.{HasLine, ended_after, unended_after, line_feed, ended_lines, unended_line, IsLine}
use Rattle.osdp_tool_streams.specs.Runs.{good_front, bad_line, ended_runs, open_run, first_bad_ended}
use Rattle.osdp_tool_show.specs.ToldItems.{shown_lines, after_runs, runs_lines, tally_so_far, lines_so_far}
use Rattle.osdp_tool_show.proofs.Lines.{tally_after_all-nil, shown_lines-nil}

-- one piece after another
pub took_both : (xs ys : List ℕ) (good : Bool) (a b c : Capture) (before middle after : Option (List ℕ))
    → TookPiece xs true a b before middle → TookPiece ys good b c middle after → TookPiece (xs ++ ys) good a c before after
took_both xs ys good a b c before middle after first second = record {
  follows = λ detail form start read f.
      subst (λ l. HasShownIf good detail form start l c after) (append_assoc read xs ys) (second.follows detail form start (read ++ xs) (first.follows detail form start read f));
  settled = second.settled;
  form_is = second.form_is ∙ first.form_is;
  load_is = omega (arith, first.load_is, second.load_is, length-append xs ys);
}

-- a capture of one form that goes on
in_form : (kind : Form) (piece : List ℕ) (old new : Capture) (before after : Option (List ℕ)) → old.form ≡ kind → new.form ≡ old.form → IsSettled new.framer
    → load new ≤ load old + 5 * length piece
    → ((detail : Detail) (start : Option (List ℕ)) (read : List ℕ) → HasShown detail kind start read old before
    → Stands detail start (ended_runs kind (read ++ piece)) (open_run kind (read ++ piece)) new.framer new.report after × OpenLine kind (read ++ piece) new
    × (first_bad_ended kind (read ++ piece) ≡ None))
    → TookPiece piece true old new before after
in_form kind piece old new before after is form_is settled load_is goes_on = record {
  follows = λ detail form start read f.
      let same : kind ≡ form = sym is ∙ f.form_is in
      let here = goes_on detail start read (subst (λ x. HasShown detail x start read old before) (sym same) f) in
      subst (λ x. HasShown detail x start (read ++ piece) new after) same (record { form_is = form_is ∙ is; stands = here.0; open_line = here.1; good = here.2 });
  settled = settled;
  form_is = form_is;
  load_is = load_is;
}

-- ---- bytes of one run

pub took_raw : (piece : List ℕ) (old new : Capture) (before after : Option (List ℕ)) → old.form ≡ Raw
    → new.form ≡ old.form → new.line ≡ old.line → new.ended ≡ old.ended
    → Took piece old.framer new.framer old.report new.report before after → TookPiece piece true old new before after
took_raw piece old new before after raw form_is line_is ended_is t =
    let counts = t.counts in
    let line_count : length new.line.items ≡ length old.line.items = ap (λ v. length v.items) line_is in
    in_form Raw piece old new before after raw form_is t.settled (omega arith) (λ detail start read f. (t.stands detail start [] read f.stands, tt, refl))

-- ---- part of a line

not_raw : (form : Form) → (form ≡ Raw → ⊥) → (form ≡ Joined) ⊎ (form ≡ Apart)
not_raw Raw h = absurd (h refl)
not_raw Joined h = inl refl
not_raw Apart h = inr refl

pub held_line : (piece : List ℕ) (old new : Capture) (before : Option (List ℕ)) → IsLine piece → (old.form ≡ Raw → ⊥) → IsSettled old.framer
    → new.form ≡ old.form → new.ended ≡ old.ended → new.framer ≡ old.framer → new.report ≡ old.report → length (kept piece) ≤ length piece
    → new.line.items ≡ old.line.items ++ kept piece → TookPiece piece true old new before before
held_line piece old new before whole lines settled form_is ended_is framer_is report_is shorter line_is =
    let line_count : length new.line.items ≡ length old.line.items + length (kept piece) = ap length line_is ∙ length-append old.line.items (kept piece) in
    let counts : counted new.report.tally ≡ counted old.report.tally = ap (λ (r : Report). counted r.tally) report_is in
    let held : length new.framer.bytes ≡ length old.framer.bytes = ap (λ (h : Held). length h.bytes) framer_is in
    record {
      follows = λ detail form start read f. goes_on detail form start read f (hold_runs form read piece (not_raw form (λ e. lines (f.form_is ∙ e))) whole);
      settled = subst IsSettled (sym framer_is) settled;
      form_is = form_is;
      load_is = omega arith;
    }
  where
    held : (read : List ℕ) → LineStands read old → LineStands (read ++ piece) new
    held read o = record {
      line = line_is ∙ ap (λ l. l ++ kept piece) o.line ∙ sym (ap kept (unended_line-hold read piece whole) ∙ kept-append (unended_line read) piece);
      count = ended_is ∙ o.count ∙ ap length (sym (ended_lines-hold read piece whole));
    }

    line_goes_on : (form : Form) (read : List ℕ) → OpenLine form read old → OpenLine form (read ++ piece) new
    line_goes_on Raw read o = tt
    line_goes_on Joined read o = held read o
    line_goes_on Apart read o = held read o

    goes_on : (detail : Detail) (form : Form) (start : Option (List ℕ)) (read : List ℕ) → HasShown detail form start read old before
        → (ended_runs form (read ++ piece) ≡ ended_runs form read) × (open_run form (read ++ piece) ≡ open_run form read)
        × (first_bad_ended form (read ++ piece) ≡ first_bad_ended form read)
        → HasShown detail form start (read ++ piece) new before
    goes_on detail form start read f same = record {
      form_is = form_is ∙ f.form_is;
      stands =
          subst (λ r. Stands detail start (ended_runs form (read ++ piece)) (open_run form (read ++ piece)) new.framer r before) (sym report_is)
          (subst (λ (h : Held). Stands detail start (ended_runs form (read ++ piece)) (open_run form (read ++ piece)) h old.report before) (sym framer_is)
          (subst (λ r. Stands detail start r (open_run form (read ++ piece)) old.framer old.report before) (sym same.0)
          (subst (λ r. Stands detail start (ended_runs form read) r old.framer old.report before) (sym same.1) f.stands)));
      open_line = line_goes_on form read f.open_line;
      good = same.2 ∙ f.good;
    }

-- ---- the end of a line

pub says_bytes : (o : Option (List ℕ)) (good : Bool) (bytes value : List ℕ) → MatchOption o (good ≡ false) (λ read. (good ≡ true) × (bytes ≡ read))
    → good ≡ true → value ≡ bytes → o ≡ Some value
says_bytes None good bytes value h e is = cc
says_bytes (Some read) good bytes value h e is = ap Some (sym h.1 ∙ sym is)

pub says_none : (o : Option (List ℕ)) (good : Bool) (bytes : List ℕ) → MatchOption o (good ≡ false) (λ read. (good ≡ true) × (bytes ≡ read))
    → good ≡ false → o ≡ None
says_none None good bytes h e = refl
says_none (Some read) good bytes h e = cc

-- the line that has ended is counted, and nothing is held of the next
fed_line : (read : List ℕ) (old new : Capture) → LineStands read old → new.line.items ≡ [] → new.ended ≡ old.ended + 1 → LineStands (read ++ line_feed ∷ []) new
fed_line read old new o line_is ended_is = record {
  line = line_is ∙ sym (ap kept (unended_line-feed read));
  count = ended_is ∙ ap (λ n. n + 1) o.count ∙ sym (ap length (ended_lines-feed read) ∙ length-append (ended_lines read) (unended_line read ∷ []));
}

pub fed_joined : (bytes : List ℕ) (old new : Capture) (before after : Option (List ℕ)) → old.form ≡ Joined → new.form ≡ old.form
    → said old.line.items ≡ Some bytes → new.line.items ≡ [] → new.ended ≡ old.ended + 1
    → Took bytes old.framer new.framer old.report new.report before after → TookPiece (line_feed ∷ []) true old new before after
fed_joined bytes old new before after joined form_is says line_is ended_is t =
    let counts = t.counts in
    let short = said_short old.line.items bytes says in
    let none : length new.line.items ≡ 0 = ap length line_is in
    in_form Joined (line_feed ∷ []) old new before after joined form_is t.settled (omega arith) (λ detail start read f.
    let fed = feed_joined read bytes f.good (ap said (sym f.open_line.line) ∙ says) in (
      subst (λ r. Stands detail start [] r new.framer new.report after) (sym fed.0) (t.stands detail start [] (open_run Joined read) f.stands),
      fed_line read old new f.open_line line_is ended_is,
      fed.1,
    ))

pub fed_apart : (bytes : List ℕ) (old mid new : Capture) (before middle after : Option (List ℕ)) → old.form ≡ Apart → new.form ≡ old.form
    → said old.line.items ≡ Some bytes → new.line.items ≡ [] → new.ended ≡ old.ended + 1
    → Took bytes old.framer mid.framer old.report mid.report before middle
    → EndedRun mid.framer new.framer mid.report new.report middle after → TookPiece (line_feed ∷ []) true old new before after
fed_apart bytes old mid new before middle after apart form_is says line_is ended_is t e =
    let counts = t.counts in
    let more = e.counts in
    let short = said_short old.line.items bytes says in
    let none : length new.line.items ≡ 0 = ap length line_is in
    in_form Apart (line_feed ∷ []) old new before after apart form_is e.settled (omega arith) (λ detail start read f.
    let fed = feed_apart read bytes f.good (ap said (sym f.open_line.line) ∙ says) in (
      subst (λ r. Stands detail start r [] new.framer new.report after) (sym fed.0)
          (e.stands detail start (ended_runs Apart read) bytes (t.stands detail start (ended_runs Apart read) [] f.stands)),
      fed_line read old new f.open_line line_is ended_is,
      fed.1,
    ))

pub fed_bad : (old new : Capture) (now : Option (List ℕ)) → (old.form ≡ Raw → ⊥) → IsSettled old.framer → new.form ≡ old.form
    → said old.line.items ≡ None → new.line.items ≡ [] → new.ended ≡ old.ended + 1 → new.framer ≡ old.framer → new.report ≡ old.report
    → TookPiece (line_feed ∷ []) false old new now now
fed_bad old new now lines settled form_is says line_is ended_is framer_is report_is =
    let none : length new.line.items ≡ 0 = ap length line_is in
    let counts : counted new.report.tally ≡ counted old.report.tally = ap (λ (r : Report). counted r.tally) report_is in
    let held : length new.framer.bytes ≡ length old.framer.bytes = ap (λ (h : Held). length h.bytes) framer_is in
    record {
      follows = λ detail form start read f. by_form detail form start read f (not_raw form (λ e. lines (f.form_is ∙ e)));
      settled = subst IsSettled (sym framer_is) settled;
      form_is = form_is;
      load_is = omega arith;
    }
  where
    stops : (detail : Detail) (form : Form) (start : Option (List ℕ)) (read : List ℕ) → HasShown detail form start read old now → LineStands read old
        → (form ≡ Joined) ⊎ (form ≡ Apart) → Stops detail form start (read ++ line_feed ∷ []) new now
    stops detail form start read f o is =
        let fed = feed_bad form read is f.good (ap said (sym o.line) ∙ says) in
        let here = read ++ line_feed ∷ [] in
        record {
          stands =
              subst (λ r. Stands detail start (ended_runs form here) (open_run form here) new.framer r now) (sym report_is)
              (subst (λ (h : Held). Stands detail start (ended_runs form here) (open_run form here) h old.report now) (sym framer_is)
              (subst (λ r. Stands detail start r (open_run form here) old.framer old.report now) (sym fed.0)
              (subst (λ r. Stands detail start (ended_runs form read) r old.framer old.report now) (sym fed.1) f.stands)));
          bad = fed.2 ∙ ap Some (ap (λ n. n + 1) (sym o.count) ∙ sym ended_is);
        }

    by_form : (detail : Detail) (form : Form) (start : Option (List ℕ)) (read : List ℕ) → HasShown detail form start read old now
        → (form ≡ Joined) ⊎ (form ≡ Apart) → Stops detail form start (read ++ line_feed ∷ []) new now
    by_form detail Raw start read f is = elim is [ inl j ↦ cc | inr a ↦ cc ]
    by_form detail Joined start read f is = stops detail Joined start read f f.open_line is
    by_form detail Apart start read f is = stops detail Apart start read f f.open_line is

-- ---- the beginning

none_counted : tally_after_all no_tally (items false []) ≡ no_tally
none_counted = ap (tally_after_all no_tally) (items_nothing false) ∙ tally_after_all-nil no_tally

none_shown : (detail : Detail) → shown_lines detail no_tally (items false []) ≡ []
none_shown detail = ap (shown_lines detail no_tally) (items_nothing false) ∙ shown_lines-nil detail no_tally

nothing_counted : (form : Form) → tally_so_far (ended_runs form []) (open_run form []) ≡ no_tally
unfolding good_front ended_after after_runs
nothing_counted Raw = none_counted
nothing_counted form = none_counted

nothing_shown : (detail : Detail) (form : Form) → lines_so_far detail (ended_runs form []) (open_run form []) ≡ []
unfolding good_front ended_after after_runs runs_lines
nothing_shown detail Raw = none_shown detail
nothing_shown detail form = none_shown detail

nothing_open : (form : Form) → open_run form [] ≡ []
unfolding good_front ended_after
nothing_open Raw = refl
nothing_open form = refl

pub nothing_bad : (form : Form) → first_bad_ended form [] ≡ None
unfolding bad_line ended_after
nothing_bad Raw = refl
nothing_bad form = refl

pub told_nothing : (detail : Detail) (form : Form) (start : Option (List ℕ)) → Appends start start (lines_so_far detail (ended_runs form []) (open_run form []))
told_nothing detail form start = subst (Appends start start) (sym (nothing_shown detail form)) (Appends-nil start)

append_nothing : (start : Option (List ℕ)) → append_known start [] ≡ start
append_nothing None = refl
append_nothing (Some x) = ap Some (append-nil x)

none_unended : unended_line [] ≡ []
unfolding unended_after
none_unended = refl

none_ended : ended_lines [] ≡ []
unfolding ended_after
none_ended = refl

pub begins : (detail : Detail) (capture : Capture) (start : Option (List ℕ)) → capture.line.items ≡ [] → capture.ended ≡ 0
    → capture.framer ≡ new_run → capture.report.detail ≡ detail → capture.report.tally ≡ no_tally → string_bytes capture.report.text ≡ []
    → HasShown detail capture.form start [] capture (written_or_held start capture.report)
begins detail capture start line ended framer detail_is tally text = record {
  form_is = refl;
  stands = record {
    detail_is = detail_is;
    tally = tally ∙ sym (nothing_counted capture.form);
    held_is = framer ∙ ap (λ (l : List ℕ). record { bytes = l; ended = false }) (sym (ap left_over (nothing_open capture.form) ∙ left_nothing));
    bytes = subst AreBytes (sym (nothing_open capture.form)) AreBytes-nil;
    lines = subst (λ (now : Option (List ℕ)). Appends start now (lines_so_far detail (ended_runs capture.form []) (open_run capture.form [])))
        (sym (ap (append_known start) text ∙ append_nothing start)) (told_nothing detail capture.form start);
  };
  open_line = by_form capture.form;
  good = nothing_bad capture.form;
}
  where
    opens : LineStands [] capture
    opens = record { line = line ∙ sym (ap kept none_unended); count = ended ∙ ap length (sym none_ended) }

    by_form : (form : Form) → OpenLine form [] capture
    by_form Raw = tt
    by_form Joined = opens
    by_form Apart = opens

-- ---- a line within a piece

pub length-kept : (xs : List ℕ) → length (kept xs) ≤ length xs
length-kept xs = let both = length-filter_both (λ b. not (is_blank b)) (λ b. not (not (is_blank b))) (λ b. refl) xs in omega arith

pub held_part : (piece : List ℕ) (old new : Capture) (now : Option (List ℕ)) → IsLine piece → (old.form ≡ Raw → ⊥) → IsSettled old.framer
    → new.form ≡ old.form → new.ended ≡ old.ended → new.framer ≡ old.framer → new.report ≡ old.report
    → new.line.items ≡ old.line.items ++ kept piece → TookPiece piece true old new now now
held_part piece old new now whole lines settled form_is ended_is framer_is report_is line_is =
    held_line piece old new now whole lines settled form_is ended_is framer_is report_is (length-kept piece) line_is

-- a line and its line feed, after what was taken of the piece
pub took_line : (piece : List ℕ) (at count : ℕ) (good : Bool) (a b c : Capture) (before middle after : Option (List ℕ))
    → HasLine (drop at piece) count → TookPiece (take at piece) true a b before middle
    → TookPiece (take count (drop at piece) ++ line_feed ∷ []) good b c middle after → TookPiece (take (at + (count + 1)) piece) good a c before after
took_line piece at count good a b c before middle after h first second =
    let rest = drop at piece in
    let one_more : take (count + 1) rest ≡ take count rest ++ line_feed ∷ [] =
    take_more rest count 0 h.below ∙ ap (λ n. take count rest ++ n ∷ []) h.feed in
    subst (λ l. TookPiece l good a c before after)
    (ap (λ l. take at piece ++ l) (sym one_more) ∙ sym (take-add at (count + 1) piece))
    (took_both (take at piece) (take count rest ++ line_feed ∷ []) good a b c before middle after first second)

-- what is left of the piece is part of a line
pub took_rest : (piece : List ℕ) (at : ℕ) (a b c : Capture) (before middle : Option (List ℕ))
    → TookPiece (take at piece) true a b before middle → TookPiece (drop at piece) true b c middle middle → TookPiece piece true a c before middle
took_rest piece at a b c before middle first second =
    subst (λ l. TookPiece l true a c before middle) (take-append-drop at piece) (took_both (take at piece) (drop at piece) true a b c before middle middle first second)

-- what is held of a line with these characters
abbrev pub Room : Capture → List ℕ → Type 0
Room capture characters = load capture + 5 * length characters < 2 ^ 61

abbrev pub holding : (capture : Capture) (characters : List ℕ) → Room capture characters → Capture
holding capture characters room =
    let whole = capture.line.items ++ kept characters in
    record capture {
      line = record capture.line {
        items = whole;
        len = length whole;
        cap = length whole;
        ok = (refl, omega arith);
        small = omega (arith, room, length-append capture.line.items (kept characters), length-kept characters);
      };
    }

pub held_by : (characters : List ℕ) (old : Capture) (room : Room old characters) (now : Option (List ℕ)) → IsLine characters → (old.form ≡ Raw → ⊥)
    → IsSettled old.framer → TookPiece characters true old (holding old characters room) now now
held_by characters old room now whole lines settled = held_part characters old (holding old characters room) now whole lines settled refl refl refl refl refl

-- a line that ends after these characters, as one that held them
pub took_ended : (characters : List ℕ) (good : Bool) (old new : Capture) (room : Room old characters) (before after : Option (List ℕ)) → IsLine characters
    → (old.form ≡ Raw → ⊥) → IsSettled old.framer → TookPiece (line_feed ∷ []) good (holding old characters room) new before after
    → TookPiece (characters ++ line_feed ∷ []) good old new before after
took_ended characters good old new room before after whole lines settled t =
    took_both characters (line_feed ∷ []) good old (holding old characters room) new before before after (held_by characters old room before whole lines settled) t
