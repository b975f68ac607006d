-- What was heard line by line is what the monitor prints of the whole text, in one piece.
use Rattle.osdp_tool_inputs.proofs.Common.{◌≡◌, ℕ, ◌+◌, Bool, true, false, cond, inl, inr, is_some, List, [], ◌∷◌, ◌++◌, length, map, Option, Some, None, Ok, Err, refl, sym, subst, ap, ◌∙◌, arith, append_assoc, append-nil, string_bytes, cond-true, option_map_or, Stream, ended_lines, last_line, lines_of, unended_line, kept, said, NoMemory, NotHex, WriteFailed, bad_line-append, bad_line-stays, good_front-stays, CameIn, Hearing, LineEvent, RunEnds, TableDue, after_events, events_report, nothing_yet, is_wrong, listening_of, table, MonitorMode, OpenLine, after_events-append, events_report-append, EndsHeard, InMemory, Retells, HasEnded, HeardLines, answer_by, ears_answer, echoes_in, heard_part, left_of, printed_by, Ears, Wrote, ToolFault, Tells, Clock}
use Rattle.osdp_tool_streams.specs.Runs.{bad_line, good_front}
use Rattle.osdp_tool_monitor.specs.Events.{Broken, End, Piece, after_pieces, are_good, bad_at_end, bad_in, byte_events, bytes_events, end_events, input_events, is_due, lines_in, nothing_cut, pieces_events, run_events, table_events}
use Rattle.osdp_tool_monitor.specs.InTurn.{after_all, report_of_all}
use Rattle.osdp_tool_monitor.proofs.Sessions.{kept_again}
use Rattle.osdp_tool_inputs.proofs.Retelling.{retells_all, retells_part}
use Rattle.osdp_tool_inputs.proofs.Echoing.{heard_lines}
use Rattle.osdp_tool_inputs.proofs.OneByOne.{heard_empty, heard_nothing, runs_more}

-- the last line is one of its own, also where nothing stands in it
with_last : (mode : MonitorMode) (lines : List (List ℕ)) (rest : List ℕ) (l : OpenLine) (text : List ℕ) (bad : Option ℕ)
    → HeardLines mode (lines ++ last_line rest) l text bad → HeardLines mode (lines ++ rest ∷ []) l text bad
with_last mode lines (b ∷ rest) l text bad h = h
with_last mode lines [] l text None h =
    heard_empty mode lines [] [] l text None (subst (λ k. HeardLines mode k l text None) (append-nil lines) h) refl refl refl
with_last mode lines [] l text (Some number) h =
    heard_nothing mode lines [] l l text text (Some number) (subst (λ k. HeardLines mode k l text (Some number)) (append-nil lines) h) number refl

no_table : (every : Option ℕ) → is_due every None 0 ≡ false
no_table None = refl
no_table (Some every) = refl

tables_none : (bad due : Bool) → due ≡ false → cond bad [] (table_events due) ≡ []
tables_none true due is = refl
tables_none false due is = ap table_events is

-- the characters of a line that count say what the line says
events_kept : (line : List ℕ) → run_events (kept line ∷ []) ≡ run_events (line ∷ [])
unfolding good_front
events_kept line = ap (λ o. map RunEnds (option_map_or (λ bytes. bytes ∷ []) o [])) (ap said (kept_again line))

bad_kept : (number : ℕ) (line : List ℕ) → bad_line number (kept line ∷ []) ≡ bad_line number (line ∷ [])
unfolding bad_line
bad_kept number line = ap (λ o. option_map_or (λ bytes. None) o (Some number)) (ap said (kept_again line))

same_some : (a b : ℕ) (o : Option ℕ) → o ≡ Some a → o ≡ Some b → a ≡ b
same_some a b o e f = cc

none_some : (a : ℕ) (o : Option ℕ) → o ≡ None → o ≡ Some a → ⊥
none_some a o e f = cc

module _ (mode : MonitorMode) (text : List ℕ) (hex : mode.hex ≡ true) where
  abbrev whole : Piece
  whole = record { bytes = text; moment = 0 }

  abbrev lines : List (List ℕ)
  lines = ended_lines text

  abbrev rest : List ℕ
  rest = unended_line text

  piece_is : pieces_events mode nothing_cut (whole ∷ []) ≡ run_events lines
  unfolding pieces_events
  piece_is =
      append-nil _
      ∙ ap (λ e. bytes_events mode nothing_cut whole ++ e) (tables_none (is_some (bad_in mode.hex nothing_cut whole)) (is_due mode.every None 0) (no_table mode.every))
      ∙ append-nil (bytes_events mode nothing_cut whole) ∙ cond-true mode.hex (run_events lines) (byte_events mode.recorded mode.gap None whole) hex

  bad_in_is : bad_in mode.hex nothing_cut whole ≡ bad_line 1 lines
  bad_in_is = ap (λ b. bad_in b nothing_cut whole) hex

  cut_line : (after_pieces mode nothing_cut (whole ∷ [])).line ≡ kept rest
  unfolding after_pieces
  cut_line = ap (λ b. cond b (kept (unended_line text)) []) hex

  cut_ended : (after_pieces mode nothing_cut (whole ∷ [])).ended ≡ length lines
  unfolding after_pieces
  cut_ended = let same : length (lines_in mode.hex nothing_cut whole) ≡ length lines = ap (λ b. length (lines_in b nothing_cut whole)) hex in omega arith

  end_is : end_events mode.hex (after_pieces mode nothing_cut (whole ∷ [])) ≡ run_events (rest ∷ []) ++ TableDue ∷ []
  end_is =
      ap (λ b. end_events b (after_pieces mode nothing_cut (whole ∷ []))) hex
      ∙ ap (λ l. run_events (l ∷ []) ++ TableDue ∷ []) cut_line ∙ ap (λ e. e ++ TableDue ∷ []) (events_kept rest)

  bad_end_is : bad_at_end mode.hex (after_pieces mode nothing_cut (whole ∷ [])) ≡ bad_line (1 + length lines) (rest ∷ [])
  bad_end_is =
      ap (λ b. bad_at_end b (after_pieces mode nothing_cut (whole ∷ []))) hex
      ∙ ap (λ l. bad_line ((after_pieces mode nothing_cut (whole ∷ [])).ended + 1) (l ∷ [])) cut_line
      ∙ bad_kept ((after_pieces mode nothing_cut (whole ∷ [])).ended + 1) rest ∙ ap (λ n. bad_line n (rest ∷ [])) (omega (arith, cut_ended))

  module _ (l : OpenLine) (told shown : List ℕ) (bad : Option ℕ) (clock : Clock) (begins : clock.last ≡ 0) (heard : HeardLines mode (lines ++ rest ∷ []) l told bad)
      (table_is : shown ≡ told ++ table (listening_of l.listener)) where
    abbrev start : Hearing
    start = nothing_yet mode.standard

    abbrev events : List LineEvent
    events = run_events (lines ++ rest ∷ [])

    came : CameIn Tells clock clock (Some text) (Some []) (whole ∷ [])
    came = record {
      taken = sym (append-nil (text ++ []) ∙ append-nil text);
      moments = (clock, record { not_before = omega (arith, begins); last = begins }, refl);
    }

    report_is : (all : List LineEvent) → all ≡ events ++ TableDue ∷ [] → shown ≡ events_report mode.detail start all
    unfolding after_all report_of_all
    report_is all is =
        table_is ∙ ap (λ t. t ++ table (listening_of l.listener)) heard.told
        ∙ ap (λ (h : Hearing). events_report mode.detail start events ++ table h.heard) heard.heard
        ∙ ap (λ t. events_report mode.detail start events ++ t) (sym (append-nil (table (after_events start events).heard)))
        ∙ sym (events_report-append mode.detail start events (TableDue ∷ [])) ∙ sym (ap (events_report mode.detail start) is)

    good_so_far : bad_line 1 lines ≡ None → events ≡ run_events lines ++ run_events (rest ∷ [])
    good_so_far good = runs_more lines (rest ∷ []) good

    end_told : bad_line 1 lines ≡ None → input_events End mode (whole ∷ []) ≡ events ++ TableDue ∷ []
    end_told good =
        ap (λ e. e ++ end_events mode.hex (after_pieces mode nothing_cut (whole ∷ []))) piece_is ∙ ap (λ e. run_events lines ++ e) end_is
        ∙ sym (append_assoc (run_events lines) (run_events (rest ∷ [])) (TableDue ∷ [])) ∙ ap (λ e. e ++ TableDue ∷ []) (sym (good_so_far good))

    broken_told : (number : ℕ) → bad_line 1 lines ≡ Some number → input_events Broken mode (whole ∷ []) ≡ events ++ TableDue ∷ []
    broken_told number is =
        ap (λ e. e ++ TableDue ∷ []) (piece_is ∙ sym (ap (map RunEnds) (good_front-stays 1 number lines (rest ∷ []) is)))

    abbrev input : Stream
    input = record { before = Some text; after = Some []; failed = false }

    abbrev output : Stream
    output = record { before = Some []; after = Some shown; failed = false }

    all_good : bad_line 1 lines ≡ None → are_good mode nothing_cut (whole ∷ []) ≡ true
    unfolding are_good
    all_good good = ap (λ o. cond (is_some o) false true) (bad_in_is ∙ good)

    -- nobody's line is bad
    ends_good : bad ≡ None → EndsHeard mode (Ok (is_wrong (listening_of l.listener))) input output
    unfolding after_all
    ends_good none =
        let all : bad_line 1 (lines ++ rest ∷ []) ≡ None = sym heard.bad_is ∙ none in
        let good = good_before lines (rest ∷ []) (bad_line 1 lines) refl all in
        record {
          start = clock;
          end = clock;
          begins = begins;
          ends = (
            record { pieces = whole ∷ []; came = came; written = report_is (input_events End mode (whole ∷ [])) (end_told good) },
            all_good good,
            bad_end_is ∙ sym (bad_line-append 1 lines (rest ∷ []) good) ∙ all,
            sym (ap (λ e. is_wrong (after_events (nothing_yet mode.standard) e).heard) (end_told good)
                ∙ ap (λ (h : Hearing). is_wrong h.heard) (after_events-append (nothing_yet mode.standard) events (TableDue ∷ []))
                ∙ ap (λ (h : Hearing). is_wrong h.heard) (sym heard.heard)),
            refl,
            refl,
            refl,
          );
        }
      where
        good_before : (front back : List (List ℕ)) (o : Option ℕ) → bad_line 1 front ≡ o → bad_line 1 (front ++ back) ≡ None → bad_line 1 front ≡ None
        good_before front back None is all = is
        good_before front back (Some number) is all = absurd (none_some number _ all (bad_line-stays 1 number front back is))

    -- one is, above the last line feed or below it
    ends_at : (number : ℕ) (o : Option ℕ) → bad_line 1 lines ≡ o → bad_line 1 (lines ++ rest ∷ []) ≡ Some number → EndsHeard mode (Err (NotHex number)) input output
    unfolding after_pieces are_good
    ends_at number None good all = record {
      start = clock;
      end = clock;
      begins = begins;
      ends = (
        inl (record { pieces = whole ∷ []; came = came; written = report_is (input_events End mode (whole ∷ [])) (end_told good) }, all_good good, bad_end_is ∙ sym (bad_line-append 1 lines (rest ∷ []) good) ∙ all, refl),
        refl,
        refl,
      );
    }
    ends_at number (Some first) is all = record {
      start = clock;
      end = clock;
      begins = begins;
      ends = (
        inr (
          record { pieces = whole ∷ []; came = came; written = report_is (input_events Broken mode (whole ∷ [])) (broken_told first is) },
          [],
          whole,
          refl,
          refl,
          bad_in_is ∙ is ∙ ap Some (same_some first number _ (bad_line-stays 1 first lines (rest ∷ []) is) all),
        ),
        refl,
        refl,
      );
    }

    pub ends_heard : EndsHeard mode (answer_by bad (is_wrong (listening_of l.listener))) input output
    ends_heard = by bad refl
      where
        by : (o : Option ℕ) → bad ≡ o → EndsHeard mode (answer_by bad (is_wrong (listening_of l.listener))) input output
        by None is = subst (λ o. EndsHeard mode (answer_by o (is_wrong (listening_of l.listener))) input output) (sym is) (ends_good is)
        by (Some number) is =
            subst (λ o. EndsHeard mode (answer_by o (is_wrong (listening_of l.listener))) input output) (sym is)
            (ends_at number (bad_line 1 lines) refl (sym heard.bad_is ∙ is))

pub whole_heard : (mode : MonitorMode) (text : List ℕ) → mode.hex ≡ true → (l : OpenLine) (told shown : List ℕ) (bad : Option ℕ) (clock : Clock) → clock.last ≡ 0
    → HeardLines mode (lines_of text) l told bad → shown ≡ told ++ table (listening_of l.listener)
    → InMemory (EndsHeard mode) text shown (answer_by bad (is_wrong (listening_of l.listener)))
whole_heard mode text hex l told shown bad clock begins heard is = record {
  input = record { before = Some text; after = Some []; failed = false };
  memory = record { before = Some []; after = Some shown; failed = false };
  text_is = refl;
  empty = refl;
  shown_is = refl;
  done = ends_heard mode text hex l told shown bad clock begins (with_last mode (ended_lines text) (unended_line text) l told bad heard) is;
}

never_write : (bad : Option ℕ) (wrong : Bool) → answer_by bad wrong ≡ Err WriteFailed → ⊥
never_write None wrong e = absurd cc
never_write (Some number) wrong e = absurd cc

never_memory : (bad : Option ℕ) (wrong : Bool) → answer_by bad wrong ≡ Err NoMemory → ⊥
never_memory None wrong e = absurd cc
never_memory (Some number) wrong e = absurd cc

-- what was heard of a text without its echoes is what the monitor prints of that part
module _ (mode : MonitorMode) (text : List ℕ) (hex : mode.hex ≡ true) (e : Ears) (heard : HasEnded mode (left_of text) e) (clock : Clock) (begins : clock.last ≡ 0)
    (shown printed : List ℕ) (shown_is : shown ≡ string_bytes e.shown) (is : printed ≡ printed_by mode.json mode.clock (echoes_in text) (heard_part text) shown) (output : Stream) where
  in_memory : InMemory (EndsHeard mode) (heard_part text) shown (ears_answer e)
  in_memory =
      whole_heard mode (heard_part text) hex e.line heard.0 shown e.bad clock begins
      (subst (λ l. HeardLines mode l e.line heard.0 e.bad) (sym (heard_lines text)) heard.1) (shown_is ∙ heard.2)

  pub retells_lines : Wrote printed output.before output.after output.failed (Ok tt)
      → Retells (EndsHeard mode) (printed_by mode.json mode.clock (echoes_in text) (heard_part text)) (heard_part text) output (ears_answer e)
  retells_lines wrote =
      retells_all (EndsHeard mode) (printed_by mode.json mode.clock (echoes_in text) (heard_part text)) (heard_part text) output shown (ears_answer e) in_memory
      (subst (λ p. Wrote p output.before output.after output.failed (Ok tt)) is wrote)
      (never_write e.bad (is_wrong (listening_of e.line.listener))) (never_memory e.bad (is_wrong (listening_of e.line.listener)))

  pub retells_some : (fault : ToolFault) → Wrote printed output.before output.after output.failed (Err fault)
      → Retells (EndsHeard mode) (printed_by mode.json mode.clock (echoes_in text) (heard_part text)) (heard_part text) output (Err fault)
  retells_some fault wrote =
      retells_part (EndsHeard mode) (printed_by mode.json mode.clock (echoes_in text) (heard_part text)) (heard_part text) output shown (ears_answer e) fault in_memory
      (subst (λ p. Wrote p output.before output.after output.failed (Err fault)) is wrote)
