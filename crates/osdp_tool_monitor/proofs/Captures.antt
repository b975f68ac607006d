-- A capture that is read piece by piece.
use Rattle.osdp_tool_monitor.proofs.Common.{take-length, ◌≡◌, ℕ, ◌+◌, ◌<◌, ◌≤◌, ◌^◌, Bool, true, false, cond, is_some, List, [], ◌∷◌, ◌++◌, length, map, take, Option, Some, None, Result, Ok, Err, inl, inr, refl, sym, subst, ap, ◌∙◌, arith, append_assoc, append-nil, length-append, map-append, flat_map-append, option_map_or, Consumes, IsAtEnd, kept, ToolFault, NotHex, TooLong, ReadFailed, WriteFailed, NoMemory, ended_after-append, unended_after-append, bad_line-append, bad_line-stays, good_front-append, good_front-stays, Ends, IsBadAt, IsTold, IsToldInPart, IsTooLong, OnlyLastIsBad, input_report, LineEvent, RunEnds, TableDue, after_events, events_report, nothing_yet, is_wrong, MonitorMode, IsToldSoFar, TellsCaptures, TellsFailures, TellsInTurn, capture_answer, capture_events, capture_lines, capture_report, last_events_of}
use Rattle.osdp_tool_streams.specs.Cut.{ended_after, ended_lines, unended_after, unended_line}
use Rattle.osdp_tool_streams.specs.Runs.{bad_line, good_front}
use Rattle.osdp_tool_monitor.specs.Events.{Broken, Cut, End, Following, More, Piece, after_piece, after_pieces, are_good, bad_at_end, bad_in, bytes_of, byte_events, input_events, is_due, last_events, lines_in, nothing_cut, piece_events, pieces_events, run_events, table_events}
use Rattle.osdp_tool_monitor.proofs.Pieces.{after_pieces-more, last_bad, none_bad, pieces_events-more}
use Rattle.osdp_tool_monitor.proofs.Sessions.{kept_again}
use Rattle.osdp_tool_monitor.proofs.Alike.{AreAlike, alike_after, bad_alike, good_alike, length_alike}

bytes_of-more : (pieces : List Piece) (piece : Piece) → bytes_of (pieces ++ piece ∷ []) ≡ bytes_of pieces ++ piece.bytes
bytes_of-more pieces piece =
    flat_map-append (λ (p : Piece). p.bytes) pieces (piece ∷ []) ∙ ap (λ l. bytes_of pieces ++ l) (append-nil piece.bytes)

run_events-append : (lines more : List (List ℕ)) → bad_line 1 lines ≡ None → run_events (lines ++ more) ≡ run_events lines ++ run_events more
run_events-append lines more good = ap (map RunEnds) (good_front-append 1 lines more good) ∙ map-append RunEnds (good_front lines) (good_front more)

-- a piece in which no bad line ends
good_head : (o : Option ℕ) (rest : Bool) → cond (is_some o) false rest ≡ true → (o ≡ None) × (rest ≡ true)
good_head None rest h = (refl, h)
good_head (Some n) rest h = cc

-- ---- failures that are told

no_fault : false ≡ true → ⊥
no_fault e = cc

none_failed : (result : Result Bool ToolFault) (input_failed failed : Bool) → input_failed ≡ false → failed ≡ false → (result ≡ Err ReadFailed → ⊥)
    → (result ≡ Err WriteFailed → ⊥) → TellsFailures input_failed failed result
none_failed result input_failed failed well well_too no_read no_write = record {
  read = λ is. absurd (no_fault (sym well ∙ is));
  write = λ is. absurd (no_fault (sym well_too ∙ is));
  read_told = λ is. absurd (no_read is);
  write_told = λ is. absurd (no_write is);
}

read_failed : (input_failed failed : Bool) → input_failed ≡ true → TellsFailures input_failed failed (Err ReadFailed)
read_failed input_failed failed ill = record { read = λ is. inl refl; write = λ is. inr refl; read_told = λ is. ill; write_told = λ is. cc is }

-- ---- pieces of a capture

module _ (mode : MonitorMode) (hex : mode.hex ≡ true) (every : mode.every ≡ None) where
  abbrev cut : List Piece → Cut
  cut pieces = after_pieces mode nothing_cut pieces

  -- the lines that end in these pieces are good and were told, and what counts of the next is held
  record LinesTold (pieces : List Piece) : Type 0 where
    good : bad_line 1 (ended_lines (bytes_of pieces)) ≡ None
    events : pieces_events mode nothing_cut pieces ≡ run_events (ended_lines (bytes_of pieces))
    line : (cut pieces).line ≡ kept (unended_line (bytes_of pieces))
    ended : (cut pieces).ended ≡ length (ended_lines (bytes_of pieces))

  none_told : LinesTold []
  unfolding after_pieces pieces_events ended_after unended_after good_front bad_line
  none_told = record { good = refl; events = refl; line = refl; ended = refl }

  -- the lines that end in a piece, and those that end in it after what was read
  module _ (done : List Piece) (told : LinesTold done) (piece : Piece) where
    new_lines : List (List ℕ)
    new_lines = ended_after (unended_line (bytes_of done)) piece.bytes

    alike : AreAlike (ended_after (cut done).line piece.bytes) new_lines × (kept (unended_after (cut done).line piece.bytes) ≡ kept (unended_after (unended_line (bytes_of done)) piece.bytes))
    unfolding new_lines
    alike = alike_after (cut done).line (unended_line (bytes_of done)) piece.bytes (ap kept told.line ∙ kept_again (unended_line (bytes_of done)))

    lines_are : ended_lines (bytes_of (done ++ piece ∷ [])) ≡ ended_lines (bytes_of done) ++ new_lines
    unfolding new_lines
    lines_are = ap ended_lines (bytes_of-more done piece) ∙ ended_after-append [] (bytes_of done) piece.bytes

    bad_is : bad_in mode.hex (cut done) piece ≡ bad_line 1 (ended_lines (bytes_of (done ++ piece ∷ [])))
    bad_is =
        ap (λ t. bad_in t (cut done) piece) hex
        ∙ ap (λ n. bad_line n (ended_after (cut done).line piece.bytes)) (let e = told.ended in let n : (cut done).ended + 1 ≡ 1 + length (ended_lines (bytes_of done)) = omega (arith, e) in n)
        ∙ bad_alike (1 + length (ended_lines (bytes_of done))) (ended_after (cut done).line piece.bytes) new_lines alike.0
        ∙ sym (bad_line-append 1 (ended_lines (bytes_of done)) new_lines told.good)
        ∙ sym (ap (bad_line 1) lines_are)

    table_none : (o : Option ℕ) → cond (is_some o) [] (table_events (is_due mode.every (cut done).tabled piece.moment)) ≡ []
    table_none (Some n) = refl
    table_none None = ap (λ e. table_events (is_due e (cut done).tabled piece.moment)) every

    piece_is : piece_events mode (cut done) piece ≡ run_events new_lines
    piece_is =
        ap (λ t. cond t (run_events (ended_after (cut done).line piece.bytes)) (byte_events mode.recorded mode.gap (cut done).last piece)
        ++ cond (is_some (bad_in mode.hex (cut done) piece)) [] (table_events (is_due mode.every (cut done).tabled piece.moment))) hex
        ∙ ap (λ l. run_events (ended_after (cut done).line piece.bytes) ++ l) (table_none (bad_in mode.hex (cut done) piece))
        ∙ append-nil (run_events (ended_after (cut done).line piece.bytes))
        ∙ ap (map RunEnds) (good_alike (ended_after (cut done).line piece.bytes) new_lines alike.0)

    events_are : pieces_events mode nothing_cut (done ++ piece ∷ []) ≡ run_events (ended_lines (bytes_of (done ++ piece ∷ [])))
    events_are =
        pieces_events-more mode nothing_cut done piece
        ∙ ap (λ l. l ++ piece_events mode (cut done) piece) told.events
        ∙ ap (λ l. run_events (ended_lines (bytes_of done)) ++ l) piece_is
        ∙ sym (run_events-append (ended_lines (bytes_of done)) new_lines told.good)
        ∙ sym (ap run_events lines_are)

    line_is : (cut (done ++ piece ∷ [])).line ≡ kept (unended_line (bytes_of (done ++ piece ∷ [])))
    line_is =
        ap (λ (c : Cut). c.line) (after_pieces-more mode nothing_cut done piece)
        ∙ ap (λ t. cond t (kept (unended_after (cut done).line piece.bytes)) (cut done).line) hex
        ∙ alike.1
        ∙ ap kept (sym (ap unended_line (bytes_of-more done piece) ∙ unended_after-append [] (bytes_of done) piece.bytes))

    one_more : bad_in mode.hex (cut done) piece ≡ None → LinesTold (done ++ piece ∷ [])
    unfolding new_lines
    one_more none = record {
      good = sym bad_is ∙ none;
      events = events_are;
      line = line_is;
      ended = ap (λ (c : Cut). c.ended) (after_pieces-more mode nothing_cut done piece)
          ∙ ended_is;
    }
      where
        ended_is : (after_piece mode (cut done) piece).ended ≡ length (ended_lines (bytes_of (done ++ piece ∷ [])))
        ended_is =
            let counted = told.ended in
            let same = length_alike (ended_after (cut done).line piece.bytes) new_lines alike.0 in
            let all = ap length lines_are ∙ length-append (ended_lines (bytes_of done)) new_lines in
            ap (λ t. (cut done).ended + length (lines_in t (cut done) piece)) hex ∙ omega (arith, counted, same, all)

  -- pieces in which no bad line ends
  good_pieces : (done rest : List Piece) → LinesTold done → are_good mode (cut done) rest ≡ true → LinesTold (done ++ rest)
  unfolding are_good
  good_pieces done [] told good = subst LinesTold (sym (append-nil done)) told
  good_pieces done (piece ∷ rest) told good =
      let h = good_head (bad_in mode.hex (cut done) piece) (are_good mode (after_piece mode (cut done) piece) rest) good in
      subst LinesTold (append_assoc done (piece ∷ []) rest)
      (good_pieces (done ++ piece ∷ []) rest (one_more done told piece h.0)
      (ap (λ c. are_good mode c rest) (after_pieces-more mode nothing_cut done piece) ∙ h.1))

  all_good : (pieces : List Piece) → are_good mode nothing_cut pieces ≡ true → LinesTold pieces
  unfolding after_pieces
  all_good pieces good = good_pieces [] pieces none_told good

  -- ---- at the end

  module _ (pieces : List Piece) (told : LinesTold pieces) where
    last_alike : AreAlike ((cut pieces).line ∷ []) (unended_line (bytes_of pieces) ∷ [])
    last_alike = ap (λ k. k ∷ []) (ap kept told.line ∙ kept_again (unended_line (bytes_of pieces)))

    end_events_are : input_events End mode pieces ≡ capture_events (bytes_of pieces)
    end_events_are =
        let ended = ended_lines (bytes_of pieces) in
        let last = unended_line (bytes_of pieces) in
        ap (λ l. l ++ last_events End mode (cut pieces)) told.events
        ∙ ap (λ t. run_events ended ++ (cond t (run_events ((cut pieces).line ∷ [])) (RunEnds [] ∷ []) ++ TableDue ∷ [])) hex
        ∙ ap (λ front. run_events ended ++ (map RunEnds front ++ TableDue ∷ [])) (good_alike ((cut pieces).line ∷ []) (last ∷ []) last_alike)
        ∙ sym (append_assoc (run_events ended) (run_events (last ∷ [])) (TableDue ∷ []))
        ∙ ap (λ l. l ++ TableDue ∷ []) (sym (run_events-append ended (last ∷ []) told.good))

    bad_end_is : bad_at_end mode.hex (cut pieces) ≡ bad_line 1 (capture_lines (bytes_of pieces))
    bad_end_is =
        let ended = ended_lines (bytes_of pieces) in
        let last = unended_line (bytes_of pieces) in
        let counted = told.ended in
        let number : (cut pieces).ended + 1 ≡ 1 + length ended = omega (arith, counted) in
        ap (λ t. bad_at_end t (cut pieces)) hex
        ∙ ap (λ n. bad_line n ((cut pieces).line ∷ [])) number
        ∙ bad_alike (1 + length ended) ((cut pieces).line ∷ []) (last ∷ []) last_alike
        ∙ sym (bad_line-append 1 ended (last ∷ []) told.good)

  -- ---- after a bad line

  broken_events_are : (front : List Piece) (piece : Piece) (rest : List ℕ) (number : ℕ) → LinesTold front
      → bad_line 1 (ended_lines (bytes_of (front ++ piece ∷ []))) ≡ Some number
      → (input_events Broken mode (front ++ piece ∷ []) ≡ capture_events (bytes_of (front ++ piece ∷ []) ++ rest))
      × (bad_line 1 (capture_lines (bytes_of (front ++ piece ∷ []) ++ rest)) ≡ Some number)
  broken_events_are front piece rest number told bad =
      let read = bytes_of (front ++ piece ∷ []) in
      let last = unended_line (read ++ rest) ∷ [] in
      let more = ended_after (unended_line read) rest ++ last in
      let lines : capture_lines (read ++ rest) ≡ ended_lines read ++ more =
      ap (λ l. l ++ last) (ended_after-append [] read rest) ∙ append_assoc (ended_lines read) (ended_after (unended_line read) rest) last in (
        ap (λ l. l ++ TableDue ∷ []) (events_are front told piece)
            ∙ ap (λ good. map RunEnds good ++ TableDue ∷ []) (sym (good_front-stays 1 number (ended_lines read) more bad) ∙ sym (ap good_front lines)),
        ap (bad_line 1) lines ∙ bad_line-stays 1 number (ended_lines read) more bad,
      )

  -- ---- after any pieces, of which the last alone may have a bad line

  record SoFar (pieces : List Piece) : Type 0 where
    events : pieces_events mode nothing_cut pieces ≡ run_events (ended_lines (bytes_of pieces))
    line : (cut pieces).line ≡ kept (unended_line (bytes_of pieces))

  so_far_by : (front end : List Piece) → length end ≤ 1 → are_good mode nothing_cut front ≡ true → SoFar (front ++ end)
  so_far_by front [] one good =
      let told = all_good front good in
      subst SoFar (sym (append-nil front)) (record { events = told.events; line = told.line })
  so_far_by front (piece ∷ []) one good =
      let told = all_good front good in
      record { events = events_are front told piece; line = line_is front told piece }
  so_far_by front (piece ∷ other ∷ end) one good = absurd (omega (arith, one))

  so_far : (pieces : List Piece) → OnlyLastIsBad mode pieces → SoFar pieces
  so_far pieces bad = subst SoFar (sym bad.split) (so_far_by bad.front bad.end bad.one bad.good)

  all_events_are : (following : Following) (pieces : List Piece) → SoFar pieces
      → input_events following mode pieces ≡ run_events (ended_lines (bytes_of pieces)) ++ last_events_of following (bytes_of pieces)
  all_events_are More pieces told = ap (λ l. l ++ []) told.events
  all_events_are Broken pieces told = ap (λ l. l ++ TableDue ∷ []) told.events
  all_events_are End pieces told =
      let ended = ended_lines (bytes_of pieces) in
      let last = unended_line (bytes_of pieces) in
      ap (λ l. l ++ last_events End mode (cut pieces)) told.events
      ∙ ap (λ t. run_events ended ++ (cond t (run_events ((cut pieces).line ∷ [])) (RunEnds [] ∷ []) ++ TableDue ∷ [])) hex
      ∙ ap (λ front. run_events ended ++ (map RunEnds front ++ TableDue ∷ []))
      (good_alike ((cut pieces).line ∷ []) (last ∷ []) (ap (λ k. k ∷ []) (ap kept told.line ∙ kept_again last)))

  -- ---- by the answer

  module _ (start now : List ℕ) where
    -- what is told of these bytes, and the answer
    record TellsIt (bytes : List ℕ) (result : Result Bool ToolFault) : Type 0 where
      written : now ≡ start ++ capture_report mode bytes
      answer : result ≡ capture_answer mode bytes

    report_of : List LineEvent → List ℕ
    report_of events = events_report mode.detail (nothing_yet mode.standard) events

    wrong_of : List LineEvent → Bool
    wrong_of events = is_wrong (after_events (nothing_yet mode.standard) events).heard

    good_told : (bytes : List ℕ) (events : List LineEvent) (wrong : Bool) → events ≡ capture_events bytes → bad_line 1 (capture_lines bytes) ≡ None
        → now ≡ start ++ report_of events → wrong ≡ wrong_of events → TellsIt bytes (Ok wrong)
    unfolding report_of wrong_of
    good_told bytes events wrong same none written is = record {
      written = written ∙ ap (λ e. start ++ report_of e) same;
      answer = ap Ok (is ∙ ap wrong_of same) ∙ sym (ap (λ o. option_map_or (λ number. Err (NotHex number)) o (Ok (wrong_of (capture_events bytes)))) none);
    }

    bad_told : (bytes : List ℕ) (events : List LineEvent) (number : ℕ) → events ≡ capture_events bytes → bad_line 1 (capture_lines bytes) ≡ Some number
        → now ≡ start ++ report_of events → TellsIt bytes (Err (NotHex number))
    unfolding report_of wrong_of
    bad_told bytes events number same some written = record {
      written = written ∙ ap (λ e. start ++ report_of e) same;
      answer = sym (ap (λ o. option_map_or (λ n. Err (NotHex n)) o (Ok (wrong_of (capture_events bytes)))) some);
    }

    module _ {M : Type 0} (tells : M → ℕ → M → Type 0) (clock_before clock_after : M) (bytes : List ℕ) (input_after : Option (List ℕ)) where
      abbrev ToldBy : Following → Type 0
      ToldBy following = IsTold tells mode clock_before clock_after (Some bytes) input_after (Some start) (Some now) following

      all_read : (read : List ℕ) → Consumes (Some bytes) input_after read → IsAtEnd input_after → read ≡ bytes
      all_read read taken end = go input_after taken end
        where
          go : (after : Option (List ℕ)) → Consumes (Some bytes) after read → IsAtEnd after → read ≡ bytes
          go None taken end = absurd taken
          go (Some rest) taken end = sym (taken ∙ ap (λ l. read ++ l) end ∙ append-nil read)

      front_read : (read : List ℕ) → Consumes (Some bytes) input_after read → (rest : List ℕ) × (bytes ≡ read ++ rest)
      front_read read taken = go input_after taken
        where
          go : (after : Option (List ℕ)) → Consumes (Some bytes) after read → (rest : List ℕ) × (bytes ≡ read ++ rest)
          go None taken = absurd taken
          go (Some rest) taken = (rest, taken)

      well : (wrong : Bool) → Ends tells mode clock_before clock_after (Some bytes) input_after false (Some start) (Some now) false (Ok wrong) → TellsIt bytes (Ok wrong)
      unfolding report_of wrong_of
      well wrong e =
          let all = e.0 in
          let told = all_good all.pieces e.1 in
          subst (λ b. TellsIt b (Ok wrong)) (all_read (bytes_of all.pieces) all.came.taken e.4)
          (good_told (bytes_of all.pieces) (input_events End mode all.pieces) wrong (end_events_are all.pieces told) (sym (bad_end_is all.pieces told) ∙ e.2) all.written e.3)

      bad_end : (number : ℕ) (all : ToldBy End) → are_good mode nothing_cut all.pieces ≡ true → bad_at_end mode.hex (cut all.pieces) ≡ Some number → IsAtEnd input_after
          → TellsIt bytes (Err (NotHex number))
      unfolding report_of
      bad_end number all good bad end =
          let told = all_good all.pieces good in
          subst (λ b. TellsIt b (Err (NotHex number))) (all_read (bytes_of all.pieces) all.came.taken end)
          (bad_told (bytes_of all.pieces) (input_events End mode all.pieces) number (end_events_are all.pieces told) (sym (bad_end_is all.pieces told) ∙ bad) all.written)

      bad_piece : (number : ℕ) (all : ToldBy Broken) (front : List Piece) (piece : Piece) → all.pieces ≡ front ++ piece ∷ [] → are_good mode nothing_cut front ≡ true
          → bad_in mode.hex (cut front) piece ≡ Some number → TellsIt bytes (Err (NotHex number))
      unfolding report_of
      bad_piece number all front piece split good bad =
          let told = all_good front good in
          let read = front_read (bytes_of all.pieces) all.came.taken in
          let whole : bytes ≡ bytes_of (front ++ piece ∷ []) ++ read.0 = read.1 ∙ ap (λ p. bytes_of p ++ read.0) split in
          let events = broken_events_are front piece read.0 number told (sym (bad_is front told piece) ∙ bad) in
          subst (λ b. TellsIt b (Err (NotHex number))) (sym whole)
          (bad_told (bytes_of (front ++ piece ∷ []) ++ read.0) (input_events Broken mode all.pieces) number (ap (input_events Broken mode) split ∙ events.0) events.1 all.written)

      bad_line_told : (number : ℕ) → IsBadAt tells mode clock_before clock_after (Some bytes) input_after (Some start) (Some now) number → TellsIt bytes (Err (NotHex number))
      bad_line_told number (inl (all, good, bad, end)) = bad_end number all good bad end
      bad_line_told number (inr (all, front, piece, split, good, bad)) = bad_piece number all front piece split good bad

      too_long : IsTooLong tells mode clock_before clock_after (Some bytes) input_after (Some start) (Some now) → length bytes < 2 ^ 57 → ⊥
      too_long long short =
          let read = bytes_of (long.part.earlier ++ long.part.later) in
          let front = front_read read long.part.came.taken in
          let least = long.long in
          omega (arith, least, short, ap length front.1, length-append read front.0)

      told_by : (result : Result Bool ToolFault) → length bytes < 2 ^ 57 → (result ≡ Err NoMemory → ⊥)
          → Ends tells mode clock_before clock_after (Some bytes) input_after false (Some start) (Some now) false result → TellsIt bytes result
      told_by (Ok wrong) short memory e = well wrong e
      told_by (Err (NotHex number)) short memory e = bad_line_told number e.0
      told_by (Err TooLong) short memory e = absurd (too_long e.0 short)
      told_by (Err ReadFailed) short memory e = let told = e.1 in cc
      told_by (Err WriteFailed) short memory e = let told = e.2 in cc
      told_by (Err NoMemory) short memory e = absurd (memory refl)
      told_by (Err fault) short memory e = absurd e

    -- ---- however it ends

    module _ {M : Type 0} (tells : M → ℕ → M → Type 0) (clock_before clock_after : M) (bytes : List ℕ) (input_after : Option (List ℕ)) where
      abbrev SoFarTold : Type 0
      SoFarTold = IsToldSoFar mode bytes input_after start now

      rest_of : (read : List ℕ) (after : Option (List ℕ)) → Consumes (Some bytes) after read → (rest : List ℕ) × (after ≡ Some rest) × (bytes ≡ read ++ rest)
      rest_of read None taken = absurd taken
      rest_of read (Some rest) taken = (rest, refl, taken)

      told_so_far : (pieces : List Piece) (following : Following) (count : ℕ) → Consumes (Some bytes) input_after (bytes_of pieces) → OnlyLastIsBad mode pieces
          → now ≡ start ++ take count (input_report following mode pieces) → SoFarTold
      told_so_far pieces following count taken bad written =
          let r = rest_of (bytes_of pieces) input_after taken in
          record {
            read = bytes_of pieces;
            rest = r.0;
            whole = r.2;
            left = r.1;
            following = following;
            count = count;
            written = written ∙ ap (λ e. start ++ take count (events_report mode.detail (nothing_yet mode.standard) e)) (all_events_are following pieces (so_far pieces bad));
          }

      all_so_far : (pieces : List Piece) (following : Following) → Consumes (Some bytes) input_after (bytes_of pieces) → OnlyLastIsBad mode pieces
          → now ≡ start ++ input_report following mode pieces → SoFarTold
      all_so_far pieces following taken bad written =
          let report = input_report following mode pieces in
          told_so_far pieces following (length report) taken bad (written ∙ ap (λ l. start ++ l) (sym (take-length report)))

      part_so_far : IsToldInPart tells mode clock_before clock_after (Some bytes) input_after (Some start) (Some now) → SoFarTold
      part_so_far part = told_so_far (part.earlier ++ part.later) part.following part.count part.came.taken part.bad part.written

      bad_so_far : (number : ℕ) → IsBadAt tells mode clock_before clock_after (Some bytes) input_after (Some start) (Some now) number → SoFarTold
      bad_so_far number (inl (all, good, bad, end)) = all_so_far all.pieces End all.came.taken (none_bad mode all.pieces good) all.written
      bad_so_far number (inr (all, front, piece, split, good, bad)) =
          all_so_far all.pieces Broken all.came.taken (subst (OnlyLastIsBad mode) (sym split) (last_bad mode front piece good)) all.written

      in_turn : (input_failed failed : Bool) (result : Result Bool ToolFault)
          → Ends tells mode clock_before clock_after (Some bytes) input_after input_failed (Some start) (Some now) failed result
          → SoFarTold × TellsFailures input_failed failed result
      in_turn input_failed failed (Ok wrong) e =
          (all_so_far e.0.pieces End e.0.came.taken (none_bad mode e.0.pieces e.1) e.0.written, none_failed (Ok wrong) input_failed failed e.5 e.6 (λ is. cc is) (λ is. cc is))
      in_turn input_failed failed (Err (NotHex number)) e =
          (bad_so_far number e.0, none_failed (Err (NotHex number)) input_failed failed e.1 e.2 (λ is. cc is) (λ is. cc is))
      in_turn input_failed failed (Err ReadFailed) (inl all, ill) =
          (all_so_far all.0.pieces Broken all.0.came.taken (none_bad mode all.0.pieces all.1) all.0.written, read_failed input_failed failed ill)
      in_turn input_failed failed (Err ReadFailed) (inr part, ill) = (part_so_far part.0, read_failed input_failed failed ill)
      in_turn input_failed failed (Err TooLong) e = (
        part_so_far e.0.part,
        record {
          read = λ is. inr (inr refl);
          write = λ is. absurd (no_fault (sym e.1 ∙ is));
          read_told = λ is. cc is;
          write_told = λ is. cc is;
        },
      )
      in_turn input_failed failed (Err NoMemory) e = (
        part_so_far e.0,
        record {
          read = λ is. inr (inl refl);
          write = λ is. absurd (no_fault (sym e.1 ∙ is));
          read_told = λ is. cc is;
          write_told = λ is. cc is;
        },
      )
      in_turn input_failed failed (Err WriteFailed) e = (
        part_so_far e.0,
        record {
          read = λ is. absurd (no_fault (sym e.1 ∙ is));
          write = λ is. inl refl;
          read_told = λ is. cc is;
          write_told = λ is. (e.1, e.2);
        },
      )
      in_turn input_failed failed (Err fault) e = absurd e

pub tells_in_turn : {M : Type 0} (tells : M → ℕ → M → Type 0) → TellsInTurn tells
tells_in_turn tells mode clock_before clock_after bytes start now input_after input_failed failed result hex every e =
    in_turn mode hex every start now tells clock_before clock_after bytes input_after input_failed failed result e

pub tells_captures : {M : Type 0} (tells : M → ℕ → M → Type 0) → TellsCaptures tells
tells_captures tells mode clock_before clock_after bytes start now input_after result hex every short memory e =
    let told = told_by mode hex every start now tells clock_before clock_after bytes input_after result short memory e in
    (told.written, told.answer)
