-- A capture that is read to its end.
use Rattle.osdp_tool_show.proofs.Common.{◌≡◌, ℕ, ◌+◌, ◌-◌, ◌≤◌, Bool, true, false, List, [], ◌∷◌, ◌++◌, length, take, drop, take-append-drop, Option, Some, None, Result, Ok, Err, ◌⊎◌, inl, inr, refl, sym, subst, ap, ◌∙◌, arith, append_assoc, append-nil, length-append, length-take, IsErrAnd, if◌then◌else◌, Appends, Consumes, IsAtEnd, Keeps, Consumes-kept, Consumes-nil, Consumes-trans, Appends-nil, Appends-trans, Appends-kept, Held, decided_nothing, items_undecided, Form, Raw, Joined, Apart, line_feed, unended_line, line_bytes, ended_runs, open_run, runs_of, first_bad, first_bad_ended, closed_runs, feed_joined, feed_apart, feed_bad, end_joined, end_apart, end_bad, bad_stays, Detail, no_tally, tally_after_all, shown_lines, after_runs, runs_lines, end_line, tally_so_far, lines_so_far, Capture, Report, ToolFault, NotHex, WriteFailed, NoMemory, IsStep, EndedRun, Stands, IsBeginning, StopsWithin, shown, shown_so_far, streamed, EndsAtBadLine, EndsAtFailedRead, EndsPartWay, EndsPastLimit, HasShown, HasShownIf, TookPiece, TookPart, StopsInPiece, Works, Answered, Closed, EndedInput, EndsLine, ReadToEnd, ReadToBadLine, ReadToLimit, ReadPart, StopsAtEnd, StopsClosing}
use Rattle.osdp_tool_show.proofs.Lines.{tally_after_all-nil, shown_lines-nil}
use Rattle.osdp_tool_streams.specs.Reading.{ReadsBytes}
use Rattle.osdp_tool_show.proofs.Beginnings.{begun_all, stops_by}
use Rattle.osdp_tool_show.proofs.Pieces.{took_both, nothing_bad, told_nothing}

-- ---- reading

-- the bytes read so far, within the limit
pub record HasRead (limit left : ℕ) (old new : Capture) (input_before input_after before after : Option (List ℕ)) : Type 0 where
  pub read : List ℕ
  pub taken : Consumes input_before input_after read
  pub count : length read + left ≡ limit
  pub took : TookPiece read true old new before after

-- a piece more
further : (limit left count : ℕ) (buffer : List ℕ) (old mid : Capture) (a b c : Option (List ℕ)) (x y : Option (List ℕ))
    → ReadsBytes left b c buffer count → (h : HasRead limit left old mid a b x y)
    → Consumes a c (h.read ++ take count buffer) × (length (h.read ++ take count buffer) + (left - count) ≡ limit) × (length (take count buffer) ≤ length buffer)
further limit left count buffer old mid a b c x y piece h = (
  Consumes-trans a b c h.read (take count buffer) h.taken piece.taken,
  omega (arith, h.count, piece.within, piece.room, length-append h.read (take count buffer), length-take count buffer),
  omega (arith, piece.room, length-take count buffer),
)

pub read_more : (limit left count : ℕ) (buffer : List ℕ) (old mid new : Capture) (a b c : Option (List ℕ)) (x y z : Option (List ℕ)) (good : Bool)
    → good ≡ true → ReadsBytes left b c buffer count → HasRead limit left old mid a b x y → TookPart (take count buffer) good mid new y z
    → HasRead limit (left - count) old new a c x z
read_more limit left count buffer old mid new a b c x y z good well piece h took =
    let more = further limit left count buffer old mid a b c x y piece h in
    let all = subst (λ b. TookPart (take count buffer) b mid new y z) well took in
    record { read = h.read ++ take count buffer; taken = more.0; count = more.1; took = took_both h.read (take count buffer) true old mid new x y z h.took all }

pub read_bad : (limit left count : ℕ) (buffer : List ℕ) (old mid new : Capture) (a b c : Option (List ℕ)) (x y z : Option (List ℕ)) (good : Bool)
    → good ≡ false → length buffer ≡ 65536 → ReadsBytes left b c buffer count → HasRead limit left old mid a b x y → TookPart (take count buffer) good mid new y z
    → ReadToBadLine limit old new a c x z
read_bad limit left count buffer old mid new a b c x y z good bad size piece h took =
    let more = further limit left count buffer old mid a b c x y piece h in
    let part = subst (λ b. TookPart (take count buffer) b mid new y z) bad took in
    record {
      read = record { earlier = h.read; piece = take count buffer; taken = more.0; within = omega (arith, more.1); one_piece = omega (arith, more.2) };
      most = part.0;
      mid = mid;
      middle = y;
      took_earlier = h.took;
      took = part.1;
    }

pub read_stops : (limit left count : ℕ) (buffer : List ℕ) (old mid : Capture) (a b c : Option (List ℕ)) (x y now : Option (List ℕ))
    → ReadsBytes left b c buffer count → HasRead limit left old mid a b x y → StopsInPiece (take count buffer) mid y now
    → ReadPart limit old a c x now
read_stops limit left count buffer old mid a b c x y now piece h stops =
    let more = further limit left count buffer old mid a b c x y piece h in
    record { read = h.read; piece = take count buffer; taken = more.0; within = omega (arith, more.1); mid = mid; middle = y; took = h.took; stops = stops }

pub read_past : (limit left byte : ℕ) (old new : Capture) (a b c : Option (List ℕ)) (x y : Option (List ℕ))
    → HasRead limit left old new a b x y → (left ≡ 0) × Consumes b c (byte ∷ []) → ReadToLimit limit old new a c x y
read_past limit left byte old new a b c x y h past =
    let was = h.count in
    let none = past.0 in
    record {
      read = record { within = h.read; byte = byte; taken = Consumes-trans a b c h.read (byte ∷ []) h.taken past.1; whole = omega arith };
      took = h.took;
    }

pub read_end : (limit left : ℕ) (old new : Capture) (a b c : Option (List ℕ)) (x y : Option (List ℕ))
    → HasRead limit left old new a b x y → Keeps b c × IsAtEnd c → ReadToEnd limit old new a c x y
read_end limit left old new a b c x y h ends =
    let was = h.count in
    record { read = h.read; taken = Consumes-kept a b c h.read h.taken ends.0; at_end = ends.1; within = omega arith; took = h.took }

-- ---- the end

pub lines_closed : (detail : Detail) (runs : List (List ℕ)) → lines_so_far detail runs [] ≡ runs_lines detail no_tally runs
lines_closed detail runs =
    ap (λ l. runs_lines detail no_tally runs ++ l) (ap (shown_lines detail (after_runs no_tally runs)) (items_undecided false [] (decided_nothing false)) ∙ shown_lines-nil detail (after_runs no_tally runs))
    ∙ append-nil (runs_lines detail no_tally runs)

pub tally_closed : (runs : List (List ℕ)) → tally_so_far runs [] ≡ after_runs no_tally runs
tally_closed runs = ap (tally_after_all (after_runs no_tally runs)) (items_undecided false [] (decided_nothing false)) ∙ tally_after_all-nil (after_runs no_tally runs)

pub closed_by : (old new : Capture) (next : Held) (mid : Report) (before middle written : Option (List ℕ))
    → EndedRun old.framer next old.report mid before middle → new.report.tally ≡ mid.tally → new.ended ≡ old.ended
    → Appends middle written (end_line mid.detail mid.tally) → Closed old new before written
closed_by old new next mid before middle written e tally ended w = record {
  text = λ detail start runs open_bytes s.
      let closed = closed_runs runs open_bytes in
      let at = e.stands detail start runs open_bytes s in
      let last : end_line mid.detail mid.tally ≡ end_line detail (after_runs no_tally closed) =
      ap (λ f. end_line f mid.tally) at.detail_is ∙ ap (end_line detail) (at.tally ∙ tally_closed closed) in
      Appends-trans start middle written (runs_lines detail no_tally closed) (end_line detail (after_runs no_tally closed))
      (subst (Appends start middle) (lines_closed detail closed) at.lines) (subst (Appends middle written) last w);
  tally = λ detail start runs open_bytes s.
      tally ∙ (e.stands detail start runs open_bytes s).tally ∙ tally_closed (closed_runs runs open_bytes);
  same = ended;
}

-- what a line feed ends, and what the end of the input does
abbrev pub EndsAsFed : Form → List ℕ → Type 0
EndsAsFed form read =
    (runs_of form read ≡ closed_runs (ended_runs form (read ++ line_feed ∷ [])) (open_run form (read ++ line_feed ∷ [])))
    × (first_bad form read ≡ first_bad_ended form (read ++ line_feed ∷ []))

pub fed_end : (form : Form) (read : List ℕ) → (form ≡ Joined) ⊎ (form ≡ Apart) → first_bad_ended form read ≡ None → EndsAsFed form read
fed_end form read is good = by_line form is good (line_bytes (unended_line read)) refl
  where
    by_line : (form : Form) → (form ≡ Joined) ⊎ (form ≡ Apart) → first_bad_ended form read ≡ None → (o : Option (List ℕ)) → line_bytes (unended_line read) ≡ o
        → EndsAsFed form read
    by_line form is good None says =
        let e = end_bad form read is good says in
        let f = feed_bad form read is good says in
        (e.1 ∙ sym (λ i. closed_runs (f.0 i) (f.1 i)), e.0 ∙ sym f.2)
    by_line Raw is good (Some bytes) says = elim is [ inl j ↦ cc | inr a ↦ cc ]
    by_line Joined is good (Some bytes) says =
        let e = end_joined read bytes good says in
        let f = feed_joined read bytes good says in
        (e.1 ∙ sym (ap (λ r. closed_runs [] r) f.0), e.0 ∙ sym f.1)
    by_line Apart is good (Some bytes) says =
        let e = end_apart read bytes good says in
        let f = feed_apart read bytes good says in
        (e.1 ∙ sym (append-nil (closed_runs (ended_runs Apart read) bytes)) ∙ sym (ap (λ r. closed_runs r []) f.0), e.0 ∙ sym f.1)

pub ends_line : (good : Bool) (old new : Capture) (before after : Option (List ℕ)) → (old.form ≡ Joined) ⊎ (old.form ≡ Apart)
    → TookPiece (line_feed ∷ []) good old new before after → EndsLine good old new before after
ends_line good old new before after is t = record {
  ends = λ detail form start read f. by_good good detail form start read (fed_end form read (subst (λ x. (x ≡ Joined) ⊎ (x ≡ Apart)) f.form_is is) f.good) (t.follows detail form start read f);
  settled = t.settled;
  load_is = t.load_is;
}
  where
    ended : (g : Bool) (detail : Detail) (form : Form) (start : Option (List ℕ)) (read : List ℕ) → EndsAsFed form read
        → first_bad_ended form (read ++ line_feed ∷ []) ≡ (if g then None else Some new.ended)
        → Stands detail start (ended_runs form (read ++ line_feed ∷ [])) (open_run form (read ++ line_feed ∷ [])) new.framer new.report after
        → EndedInput detail form start read g new after
    ended g detail form start read fed bad stands = record {
      ended = ended_runs form (read ++ line_feed ∷ []);
      open_bytes = open_run form (read ++ line_feed ∷ []);
      runs = fed.0;
      bad = fed.1 ∙ bad;
      stands = stands;
    }

    by_good : (g : Bool) (detail : Detail) (form : Form) (start : Option (List ℕ)) (read : List ℕ) → EndsAsFed form read
        → HasShownIf g detail form start (read ++ line_feed ∷ []) new after → EndedInput detail form start read g new after
    by_good true detail form start read fed f = ended true detail form start read fed f.good f.stands
    by_good false detail form start read fed f = ended false detail form start read fed f.bad f.stands

-- ---- the answers

-- a call stopped once the input had ended
part_at_end : (detail : Detail) (form : Form) (limit : ℕ) (start before middle written input_before input_after : Option (List ℕ)) (input_failed output_failed : Bool)
    (old mid : Capture) → ReadToEnd limit old mid input_before input_after before middle → StopsAtEnd mid middle written → HasShown detail form start [] old before
    → EndsPartWay detail form limit (streamed input_before input_after input_failed) (streamed start written output_failed)
part_at_end detail form limit start before middle written ib ia input_failed output_failed old mid r h f =
    let within = r.within in
    record {
      read = r.read;
      more = [];
      taken = subst (Consumes ib ia) (sym (append-nil r.read)) r.taken;
      within = subst (λ (l : List ℕ). length l ≤ limit + 1) (sym (append-nil r.read)) (omega arith);
      text = h detail form start r.read (r.took.follows detail form start [] f);
    }

-- .. within a piece
pub part_in_piece : (detail : Detail) (form : Form) (limit : ℕ) (start before written input_before input_after : Option (List ℕ)) (input_failed output_failed : Bool)
    (old : Capture) → ReadPart limit old input_before input_after before written → HasShown detail form start [] old before
    → EndsPartWay detail form limit (streamed input_before input_after input_failed) (streamed start written output_failed)
part_in_piece detail form limit start before written ib ia input_failed output_failed old r f =
    let g = r.stops detail form start r.read (r.took.follows detail form start [] f) in
    let regrouped : (r.read ++ g.0) ++ g.1 ≡ r.read ++ r.piece = append_assoc r.read g.0 g.1 ∙ ap (λ l. r.read ++ l) (sym g.2) in
    let within = r.within in
    record {
      read = r.read ++ g.0;
      more = g.1;
      taken = subst (Consumes ib ia) (sym regrouped) r.taken;
      within = subst (λ (l : List ℕ). length l ≤ limit + 1) (sym regrouped) (omega arith);
      text = inl g.3;
    }

-- what is known where a bad line ended the input
at_bad_line : (detail : Detail) (form : Form) (limit : ℕ) (start before middle input_before input_after : Option (List ℕ)) (old mid : Capture)
    → (r : ReadToBadLine limit old mid input_before input_after before middle) → HasShown detail form start [] old before
    → (first_bad_ended form r.read.earlier ≡ None)
    × Stands detail start (ended_runs form (r.read.earlier ++ take r.most r.read.piece)) (open_run form (r.read.earlier ++ take r.most r.read.piece)) mid.framer mid.report middle
    × ((first_bad form (r.read.earlier ++ r.read.piece) ≡ Some mid.ended) × (first_bad_ended form (r.read.earlier ++ r.read.piece) ≡ Some mid.ended)
    × (runs_of form (r.read.earlier ++ r.read.piece)
    ≡ closed_runs (ended_runs form (r.read.earlier ++ take r.most r.read.piece)) (open_run form (r.read.earlier ++ take r.most r.read.piece))))
at_bad_line detail form limit start before middle ib ia old mid r f =
    let earlier = r.took_earlier.follows detail form start [] f in
    let stops = r.took.follows detail form start r.read.earlier earlier in
    let fed = r.read.earlier ++ take r.most r.read.piece in
    let more = drop r.most r.read.piece in
    let whole : fed ++ more ≡ r.read.earlier ++ r.read.piece =
    append_assoc r.read.earlier (take r.most r.read.piece) more ∙ ap (λ l. r.read.earlier ++ l) (take-append-drop r.most r.read.piece) in (
      earlier.good,
      stops.stands,
      subst (λ l. (first_bad form l ≡ Some mid.ended) × (first_bad_ended form l ≡ Some mid.ended)
          × (runs_of form l ≡ closed_runs (ended_runs form fed) (open_run form fed))) whole (bad_stays form fed more mid.ended stops.bad),
    )

-- .. once a bad line had ended the input
pub part_at_bad_line : (detail : Detail) (form : Form) (limit : ℕ) (start before middle written input_before input_after : Option (List ℕ)) (input_failed output_failed : Bool)
    (old mid : Capture) → ReadToBadLine limit old mid input_before input_after before middle → StopsClosing mid middle written → HasShown detail form start [] old before
    → EndsPartWay detail form limit (streamed input_before input_after input_failed) (streamed start written output_failed)
part_at_bad_line detail form limit start before middle written ib ia input_failed output_failed old mid r h f =
    let here = at_bad_line detail form limit start before middle ib ia old mid r f in
    let within = r.read.within in
    record {
      read = r.read.earlier ++ r.read.piece;
      more = [];
      taken = subst (Consumes ib ia) (sym (append-nil (r.read.earlier ++ r.read.piece))) r.read.taken;
      within = subst (λ (l : List ℕ). length l ≤ limit + 1) (sym (append-nil (r.read.earlier ++ r.read.piece))) (omega arith);
      text = inr (subst (λ runs. StopsWithin start written (runs_lines detail no_tally runs ++ end_line detail (after_runs no_tally runs))) (sym here.2.2)
          (h detail start _ _ here.1));
    }

-- .. past the limit
pub part_past_limit : (detail : Detail) (form : Form) (limit : ℕ) (start before middle written input_before input_after : Option (List ℕ)) (input_failed output_failed : Bool)
    (old mid : Capture) → ReadToLimit limit old mid input_before input_after before middle → IsBeginning written middle → HasShown detail form start [] old before
    → EndsPartWay detail form limit (streamed input_before input_after input_failed) (streamed start written output_failed)
part_past_limit detail form limit start before middle written ib ia input_failed output_failed old mid r h f =
    let here = r.took.follows detail form start [] f in
    let whole = r.read.whole in
    let lengths = length-append r.read.within (r.read.byte ∷ []) in
    record {
      read = r.read.within;
      more = r.read.byte ∷ [];
      taken = r.read.taken;
      within = omega arith;
      text = inl (stops_by start middle written (shown_so_far detail form r.read.within) (shown_so_far detail form r.read.within) [] here.stands.lines h (sym (append-nil _)));
    }

-- .. before anything was read
pub part_at_once : (detail : Detail) (form : Form) (limit : ℕ) (input output : Option (List ℕ)) (input_failed output_failed : Bool)
    → EndsPartWay detail form limit (streamed input input input_failed) (streamed output output output_failed)
part_at_once detail form limit input output input_failed output_failed = record {
  read = [];
  more = [];
  taken = Consumes-nil input;
  within = omega arith;
  text = inl (stops_by output output output [] (shown_so_far detail form []) (shown_so_far detail form []) (Appends-nil output) (begun_all output) refl);
}

-- a step that fails after one that went well
pub still_step : (fault : ToolFault) (was mid failed : Bool) → mid ≡ was → IsStep {T = Unit {0}} (Err fault) mid failed → IsStep {T = Unit {0}} (Err fault) was failed
still_step fault was mid failed same s = subst (λ b. IsStep {T = Unit {0}} (Err fault) b failed) same s

-- a fault that is handed on
pub handed_on : {T : Type 0} (r : Result T ToolFault) (fault : ToolFault) → IsErrAnd r (λ f. f ≡ fault) → r ≡ Err fault
handed_on (Ok x) fault h = absurd h
handed_on (Err f) fault h = ap Err h

-- the answer where a call stopped
pub stopped_at_end : (r : Result Bool ToolFault) (fault : ToolFault) (old : Capture) (was failed : Bool) (before written : Option (List ℕ))
    → IsErrAnd r (λ f. f ≡ fault) → IsStep {T = Unit {0}} (Err fault) was failed → StopsAtEnd old before written → Answered old r was failed before written
stopped_at_end r fault old was failed before written is s h =
    subst (λ a. Answered old a was failed before written) (sym (handed_on r fault is)) (by_fault fault s)
  where
    by_fault : (f : ToolFault) → IsStep {T = Unit {0}} (Err f) was failed → Answered old (Err f) was failed before written
    by_fault WriteFailed s = (s, h)
    by_fault NoMemory s = (s, h)
    by_fault f s = absurd s

pub stopped : (detail : Detail) (form : Form) (limit : ℕ) (start written input_before input_after : Option (List ℕ)) (input_failed was failed : Bool)
    (r : Result Bool ToolFault) (fault : ToolFault)
    → IsErrAnd r (λ f. f ≡ fault) → IsStep {T = Unit {0}} (Err fault) was failed → input_failed ≡ false
    → EndsPartWay detail form limit (streamed input_before input_after input_failed) (streamed start written failed)
    → Works detail form limit (streamed input_before input_after input_failed) (streamed start written failed) r
stopped detail form limit start written ib ia input_failed was failed r fault is s well part =
    subst (λ a. Works detail form limit (streamed ib ia input_failed) (streamed start written failed) a) (sym (handed_on r fault is)) (by_fault fault s)
  where
    by_fault : (f : ToolFault) → IsStep {T = Unit {0}} (Err f) was failed → Works detail form limit (streamed ib ia input_failed) (streamed start written failed) (Err f)
    by_fault WriteFailed s = (well, s, part)
    by_fault NoMemory s = (well, part)
    by_fault f s = absurd s

pub works_at_end : (detail : Detail) (form : Form) (limit : ℕ) (start before middle written input_before input_after : Option (List ℕ)) (input_failed was output_failed : Bool)
    (old mid : Capture) (result : Result Bool ToolFault) → ReadToEnd limit old mid input_before input_after before middle → input_failed ≡ false → was ≡ false
    → Answered mid result was output_failed middle written → HasShown detail form start [] old before
    → Works detail form limit (streamed input_before input_after input_failed) (streamed start written output_failed) result
works_at_end detail form limit start before middle written ib ia input_failed was output_failed old mid (Ok refused) r well quiet a f =
    let here = a.1 detail form start r.read (r.took.follows detail form start [] f) in
    record {
      read = r.read;
      taken = r.taken;
      at_end = r.at_end;
      within = r.within;
      good = here.0;
      answer = here.1;
      text = here.2;
      input_well = well;
      output_well = a.0 ∙ quiet;
    }
works_at_end detail form limit start before middle written ib ia input_failed was output_failed old mid (Err (NotHex line)) r well quiet a f =
    let here = a.1 detail form start r.read (r.took.follows detail form start [] f) in
    record {
      read = record {
        earlier = r.read;
        piece = [];
        taken = subst (Consumes ib ia) (sym (append-nil r.read)) r.taken;
        within = subst (λ (l : List ℕ). length l ≤ limit) (sym (append-nil r.read)) r.within;
        one_piece = omega arith;
      };
      good = (r.took.follows detail form start [] f).good;
      bad = subst (λ l. first_bad form l ≡ Some line) (sym (append-nil r.read)) here.0;
      ended = inr r.at_end;
      text = subst (λ l. Appends start written (shown detail form l)) (sym (append-nil r.read)) here.1;
      input_well = well;
      output_well = a.0 ∙ quiet;
    }
works_at_end detail form limit start before middle written ib ia input_failed was output_failed old mid (Err WriteFailed) r well quiet a f =
    (well, a.0, part_at_end detail form limit start before middle written ib ia input_failed output_failed old mid r a.1 f)
works_at_end detail form limit start before middle written ib ia input_failed was output_failed old mid (Err NoMemory) r well quiet a f =
    (well, part_at_end detail form limit start before middle written ib ia input_failed output_failed old mid r a.1 f)
works_at_end detail form limit start before middle written ib ia input_failed was output_failed old mid (Err fault) r well quiet a f = absurd a

pub works_at_bad_line : (detail : Detail) (form : Form) (limit : ℕ) (start before middle written input_before input_after : Option (List ℕ)) (input_failed output_failed : Bool)
    (old mid new : Capture) → ReadToBadLine limit old mid input_before input_after before middle → input_failed ≡ false → output_failed ≡ false
    → Closed mid new middle written → HasShown detail form start [] old before
    → EndsAtBadLine detail form limit (streamed input_before input_after input_failed) (streamed start written output_failed) new.ended
works_at_bad_line detail form limit start before middle written ib ia input_failed output_failed old mid new r well well_too c f =
    let here = at_bad_line detail form limit start before middle ib ia old mid r f in
    let line : Some mid.ended ≡ Some new.ended = ap Some (sym c.same) in
    record {
      read = r.read;
      good = here.0;
      bad = here.2.0 ∙ line;
      ended = inl (here.2.1 ∙ line);
      text = subst (λ runs. Appends start written (runs_lines detail no_tally runs ++ end_line detail (after_runs no_tally runs))) (sym here.2.2)
          (c.text detail start _ _ here.1);
      input_well = well;
      output_well = well_too;
    }

pub works_past_limit : (detail : Detail) (form : Form) (limit : ℕ) (start before middle written input_before input_after : Option (List ℕ)) (input_failed output_failed : Bool)
    (old mid : Capture) → ReadToLimit limit old mid input_before input_after before middle → input_failed ≡ false → output_failed ≡ false
    → Keeps middle written → HasShown detail form start [] old before
    → EndsPastLimit detail form limit (streamed input_before input_after input_failed) (streamed start written output_failed)
works_past_limit detail form limit start before middle written ib ia input_failed output_failed old mid r well well_too kept f =
    let here = r.took.follows detail form start [] f in
    record {
      read = r.read;
      good = here.good;
      text = Appends-kept start middle written (lines_so_far detail (ended_runs form r.read.within) (open_run form r.read.within)) here.stands.lines kept;
      input_well = well;
      output_well = well_too;
    }

-- an input that failed before the call
pub ends_at_once : (detail : Detail) (form : Form) (limit : ℕ) (input output : Option (List ℕ)) (input_failed output_failed : Bool) → input_failed ≡ true
    → EndsAtFailedRead detail form limit (streamed input input input_failed) (streamed output output output_failed)
ends_at_once detail form limit input output input_failed output_failed failed = record {
  read = [];
  taken = Consumes-nil input;
  within = omega arith;
  good = nothing_bad form;
  text = λ well. told_nothing detail form output;
  part = stops_by output output output [] (shown_so_far detail form []) (shown_so_far detail form []) (Appends-nil output) (begun_all output) refl;
  input_failed = failed;
}
