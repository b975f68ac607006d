-- How the command ends.
use Rattle.osdp_tool_monitor.proofs.Common.{◌≡◌, ℕ, ◌+◌, ◌*◌, ◌^◌, ◌≤◌, Bool, true, false, cond, inl, inr, List, [], ◌∷◌, ◌++◌, length, take, Option, Some, None, Result, Ok, Err, IsErrAnd, refl, sym, subst, ap, ◌∙◌, arith, append-nil, Appends-kept, Appends-nil, Appends, IsAtEnd, Keeps, on_err, ToolFault, NotHex, TooLong, ReadFailed, WriteFailed, NoMemory, OpenLine, Hearing, Hears, TableDue, after_events, events_report, hearing_of, nothing_yet, is_wrong, listening_of, MonitorMode, Session, CameIn, Ends, IsTold, IsToldInPart, IsTooLong, OnlyLastIsBad, input_report, Broken, End, Following, Piece, after_pieces, bad_at_end, bytes_of, end_events, input_events, last_events, nothing_cut, pieces_events, HasBroken, HasRead, HasTold, ReadsAll, TellsEvents, after_failed_read, cut_of, weight}
use Rattle.osdp_tool_monitor.proofs.OpenRuns.{events_report-append}
use Rattle.osdp_tool_monitor.proofs.Pieces.{last_bad, none_bad, part_of, told_more}

-- what ends an input is told after its pieces
told_last : (mode : MonitorMode) (pieces : List Piece) (following : Following) (s next : Session) (start now after : Option (List ℕ)) (text : List ℕ)
    → HasTold mode (pieces_events mode nothing_cut pieces) s start now → Hears (last_events following mode (after_pieces mode nothing_cut pieces)) s.line next.line [] text
    → Appends now after text → HasTold mode (input_events following mode pieces) next start after
told_last mode pieces following s next start now after text t h wrote =
    told_more mode (pieces_events mode nothing_cut pieces) (last_events following mode (after_pieces mode nothing_cut pieces)) s next start now after text t h wrote

-- a beginning of it
last_in_part : {M : Type 0} (tells : M → ℕ → M → Type 0) (mode : MonitorMode) (first last : M) (i0 i2 start now after : Option (List ℕ)) (pieces : List Piece)
    (following : Following) (s : Session) (next : OpenLine) (text : List ℕ) (count : ℕ) → CameIn tells first last i0 i2 pieces → OnlyLastIsBad mode pieces
    → HasTold mode (pieces_events mode nothing_cut pieces) s start now → Hears (last_events following mode (after_pieces mode nothing_cut pieces)) s.line next [] text
    → Appends now after (take count text) → IsToldInPart tells mode first last i0 i2 start after
last_in_part tells mode first last i0 i2 start now after pieces following s next text count came bad t h wrote =
    let events = pieces_events mode nothing_cut pieces in
    let more = last_events following mode (after_pieces mode nothing_cut pieces) in
    let told : text ≡ events_report mode.detail (after_events (nothing_yet mode.standard) events) more =
    h.text ∙ ap (λ q. events_report q (hearing_of s.line) more) t.prints ∙ ap (λ k. events_report mode.detail k more) t.heard in
    part_of tells mode first last i0 i2 start now after pieces [] following text count (omega arith) (subst (λ l. CameIn tells first last i0 i2 l) (sym (append-nil pieces)) came)
    (subst (OnlyLastIsBad mode) (sym (append-nil pieces)) bad) t.written
    (ap (input_report following mode) (append-nil pieces) ∙ events_report-append mode.detail (nothing_yet mode.standard) events more
    ∙ ap (λ l. events_report mode.detail (nothing_yet mode.standard) events ++ l) (sym told)) wrote

last_kept : {M : Type 0} (tells : M → ℕ → M → Type 0) (mode : MonitorMode) (first last : M) (i0 i2 start now after : Option (List ℕ)) (pieces : List Piece)
    (following : Following) (s : Session) → CameIn tells first last i0 i2 pieces → OnlyLastIsBad mode pieces → HasTold mode (pieces_events mode nothing_cut pieces) s start now → Keeps now after
    → IsToldInPart tells mode first last i0 i2 start after
last_kept tells mode first last i0 i2 start now after pieces following s came bad t kept =
    let events = pieces_events mode nothing_cut pieces in
    let more = last_events following mode (after_pieces mode nothing_cut pieces) in
    part_of tells mode first last i0 i2 start now after pieces [] following (events_report mode.detail (after_events (nothing_yet mode.standard) events) more) 0 (omega arith)
    (subst (λ l. CameIn tells first last i0 i2 l) (sym (append-nil pieces)) came) (subst (OnlyLastIsBad mode) (sym (append-nil pieces)) bad) t.written
    (ap (input_report following mode) (append-nil pieces) ∙ events_report-append mode.detail (nothing_yet mode.standard) events more)
    (Appends-kept now now after [] (Appends-nil now) kept)

-- because too much was counted
long_last : {M : Type 0} (tells : M → ℕ → M → Type 0) (mode : MonitorMode) (first last : M) (i0 i2 start now after : Option (List ℕ)) (pieces : List Piece)
    (following : Following) (s : Session) → CameIn tells first last i0 i2 pieces → OnlyLastIsBad mode pieces → HasTold mode (pieces_events mode nothing_cut pieces) s start now → Keeps now after
    → weight s ≤ 5 * length (bytes_of pieces) → 2 ^ 60 ≤ weight s + 5 → IsTooLong tells mode first last i0 i2 start after
unfolding part_of last_kept
long_last tells mode first last i0 i2 start now after pieces following s came bad t kept weighs long = record {
  part = last_kept tells mode first last i0 i2 start now after pieces following s came bad t kept;
  long = subst (λ l. 2 ^ 57 ≤ length (bytes_of l)) (sym (append-nil pieces)) (omega arith);
}

-- ---- a bad line, or a failed read

module _ {M : Type 0} (tells : M → ℕ → M → Type 0) (mode : MonitorMode) (first last : M) (i0 i2 start now after : Option (List ℕ)) (s : Session) where
  pub failed_told : HasRead tells mode first last i0 i2 start now s → TellsEvents {T = Unit {0}} (TableDue ∷ []) s s now after false (Ok tt)
      → IsTold tells mode first last i0 i2 start after Broken
  failed_told r (text, h, wrote, well) =
      let t = told_last mode r.pieces Broken s s start now after text r.follows.told h wrote in
      record { pieces = r.pieces; came = r.came; written = t.written }

  -- by how the table was written
  pub broken_stops : (input_failed failed : Bool) (fault : ToolFault) → HasBroken tells mode first last i0 i2 start now s
      → TellsEvents {T = Unit {0}} (TableDue ∷ []) s s now after failed (Err fault) → input_failed ≡ false
      → Ends tells mode first last i0 i2 input_failed start after failed (Err fault)
  broken_stops input_failed failed WriteFailed b (next, text, count, h, wrote, ill) input =
      (last_in_part tells mode first last i0 i2 start now after (b.front ++ b.piece ∷ []) Broken s next text count b.came (last_bad mode b.front b.piece b.broke.good) b.broke.told h wrote, input, ill)
  broken_stops input_failed failed NoMemory b (kept, well) input =
      (last_kept tells mode first last i0 i2 start now after (b.front ++ b.piece ∷ []) Broken s b.came (last_bad mode b.front b.piece b.broke.good) b.broke.told kept, well)
  broken_stops input_failed failed TooLong b (kept, well, long) input =
      (long_last tells mode first last i0 i2 start now after (b.front ++ b.piece ∷ []) Broken s b.came (last_bad mode b.front b.piece b.broke.good) b.broke.told kept b.broke.weighs long, well)
  broken_stops input_failed failed fault b told input = absurd told

  pub failed_well : (input_failed failed : Bool) → HasRead tells mode first last i0 i2 start now s → TellsEvents {T = Unit {0}} (TableDue ∷ []) s s now after failed (Ok tt)
      → input_failed ≡ true → Ends tells mode first last i0 i2 input_failed start after failed (Err ReadFailed)
  unfolding failed_told
  failed_well input_failed failed r (text, h, wrote, well) input =
      (inl (failed_told r (text, h, wrote, refl), r.follows.good, well), input)

  pub failed_part : (input_failed failed : Bool) → HasRead tells mode first last i0 i2 start now s → TellsEvents {T = Unit {0}} (TableDue ∷ []) s s now after failed (Err WriteFailed)
      → input_failed ≡ true → Ends tells mode first last i0 i2 input_failed start after failed (Err ReadFailed)
  failed_part input_failed failed r (next, text, count, h, wrote, ill) input =
      (inr (last_in_part tells mode first last i0 i2 start now after r.pieces Broken s next text count r.came (none_bad mode r.pieces r.follows.good) r.follows.told h wrote, ill), input)

  pub broken_well : (input_failed failed : Bool) → HasBroken tells mode first last i0 i2 start now s → TellsEvents {T = Unit {0}} (TableDue ∷ []) s s now after failed (Ok tt)
      → input_failed ≡ false → Ends tells mode first last i0 i2 input_failed start after failed (Err (NotHex s.ended))
  broken_well input_failed failed b (text, h, wrote, well) input =
      let pieces = b.front ++ b.piece ∷ [] in
      let t = told_last mode pieces Broken s s start now after text b.broke.told h wrote in (
        inr (record { pieces = pieces; came = b.came; written = t.written }, b.front, b.piece, refl, b.broke.good, b.broke.bad),
        input,
        well,
      )

  pub failed_by : (input_failed failed : Bool) (fault : ToolFault) → HasRead tells mode first last i0 i2 start now s
      → TellsEvents {T = Unit {0}} (TableDue ∷ []) s s now after failed (Err fault) → input_failed ≡ true
      → Ends tells mode first last i0 i2 input_failed start after failed (Err (after_failed_read fault))
  failed_by input_failed failed WriteFailed r told input = failed_part input_failed failed r told input
  failed_by input_failed failed NoMemory r (kept, well) input = (last_kept tells mode first last i0 i2 start now after r.pieces Broken s r.came (none_bad mode r.pieces r.follows.good) r.follows.told kept, well)
  failed_by input_failed failed TooLong r (kept, well, long) input = (last_kept tells mode first last i0 i2 start now after r.pieces Broken s r.came (none_bad mode r.pieces r.follows.good) r.follows.told kept, well)
  failed_by input_failed failed fault r told input = absurd told

  -- ---- the end of the input

  ends_are : HasRead tells mode first last i0 i2 start now s → (pieces : List Piece) → cut_of s ≡ after_pieces mode nothing_cut pieces → s.mode ≡ mode
      → end_events s.mode.hex (cut_of s) ≡ end_events mode.hex (after_pieces mode nothing_cut pieces)
  ends_are r pieces cut is = ap (λ (m : MonitorMode). end_events m.hex (cut_of s)) is ∙ ap (end_events mode.hex) cut

  bad_are : (pieces : List Piece) → cut_of s ≡ after_pieces mode nothing_cut pieces → s.mode ≡ mode
      → bad_at_end mode.hex (after_pieces mode nothing_cut pieces) ≡ bad_at_end s.mode.hex (cut_of s)
  bad_are pieces cut is = sym (ap (λ (m : MonitorMode). bad_at_end m.hex (cut_of s)) is ∙ ap (bad_at_end mode.hex) cut)

  pub closed_well : (next : Session) (input_failed failed good wrong : Bool) → HasRead tells mode first last i0 i2 start now s → IsAtEnd i2
      → TellsEvents {T = Bool} (end_events s.mode.hex (cut_of s)) s next now after failed (Ok good) → bad_at_end s.mode.hex (cut_of s) ≡ cond good None (Some next.ended)
      → good ≡ true → wrong ≡ is_wrong (listening_of next.line.listener) → input_failed ≡ false
      → Ends tells mode first last i0 i2 input_failed start after failed (Ok wrong)
  closed_well next input_failed failed good wrong r at_end (text, h, wrote, well) bad is wrong_is input =
      let f = r.follows in
      let t = told_last mode r.pieces End s next start now after text f.told (subst (λ l. Hears l s.line next.line [] text) (ends_are r r.pieces f.cut f.mode_is) h) wrote in (
        record { pieces = r.pieces; came = r.came; written = t.written },
        f.good,
        bad_are r.pieces f.cut f.mode_is ∙ bad ∙ ap (λ g. cond g None (Some next.ended)) is,
        wrong_is ∙ ap (λ (k : Hearing). is_wrong k.heard) t.heard,
        at_end,
        input,
        well,
      )

  pub closed_bad : (next : Session) (input_failed failed good : Bool) → HasRead tells mode first last i0 i2 start now s → IsAtEnd i2
      → TellsEvents {T = Bool} (end_events s.mode.hex (cut_of s)) s next now after failed (Ok good) → bad_at_end s.mode.hex (cut_of s) ≡ cond good None (Some next.ended)
      → good ≡ false → input_failed ≡ false
      → Ends tells mode first last i0 i2 input_failed start after failed (Err (NotHex next.ended))
  closed_bad next input_failed failed good r at_end (text, h, wrote, well) bad is input =
      let f = r.follows in
      let t = told_last mode r.pieces End s next start now after text f.told (subst (λ l. Hears l s.line next.line [] text) (ends_are r r.pieces f.cut f.mode_is) h) wrote in (
        inl (record { pieces = r.pieces; came = r.came; written = t.written }, f.good, bad_are r.pieces f.cut f.mode_is ∙ bad ∙ ap (λ g. cond g None (Some next.ended)) is, at_end),
        input,
        well,
      )

  pub closed_stops : (next : Session) (input_failed failed : Bool) (fault : ToolFault) → HasRead tells mode first last i0 i2 start now s
      → TellsEvents {T = Bool} (end_events s.mode.hex (cut_of s)) s next now after failed (Err fault) → input_failed ≡ false
      → Ends tells mode first last i0 i2 input_failed start after failed (Err fault)
  closed_stops next input_failed failed WriteFailed r (line, text, count, h, wrote, ill) input =
      let f = r.follows in (
        last_in_part tells mode first last i0 i2 start now after r.pieces End s line text count r.came (none_bad mode r.pieces f.good) f.told
            (subst (λ l. Hears l s.line line [] text) (ends_are r r.pieces f.cut f.mode_is) h) wrote,
        input,
        ill,
      )
  closed_stops next input_failed failed NoMemory r (kept, well) input = (last_kept tells mode first last i0 i2 start now after r.pieces End s r.came (none_bad mode r.pieces r.follows.good) r.follows.told kept, well)
  closed_stops next input_failed failed TooLong r (kept, well, long) input =
      (long_last tells mode first last i0 i2 start now after r.pieces End s r.came (none_bad mode r.pieces r.follows.good) r.follows.told kept r.follows.weighs long, well)
  closed_stops next input_failed failed fault r told input = absurd told

-- ---- what was read, by the answer

module _ {M : Type 0} (tells : M → ℕ → M → Type 0) (mode : MonitorMode) (first last : M) (i0 i2 start now : Option (List ℕ)) (input_failed failed : Bool) (s : Session) where
  pub read_well : (own : MonitorMode) (b : Bool) → own ≡ mode → b ≡ true → ReadsAll tells own first last i0 i2 input_failed start now failed s (Ok b)
      → HasRead tells mode first last i0 i2 start now s × IsAtEnd i2 × (input_failed ≡ false) × (failed ≡ false)
  read_well own true same is r = subst (λ m. HasRead tells m first last i0 i2 start now s × IsAtEnd i2 × (input_failed ≡ false) × (failed ≡ false)) same r
  read_well own false same is r = absurd cc

  pub read_bad : (own : MonitorMode) (b : Bool) → own ≡ mode → b ≡ false → ReadsAll tells own first last i0 i2 input_failed start now failed s (Ok b)
      → HasBroken tells mode first last i0 i2 start now s × (input_failed ≡ false) × (failed ≡ false)
  read_bad own false same is r = subst (λ m. HasBroken tells m first last i0 i2 start now s × (input_failed ≡ false) × (failed ≡ false)) same r
  read_bad own true same is r = absurd cc

  pub read_failed : (own : MonitorMode) (fault : ToolFault) → own ≡ mode → fault ≡ ReadFailed
      → ReadsAll tells own first last i0 i2 input_failed start now failed s (Err fault)
      → HasRead tells mode first last i0 i2 start now s × (input_failed ≡ true) × (failed ≡ false)
  read_failed own ReadFailed same is r = subst (λ m. HasRead tells m first last i0 i2 start now s × (input_failed ≡ true) × (failed ≡ false)) same r
  read_failed own fault same is r = subst (λ m. HasRead tells m first last i0 i2 start now s × (input_failed ≡ true) × (failed ≡ false)) same
      (subst (λ f. ReadsAll tells own first last i0 i2 input_failed start now failed s (Err f)) is r)

-- ---- how the command ends, by what was read, and then by what was written

module _ {M : Type 0} (tells : M → ℕ → M → Type 0) (mode : MonitorMode) (first last : M) (i0 i2 start now after : Option (List ℕ)) (input_failed was failed : Bool)
    (s : Session) (own : MonitorMode) (same : own ≡ mode) where
  pub ends_well : (b : Bool) → b ≡ true → ReadsAll tells own first last i0 i2 input_failed start now was s (Ok b) → (next : Session) (good wrong : Bool)
      → TellsEvents {T = Bool} (end_events s.mode.hex (cut_of s)) s next now after failed (Ok good) → bad_at_end s.mode.hex (cut_of s) ≡ cond good None (Some next.ended)
      → good ≡ true → wrong ≡ is_wrong (listening_of next.line.listener) → Ends tells mode first last i0 i2 input_failed start after failed (Ok wrong)
  ends_well b is read next good wrong told bad well wrong_is =
      let r = read_well tells mode first last i0 i2 start now input_failed was s own b same is read in
      closed_well tells mode first last i0 i2 start now after s next input_failed failed good wrong r.0 r.1 told bad well wrong_is r.2

  pub ends_bad : (b : Bool) → b ≡ true → ReadsAll tells own first last i0 i2 input_failed start now was s (Ok b) → (next : Session) (good : Bool)
      → TellsEvents {T = Bool} (end_events s.mode.hex (cut_of s)) s next now after failed (Ok good) → bad_at_end s.mode.hex (cut_of s) ≡ cond good None (Some next.ended)
      → good ≡ false → Ends tells mode first last i0 i2 input_failed start after failed (Err (NotHex next.ended))
  ends_bad b is read next good told bad ill =
      let r = read_well tells mode first last i0 i2 start now input_failed was s own b same is read in
      closed_bad tells mode first last i0 i2 start now after s next input_failed failed good r.0 r.1 told bad ill r.2

  pub ends_stopped : (b : Bool) → b ≡ true → ReadsAll tells own first last i0 i2 input_failed start now was s (Ok b) → (next : Session) (fault : ToolFault)
      → TellsEvents {T = Bool} (end_events s.mode.hex (cut_of s)) s next now after failed (Err fault) → (answer : Result Bool ToolFault) → IsErrAnd answer (λ x. x ≡ fault)
      → Ends tells mode first last i0 i2 input_failed start after failed answer
  ends_stopped b is read next fault told answer answer_is =
      let r = read_well tells mode first last i0 i2 start now input_failed was s own b same is read in
      on_err (λ a. Ends tells mode first last i0 i2 input_failed start after failed a) answer fault answer_is
      (closed_stops tells mode first last i0 i2 start now after s next input_failed failed fault r.0 told r.2)

  pub breaks_well : (b : Bool) → b ≡ false → ReadsAll tells own first last i0 i2 input_failed start now was s (Ok b)
      → TellsEvents {T = Unit {0}} (TableDue ∷ []) s s now after failed (Ok tt) → Ends tells mode first last i0 i2 input_failed start after failed (Err (NotHex s.ended))
  breaks_well b is read told =
      let r = read_bad tells mode first last i0 i2 start now input_failed was s own b same is read in
      broken_well tells mode first last i0 i2 start now after s input_failed failed r.0 told r.1

  pub breaks_stopped : (b : Bool) → b ≡ false → ReadsAll tells own first last i0 i2 input_failed start now was s (Ok b) → (fault : ToolFault)
      → TellsEvents {T = Unit {0}} (TableDue ∷ []) s s now after failed (Err fault) → (answer : Result Bool ToolFault) → IsErrAnd answer (λ x. x ≡ fault)
      → Ends tells mode first last i0 i2 input_failed start after failed answer
  breaks_stopped b is read fault told answer answer_is =
      let r = read_bad tells mode first last i0 i2 start now input_failed was s own b same is read in
      on_err (λ a. Ends tells mode first last i0 i2 input_failed start after failed a) answer fault answer_is
      (broken_stops tells mode first last i0 i2 start now after s input_failed failed fault r.0 told r.1)

  pub fails_well : (why : ToolFault) → why ≡ ReadFailed → ReadsAll tells own first last i0 i2 input_failed start now was s (Err why)
      → TellsEvents {T = Unit {0}} (TableDue ∷ []) s s now after failed (Ok tt) → Ends tells mode first last i0 i2 input_failed start after failed (Err ReadFailed)
  fails_well why is read told =
      let r = read_failed tells mode first last i0 i2 start now input_failed was s own why same is read in
      failed_well tells mode first last i0 i2 start now after s input_failed failed r.0 told r.1

  pub fails_by : (why : ToolFault) → why ≡ ReadFailed → ReadsAll tells own first last i0 i2 input_failed start now was s (Err why) → (fault final : ToolFault)
      → TellsEvents {T = Unit {0}} (TableDue ∷ []) s s now after failed (Err fault) → final ≡ after_failed_read fault
      → Ends tells mode first last i0 i2 input_failed start after failed (Err final)
  fails_by why is read fault final told final_is =
      let r = read_failed tells mode first last i0 i2 start now input_failed was s own why same is read in
      subst (λ f. Ends tells mode first last i0 i2 input_failed start after failed (Err f)) (sym final_is)
      (failed_by tells mode first last i0 i2 start now after s input_failed failed fault r.0 told r.1)
