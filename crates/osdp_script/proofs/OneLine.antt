-- Words are those of one line at most.
use Rattle.osdp_script.proofs.Common.{◌≡◌, ◌<◌, ◌≤◌, ◌^◌, ℕ, Bool, true, false, List, [], ◌∷◌, get_or, codes, refl, sym, ap, subst, ◌∙◌, arith, check_name, CheckKind, Crc, Sum, Command, Event, command_words, EventFits, event_reply, event_words, differ, Move, Deliver, Drop, Repeat, Damage, Issue, Queue, Busy, Wait, ToReader, ToController, Reopen, AllStandFor, Word, number, plain, ScriptLine, Check, Reader, Step, Clean, IsHappening, IsOrder, IsReader, IsSetting, LineFits, MoveFits, line_fields, line_name, line_words, move_words, switch_word}
use Rattle.osdp_msg_laws.proofs.CommandTexts.{command_texts}
use Rattle.osdp_msg_laws.proofs.EventReplies.{same_event}
use Rattle.osdp_msg_laws.proofs.OneMeaning.{numbers_then, states_one}
use Rattle.osdp_msg_laws.proofs.ReplyTexts.{reply_texts}
use Rattle.osdp_script.proofs.Rows.{BusyRow, CheckRow, CleanRow, IssueRow, QueueRow, ReaderRow, ReopenRow, Row, RowFits, RowValue, ToControllerRow, ToReaderRow, WaitRow, row_line, row_name, row_only, row_words}

-- ---- fields

-- one value at most has words that stand for these
abbrev HasOne : {X : Type 0} → (X → List Word) → (X → Type 0) → Type 0
HasOne {X} words Allowed =
    (given : List (List ℕ)) (x y : X) → Allowed x → Allowed y → AllStandFor (words x) given → AllStandFor (words y) given → x ≡ y

one_number : (most : ℕ) → most < 2 ^ 64 → HasOne (λ (n : ℕ). number n ∷ []) (λ n. n ≤ most)
one_number most small given x y h k s t =
    let both = numbers_then given (x ∷ []) (y ∷ []) [] [] refl (omega arith, tt) (omega arith, tt) s t in
    ap (λ (ns : List ℕ). get_or ns 0 0) both.same

one_check : HasOne (λ (kind : CheckKind). plain (check_name kind) ∷ []) (λ kind. Unit {0})
one_check [] x y h k s t = absurd s
one_check (g ∷ given) Sum Sum h k s t = refl
one_check (g ∷ given) Crc Crc h k s t = refl
one_check (g ∷ given) Sum Crc h k s t = absurd (differ (codes "sum") (codes "crc") refl (sym s.0 ∙ t.0))
one_check (g ∷ given) Crc Sum h k s t = absurd (differ (codes "crc") (codes "sum") refl (sym s.0 ∙ t.0))

one_reader : HasOne (λ (r : ℕ × ℕ). number r.0 ∷ number r.1 ∷ []) (λ (r : ℕ × ℕ). IsSetting r.0 r.1)
one_reader given x y h k s t =
    let hd = h.device in
    let hl = h.limit in
    let kd = k.device in
    let kl = k.limit in
    let both = numbers_then given (x.0 ∷ x.1 ∷ []) (y.0 ∷ y.1 ∷ []) [] [] refl (omega arith, (omega arith, tt)) (omega arith, (omega arith, tt)) s t in
    ap (λ (ns : List ℕ). let r : ℕ × ℕ = (get_or ns 0 0, get_or ns 1 0) in r) both.same

-- a reader's number, and then words that have one value
numbered : {X : Type 0} (words : X → List Word) (Fits : X → Type 0) → HasOne words Fits → (readers : ℕ)
    → HasOne (λ (x : ℕ × X). number x.0 ∷ words x.1) (λ (x : ℕ × X). IsReader readers x.0 × Fits x.1)
numbered {X} words Fits one readers given x y h k s t =
    let hm = h.0.most in
    let km = k.0.most in
    let both = numbers_then given (x.0 ∷ []) (y.0 ∷ []) (words x.1) (words y.1) refl (omega arith, tt) (omega arith, tt) s t in
    let reader : x.0 ≡ y.0 = ap (λ (ns : List ℕ). get_or ns 0 0) both.same in
    let value : x.1 ≡ y.1 = one both.rest x.1 y.1 h.1 k.1 both.first both.second in
    ap (λ (n : ℕ). let z : ℕ × X = (n, x.1) in z) reader ∙ ap (λ (v : X). let z : ℕ × X = (y.0, v) in z) value

one_issue : (readers : ℕ) → HasOne (λ (x : ℕ × Command). number x.0 ∷ command_words x.1) (λ (x : ℕ × Command). IsOrder readers x.0 x.1)
one_issue readers given x y h k s t =
    numbered command_words _ command_texts.one_meaning readers given x y (h.there, h.fits) (k.there, k.fits) s t

one_event : HasOne event_words EventFits
one_event given x y h k s t =
    same_event x y (reply_texts.one_meaning given (event_reply x) (event_reply y) h k s t)

one_queue : (readers : ℕ) → HasOne (λ (x : ℕ × Event). number x.0 ∷ event_words x.1) (λ (x : ℕ × Event). IsHappening readers x.0 x.1)
one_queue readers given x y h k s t =
    numbered event_words _ one_event readers given x y (h.there, h.fits) (k.there, k.fits) s t

one_switch : HasOne (λ (busy : Bool). switch_word busy ∷ []) (λ busy. Unit {0})
one_switch [] x y h k s t = absurd s
one_switch (g ∷ given) true true h k s t = refl
one_switch (g ∷ given) false false h k s t = refl
one_switch (g ∷ given) true false h k s t = absurd (differ (codes "on") (codes "off") refl (sym s.0 ∙ t.0))
one_switch (g ∷ given) false true h k s t = absurd (differ (codes "off") (codes "on") refl (sym s.0 ∙ t.0))

one_busy : (readers : ℕ) → HasOne (λ (x : ℕ × Bool). number x.0 ∷ switch_word x.1 ∷ []) (λ (x : ℕ × Bool). IsReader readers x.0)
one_busy readers given x y h k s t =
    numbered (λ (busy : Bool). switch_word busy ∷ []) (λ busy. Unit {0}) one_switch readers given x y (h, tt) (k, tt) s t

one_reopen : (readers : ℕ) → HasOne (λ (n : ℕ). number n ∷ []) (IsReader readers)
one_reopen readers given x y h k s t = one_number 16 (omega arith) given x y h.most k.most s t

move_name : Move → List ℕ
move_name Deliver = codes "deliver"
move_name Drop = codes "drop"
move_name Repeat = codes "repeat"
move_name (Damage burst) = codes "damage"

named_move : (m : Move) (g : List ℕ) (given : List (List ℕ)) → AllStandFor (move_words m) (g ∷ given) → g ≡ move_name m
unfolding move_name
named_move Deliver g given s = s.0
named_move Drop g given s = s.0
named_move Repeat g given s = s.0
named_move (Damage burst) g given s = s.0

one_move : HasOne move_words MoveFits
unfolding move_name
one_move [] Deliver y h k s t = absurd s
one_move [] Drop y h k s t = absurd s
one_move [] Repeat y h k s t = absurd s
one_move [] (Damage a) y h k s t = absurd s
one_move (g ∷ given) Deliver Deliver h k s t = refl
one_move (g ∷ given) Drop Drop h k s t = refl
one_move (g ∷ given) Repeat Repeat h k s t = refl
one_move (g ∷ given) (Damage a) (Damage b) h k s t = ap Damage (states_one given a b h.1 k.1 s.1 t.1)
one_move (g ∷ given) x y h k s t = absurd (differ (move_name x) (move_name y) refl (sym (named_move x g given s) ∙ named_move y g given t))

-- ---- lines

-- two lines of one row
by_row : (readers : ℕ) (row : Row) → HasOne (row_words row) (RowFits readers row)
    → (given : List (List ℕ)) (m n : ScriptLine) → line_name m ≡ row_name row → line_name n ≡ row_name row → LineFits readers m → LineFits readers n
    → AllStandFor (line_fields m) given → AllStandFor (line_fields n) given → m ≡ n
by_row readers row one given m n e f h k s t =
    let a = row_only row m e in
    let b = row_only row n f in
    a.1 ∙ ap (row_line row) (one given a.0 b.0 (fits m a.0 a.1 h) (fits n b.0 b.1 k) (stands m a.0 a.1 s) (stands n b.0 b.1 t)) ∙ sym b.1
  where
    fits : (l : ScriptLine) (x : RowValue row) → l ≡ row_line row x → LineFits readers l → RowFits readers row x
    fits l x is h = subst (LineFits readers) is h

    stands : (l : ScriptLine) (x : RowValue row) → l ≡ row_line row x → AllStandFor (line_fields l) given → AllStandFor (row_words row x) given
    stands l x is all = subst (λ (q : ScriptLine). AllStandFor (line_fields q) given) is all

-- a line's row, and that its value is one
row_one : (readers : ℕ) (m : ScriptLine) → (row : Row) × (line_name m ≡ row_name row) × HasOne (row_words row) (RowFits readers row)
row_one readers (Check kind) = (CheckRow, refl, one_check)
row_one readers (Reader address room) = (ReaderRow, refl, one_reader)
row_one readers (Step (Issue reader command)) = (IssueRow, refl, one_issue readers)
row_one readers (Step (Queue reader event)) = (QueueRow, refl, one_queue readers)
row_one readers (Step (Busy reader busy)) = (BusyRow, refl, one_busy readers)
row_one readers (Step (Wait time)) = (WaitRow, refl, one_number 3600000 (omega arith))
row_one readers (Step (ToReader move)) = (ToReaderRow, refl, one_move)
row_one readers (Step (ToController move)) = (ToControllerRow, refl, one_move)
row_one readers (Step (Reopen reader)) = (ReopenRow, refl, one_reopen readers)
row_one readers (Clean count) = (CleanRow, refl, one_number 1000 (omega arith))

pub one_line : (readers : ℕ) (given : List (List ℕ)) (m n : ScriptLine) → LineFits readers m → LineFits readers n
    → AllStandFor (line_words m) given → AllStandFor (line_words n) given → m ≡ n
one_line readers [] m n h k s t = absurd s
one_line readers (g ∷ given) m n h k s t =
    let row = row_one readers m in
    by_row readers row.0 row.2 given m n row.1 (sym t.0 ∙ s.0 ∙ row.1) h k s.1 t.1
