-- What follows an input, byte by byte.
use Rattle.osdp_line_answers.proofs.Common.{◌≡◌, ◌≢◌, Bool, ℕ, zero, suc, ◌+◌, ◌<◌, ◌≤◌, List, [], ◌∷◌, ◌++◌, length, length-append, length-take, take, Option, Err, refl, sym, subst, ap, ◌∙◌, arith, append_assoc, append-nil, take_all, Appends-nil, Appends-kept, Appends-trans, Appends, Keeps, ToolFault, WriteFailed, NoMemory, Answering, Speaks, heard, EndsLine, FrontAnswered, CarriesOn, HasAnswered, StopsIn, WroteAnswer, WrotePart}
use Rattle.std.proofs.Math.Seq.{take-append-add}
use Rattle.osdp_tool_streams.specs.Cut.{line_feed, ended_after, unended_after, ended_lines, unended_line}
use Rattle.osdp_tool_streams.proofs.CutLemmas.{ended_after-append}
use Rattle.osdp_tool_streams.proofs.FormLemmas.{ended_lines-feed, ended_lines-hold, unended_line-feed, unended_line-hold}
use Rattle.osdp_line_answers.proofs.Speaking.{spoke_more}

-- what is kept of what was kept
take-front : (n : ℕ) (xs ys : List ℕ) → take n (take n xs ++ ys) ≡ take n (xs ++ ys)
take-front zero xs ys = refl
take-front (suc n) [] ys = refl
take-front (suc n) (x ∷ xs) ys = ap (λ l. x ∷ l) (take-front n xs ys)

-- a character that is kept, and one that is not
pub heard_all : (xs : List ℕ) (b : ℕ) → length xs < 8193 → heard (xs ++ b ∷ []) ≡ xs ++ b ∷ []
heard_all xs b short = take_all 8193 (xs ++ b ∷ []) (omega (arith, length-append xs (b ∷ [])))

pub heard_full : (xs : List ℕ) (b : ℕ) → length xs ≡ 8193 → xs ≡ heard (xs ++ b ∷ [])
heard_full xs b full =
    let same : length xs + 0 ≡ 8193 = omega (arith, full) in
    sym (append-nil xs) ∙ sym (take-append-add xs (b ∷ []) 0) ∙ ap (λ n. take n (xs ++ b ∷ [])) same

kept_length : (xs : List ℕ) → length (heard xs) ≤ 8193
kept_length xs = omega (arith, length-take 8193 xs)

-- a line goes on
pub holds : {M : Type 0} (answers : Answering M) (b : ℕ) (machine : M) (line next : List ℕ) (now : Option (List ℕ)) → b ≢ line_feed
    → (length line ≤ 8193 → next ≡ heard (line ++ b ∷ [])) → CarriesOn answers (b ∷ []) machine line now machine next now
holds answers b machine line next now other is = λ first start read f. record {
  text = f.text;
  speaks = subst (λ l. Speaks answers first l f.text machine) (sym (ended_lines-hold read (b ∷ []) (other, tt))) f.speaks;
  held = is (subst (λ l. length l ≤ 8193) (sym f.held) (kept_length (unended_line read))) ∙ ap (λ l. heard (l ++ b ∷ [])) f.held ∙ take-front 8193 (unended_line read) (b ∷ [])
      ∙ ap heard (sym (unended_line-hold read (b ∷ []) (other, tt)));
  written = f.written;
}

-- a line ended, and was answered
pub ends : {M : Type 0} (answers : Answering M) (old new : M) (line : List ℕ) (before after : Option (List ℕ))
    → WroteAnswer answers old line new before after → CarriesOn answers (line_feed ∷ []) old line before new [] after
ends answers old new line before after w = λ first start read f. record {
  text = f.text ++ w.answer;
  speaks = subst (λ l. Speaks answers first l (f.text ++ w.answer) new) (sym (ended_lines-feed read))
      (spoke_more answers first old new (ended_lines read) (unended_line read) f.text w.answer f.speaks
      (subst (λ l. answers old l w.answer new) f.held w.is));
  held = ap heard (sym (unended_line-feed read));
  written = Appends-trans start before after f.text w.answer f.written w.written;
}

IsWrite : ToolFault → Type 0
IsWrite WriteFailed = Unit {0}
IsWrite fault = ⊥

pub not_memory : WriteFailed ≡ NoMemory → ⊥
unfolding IsWrite
not_memory same = subst IsWrite same tt

-- ---- the answers to some lines

-- all that these lines were answered was written
pub all_written : {M : Type 0} (answers : Answering M) (first last : M) (lines : List (List ℕ)) (text : List ℕ) (before after : Option (List ℕ)) (fault : ToolFault)
    → Speaks answers first lines text last → Appends before after text → FrontAnswered answers first lines before after fault
all_written answers first last lines text before after fault speaks all = record {
  front = lines;
  others = [];
  split = sym (append-nil lines);
  text = text;
  last = last;
  speaks = speaks;
  count = length text;
  written = subst (Appends before after) (sym (take_all (length text) text (omega arith))) all;
  whole = λ memory. all;
}

-- of the last answer a part was
pub part_written : {M : Type 0} (answers : Answering M) (first last : M) (lines : List (List ℕ)) (text answer : List ℕ) (count : ℕ) (start before after : Option (List ℕ))
    → Speaks answers first lines (text ++ answer) last → Appends start before text → Appends before after (take count answer)
    → FrontAnswered answers first lines start after WriteFailed
part_written answers first last lines text answer count start before after speaks written part = record {
  front = lines;
  others = [];
  split = sym (append-nil lines);
  text = text ++ answer;
  last = last;
  speaks = speaks;
  count = length text + count;
  written = subst (Appends start after) (sym (take-append-add text answer count)) (Appends-trans start before after text (take count answer) written part);
  whole = λ memory. absurd (not_memory memory);
}

-- they are the first of more lines
pub more_lines : {M : Type 0} (answers : Answering M) (first : M) (lines more all : List (List ℕ)) (before after : Option (List ℕ)) (fault : ToolFault)
    → all ≡ lines ++ more → FrontAnswered answers first lines before after fault → FrontAnswered answers first all before after fault
more_lines answers first lines more all before after fault same s = record {
  front = s.front;
  others = s.others ++ more;
  split = same ∙ ap (λ l. l ++ more) s.split ∙ append_assoc s.front s.others more;
  text = s.text;
  last = s.last;
  speaks = s.speaks;
  count = s.count;
  written = s.written;
  whole = s.whole;
}

-- ---- a line that ends

-- nothing was written since
pub stops_before : {M : Type 0} (answers : Answering M) (piece : List ℕ) (machine : M) (line : List ℕ) (now after : Option (List ℕ)) (fault : ToolFault)
    → Keeps now after → StopsIn answers piece machine line now after fault
stops_before answers piece machine line now after fault kept = λ first start read f.
    more_lines answers first (ended_lines read) (ended_after (unended_line read) piece) (ended_lines (read ++ piece)) start after fault (ended_after-append [] read piece)
    (all_written answers first machine (ended_lines read) f.text start after fault f.speaks (Appends-kept start now after f.text f.written kept))

-- a write failed in the answer to a line
pub stops_writing : {M : Type 0} (answers : Answering M) (old : M) (line : List ℕ) (before after : Option (List ℕ))
    → WrotePart answers old line before after → StopsIn answers (line_feed ∷ []) old line before after WriteFailed
stops_writing answers old line before after p = λ first start read f.
    subst (λ l. FrontAnswered answers first l start after WriteFailed) (sym (ended_lines-feed read))
    (part_written answers first p.next (ended_lines read ++ unended_line read ∷ []) f.text p.answer p.count start before after
    (spoke_more answers first old p.next (ended_lines read) (unended_line read) f.text p.answer f.speaks (subst (λ l. answers old l p.answer p.next) f.held p.is))
    f.written p.written)

pub stops_ending : {M : Type 0} (answers : Answering M) (old new : M) (line : List ℕ) (before after : Option (List ℕ)) (was failed : Bool) (fault : ToolFault)
    → EndsLine answers old line new before after was failed (Err fault) → StopsIn answers (line_feed ∷ []) old line before after fault
stops_ending answers old new line before after was failed NoMemory e = stops_before answers (line_feed ∷ []) old line before after NoMemory e.0
stops_ending answers old new line before after was failed WriteFailed e = stops_writing answers old line before after e.0
stops_ending answers old new line before after was failed fault e = absurd e

-- ---- one piece after the other

pub goes_both : {M : Type 0} (answers : Answering M) (a b : List ℕ) (old mid new : M) (line middle next : List ℕ) (before between after : Option (List ℕ))
    → CarriesOn answers a old line before mid middle between → CarriesOn answers b mid middle between new next after
    → CarriesOn answers (a ++ b) old line before new next after
goes_both answers a b old mid new line middle next before between after one two = λ first start read f.
    subst (λ r. HasAnswered answers first start r new next after) (append_assoc read a b) (two first start (read ++ a) (one first start read f))

pub stops_further : {M : Type 0} (answers : Answering M) (a b : List ℕ) (old mid : M) (line middle : List ℕ) (before between after : Option (List ℕ)) (fault : ToolFault)
    → CarriesOn answers a old line before mid middle between → StopsIn answers b mid middle between after fault → StopsIn answers (a ++ b) old line before after fault
stops_further answers a b old mid line middle before between after fault one two = λ first start read f.
    subst (λ r. FrontAnswered answers first (ended_lines r) start after fault) (append_assoc read a b) (two first start (read ++ a) (one first start read f))

pub stops_early : {M : Type 0} (answers : Answering M) (a b : List ℕ) (old : M) (line : List ℕ) (before after : Option (List ℕ)) (fault : ToolFault)
    → StopsIn answers a old line before after fault → StopsIn answers (a ++ b) old line before after fault
stops_early answers a b old line before after fault one = λ first start read f.
    more_lines answers first (ended_lines (read ++ a)) (ended_after (unended_line (read ++ a)) b) (ended_lines (read ++ (a ++ b))) start after fault
    (ap ended_lines (sym (append_assoc read a b)) ∙ ended_after-append [] (read ++ a) b) (one first start read f)

-- nothing was written after these bytes
pub stops_kept : {M : Type 0} (answers : Answering M) (piece : List ℕ) (old mid : M) (line middle : List ℕ) (before between after : Option (List ℕ)) (fault : ToolFault)
    → CarriesOn answers piece old line before mid middle between → Keeps between after → StopsIn answers piece old line before after fault
stops_kept answers piece old mid line middle before between after fault goes kept = λ first start read f.
    let g = goes first start read f in
    all_written answers first mid (ended_lines (read ++ piece)) g.text start after fault g.speaks (Appends-kept start between after g.text g.written kept)

-- no bytes bring nothing
pub goes_nowhere : {M : Type 0} (answers : Answering M) (machine : M) (line : List ℕ) (now : Option (List ℕ)) → CarriesOn answers [] machine line now machine line now
goes_nowhere answers machine line now = λ first start read f.
    subst (λ r. HasAnswered answers first start r machine line now) (sym (append-nil read)) f

-- at first
pub follows_none : {M : Type 0} (answers : Answering M) (machine : M) (start : Option (List ℕ)) → HasAnswered answers machine start [] machine [] start
unfolding ended_after unended_after
follows_none answers machine start = record { text = []; speaks = (refl, refl); held = refl; written = Appends-nil start }
