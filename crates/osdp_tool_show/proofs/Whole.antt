-- Where the bytes of an input are known, the answer and the text are those of these bytes.
use Rattle.osdp_tool_show.proofs.Common.{◌≡◌, ℕ, ◌+◌, ◌-◌, ◌<◌, ◌≤◌, Bool, true, false, cond, ◌||◌, nat_le, List, [], ◌∷◌, ◌++◌, length, take, drop, Option, Some, None, is_some, Result, Ok, Err, inl, inr, refl, sym, subst, ap, ◌∙◌, arith, append_assoc, append-nil, length-append, option_map_or, Appends, Consumes, IsAtEnd, take_all, take-add, take-append_seam, drop-append_seam, le-leb, lt-leb, Form, first_bad, first_bad_ended, bad_stays, Detail, no_tally, after_runs, runs_lines, end_line, ToolFault, NotHex, TooLong, ReadFailed, WriteFailed, NoMemory, shown, shown_so_far, answer_to, is_refused_input, ends_within, Stream, streamed, Ends, IsWhole, EndsWhole}

-- what was consumed of known bytes is their front
pub consumed : (bytes read : List ℕ) (after : Option (List ℕ)) → Consumes (Some bytes) after read → (rest : List ℕ) × (after ≡ Some rest) × (bytes ≡ read ++ rest)
consumed bytes read None h = absurd h
consumed bytes read (Some rest) h = (rest, refl, h)

all_read : (bytes read : List ℕ) (after : Option (List ℕ)) → Consumes (Some bytes) after read → IsAtEnd after → bytes ≡ read
all_read bytes read None h e = absurd h
all_read bytes read (Some rest) h e = h ∙ ap (λ l. read ++ l) e ∙ append-nil read

or_true : (b : Bool) → (b || true) ≡ true
or_true true = refl
or_true false = refl

within_ends : (form : Form) (limit : ℕ) (bytes : List ℕ) → length bytes ≤ limit → ends_within form limit bytes ≡ true
within_ends form limit bytes h = ap (λ t. t || is_some (first_bad_ended form (take limit bytes))) (le-leb (length bytes) limit h)

bad_ends : (form : Form) (limit line : ℕ) (bytes : List ℕ) → first_bad_ended form (take limit bytes) ≡ Some line → ends_within form limit bytes ≡ true
bad_ends form limit line bytes h = ap (λ o. nat_le (length bytes) limit || is_some o) h ∙ or_true (nat_le (length bytes) limit)

cut_goes_on : (form : Form) (limit : ℕ) (bytes : List ℕ) → limit < length bytes → first_bad_ended form (take limit bytes) ≡ None → ends_within form limit bytes ≡ false
cut_goes_on form limit bytes long none =
    ap (λ o. nat_le (length bytes) limit || is_some o) none ∙ ap (λ t. t || false) (lt-leb (length bytes) limit long)

whole_ended : (detail : Detail) (form : Form) (limit : ℕ) (bytes : List ℕ) (output : Stream) (result : Result Bool ToolFault) → ends_within form limit bytes ≡ true
    → result ≡ answer_to form (take limit bytes) → Appends output.before output.after (shown detail form (take limit bytes))
    → IsWhole detail form limit bytes output result
whole_ended detail form limit bytes output result ends answer text = record {
  answer = answer ∙ sym (ap (λ t. cond t (answer_to form (take limit bytes)) (Err TooLong)) ends);
  text = subst (Appends output.before output.after) (sym (ap (λ t. cond t (shown detail form (take limit bytes)) (shown_so_far detail form (take limit bytes))) ends)) text;
}

whole_cut : (detail : Detail) (form : Form) (limit : ℕ) (bytes : List ℕ) (output : Stream) → ends_within form limit bytes ≡ false
    → Appends output.before output.after (shown_so_far detail form (take limit bytes)) → IsWhole detail form limit bytes output (Err TooLong)
whole_cut detail form limit bytes output ends text = record {
  answer = sym (ap (λ t. cond t (answer_to form (take limit bytes)) (Err TooLong)) ends);
  text = subst (Appends output.before output.after) (sym (ap (λ t. cond t (shown detail form (take limit bytes)) (shown_so_far detail form (take limit bytes))) ends)) text;
}

-- an input of which all was read, within the limit
whole_within : (detail : Detail) (form : Form) (limit : ℕ) (bytes : List ℕ) (output : Stream) (result : Result Bool ToolFault) → length bytes ≤ limit
    → result ≡ answer_to form bytes → Appends output.before output.after (shown detail form bytes) → IsWhole detail form limit bytes output result
whole_within detail form limit bytes output result within answer text =
    let all = take_all limit bytes within in
    whole_ended detail form limit bytes output result (within_ends form limit bytes within)
    (answer ∙ sym (ap (answer_to form) all)) (subst (Appends output.before output.after) (sym (ap (shown detail form) all)) text)

answer_good : (form : Form) (bytes : List ℕ) (refused : Bool) → first_bad form bytes ≡ None → refused ≡ is_refused_input form bytes → Ok refused ≡ answer_to form bytes
answer_good form bytes refused good is =
    ap Ok is ∙ sym (ap (λ o. option_map_or (λ line. Err (NotHex line)) o (Ok (is_refused_input form bytes))) good)

answer_bad : (form : Form) (bytes : List ℕ) (line : ℕ) → first_bad form bytes ≡ Some line → Err (NotHex line) ≡ answer_to form bytes
answer_bad form bytes line bad = sym (ap (λ o. option_map_or (λ n. Err (NotHex n)) o (Ok (is_refused_input form bytes))) bad)

-- after a bad line nothing counts
bad_shown : (detail : Detail) (form : Form) (read more : List ℕ) (line : ℕ) → first_bad_ended form read ≡ Some line → shown detail form (read ++ more) ≡ shown detail form read
bad_shown detail form read more line bad =
    let one = (bad_stays form read more line bad).2 in
    let none = (bad_stays form read [] line bad).2 in
    let text = λ (runs : List (List ℕ)). runs_lines detail no_tally runs ++ end_line detail (after_runs no_tally runs) in
    ap text (one ∙ sym none) ∙ ap (shown detail form) (append-nil read)

take_after : (n : ℕ) (xs ys : List ℕ) → length xs ≤ n → take n (xs ++ ys) ≡ xs ++ take (n - length xs) ys
take_after n xs ys h =
    let k = n - length xs in
    let sum : n ≡ length xs + k = omega arith in
    ap (λ m. take m (xs ++ ys)) sum ∙ take-add (length xs) k (xs ++ ys)
    ∙ ap (λ l. l ++ take k (drop (length xs) (xs ++ ys))) (take-append_seam xs ys) ∙ ap (λ l. xs ++ take k l) (drop-append_seam xs ys)

whole_at_bad_line : (detail : Detail) (form : Form) (limit : ℕ) (bytes read rest : List ℕ) (output : Stream) (line : ℕ) → bytes ≡ read ++ rest → length read ≤ limit
    → first_bad_ended form read ≡ Some line → Appends output.before output.after (shown detail form read) → IsWhole detail form limit bytes output (Err (NotHex line))
whole_at_bad_line detail form limit bytes read rest output line parts within bad text =
    let more = take (limit - length read) rest in
    let front : take limit bytes ≡ read ++ more = ap (take limit) parts ∙ take_after limit read rest within in
    let stays = bad_stays form read more line bad in
    whole_ended detail form limit bytes output (Err (NotHex line)) (bad_ends form limit line bytes (ap (first_bad_ended form) front ∙ stays.1))
    (answer_bad form (read ++ more) line stays.0 ∙ sym (ap (answer_to form) front))
    (subst (Appends output.before output.after) (sym (ap (shown detail form) front ∙ bad_shown detail form read more line bad)) text)

whole_past : (detail : Detail) (form : Form) (limit one : ℕ) (bytes read rest : List ℕ) (output : Stream) → bytes ≡ (read ++ one ∷ []) ++ rest → length read ≡ limit
    → first_bad_ended form read ≡ None → Appends output.before output.after (shown_so_far detail form read) → IsWhole detail form limit bytes output (Err TooLong)
whole_past detail form limit one bytes read rest output parts whole good text =
    let regrouped : bytes ≡ read ++ (one ∷ [] ++ rest) = parts ∙ append_assoc read (one ∷ []) rest in
    let front : take limit bytes ≡ read =
    ap (take limit) regrouped ∙ ap (λ n. take n (read ++ (one ∷ [] ++ rest))) (sym whole) ∙ take-append_seam read (one ∷ [] ++ rest) in
    let lengths = ap length parts in
    let a = length-append (read ++ one ∷ []) rest in
    let b = length-append read (one ∷ []) in
    whole_cut detail form limit bytes output (cut_goes_on form limit bytes (omega arith) (ap (first_bad_ended form) front ∙ good))
    (subst (Appends output.before output.after) (sym (ap (shown_so_far detail form) front)) text)

whole_by : (detail : Detail) (form : Form) (limit : ℕ) (bytes : List ℕ) (after : Option (List ℕ)) (failed : Bool) (output : Stream) (result : Result Bool ToolFault)
    → Ends detail form limit (streamed (Some bytes) after failed) output result → failed ≡ false → output.failed ≡ false → (result ≡ Err NoMemory → ⊥)
    → IsWhole detail form limit bytes output result
whole_by detail form limit bytes after failed output (Ok refused) e well well_too memory =
    let all = all_read bytes e.read after e.taken e.at_end in
    whole_within detail form limit bytes output (Ok refused) (subst (λ (l : List ℕ). length l ≤ limit) (sym all) e.within)
    (answer_good form e.read refused e.good e.answer ∙ ap (answer_to form) (sym all))
    (subst (λ l. Appends output.before output.after (shown detail form l)) (sym all) e.text)
whole_by detail form limit bytes after failed output (Err (NotHex line)) e well well_too memory =
    let read = e.read.earlier ++ e.read.piece in
    elim e.ended [
      | inl bad ↦
          let c = consumed bytes read after e.read.taken in
          whole_at_bad_line detail form limit bytes read c.0 output line c.2 e.read.within bad e.text
      | inr end ↦
          let all = all_read bytes read after e.read.taken end in
          whole_within detail form limit bytes output (Err (NotHex line)) (subst (λ (l : List ℕ). length l ≤ limit) (sym all) e.read.within)
          (answer_bad form read line e.bad ∙ ap (answer_to form) (sym all))
          (subst (λ l. Appends output.before output.after (shown detail form l)) (sym all) e.text)
    ]
whole_by detail form limit bytes after failed output (Err TooLong) e well well_too memory =
    let c = consumed bytes (e.read.within ++ e.read.byte ∷ []) after e.read.taken in
    whole_past detail form limit e.read.byte bytes e.read.within c.0 output c.2 e.read.whole e.good e.text
whole_by detail form limit bytes after failed output (Err ReadFailed) e well well_too memory = let told = e.input_failed in cc
whole_by detail form limit bytes after failed output (Err WriteFailed) e well well_too memory = let told = e.1 in cc
whole_by detail form limit bytes after failed output (Err NoMemory) e well well_too memory = absurd (memory refl)
whole_by detail form limit bytes after failed output (Err fault) e well well_too memory = absurd e

pub ends_whole : (detail : Detail) (form : Form) (limit : ℕ) (before after : Option (List ℕ)) (failed : Bool) (output : Stream) (result : Result Bool ToolFault)
    → Ends detail form limit (streamed before after failed) output result → EndsWhole detail form limit (streamed before after failed) output result
ends_whole detail form limit None after failed output result e = tt
ends_whole detail form limit (Some bytes) after failed output result e = λ well well_too memory. whole_by detail form limit bytes after failed output result e well well_too memory
