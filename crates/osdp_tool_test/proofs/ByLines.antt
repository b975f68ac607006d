-- Where nothing stops a test of lines, it ends by its words and its lines.
use Rattle.osdp_tool_test.proofs.Common.{◌≡◌, ◌∙◌, ◌⊎◌, ℕ, ◌+◌, ◌<◌, ◌≤◌, Bool, List, [], ◌∷◌, ◌++◌, length, drop, Option, Some, None, Result, Ok, Err, inl, inr, refl, sym, ap, subst, arith, append-nil, length-append, Keeps, lines_of, ToolFault, NotHex, TooLong, BadWords, BadStep, HoldsPacket, NotQuiet, ReadFailed, WriteFailed, NoMemory, Ends, IsRead, PastLimit, status_of, Told, WasStopped, report_text, Tests, asking_words, Form, Plain, Tap}
use Rattle.std.proofs.Transfers.{drop-appended}

-- words ask for one form at most
pub form_once : (words : List (List ℕ)) (a b : Form) → words ≡ asking_words a → words ≡ asking_words b → a ≡ b
form_once words Plain Plain h g = refl
form_once words Plain Tap h g = cc (h, g)
form_once words Tap Plain h g = cc (h, g)
form_once words Tap Tap h g = refl

pub all_read : (limit : ℕ) (bytes : List ℕ) (left : Option (List ℕ)) → (whole : IsRead limit (Some bytes) left) → (whole.read ≡ bytes) × (left ≡ Some [])
all_read limit bytes None whole = absurd whole.taken
all_read limit bytes (Some rest) whole =
    (sym (whole.taken ∙ ap (λ (l : List ℕ). whole.read ++ l) whole.at_end ∙ append-nil whole.read), ap (λ (l : List ℕ). Some l) whole.at_end)

pub left_as_it_was : (bytes : List ℕ) (left : Option (List ℕ)) → Keeps (Some bytes) left → left ≡ Some bytes
left_as_it_was bytes None kept = absurd kept
left_as_it_was bytes (Some rest) kept = ap (λ (l : List ℕ). Some l) kept

past_limit : (limit : ℕ) (bytes : List ℕ) (left : Option (List ℕ)) → PastLimit limit (Some bytes) left → (limit < length bytes) × (left ≡ Some (drop (limit + 1) bytes))
past_limit limit bytes None past = absurd past.taken
past_limit limit bytes (Some rest) past =
    let front = past.read ++ past.byte ∷ [] in
    let size : length front ≡ limit + 1 = length-append past.read (past.byte ∷ []) ∙ ap (λ (n : ℕ). n + 1) past.whole in
    let all : length bytes ≡ length front + length rest = ap length past.taken ∙ length-append front rest in
    (omega (arith, size, all), ap (λ (l : List ℕ). Some l) (sym (ap (λ (n : ℕ). drop n bytes) (sym size) ∙ drop-appended front bytes rest past.taken)))

module _ (Shows : Form → List (List ℕ) → List Told → Type 0) (Stops : List (List ℕ) → ℕ → Type 0)
    (shows_once : (form : Form) (lines : List (List ℕ)) (a b : List Told) → Shows form lines a → Shows form lines b → a ≡ b)
    (stops_once : (lines : List (List ℕ)) (m n : ℕ) → Stops lines m → Stops lines n → m ≡ n)
    (not_both : (form : Form) (lines : List (List ℕ)) (entries : List Told) (n : ℕ) → Shows form lines entries → Stops lines n → ⊥)
    (limit : ℕ) (bytes start : List ℕ) where
  module _ (form : Form) where
    -- the three ways to end
    record Reported (left : Option (List ℕ)) (now : List ℕ) (r : Result ℕ ToolFault) : Type 0 where
      entries : List Told
      shown : Shows form (lines_of bytes) entries
      is : r ≡ Ok (status_of entries)
      written : now ≡ start ++ report_text form entries
      within : length bytes ≤ limit
      ended : left ≡ Some []

    record MetBad (left : Option (List ℕ)) (now : List ℕ) (r : Result ℕ ToolFault) : Type 0 where
      number : ℕ
      stops : Stops (lines_of bytes) number
      is : r ≡ Err (BadStep number)
      written : now ≡ start
      within : length bytes ≤ limit
      ended : left ≡ Some []

    record WasLong (left : Option (List ℕ)) (now : List ℕ) (r : Result ℕ ToolFault) : Type 0 where
      is : r ≡ Err TooLong
      written : now ≡ start
      more : limit < length bytes
      rest : left ≡ Some (drop (limit + 1) bytes)

    abbrev EndedSo : Option (List ℕ) → List ℕ → Result ℕ ToolFault → Type 0
    EndedSo left now r = Reported left now r ⊎ (MetBad left now r ⊎ WasLong left now r)

    ended_so : (left : Option (List ℕ)) (now : List ℕ) (failed : Bool) (r : Result ℕ ToolFault) → (WasStopped r → ⊥)
        → Ends (Shows form) Stops limit (Some bytes) left form (Some start) (Some now) failed r → EndedSo left now r
    ended_so left now failed (Ok status) on h =
        let report = h.0 in
        let read = all_read limit bytes left report.whole in
        inl (record {
          entries = report.entries;
          shown = subst (λ (l : List ℕ). Shows form (lines_of l) report.entries) read.0 report.finds;
          is = ap (λ (n : ℕ). Ok n) report.is;
          written = report.written;
          within = subst (λ (l : List ℕ). length l ≤ limit) read.0 report.whole.within;
          ended = read.1;
        })
    ended_so left now failed (Err (BadStep number)) on h =
        let whole = h.0.0 in
        let read = all_read limit bytes left whole in
        inr (inl (record {
          number = number;
          stops = subst (λ (l : List ℕ). Stops (lines_of l) number) read.0 h.0.1;
          is = refl;
          written = h.1;
          within = subst (λ (l : List ℕ). length l ≤ limit) read.0 whole.within;
          ended = read.1;
        }))
    ended_so left now failed (Err TooLong) on h =
        let past = past_limit limit bytes left h.0 in
        inr (inr (record { is = refl; written = h.1; more = past.0; rest = past.1 }))
    ended_so left now failed (Err ReadFailed) on h = absurd (on (inl refl))
    ended_so left now failed (Err WriteFailed) on h = absurd (on (inr (inl refl)))
    ended_so left now failed (Err NoMemory) on h = absurd (on (inr (inr refl)))
    ended_so left now failed (Err (NotHex number)) on h = absurd h
    ended_so left now failed (Err BadWords) on h = absurd h
    ended_so left now failed (Err (HoldsPacket number)) on h = absurd h
    ended_so left now failed (Err (NotQuiet number)) on h = absurd h

    abbrev AreSame : Option (List ℕ) → Option (List ℕ) → List ℕ → List ℕ → Result ℕ ToolFault → Result ℕ ToolFault → Type 0
    AreSame one_left other_left one other r s = (r ≡ s) × (one ≡ other) × (one_left ≡ other_left)

    long_or_not : (n : ℕ) → n ≤ limit → limit < n → ⊥
    long_or_not n h g = omega (arith, h, g)

    ended_once : (one_left other_left : Option (List ℕ)) (one other : List ℕ) (r s : Result ℕ ToolFault)
        → EndedSo one_left one r → EndedSo other_left other s → AreSame one_left other_left one other r s
    ended_once one_left other_left one other r s (inl h) (inl g) =
        let same = shows_once form (lines_of bytes) h.entries g.entries h.shown g.shown in (
          h.is ∙ ap (λ (es : List Told). Ok (status_of es)) same ∙ sym g.is,
          h.written ∙ ap (λ (es : List Told). start ++ report_text form es) same ∙ sym g.written,
          h.ended ∙ sym g.ended,
        )
    ended_once one_left other_left one other r s (inl h) (inr (inl g)) = absurd (not_both form (lines_of bytes) h.entries g.number h.shown g.stops)
    ended_once one_left other_left one other r s (inl h) (inr (inr g)) = absurd (long_or_not (length bytes) h.within g.more)
    ended_once one_left other_left one other r s (inr (inl h)) (inl g) = absurd (not_both form (lines_of bytes) g.entries h.number g.shown h.stops)
    ended_once one_left other_left one other r s (inr (inl h)) (inr (inl g)) = (
      h.is ∙ ap (λ (n : ℕ). Err (BadStep n)) (stops_once (lines_of bytes) h.number g.number h.stops g.stops) ∙ sym g.is,
      h.written ∙ sym g.written,
      h.ended ∙ sym g.ended,
    )
    ended_once one_left other_left one other r s (inr (inl h)) (inr (inr g)) = absurd (long_or_not (length bytes) h.within g.more)
    ended_once one_left other_left one other r s (inr (inr h)) (inl g) = absurd (long_or_not (length bytes) g.within h.more)
    ended_once one_left other_left one other r s (inr (inr h)) (inr (inl g)) = absurd (long_or_not (length bytes) g.within h.more)
    ended_once one_left other_left one other r s (inr (inr h)) (inr (inr g)) = (h.is ∙ sym g.is, h.written ∙ sym g.written, h.rest ∙ sym g.rest)

  pub by_lines : (words : List (List ℕ)) (one_left other_left : Option (List ℕ)) (one other : List ℕ) (one_failed other_failed : Bool) (r s : Result ℕ ToolFault)
      → (WasStopped r → ⊥) → (WasStopped s → ⊥)
      → Tests Shows Stops limit words (Some bytes) one_left (Some start) (Some one) one_failed r
      → Tests Shows Stops limit words (Some bytes) other_left (Some start) (Some other) other_failed s
      → (r ≡ s) × (one ≡ other) × (one_left ≡ other_left)
  by_lines words one_left other_left one other one_failed other_failed r s on too (inl h) (inl g) =
      let form = h.0 in
      let ends = subst (λ (f : Form). Ends (Shows f) Stops limit (Some bytes) other_left f (Some start) (Some other) other_failed s)
      (form_once words g.0 form g.1 h.1) g.2 in
      ended_once form one_left other_left one other r s (ended_so form one_left one one_failed r on h.2) (ended_so form other_left other other_failed s too ends)
  by_lines words one_left other_left one other one_failed other_failed r s on too (inl h) (inr g) = absurd (g.0 h.0 h.1)
  by_lines words one_left other_left one other one_failed other_failed r s on too (inr h) (inl g) = absurd (h.0 g.0 g.1)
  by_lines words one_left other_left one other one_failed other_failed r s on too (inr h) (inr g) = (
    h.1.fault ∙ sym g.1.fault,
    h.1.written ∙ sym g.1.written,
    left_as_it_was bytes one_left h.1.read ∙ sym (left_as_it_was bytes other_left g.1.read),
  )
