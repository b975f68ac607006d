-- Bytes that are heard piece by piece.
use Rattle.osdp_device.proofs.Common.{◌≡◌, ℕ, ◌+◌, ◌-◌, ◌*◌, ◌<◌, ◌≤◌, ◌==◌, not, max, nat_le, Bool, true, false, cond, min, List, [], ◌∷◌, ◌++◌, length, take, drop, refl, sym, subst, ap, ◌∙◌, arith, append_assoc, append-nil, length-drop, take-append-drop, drop-drop, leb-true, AreBytes, RunItem, item_size, total_size, IsReading, Held, decided, later, after_gap, new_run, taken_count, items, left_over, AreBytes-append, AreBytes-drop, AreBytes-take, items_nothing, left_is, left_over-append, left_same, some_ended, still_ended, decided_nothing, items_undecided, items-append, left_undecided, undecided_small, is_reading, Command, Answer, ReaderState, IsAllRead, IsReceived, Received, after_take, comes_in, ends_run, ends_silent, is_silent, seen, Said, after_item, said_of, after_items, after_all, items_of, listed, said_to_all, Heard, NeedsFewerTurns, TakesInTurn, hears_bytes, reads_all, reads_on, then_hears, then_reads, turns_left}
use Rattle.osdp_frame.proofs.Decided.{AreBytes-front}
use Rattle.osdp_device.proofs.Turning.{splits}

-- ---- what is held after all items

after_open : (parts : List RunItem) (bytes : List ℕ) → after_all (record { bytes = bytes; ended = false }) parts ≡ record { bytes = drop (total_size parts) bytes; ended = false }
after_open [] bytes = refl
after_open (part ∷ parts) bytes =
    after_open parts (drop (item_size part) bytes)
    ∙ ap (λ (l : List ℕ). record { bytes = l; ended = false }) (drop-drop (total_size parts) (item_size part) bytes)

all_after_items : (bytes : List ℕ) → after_all (record { bytes = bytes; ended = false }) (items false bytes) ≡ record { bytes = left_over bytes; ended = false }
all_after_items bytes = after_open (items false bytes) bytes ∙ ap (λ (l : List ℕ). record { bytes = l; ended = false }) (left_is bytes)

pub after_ended : (parts : List RunItem) (bytes : List ℕ) → AreBytes bytes → items true bytes ≡ parts
    → after_all (record { bytes = bytes; ended = not (length bytes == 0) }) parts ≡ new_run
after_ended [] bytes fits are =
    let nil : bytes ≡ [] = subst (λ l. IsReading bytes l) are (is_reading bytes fits) in
    ap (λ (l : List ℕ). record { bytes = l; ended = not (length l == 0) }) nil
after_ended (part ∷ parts) [] fits are = absurd (let e = sym (items_nothing true) ∙ are in cc)
after_ended (part ∷ parts) (b ∷ bytes) fits are =
    let rest = drop (item_size part) (b ∷ bytes) in
    let others : items true rest ≡ parts =
    sym (still_ended true rest) ∙ splits (record { bytes = b ∷ bytes; ended = true }) part parts are in
    ap (λ (e : Bool). after_all (record { bytes = b ∷ bytes; ended = e }) (part ∷ parts)) (some_ended b bytes)
    ∙ after_ended parts rest (AreBytes-drop (item_size part) (b ∷ bytes) fits) others

-- nothing is left of a run that is over
over : (bytes : List ℕ) → AreBytes bytes → 0 < length bytes → after_all (record { bytes = bytes; ended = true }) (items true bytes) ≡ new_run
over [] fits some = absurd (omega arith)
over (b ∷ bytes) fits some =
    ap (λ (e : Bool). after_all (record { bytes = b ∷ bytes; ended = e }) (items true (b ∷ bytes))) (sym (some_ended b bytes))
    ∙ after_ended (items true (b ∷ bytes)) (b ∷ bytes) fits refl

-- ---- moments

no_less : (a b : ℕ) → 1 ≤ a → b ≡ 0 → nat_le a b ≡ false
no_less a b some none = by_test (nat_le a b) refl
  where
    by_test : (t : Bool) → nat_le a b ≡ t → nat_le a b ≡ false
    by_test false is = is
    by_test true is = absurd (let le = leb-true a b is in omega (arith, le))

max_same : (a b : ℕ) → b ≤ a → max a b ≡ a
max_same a b le = omega arith

max_twice : (a b : ℕ) → max (max a b) b ≡ max a b
max_twice a b = max_same (max a b) b (omega arith)

seen_again : (now : ℕ) (l : Received) → now ≤ l.greatest → seen now l ≡ l
seen_again now l le = ap (λ (n : ℕ). record l { greatest = n }) (max_same l.greatest now le)

seen_twice : (now : ℕ) (l : Received) → seen now (seen now l) ≡ seen now l
seen_twice now l = ap (λ (n : ℕ). record l { greatest = n }) (max_twice l.greatest now)

max_later : (a b c : ℕ) → b ≤ c → max (max a b) c ≡ max a c
max_later a b c le = omega (arith, le)

-- a moment that was seen before a later one
seen_later : (before now : ℕ) (l : Received) → before ≤ now → seen now (seen before l) ≡ seen now l
seen_later before now l le = ap (λ (n : ℕ). record l { greatest = n }) (max_later l.greatest before now le)

-- what holds of a line before bytes come in
record IsBefore (now : ℕ) (l : Received) : Type 0 where
  gap : 1 ≤ l.gap
  bytes : AreBytes l.held.bytes
  seen : now ≤ l.greatest

before_silent : (now : ℕ) (l : Received) → IsReceived l → IsBefore now (ends_silent (seen now l))
before_silent now l is = by_test (is_silent (seen now l))
  where
    by_test : (t : Bool) → IsBefore now (cond t (ends_run (seen now l)) (seen now l))
    by_test true = record { gap = is.gap; bytes = is.bytes; seen = omega arith }
    by_test false = record { gap = is.gap; bytes = is.bytes; seen = omega arith }

AreBytes-later : (parts : List RunItem) (held : Held) → AreBytes held.bytes → AreBytes (after_all held parts).bytes
AreBytes-later [] held fits = fits
AreBytes-later (part ∷ parts) held fits = AreBytes-later parts (later held part) (AreBytes-drop (item_size part) held.bytes fits)

module _ {H : Type 0} (answer_of : H → Command → Answer) (after : H → Command → H) where
  -- ---- items one list after the other

  after_items-append : (xs ys : List RunItem) (r : ReaderState H) → after_items answer_of after (xs ++ ys) r ≡ after_items answer_of after ys (after_items answer_of after xs r)
  after_items-append [] ys r = refl
  after_items-append (x ∷ xs) ys r = after_items-append xs ys (after_item answer_of after x r)

  said_to_all-append : (xs ys : List RunItem) (r : ReaderState H)
      → said_to_all answer_of after (xs ++ ys) r ≡ said_to_all answer_of after xs r ++ said_to_all answer_of after ys (after_items answer_of after xs r)
  said_to_all-append [] ys r = refl
  said_to_all-append (x ∷ xs) ys r =
      let heard = after_item answer_of after x r in
      ap (λ l. listed (said_of answer_of after x r) ++ l) (said_to_all-append xs ys heard)
      ∙ sym (append_assoc (listed (said_of answer_of after x r)) (said_to_all answer_of after xs heard) (said_to_all answer_of after ys (after_items answer_of after xs heard)))

  heard_same : (s t : List Said) (r q : ReaderState H) (l m : Received) → s ≡ t → r ≡ q → l ≡ m
      → ◌≡◌ {A = Heard H} (record { said = s; reader = r; line = l }) (record { said = t; reader = q; line = m })
  heard_same s t r q l m a b c = (λ i. record { said = a i; reader = b i; line = c i })

  -- ---- bytes of a run that goes on

  reads_on-append : (xs ys : List ℕ) (r : ReaderState H) (l : Received) → AreBytes l.held.bytes → AreBytes (xs ++ ys)
      → then_reads answer_of after ys (reads_on answer_of after xs r l) ≡ reads_on answer_of after (xs ++ ys) r l
  reads_on-append xs ys r l held fits =
      let k = l.held.bytes in
      let whole : (k ++ xs) ++ ys ≡ k ++ (xs ++ ys) = append_assoc k xs ys in
      let all : AreBytes ((k ++ xs) ++ ys) = subst AreBytes (sym whole) (AreBytes-append k (xs ++ ys) held fits) in
      let a : List RunItem = items false (k ++ xs) in
      let b : List RunItem = items false (left_over (k ++ xs) ++ ys) in
      let split : a ++ b ≡ items false (k ++ (xs ++ ys)) = sym (items-append false (k ++ xs) ys all) ∙ ap (items false) whole in
      let left : left_over (left_over (k ++ xs) ++ ys) ≡ left_over (k ++ (xs ++ ys)) = sym (left_over-append (k ++ xs) ys all) ∙ ap left_over whole in
      heard_same _ _ _ _ _ _
      (sym (said_to_all-append a b r) ∙ ap (λ parts. said_to_all answer_of after parts r) split)
      (sym (after_items-append a b r) ∙ ap (λ parts. after_items answer_of after parts r) split)
      (ap (λ (n : List ℕ). record l { held = record { bytes = n; ended = false }; last = l.greatest }) left)

  -- bytes that were pushed, and all items read
  reads_pushed : (given : List ℕ) (r : ReaderState H) (l : Received) → l.held.ended ≡ false
      → reads_all answer_of after r (comes_in given l) ≡ reads_on answer_of after (take (taken_count l.held given) given) r l
  reads_pushed given r l on =
      let b1 = l.held.bytes ++ take (taken_count l.held given) given in
      ap (λ (e : Bool). reads_all answer_of after r (record l { held = record { bytes = b1; ended = e }; last = l.greatest })) on
      ∙ ap (λ (h : Held). record {
        said = said_to_all answer_of after (items false b1) r;
        reader = after_items answer_of after (items false b1) r;
        line = record l { held = h; last = l.greatest };
      }) (all_after_items b1)

  -- nothing is read where all was
  reads_nothing : (r : ReaderState H) (l : Received) → IsAllRead l → reads_all answer_of after r l ≡ record { said = []; reader = r; line = l }
  reads_nothing r l all =
      let none : items_of l.held ≡ [] = ap (λ e. items e l.held.bytes) all.goes_on ∙ items_undecided false l.held.bytes all.undecided in
      ap (λ parts. record {
        said = said_to_all answer_of after parts r;
        reader = after_items answer_of after parts r;
        line = record l { held = after_all l.held parts };
      }) none

  -- a run that is over is read to its end
  reads_over : (r : ReaderState H) (l : Received) → AreBytes l.held.bytes → l.held.ended ≡ true → 0 < length l.held.bytes
      → reads_all answer_of after r l ≡ record {
        said = said_to_all answer_of after (items true l.held.bytes) r;
        reader = after_items answer_of after (items true l.held.bytes) r;
        line = record l { held = new_run };
      }
  reads_over r l fits ended some =
      ap (λ (e : Bool). reads_all answer_of after r (record l { held = record { bytes = l.held.bytes; ended = e } })) ended
      ∙ ap (λ (h : Held). record {
        said = said_to_all answer_of after (items true l.held.bytes) r;
        reader = after_items answer_of after (items true l.held.bytes) r;
        line = record l { held = h };
      }) (over l.held.bytes fits some)

  -- ---- bytes at the moment of the last ones

  pub record IsSettled (now : ℕ) (l : Received) : Type 0 where
    pub gap : 1 ≤ l.gap
    pub seen : now ≤ l.greatest
    pub last : l.last ≡ l.greatest
    pub read : IsAllRead l

  hears_settled : (bytes : List ℕ) (now : ℕ) (r : ReaderState H) (l : Received) → IsSettled now l
      → hears_bytes answer_of after bytes now r l ≡ reads_on answer_of after bytes r l
  hears_settled [] now r l is =
      let k = l.held.bytes in
      let none : items false (k ++ []) ≡ [] = ap (items false) (append-nil k) ∙ items_undecided false k is.read.undecided in
      let left : left_over (k ++ []) ≡ k = ap left_over (append-nil k) ∙ left_same k is.read.undecided in
      ap (reads_all answer_of after r) (seen_again now l is.seen) ∙ reads_nothing r l is.read
      ∙ heard_same _ _ _ _ _ _ (ap (λ parts. said_to_all answer_of after parts r) (sym none)) (ap (λ parts. after_items answer_of after parts r) (sym none))
      (λ i. record l { held = record { bytes = sym left i; ended = is.read.goes_on i }; last = is.last i })
  hears_settled (b ∷ bytes) now r l is =
      let same : ends_silent (seen now l) ≡ l =
      ap ends_silent (seen_again now l is.seen) ∙ ap (λ t. cond t (record l { held = after_gap l.held }) l) (no_less l.gap (l.greatest - l.last) is.gap (omega (arith, is.last))) in
      ap (λ m. then_reads answer_of after (b ∷ bytes) (reads_all answer_of after r m)) same
      ∙ ap (then_reads answer_of after (b ∷ bytes)) (reads_nothing r l is.read)

  settled_on : (bytes : List ℕ) (now : ℕ) (r : ReaderState H) (l : Received) → IsBefore now l → AreBytes bytes
      → IsSettled now (reads_on answer_of after bytes r l).line
  settled_on bytes now r l is fits = record {
    gap = is.gap;
    seen = is.seen;
    last = refl;
    read = record { goes_on = refl; undecided = left_undecided (l.held.bytes ++ bytes) (AreBytes-append l.held.bytes bytes is.bytes fits) };
  }

  -- ---- bytes that are taken in turn

  then_settled : (bytes : List ℕ) (now : ℕ) (h : Heard H) → IsSettled now h.line → then_hears answer_of after bytes now h ≡ then_reads answer_of after bytes h
  then_settled bytes now h is = ap (λ (x : Heard H). record x { said = h.said ++ x.said }) (hears_settled bytes now h.reader h.line is)

  takes_open : (given : List ℕ) (now : ℕ) (r : ReaderState H) (l : Received) → IsBefore now l → AreBytes given → IsAllRead l
      → then_hears answer_of after (drop (taken_count l.held given) given) now (reads_all answer_of after r (comes_in given l))
      ≡ then_reads answer_of after given (reads_all answer_of after r l)
  takes_open given now r l is fits all =
      let c = taken_count l.held given in
      let xs = take c given in
      let ys = drop c given in
      let parts : xs ++ ys ≡ given = take-append-drop c given in
      ap (then_hears answer_of after ys now) (reads_pushed given r l all.goes_on)
      ∙ then_settled ys now (reads_on answer_of after xs r l) (settled_on xs now r l is (AreBytes-take c given fits))
      ∙ reads_on-append xs ys r l is.bytes (subst AreBytes (sym parts) fits)
      ∙ ap (λ b. reads_on answer_of after b r l) parts
      ∙ sym (ap (then_reads answer_of after given) (reads_nothing r l all))

  -- before a run that is over has been read no bytes come in, and all that is held is read to its end
  abbrev read_out : (k : List ℕ) (r : ReaderState H) (l : Received) → Heard H
  read_out k r l = record {
    said = said_to_all answer_of after (items true k) r;
    reader = after_items answer_of after (items true k) r;
    line = record l { held = new_run; last = l.greatest };
  }

  reads_out : {A : Type 0} (f : List ℕ → Heard H → A) (k given : List ℕ) (r : ReaderState H) (l : Received) → l.held ≡ record { bytes = k; ended = true }
      → AreBytes l.held.bytes → 0 < length k
      → f (drop (taken_count l.held given) given) (reads_all answer_of after r (comes_in given l)) ≡ f given (read_out k r l)
  reads_out f k given r l held bytes some =
      let fits : AreBytes k = subst AreBytes (ap (λ (h : Held). h.bytes) held) bytes in
      let here : Received = record l { held = record { bytes = k; ended = true } } in
      let same : l ≡ here = ap (λ (h : Held). record l { held = h }) held in
      let taken : comes_in given here ≡ record here { last = l.greatest } =
      ap (λ (n : List ℕ). record l { held = record { bytes = n; ended = true }; last = l.greatest }) (append-nil k) in
      ap (λ m. f (drop (taken_count m.held given) given) (reads_all answer_of after r (comes_in given m))) same
      ∙ ap (λ m. f given (reads_all answer_of after r m)) taken
      ∙ ap (f given) (reads_over r (record here { last = l.greatest }) fits refl some)

  settled_out : (now : ℕ) (l : Received) → IsBefore now l → IsSettled now (record l { held = new_run; last = l.greatest })
  settled_out now l is =
      record { gap = is.gap; seen = is.seen; last = refl; read = record { goes_on = refl; undecided = decided_nothing false } }

  takes_over : (k given : List ℕ) (now : ℕ) (r : ReaderState H) (l : Received) → l.held ≡ record { bytes = k; ended = true }
      → IsBefore now l → 0 < length k
      → then_hears answer_of after (drop (taken_count l.held given) given) now (reads_all answer_of after r (comes_in given l))
      ≡ then_reads answer_of after given (reads_all answer_of after r l)
  takes_over k given now r l held is some =
      let here : Received = record l { held = record { bytes = k; ended = true } } in
      reads_out (λ left h. then_hears answer_of after left now h) k given r l held is.bytes some
      ∙ then_settled given now (read_out k r l) (settled_out now l is)
      ∙ sym (ap (then_reads answer_of after given) (reads_over r here (subst AreBytes (ap (λ (h : Held). h.bytes) held) is.bytes) refl some))
      ∙ sym (ap (λ (h : Held). then_reads answer_of after given (reads_all answer_of after r (record l { held = h }))) held)

  takes_ended : (k given : List ℕ) (now : ℕ) (r : ReaderState H) (l : Received) → l.held ≡ record { bytes = k; ended = not (length k == 0) }
      → IsBefore now l → AreBytes given
      → then_hears answer_of after (drop (taken_count l.held given) given) now (reads_all answer_of after r (comes_in given l))
      ≡ then_reads answer_of after given (reads_all answer_of after r l)
  takes_ended [] given now r l held is fits =
      takes_open given now r l is fits (record {
        goes_on = ap (λ (h : Held). h.ended) held;
        undecided = ap (λ (h : Held). decided false h.bytes) held ∙ decided_nothing false;
      })
  takes_ended (x ∷ k) given now r l held is fits =
      takes_over (x ∷ k) given now r l (held ∙ ap (λ (e : Bool). record { bytes = x ∷ k; ended = e }) (some_ended x k)) is (omega arith)

  pub takes_in_turn : (bytes : List ℕ) (now : ℕ) (r : ReaderState H) (l : Received) → IsReceived l → IsAllRead l → AreBytes bytes
      → TakesInTurn answer_of after bytes now r l
  takes_in_turn [] now r l is all fits =
      let read : IsAllRead (seen now l) = record { goes_on = all.goes_on; undecided = all.undecided } in
      ap (then_hears answer_of after [] now) (reads_nothing r (seen now l) read) ∙ ap (reads_all answer_of after r) (seen_twice now l)
  takes_in_turn (b ∷ bytes) now r l is all fits = by_test (is_silent (seen now l)) refl
    where
      given : List ℕ
      given = b ∷ bytes

      by_test : (t : Bool) → is_silent (seen now l) ≡ t
          → let m = cond t (ends_run (seen now l)) (seen now l) in
          then_hears answer_of after (drop (taken_count m.held given) given) now (reads_all answer_of after r (comes_in given m))
          ≡ then_reads answer_of after given (reads_all answer_of after r m)
      by_test true test = takes_ended l.held.bytes given now r (ends_run (seen now l)) refl (record { gap = is.gap; bytes = is.bytes; seen = omega arith }) fits
      by_test false test = takes_open given now r (seen now l) (record { gap = is.gap; bytes = is.bytes; seen = omega arith }) fits
          (record { goes_on = all.goes_on; undecided = all.undecided })

  -- ---- bytes in pieces

  hears_later : (bytes : List ℕ) (before now : ℕ) (r : ReaderState H) (l : Received) → before ≤ now
      → hears_bytes answer_of after bytes now r (seen before l) ≡ hears_bytes answer_of after bytes now r l
  hears_later [] before now r l le = ap (reads_all answer_of after r) (seen_later before now l le)
  hears_later (b ∷ bytes) before now r l le =
      ap (λ m. then_reads answer_of after (b ∷ bytes) (reads_all answer_of after r (ends_silent m))) (seen_later before now l le)

  pub same_in_pieces : (xs ys : List ℕ) (now : ℕ) (r : ReaderState H) (l : Received) → IsReceived l → IsAllRead l → AreBytes (xs ++ ys)
      → then_hears answer_of after ys now (hears_bytes answer_of after xs now r l) ≡ hears_bytes answer_of after (xs ++ ys) now r l
  same_in_pieces [] ys now r l is all fits =
      let read : IsAllRead (seen now l) = record { goes_on = all.goes_on; undecided = all.undecided } in
      ap (then_hears answer_of after ys now) (reads_nothing r (seen now l) read) ∙ hears_later ys now now r l (omega arith)
  same_in_pieces (x ∷ xs) ys now r l is all fits =
      let first = x ∷ xs in
      let l1 = ends_silent (seen now l) in
      let h = reads_all answer_of after r l1 in
      let before = before_silent now l is in
      let bytes : AreBytes h.line.held.bytes = AreBytes-later (items_of l1.held) l1.held before.bytes in
      let here : IsBefore now h.line = record { gap = before.gap; bytes = bytes; seen = before.seen } in
      let a = reads_on answer_of after first h.reader h.line in
      let b = reads_on answer_of after ys a.reader a.line in
      let both : then_reads answer_of after ys a ≡ reads_on answer_of after (first ++ ys) h.reader h.line = reads_on-append first ys h.reader h.line bytes fits in
      then_settled ys now (then_reads answer_of after first h) (settled_on first now h.reader h.line here (AreBytes-front first ys fits))
      ∙ heard_same _ _ _ _ _ _ (append_assoc h.said a.said b.said) refl refl
      ∙ ap (λ (x : Heard H). record x { said = h.said ++ x.said }) both

  pub all_read_after : (bytes : List ℕ) (now : ℕ) (r : ReaderState H) (l : Received) → IsReceived l → IsAllRead l → AreBytes bytes
      → IsAllRead (hears_bytes answer_of after bytes now r l).line
  all_read_after [] now r l is all fits =
      let read : IsAllRead (seen now l) = record { goes_on = all.goes_on; undecided = all.undecided } in
      subst (λ (h : Heard H). IsAllRead h.line) (sym (reads_nothing r (seen now l) read)) read
  all_read_after (b ∷ bytes) now r l is all fits =
      let l1 = ends_silent (seen now l) in
      let h = reads_all answer_of after r l1 in
      let before = before_silent now l is in
      let fit : AreBytes h.line.held.bytes = AreBytes-later (items_of l1.held) l1.held before.bytes in
      (settled_on (b ∷ bytes) now h.reader h.line (record { gap = before.gap; bytes = fit; seen = before.seen }) fits).read

  -- a read of none, at whatever moment
  pub none_between : (bytes : List ℕ) (before now : ℕ) (r : ReaderState H) (l : Received) → before ≤ now → IsAllRead l
      → then_hears answer_of after bytes now (hears_bytes answer_of after [] before r l) ≡ hears_bytes answer_of after bytes now r l
  none_between bytes before now r l le all =
      let read : IsAllRead (seen before l) = record { goes_on = all.goes_on; undecided = all.undecided } in
      ap (then_hears answer_of after bytes now) (reads_nothing r (seen before l) read) ∙ hears_later bytes before now r l le

  -- ---- turns

  -- where all that is held is read, nothing more is decided
  pub all_read : (r : ReaderState H) (l : Received) → IsReceived l → IsAllRead (reads_all answer_of after r l).line
  all_read r l is = by_ended l.held.ended refl
    where
      by_ended : (e : Bool) → l.held.ended ≡ e → IsAllRead (reads_all answer_of after r l).line
      by_ended true ended =
          subst (λ (h : Heard H). IsAllRead h.line) (sym (reads_over r l is.bytes ended (is.some ended)))
          (record { goes_on = refl; undecided = decided_nothing false })
      by_ended false on =
          let left : after_all l.held (items_of l.held) ≡ record { bytes = left_over l.held.bytes; ended = false } =
          ap (λ (e : Bool). after_all (record { bytes = l.held.bytes; ended = e }) (items e l.held.bytes)) on ∙ all_after_items l.held.bytes in
          record {
            goes_on = ap (λ (h : Held). h.ended) left;
            undecided = ap (λ (h : Held). decided false h.bytes) left ∙ left_undecided l.held.bytes is.bytes;
          }

  abbrev turn_in : (given : List ℕ) (l : Received) → ℕ
  turn_in given l = 2 * length given + cond l.held.ended 1 0

  settled_turns : (given : List ℕ) (now : ℕ) (l : Received) → IsSettled now l → turns_left given now l ≡ 2 * length given
  settled_turns given now l is =
      let same : ends_silent (seen now l) ≡ l =
      ap ends_silent (seen_again now l is.seen) ∙ ap (λ t. cond t (record l { held = after_gap l.held }) l) (no_less l.gap (l.greatest - l.last) is.gap (omega (arith, is.last))) in
      ap (turn_in given) same ∙ ap (λ (e : Bool). 2 * length given + cond e 1 0) is.read.goes_on ∙ omega arith

  fewer_open : (given : List ℕ) (now : ℕ) (r : ReaderState H) (l : Received) → IsBefore now l → AreBytes given → IsAllRead l → 0 < length given
      → turns_left (drop (taken_count l.held given) given) now (reads_all answer_of after r (comes_in given l)).line < turn_in given l
  fewer_open given now r l is fits all some =
      let c = taken_count l.held given in
      let small = undecided_small l.held.bytes all.undecided in
      let count : c ≡ min (length given) (1440 - length l.held.bytes) = ap (λ (e : Bool). cond e 0 (min (length given) (1440 - length l.held.bytes))) all.goes_on in
      let turns : turns_left (drop c given) now (reads_all answer_of after r (comes_in given l)).line ≡ 2 * length (drop c given) =
      ap (λ (h : Heard H). turns_left (drop c given) now h.line) (reads_pushed given r l all.goes_on)
      ∙ settled_turns (drop c given) now _ (settled_on (take c given) now r l is (AreBytes-take c given fits)) in
      let mine : turn_in given l ≡ 2 * length given = ap (λ (e : Bool). 2 * length given + cond e 1 0) all.goes_on ∙ omega arith in
      omega (arith, turns, mine, count, small, some, length-drop c given)

  fewer_over : (k given : List ℕ) (now : ℕ) (r : ReaderState H) (l : Received) → l.held ≡ record { bytes = k; ended = true }
      → IsBefore now l → 0 < length k
      → turns_left (drop (taken_count l.held given) given) now (reads_all answer_of after r (comes_in given l)).line < turn_in given l
  fewer_over k given now r l held is some =
      let turns : turns_left (drop (taken_count l.held given) given) now (reads_all answer_of after r (comes_in given l)).line ≡ 2 * length given =
      reads_out (λ left h. turns_left left now h.line) k given r l held is.bytes some ∙ settled_turns given now _ (settled_out now l is) in
      let mine : turn_in given l ≡ 2 * length given + 1 = ap (λ (h : Held). turn_in given (record l { held = h })) held in
      omega (arith, turns, mine)

  fewer_ended : (k given : List ℕ) (now : ℕ) (r : ReaderState H) (l : Received) → l.held ≡ record { bytes = k; ended = not (length k == 0) }
      → IsBefore now l → AreBytes given → 0 < length given
      → turns_left (drop (taken_count l.held given) given) now (reads_all answer_of after r (comes_in given l)).line < turn_in given l
  fewer_ended [] given now r l held is fits some =
      fewer_open given now r l is fits (record {
        goes_on = ap (λ (h : Held). h.ended) held;
        undecided = ap (λ (h : Held). decided false h.bytes) held ∙ decided_nothing false;
      }) some
  fewer_ended (x ∷ k) given now r l held is fits some =
      fewer_over (x ∷ k) given now r l (held ∙ ap (λ (e : Bool). record { bytes = x ∷ k; ended = e }) (some_ended x k)) is (omega arith)

  pub fewer_turns : (bytes : List ℕ) (now : ℕ) (r : ReaderState H) (l : Received) → IsReceived l → IsAllRead l → AreBytes bytes → 0 < length bytes
      → NeedsFewerTurns answer_of after bytes now r l
  fewer_turns [] now r l is all fits some = absurd (omega arith)
  fewer_turns (b ∷ bytes) now r l is all fits some = by_test (is_silent (seen now l)) refl
    where
      given : List ℕ
      given = b ∷ bytes

      by_test : (t : Bool) → is_silent (seen now l) ≡ t
          → let m = cond t (ends_run (seen now l)) (seen now l) in
          turns_left (drop (taken_count m.held given) given) now (reads_all answer_of after r (comes_in given m)).line < turn_in given m
      by_test true test = fewer_ended l.held.bytes given now r (ends_run (seen now l)) refl (record { gap = is.gap; bytes = is.bytes; seen = omega arith }) fits (omega arith)
      by_test false test = fewer_open given now r (seen now l) (record { gap = is.gap; bytes = is.bytes; seen = omega arith }) fits
          (record { goes_on = all.goes_on; undecided = all.undecided }) (omega arith)

  -- a last turn, after which no bytes are left
  pub last_turn : (now : ℕ) (h : Heard H) → IsAllRead h.line → now ≤ h.line.greatest
      → then_hears answer_of after [] now h ≡ h
  last_turn now h all le =
      ap (λ (x : Heard H). record x { said = h.said ++ x.said }) (ap (reads_all answer_of after h.reader) (seen_again now h.line le) ∙ reads_nothing h.reader h.line all)
      ∙ ap (λ (s : List Said). record h { said = s }) (append-nil h.said)

  pub seen_in_turn : (bytes : List ℕ) (now : ℕ) (r : ReaderState H) (l : Received) → now ≤ (reads_all answer_of after r (after_take bytes now l)).line.greatest
  seen_in_turn [] now r l = omega arith
  seen_in_turn (b ∷ bytes) now r l = by_test (is_silent (seen now l))
    where
      by_test : (t : Bool) → now ≤ (cond t (ends_run (seen now l)) (seen now l)).greatest
      by_test true = omega arith
      by_test false = omega arith
