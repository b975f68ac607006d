-- What a machine whose answers are given says to an input whose bytes are known.
use Rattle.osdp_line_answers.proofs.Common.{◌≡◌, ◌≤◌, ◌+◌, ℕ, List, [], ◌∷◌, ◌++◌, length, length-append, take, Option, Some, None, Ok, Err, refl, sym, ap, ◌∙◌, arith, append-nil, Consumes, IsAtEnd, ended_lines, lines_of, ToolFault, NotHex, TooLong, BadWords, BadStep, HoldsPacket, NotQuiet, ReadFailed, WriteFailed, NoMemory, Speaks, heard, AllAnswered, SomeAnswered, most_reads}
use Rattle.osdp_line_answers.specs.Laws.{AnswersBy, AnswersEachLine, IsAnsweredInPart, IsAnsweredSoFar, after_lines, answers_to}

-- what was consumed of known bytes is their front
consumed : (bytes read : List ℕ) (after : Option (List ℕ)) → Consumes (Some bytes) after read → (rest : List ℕ) × (after ≡ Some rest) × (bytes ≡ read ++ rest)
consumed bytes read None taken = absurd taken
consumed bytes read (Some rest) taken = (rest, refl, taken)

all_read : (bytes read : List ℕ) (after : Option (List ℕ)) → Consumes (Some bytes) after read → IsAtEnd after → (read ≡ bytes) × (after ≡ Some [])
all_read bytes read None taken end = absurd taken
all_read bytes read (Some rest) taken end = (sym (taken ∙ ap (λ l. read ++ l) end ∙ append-nil read), ap Some end)

module _ {M : Type 0} (answer_to : M → List ℕ → List ℕ) (after_line : M → List ℕ → M) where
  -- what is spoken is what is given
  pub spoken : (first last : M) (lines : List (List ℕ)) (text : List ℕ) → Speaks (AnswersBy answer_to after_line) first lines text last
      → (text ≡ answers_to answer_to after_line first lines) × (last ≡ after_lines answer_to after_line first lines)
  unfolding answers_to after_lines
  spoken first last [] text (none, same) = (none, same)
  spoken first last (line ∷ lines) text (answer, rest, next, (is, leaves), further, whole) =
      let below = spoken next last lines rest further in (
        whole ∙ ap (λ l. l ++ rest) is ∙ ap (λ l. answer_to first (heard line) ++ l) (below.0 ∙ ap (λ m. answers_to answer_to after_line m lines) leaves),
        below.1 ∙ ap (λ m. after_lines answer_to after_line m lines) leaves,
      )

  module _ (first last : M) (bytes start now : List ℕ) (after : Option (List ℕ)) where
    at_end : AllAnswered (AnswersBy answer_to after_line) lines_of first last (Some bytes) after (Some start) (Some now) → IsAtEnd after
        → (now ≡ start ++ answers_to answer_to after_line first (lines_of bytes)) × (last ≡ after_lines answer_to after_line first (lines_of bytes)) × (after ≡ Some [])
    at_end all end =
        let read = all_read bytes all.read after all.taken end in
        let says = spoken first last (lines_of all.read) all.text all.speaks in
        let lines = ap lines_of read.0 in
        (all.written ∙ ap (λ l. start ++ l) (says.0 ∙ ap (answers_to answer_to after_line first) lines), says.1 ∙ ap (after_lines answer_to after_line first) lines, read.1)

    so_far : AllAnswered (AnswersBy answer_to after_line) ended_lines first last (Some bytes) after (Some start) (Some now)
        → IsAnsweredSoFar answer_to after_line first last bytes start now after
    so_far all =
        let c = consumed bytes all.read after all.taken in
        let says = spoken first last (ended_lines all.read) all.text all.speaks in
        record {
          read = all.read;
          rest = c.0;
          whole = c.2;
          left = c.1;
          written = all.written ∙ ap (λ l. start ++ l) says.0;
          last_is = says.1;
        }

    in_part : (fault : ToolFault) → SomeAnswered (AnswersBy answer_to after_line) first (Some bytes) after (Some start) (Some now) fault
        → IsAnsweredInPart answer_to after_line first bytes start now after
    in_part fault some =
        let c = consumed bytes some.read after some.taken in
        let s = some.stops in
        record {
          read = some.read;
          rest = c.0;
          whole = c.2;
          left = c.1;
          front = s.front;
          others = s.others;
          split = s.split;
          count = s.count;
          written = s.written ∙ ap (λ l. start ++ take s.count l) (spoken first s.last s.front s.text s.speaks).0;
        }

    all_in_part : (some : SomeAnswered (AnswersBy answer_to after_line) first (Some bytes) after (Some start) (Some now) NoMemory)
        → now ≡ start ++ answers_to answer_to after_line first some.stops.front
    all_in_part some =
        let s = some.stops in
        s.whole refl ∙ ap (λ l. start ++ l) (spoken first s.last s.front s.text s.speaks).0

    long : (all : AllAnswered (AnswersBy answer_to after_line) ended_lines first last (Some bytes) after (Some start) (Some now)) → most_reads ≤ length all.read
        → most_reads ≤ length bytes
    long all most =
        let c = consumed bytes all.read after all.taken in
        omega (arith, most, ap length c.2, length-append all.read c.0)

pub answers_each_line : {M : Type 0} → AnswersEachLine M
unfolding in_part
answers_each_line answer_to after_line first last bytes start now after input_failed failed (Ok done) e =
    let all = at_end answer_to after_line first last bytes start now after e.0 e.1 in
    (all.0, all.1, all.2, e.2, e.3)
answers_each_line answer_to after_line first last bytes start now after input_failed failed (Err ReadFailed) e =
    (so_far answer_to after_line first last bytes start now after e.0, e.1)
answers_each_line answer_to after_line first last bytes start now after input_failed failed (Err TooLong) e =
    (so_far answer_to after_line first last bytes start now after e.0, long answer_to after_line first last bytes start now after e.0 e.1, e.2, e.3)
answers_each_line answer_to after_line first last bytes start now after input_failed failed (Err NoMemory) e =
    (in_part answer_to after_line first last bytes start now after NoMemory e.0, all_in_part answer_to after_line first last bytes start now after e.0, e.1, e.2)
answers_each_line answer_to after_line first last bytes start now after input_failed failed (Err WriteFailed) e =
    (in_part answer_to after_line first last bytes start now after WriteFailed e.0, e.1, e.2)
answers_each_line answer_to after_line first last bytes start now after input_failed failed (Err BadWords) e = absurd e
answers_each_line answer_to after_line first last bytes start now after input_failed failed (Err (NotHex number)) e = absurd e
answers_each_line answer_to after_line first last bytes start now after input_failed failed (Err (BadStep number)) e = absurd e
answers_each_line answer_to after_line first last bytes start now after input_failed failed (Err (HoldsPacket number)) e = absurd e
answers_each_line answer_to after_line first last bytes start now after input_failed failed (Err (NotQuiet number)) e = absurd e
