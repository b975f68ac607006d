-- What a machine whose answers are given by what it is and by the line says to an input.
use Rattle.std.specs.Prelude.{◌≡◌, ℕ, ◌≤◌, Bool, true, false, List, [], ◌∷◌, ◌++◌, length, take, Option, Some, Result, Ok, Err}
use Rattle.osdp_tool_streams.specs.Cut.{ended_lines, lines_of}
use Rattle.osdp_tool_streams.specs.declared.fault.ToolFault.{ToolFault}
use Rattle.osdp_tool_streams.specs.declared.fault.ToolFault.TheVariants.{NotHex, TooLong, BadWords, BadStep}
use Rattle.osdp_tool_streams.specs.declared.fault.ToolFault.TheVariants.{HoldsPacket, NotQuiet, ReadFailed}
use Rattle.osdp_tool_streams.specs.declared.fault.ToolFault.TheVariants.{WriteFailed, NoMemory}
use Rattle.osdp_line_answers.specs.Answers.{Answering, heard}
use Rattle.osdp_line_answers.specs.Ending.{Ends}
use Rattle.osdp_line_answers.specs.Steps.{most_reads}

module _ {M : Type 0} (answer_to : M → List ℕ → List ℕ) (after_line : M → List ℕ → M) where
  -- it answers a line so, and is this after it
  abbrev pub AnswersBy : Answering M
  AnswersBy old line answer new = (answer ≡ answer_to old line) × (new ≡ after_line old line)

  -- the answers to lines, each as the lines before it have left the machine
  unfoldable pub answers_to : M → List (List ℕ) → List ℕ
  answers_to m [] = []
  answers_to m (line ∷ lines) = answer_to m (heard line) ++ answers_to (after_line m (heard line)) lines

  unfoldable pub after_lines : M → List (List ℕ) → M
  after_lines m [] = m
  after_lines m (line ∷ lines) = after_lines (after_line m (heard line)) lines

  -- lines of a front of the input were answered, and this many bytes of what they were answered were written
  pub record IsAnsweredInPart (first : M) (bytes start now : List ℕ) (after : Option (List ℕ)) : Type 0 where
    pub read : List ℕ
    pub rest : List ℕ
    pub whole : bytes ≡ read ++ rest
    pub left : after ≡ Some rest
    pub front : List (List ℕ)
    pub others : List (List ℕ)
    pub split : lines_of read ≡ front ++ others
    pub count : ℕ
    pub written : now ≡ start ++ take count (answers_to first front)

  -- all lines that ended in a front of it were
  pub record IsAnsweredSoFar (first last : M) (bytes start now : List ℕ) (after : Option (List ℕ)) : Type 0 where
    pub read : List ℕ
    pub rest : List ℕ
    pub whole : bytes ≡ read ++ rest
    pub left : after ≡ Some rest
    pub written : now ≡ start ++ answers_to first (ended_lines read)
    pub last_is : last ≡ after_lines first (ended_lines read)

  -- By the answer: at the end of the input each of its lines was answered once, in its turn, and nothing else was written.
  abbrev pub AnsweredBy : M → M → List ℕ → Option (List ℕ) → Bool → List ℕ → List ℕ → Bool → Result (Unit {0}) ToolFault → Type 0
  AnsweredBy first last bytes after input_failed start now failed (Ok done) =
      (now ≡ start ++ answers_to first (lines_of bytes)) × (last ≡ after_lines first (lines_of bytes)) × (after ≡ Some []) × (input_failed ≡ false) × (failed ≡ false)
  AnsweredBy first last bytes after input_failed start now failed (Err ReadFailed) =
      IsAnsweredSoFar first last bytes start now after × (input_failed ≡ true)
  AnsweredBy first last bytes after input_failed start now failed (Err TooLong) =
      IsAnsweredSoFar first last bytes start now after × (most_reads ≤ length bytes) × (input_failed ≡ false) × (failed ≡ false)
  AnsweredBy first last bytes after input_failed start now failed (Err NoMemory) =
      (part : IsAnsweredInPart first bytes start now after) × (now ≡ start ++ answers_to first part.front) × (input_failed ≡ false) × (failed ≡ false)
  AnsweredBy first last bytes after input_failed start now failed (Err WriteFailed) =
      IsAnsweredInPart first bytes start now after × (input_failed ≡ false) × (failed ≡ true)
  AnsweredBy first last bytes after input_failed start now failed (Err BadWords) = ⊥
  AnsweredBy first last bytes after input_failed start now failed (Err (NotHex number)) = ⊥
  AnsweredBy first last bytes after input_failed start now failed (Err (BadStep number)) = ⊥
  AnsweredBy first last bytes after input_failed start now failed (Err (HoldsPacket number)) = ⊥
  AnsweredBy first last bytes after input_failed start now failed (Err (NotQuiet number)) = ⊥

-- whichever machine answers, where the bytes of the streams are known
abbrev pub AnswersEachLine : Type 0 → Type 0
AnswersEachLine M = (answer_to : M → List ℕ → List ℕ) (after_line : M → List ℕ → M) (first last : M) (bytes start now : List ℕ) (after : Option (List ℕ))
    (input_failed failed : Bool) (result : Result (Unit {0}) ToolFault)
    → Ends (AnswersBy answer_to after_line) first last (Some bytes) after input_failed (Some start) (Some now) failed result
    → AnsweredBy answer_to after_line first last bytes after input_failed start now failed result
