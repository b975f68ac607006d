-- How a script ends, in the words of its reader.
use Rattle.std.proofs.Common.{◌≡◌, ◌∙◌, ◌↔◌, ℕ, Bool, true, false, List, [], ◌++◌, take, drop, Some, Result, Ok, Err, inl, inr, refl, sym, ap, subst, append-nil, append_assoc, take-append-drop}
use Rattle.osdp_line_answers.specs.Answers.{Speaks}
use Rattle.osdp_line_answers.specs.Ending.{SomeAnswered}
use Rattle.osdp_test_script.specs.Runs.{ends}
use Rattle.osdp_tool_streams.specs.Cut.{ended_lines, lines_of}
use Rattle.osdp_tool_streams.specs.declared.fault.ToolFault.{ToolFault}
use Rattle.osdp_tool_streams.specs.declared.fault.ToolFault.TheVariants.{NotHex, TooLong, BadWords, BadStep, HoldsPacket, NotQuiet, ReadFailed, WriteFailed, NoMemory}
use Rattle.osdp_tool_script.specs.Answers.{Tells}
use Rattle.osdp_tool_script.specs.Ending.{Ends, IsPart, IsRun, IsStopped, new_script}
use Rattle.osdp_tool_script.specs.InTurn.{EndsInTurn, IsBegun, IsRefusedWhole, IsToldInTurn, IsWhole}

no_failure : false ≡ true → ⊥
no_failure e = cc

-- an answer that tells no failed stream
well : (r : Result ℕ ToolFault) (input output : Bool) → input ≡ false → output ≡ false → (r ≡ Err ReadFailed → ⊥) → (r ≡ Err WriteFailed → ⊥)
    → ((r ≡ Err ReadFailed) ↔ (input ≡ true)) × ((r ≡ Err WriteFailed) ↔ ((input ≡ false) × (output ≡ true)))
well r input output read written no_read no_write = (
  ((λ is. absurd (no_read is)), (λ did. absurd (no_failure (sym read ∙ did)))),
  ((λ is. absurd (no_write is)), (λ did. absurd (no_failure (sym written ∙ did.1)))),
)

all_read : (all left read : List ℕ) → all ≡ read ++ left → left ≡ [] → read ≡ all
all_read all left read taken ended = sym (append-nil read) ∙ ap (λ (l : List ℕ). read ++ l) (sym ended) ∙ sym taken

-- a beginning of a text, after what stood there
begins : (start now text : List ℕ) (count : ℕ) → now ≡ start ++ take count text → start ++ text ≡ now ++ drop count text
begins start now text count is =
    ap (λ (l : List ℕ). start ++ l) (sym (take-append-drop count text))
    ∙ sym (append_assoc start (take count text) (drop count text))
    ∙ ap (λ (l : List ℕ). l ++ drop count text) (sym is)

module _ (all left start now : List ℕ) where
  accepts : (r : Result ℕ ToolFault) → (r ≡ Err BadWords → ⊥) → IsRefusedWhole [] all left start now r
  accepts r good = record {
    refused = ((λ is. absurd (good is)), (λ some. absurd (some refl)));
    unread = λ is. absurd (good is);
    silent = λ is. absurd (good is);
  }

  whole : (r : Result ℕ ToolFault) → IsRun (Some all) (Some left) (Some start) (Some now) r → IsWhole all start now r
  whole r h = record {
    text = h.text;
    last = h.last;
    speaks = subst (λ (l : List ℕ). Speaks Tells new_script (lines_of l) h.text h.last) (all_read all left h.read h.taken h.at_end) h.speaks;
    written = h.written;
    is = h.is;
  }

  begun_run : (r : Result ℕ ToolFault) → IsRun (Some all) (Some left) (Some start) (Some now) r → IsBegun all start now
  begun_run r h = record {
    read = h.read;
    left = left;
    taken = h.taken;
    lines = lines_of h.read;
    others = [];
    first = inl (sym (append-nil (lines_of h.read)));
    text = h.text;
    last = h.last;
    speaks = h.speaks;
    rest = [];
    whole = sym h.written ∙ sym (append-nil now);
  }

  begun_part : IsPart (Some all) (Some left) (Some start) (Some now) → IsBegun all start now
  begun_part h = record {
    read = h.read;
    left = left;
    taken = h.taken;
    lines = lines_of h.read;
    others = [];
    first = inl (sym (append-nil (lines_of h.read)));
    text = h.text;
    last = h.last;
    speaks = h.speaks;
    rest = drop h.count (h.text ++ (ends h.last.run).text);
    whole = begins start now (h.text ++ (ends h.last.run).text) h.count h.written;
  }

  begun_stopped : IsStopped (Some all) (Some left) (Some start) (Some now) → IsBegun all start now
  begun_stopped h = record {
    read = h.all.read;
    left = left;
    taken = h.all.taken;
    lines = ended_lines h.all.read;
    others = [];
    first = inr (sym (append-nil (ended_lines h.all.read)));
    text = h.all.text;
    last = h.last;
    speaks = h.all.speaks;
    rest = (ends h.last.run).text;
    whole = sym (append_assoc start h.all.text (ends h.last.run).text) ∙ ap (λ (l : List ℕ). l ++ (ends h.last.run).text) (sym h.all.written);
  }

  begun_some : (fault : ToolFault) → SomeAnswered Tells new_script (Some all) (Some left) (Some start) (Some now) fault → IsBegun all start now
  begun_some fault h =
      let f = h.stops in
      let counts = (ends f.last.run).text in record {
        read = h.read;
        left = left;
        taken = h.taken;
        lines = f.front;
        others = f.others;
        first = inl f.split;
        text = f.text;
        last = f.last;
        speaks = f.speaks;
        rest = drop f.count f.text ++ counts;
        whole =
            sym (append_assoc start f.text counts)
            ∙ ap (λ (l : List ℕ). l ++ counts) (begins start now f.text f.count f.written)
            ∙ append_assoc now (drop f.count f.text) counts;
      }

  in_turn : (input output : Bool) (r : Result ℕ ToolFault) → Ends (Some all) (Some left) (Some start) (Some now) input output r
      → IsToldInTurn [] all left start now input output r
  in_turn input output (Ok status) h =
      let so = well (Ok status) input output h.1 h.2 (λ is. cc) (λ is. cc) in record {
        words_are_refused = accepts (Ok status) (λ is. cc);
        read = λ none. so.0;
        write = λ none. so.1;
        done = λ is. whole (Ok status) h.0;
        printed = λ none. begun_run (Ok status) h.0;
      }
  in_turn input output (Err (BadStep line)) h =
      let so = well (Err (BadStep line)) input output h.1 h.2 (λ is. cc) (λ is. cc) in record {
        words_are_refused = accepts (Err (BadStep line)) (λ is. cc);
        read = λ none. so.0;
        write = λ none. so.1;
        done = λ is. whole (Err (BadStep line)) h.0;
        printed = λ none. begun_run (Err (BadStep line)) h.0;
      }
  in_turn input output (Err ReadFailed) h = record {
    words_are_refused = accepts (Err ReadFailed) (λ is. cc);
    read = λ none. ((λ is. h.1), (λ did. refl));
    write = λ none. ((λ is. absurd cc), (λ did. absurd (no_failure (sym did.0 ∙ h.1))));
    done = λ is. absurd is;
    printed = λ none. begun_stopped h.0;
  }
  in_turn input output (Err TooLong) h =
      let so = well (Err TooLong) input output h.2 h.3 (λ is. cc) (λ is. cc) in record {
        words_are_refused = accepts (Err TooLong) (λ is. cc);
        read = λ none. so.0;
        write = λ none. so.1;
        done = λ is. absurd is;
        printed = λ none. begun_stopped h.0;
      }
  in_turn input output (Err NoMemory) h =
      let so = well (Err NoMemory) input output h.1 h.2 (λ is. cc) (λ is. cc) in record {
        words_are_refused = accepts (Err NoMemory) (λ is. cc);
        read = λ none. so.0;
        write = λ none. so.1;
        done = λ is. absurd is;
        printed = λ none. begun_some NoMemory h.0;
      }
  in_turn input output (Err WriteFailed) h = record {
    words_are_refused = accepts (Err WriteFailed) (λ is. cc);
    read = λ none. ((λ is. absurd cc), (λ did. absurd (no_failure (sym h.1 ∙ did))));
    write = λ none. ((λ is. (h.1, h.2)), (λ did. refl));
    done = λ is. absurd is;
    printed = λ none. elim h.0 [
      | inl some ↦ begun_some WriteFailed some
      | inr part ↦ begun_part part
    ];
  }
  in_turn input output (Err BadWords) h = absurd h
  in_turn input output (Err (NotHex number)) h = absurd h
  in_turn input output (Err (HoldsPacket number)) h = absurd h
  in_turn input output (Err (NotQuiet number)) h = absurd h

no_status : (words : List (List ℕ)) (all left start now : List ℕ) (input output : Bool) (r : Result ℕ ToolFault) → r ≡ Err BadWords → (words ≡ [] → ⊥) → left ≡ all → now ≡ start
    → IsToldInTurn words all left start now input output r
no_status words all left start now input output (Err BadWords) is some unread silent = record {
  words_are_refused = record { refused = ((λ same. some), (λ there. refl)); unread = λ same. unread; silent = λ same. silent };
  read = λ none. absurd (some none);
  write = λ none. absurd (some none);
  done = λ status. absurd status;
  printed = λ none. absurd (some none);
}
no_status words all left start now input output (Ok status) is some unread silent = absurd cc
no_status words all left start now input output (Err NoMemory) is some unread silent = absurd cc
no_status words all left start now input output (Err TooLong) is some unread silent = absurd cc
no_status words all left start now input output (Err ReadFailed) is some unread silent = absurd cc
no_status words all left start now input output (Err WriteFailed) is some unread silent = absurd cc
no_status words all left start now input output (Err (BadStep number)) is some unread silent = absurd cc
no_status words all left start now input output (Err (NotHex number)) is some unread silent = absurd cc
no_status words all left start now input output (Err (HoldsPacket number)) is some unread silent = absurd cc
no_status words all left start now input output (Err (NotQuiet number)) is some unread silent = absurd cc

pub ends_in_turn : EndsInTurn
ends_in_turn words all left start now input output r h = elim h [
  | inl run ↦ subst (λ (ws : List (List ℕ)). IsToldInTurn ws all left start now input output r) (sym run.0) (in_turn all left start now input output r run.1)
  | inr refused ↦ no_status words all left start now input output r refused.1.fault refused.0 refused.1.read refused.1.written
]
