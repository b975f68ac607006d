-- What a whole input is judged by.
use Rattle.osdp_tool_test.proofs.Common.{◌≡◌, ℕ, ◌≤◌, List, take, length, map, Option, Some, None, Ok, sym, ap, subst, ◌∙◌, Appends, Consumes, IsAtEnd, Keeps, MatchOption, take-length, lines_of, ToolFault, IsPart, IsRead, IsReported, Judges, status_of, Told, told, StopsAt, TakesAll, report_text, Form}
use Rattle.std.proofs.KnownBytes.{Appends-kept}
use Rattle.osdp_tool_captures.specs.Whole.{ReadWhole}
use Rattle.osdp_tool_streams.specs.Watched.{AppendsPart}
use Rattle.osdp_tool_test.specs.declared.entry.Entry.{Entry}

-- lines that were taken, or of which one was refused
module _ {T : Type 0} (takes : T → List (List ℕ) → T → Type 0) (refuses : List (List ℕ) → Type 0) (found : T → List Told) (start last : T)
    (limit : ℕ) (before after : Option (List ℕ)) (given bytes : List ℕ) (fault : Option ToolFault) (bad : Option ℕ) where
  whole : fault ≡ None → ReadWhole limit before after bytes fault → Consumes before after bytes × IsAtEnd after × (length bytes ≤ limit)
  whole none read = subst (ReadWhole limit before after bytes) none read

  pub judged_stop : (number : ℕ) → fault ≡ None → ReadWhole limit before after bytes fault → given ≡ bytes → bad ≡ Some number
      → MatchOption bad (TakesAll takes refuses found start (lines_of given) last) (λ n. StopsAt takes refuses found 1 start (lines_of given) n last)
      → (x : IsRead limit before after) × ((end : T) × StopsAt takes refuses found 1 start (lines_of x.read) number end)
  judged_stop number none read same is h =
      let w = whole none read in
      let stops : StopsAt takes refuses found 1 start (lines_of given) number last = rw is at h in
      (record { read = bytes; taken = w.0; at_end = w.1; within = w.2 }, (last, rw same at stops))

  pub judged_all : (entries : List Told) → fault ≡ None → ReadWhole limit before after bytes fault → given ≡ bytes → bad ≡ None
      → MatchOption bad (TakesAll takes refuses found start (lines_of given) last) (λ n. StopsAt takes refuses found 1 start (lines_of given) n last)
      → entries ≡ found last
      → (x : IsRead limit before after) × ((end : T) × TakesAll takes refuses found start (lines_of x.read) end × (entries ≡ found end))
  judged_all entries none read same is h found_is =
      let w = whole none read in
      let taken : TakesAll takes refuses found start (lines_of given) last = rw is at h in
      (record { read = bytes; taken = w.0; at_end = w.1; within = w.2 }, (last, rw same at taken, found_is))

-- a report that was written, or a part of it
module _ (A : List (List ℕ) → List Told → Type 0) (B : List (List ℕ) → ℕ → Type 0) (limit : ℕ) (before after : Option (List ℕ)) (form : Form) (start : Option (List ℕ))
    (entries slice : List Entry) (bytes text : List ℕ) (same : slice ≡ entries) (told_is : text ≡ report_text form (map told slice)) (bytes_are : bytes ≡ text)
    (judged : Judges A B limit before after (Ok (map told entries))) where
  text_is : bytes ≡ report_text form (map told entries)
  text_is = bytes_are ∙ told_is ∙ ap (λ l. report_text form (map told l)) same

  pub part_written : (now : Option (List ℕ)) → AppendsPart start now bytes → IsPart A B limit before after form start now
  part_written now part = record {
    whole = judged.0;
    entries = map told entries;
    finds = judged.1;
    count = part.0;
    written = subst (λ t. Appends start now (take part.0 t)) text_is part.2;
  }

  pub not_flushed : (middle now : Option (List ℕ)) → Appends start middle bytes → Keeps middle now → IsPart A B limit before after form start now
  not_flushed middle now wrote kept = record {
    whole = judged.0;
    entries = map told entries;
    finds = judged.1;
    count = length (report_text form (map told entries));
    written = subst (Appends start now) (text_is ∙ sym (take-length (report_text form (map told entries)))) (Appends-kept start middle now bytes wrote kept);
  }

  pub reported : (middle now : Option (List ℕ)) (status : ℕ) (last : List Entry) → last ≡ entries → status ≡ status_of (map told last) → Appends start middle bytes → Keeps middle now
      → IsReported A B limit before after form start now status
  reported middle now status last last_is is wrote kept = record {
    whole = judged.0;
    entries = map told entries;
    finds = judged.1;
    written = subst (Appends start now) text_is (Appends-kept start middle now bytes wrote kept);
    is = is ∙ ap (λ l. status_of (map told l)) last_is;
  }
