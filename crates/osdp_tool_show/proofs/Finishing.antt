-- What a command answers once its output was flushed.
use Rattle.osdp_tool_show.proofs.Common.{◌≡◌, ℕ, ◌+◌, ◌≤◌, Bool, true, false, List, [], ◌∷◌, ◌++◌, length, Option, Some, None, Result, Ok, Err, ◌⊎◌, inl, inr, refl, sym, subst, ap, ◌∙◌, arith, append-nil, length-append, Appends, Consumes, Keeps, Appends-kept, Form, final_answer_of, ToolFault, NotHex, TooLong, ReadFailed, WriteFailed, NoMemory, Detail, shown, shown_so_far, streamed, Ends, EndsPartWay, Works, StopsWithin}
use Rattle.osdp_tool_show.proofs.Beginnings.{begun_all, stops_by}

-- nothing was written since
stops_kept : (start middle written : Option (List ℕ)) (text : List ℕ) → StopsWithin start middle text → Keeps middle written → StopsWithin start written text
stops_kept None middle written text h k = tt
stops_kept (Some x) None written text h k = absurd h
stops_kept (Some x) (Some m) None text h k = absurd k
stops_kept (Some x) (Some m) (Some w) text h k = (h.0, h.1 ∙ ap (λ l. l ++ h.0) (sym k))

-- all of a text was written
stops_whole : (start written : Option (List ℕ)) (text : List ℕ) → Appends start written text → StopsWithin start written text
stops_whole start written text h = stops_by start written written text text [] h (begun_all written) (sym (append-nil text))

part_kept : (detail : Detail) (form : Form) (limit : ℕ) (start middle written ib ia : Option (List ℕ)) (input_failed was failed : Bool)
    → EndsPartWay detail form limit (streamed ib ia input_failed) (streamed start middle was) → Keeps middle written
    → EndsPartWay detail form limit (streamed ib ia input_failed) (streamed start written failed)
part_kept detail form limit start middle written ib ia input_failed was failed e k = record {
  read = e.read;
  more = e.more;
  taken = e.taken;
  within = e.within;
  text = elim e.text [
    | inl h ↦ inl (stops_kept start middle written (shown_so_far detail form e.read) h k)
    | inr h ↦ inr (stops_kept start middle written (shown detail form e.read) h k)
  ];
}

part_whole : (detail : Detail) (form : Form) (limit : ℕ) (start written ib ia : Option (List ℕ)) (input_failed failed : Bool) (read more : List ℕ)
    → Consumes ib ia (read ++ more) → length (read ++ more) ≤ limit + 1
    → Appends start written (shown_so_far detail form read) ⊎ Appends start written (shown detail form read)
    → EndsPartWay detail form limit (streamed ib ia input_failed) (streamed start written failed)
part_whole detail form limit start written ib ia input_failed failed read more taken within text = record {
  read = read;
  more = more;
  taken = taken;
  within = within;
  text = elim text [
    | inl h ↦ inl (stops_whole start written (shown_so_far detail form read) h)
    | inr h ↦ inr (stops_whole start written (shown detail form read) h)
  ];
}

read_all : (ib ia : Option (List ℕ)) (read : List ℕ) → Consumes ib ia read → Consumes ib ia (read ++ [])
read_all ib ia read h = subst (Consumes ib ia) (sym (append-nil read)) h

within_one : (limit : ℕ) (read : List ℕ) → length read ≤ limit → length (read ++ []) ≤ limit + 1
within_one limit read h = subst (λ (l : List ℕ). length l ≤ limit + 1) (sym (append-nil read)) (omega arith)

ends_final : (detail : Detail) (form : Form) (limit : ℕ) (start middle written ib ia : Option (List ℕ)) (input_failed was failed : Bool) (answer : Result Bool ToolFault)
    → Works detail form limit (streamed ib ia input_failed) (streamed start middle was) answer → Keeps middle written → (was ≡ true → failed ≡ true)
    → Ends detail form limit (streamed ib ia input_failed) (streamed start written failed) (final_answer_of input_failed failed answer)
ends_final detail form limit start middle written ib ia true was failed (Ok refused) e k stays = let well = e.input_well in cc
ends_final detail form limit start middle written ib ia true was failed (Err (NotHex line)) e k stays = let well = e.input_well in cc
ends_final detail form limit start middle written ib ia true was failed (Err TooLong) e k stays = let well = e.input_well in cc
ends_final detail form limit start middle written ib ia true was failed (Err ReadFailed) e k stays = record {
  read = e.read;
  taken = e.taken;
  within = e.within;
  good = e.good;
  text = λ well. Appends-kept start middle written (shown_so_far detail form e.read) (e.text (still_well was well stays)) k;
  part = stops_kept start middle written (shown_so_far detail form e.read) e.part k;
  input_failed = refl;
}
  where
    still_well : (was : Bool) → failed ≡ false → (was ≡ true → failed ≡ true) → was ≡ false
    still_well false well stays = refl
    still_well true well stays = let h = stays refl in cc
ends_final detail form limit start middle written ib ia true was failed (Err WriteFailed) e k stays = let well = e.0 in cc
ends_final detail form limit start middle written ib ia true was failed (Err NoMemory) e k stays = let well = e.0 in cc
ends_final detail form limit start middle written ib ia false was true (Ok refused) e k stays = (
  refl,
  refl,
  part_whole detail form limit start written ib ia false true e.read [] (read_all ib ia e.read e.taken) (within_one limit e.read e.within)
      (inr (Appends-kept start middle written (shown detail form e.read) e.text k)),
)
ends_final detail form limit start middle written ib ia false was true (Err (NotHex line)) e k stays = (
  refl,
  refl,
  part_whole detail form limit start written ib ia false true (e.read.earlier ++ e.read.piece) [] (read_all ib ia (e.read.earlier ++ e.read.piece) e.read.taken)
      (within_one limit (e.read.earlier ++ e.read.piece) e.read.within)
      (inr (Appends-kept start middle written (shown detail form (e.read.earlier ++ e.read.piece)) e.text k)),
)
ends_final detail form limit start middle written ib ia false was true (Err TooLong) e k stays =
    let whole = e.read.whole in
    let lengths = length-append e.read.within (e.read.byte ∷ []) in (
      refl,
      refl,
      part_whole detail form limit start written ib ia false true e.read.within (e.read.byte ∷ []) e.read.taken (omega arith)
          (inl (Appends-kept start middle written (shown_so_far detail form e.read.within) e.text k)),
    )
ends_final detail form limit start middle written ib ia false was true (Err ReadFailed) e k stays = let ill = e.input_failed in cc
ends_final detail form limit start middle written ib ia false was true (Err WriteFailed) e k stays =
    (refl, refl, part_kept detail form limit start middle written ib ia false was true e.2 k)
ends_final detail form limit start middle written ib ia false was true (Err NoMemory) e k stays =
    (refl, refl, part_kept detail form limit start middle written ib ia false was true e.1 k)
ends_final detail form limit start middle written ib ia false was false (Ok refused) e k stays = record {
  read = e.read;
  taken = e.taken;
  at_end = e.at_end;
  within = e.within;
  good = e.good;
  answer = e.answer;
  text = Appends-kept start middle written (shown detail form e.read) e.text k;
  input_well = refl;
  output_well = refl;
}
ends_final detail form limit start middle written ib ia false was false (Err (NotHex line)) e k stays = record {
  read = e.read;
  good = e.good;
  bad = e.bad;
  ended = e.ended;
  text = Appends-kept start middle written (shown detail form (e.read.earlier ++ e.read.piece)) e.text k;
  input_well = refl;
  output_well = refl;
}
ends_final detail form limit start middle written ib ia false was false (Err TooLong) e k stays = record {
  read = e.read;
  good = e.good;
  text = Appends-kept start middle written (shown_so_far detail form e.read.within) e.text k;
  input_well = refl;
  output_well = refl;
}
ends_final detail form limit start middle written ib ia false was false (Err ReadFailed) e k stays = let ill = e.input_failed in cc
ends_final detail form limit start middle written ib ia false was false (Err WriteFailed) e k stays = let ill = stays e.1 in cc
ends_final detail form limit start middle written ib ia false was false (Err NoMemory) e k stays =
    (refl, refl, part_kept detail form limit start middle written ib ia false was false e.1 k)
ends_final detail form limit start middle written ib ia input_failed was failed (Err fault) e k stays = absurd e

-- the answer of the call is the one that was settled
pub ends_finished : (detail : Detail) (form : Form) (limit : ℕ) (start middle written ib ia : Option (List ℕ)) (input_failed was failed : Bool) (answer final : Result Bool ToolFault)
    → final ≡ final_answer_of input_failed failed answer
    → Works detail form limit (streamed ib ia input_failed) (streamed start middle was) answer → Keeps middle written → (was ≡ true → failed ≡ true)
    → Ends detail form limit (streamed ib ia input_failed) (streamed start written failed) final
ends_finished detail form limit start middle written ib ia input_failed was failed answer final is e k stays =
    subst (λ r. Ends detail form limit (streamed ib ia input_failed) (streamed start written failed) r) (sym is)
    (ends_final detail form limit start middle written ib ia input_failed was failed answer e k stays)
