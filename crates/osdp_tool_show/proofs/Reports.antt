-- What waits to be written, item by item.
use Rattle.osdp_tool_show.proofs.Common.{◌≡◌, ℕ, List, [], ◌∷◌, ◌++◌, string_bytes, Option, Some, None, Result, Ok, Err, OnOk, IfOk, refl, sym, subst, ap, ◌∙◌, append_assoc, append-nil, Appends, Keeps, append_known, Appends-trans, Appends-kept, Appends-nil, RunItem, Detail, tally_after, tally_after_all, shown_line, shown_lines, Report, written_or_held, Tells, KeepsReport}
use Rattle.osdp_tool_show.proofs.Lines.{tally_after_all-nil, tally_after_all-cons, tally_after_all-append, shown_lines-nil, shown_lines-cons, shown_lines-append}

-- more text waits
pub grown : (known : Option (List ℕ)) (old new line : List ℕ) → new ≡ old ++ line → Appends (append_known known old) (append_known known new) line
grown None old new line h = tt
grown (Some x) old new line h = ap (λ l. x ++ l) h ∙ sym (append_assoc x old line)

shown_lines-one : (detail : Detail) (old : Report) (part : RunItem) → shown_lines old.detail old.tally (part ∷ []) ≡ shown_line old.detail old.tally part
shown_lines-one detail old part =
    shown_lines-cons old.detail old.tally part [] ∙ ap (λ l. shown_line old.detail old.tally part ++ l) (shown_lines-nil old.detail (tally_after old.tally part))
    ∙ append-nil (shown_line old.detail old.tally part)

pub tells_one : (known : Option (List ℕ)) (old new : Report) (part : RunItem) → new.detail ≡ old.detail → new.tally ≡ tally_after old.tally part
    → string_bytes new.text ≡ string_bytes old.text ++ shown_line old.detail old.tally part
    → Tells old new (written_or_held known old) (written_or_held known new) (part ∷ [])
tells_one known old new part detail tally text = record {
  detail = detail;
  tally = tally ∙ sym (tally_after_all-cons old.tally part [] ∙ tally_after_all-nil (tally_after old.tally part));
  lines = subst (Appends (written_or_held known old) (written_or_held known new)) (sym (shown_lines-one old.detail old part))
      (grown known (string_bytes old.text) (string_bytes new.text) (shown_line old.detail old.tally part) text);
}

-- nothing was told
pub tells_none : (old : Report) (before : Option (List ℕ)) → Tells old old before before []
tells_none old before = record {
  detail = refl;
  tally = sym (tally_after_all-nil old.tally);
  lines = subst (Appends before before) (sym (shown_lines-nil old.detail old.tally)) (Appends-nil before);
}

-- and then it was written out
pub tells_kept : (old mid new : Report) (a b c : Option (List ℕ)) (parts : List RunItem)
    → Tells old mid a b parts → KeepsReport mid new → Keeps b c → Tells old new a c parts
tells_kept old mid new a b c parts tells kept same = record {
  detail = kept.detail ∙ tells.detail;
  tally = kept.tally ∙ tells.tally;
  lines = Appends-kept a b c (shown_lines old.detail old.tally parts) tells.lines same;
}

-- and then more was told
pub tells_more : (old mid new : Report) (a b c : Option (List ℕ)) (xs ys : List RunItem)
    → Tells old mid a b xs → Tells mid new b c ys → Tells old new a c (xs ++ ys)
tells_more old mid new a b c xs ys first second = record {
  detail = second.detail ∙ first.detail;
  tally = second.tally ∙ ap (λ t. tally_after_all t ys) first.tally ∙ sym (tally_after_all-append old.tally xs ys);
  lines =
      let here : shown_lines mid.detail mid.tally ys ≡ shown_lines old.detail (tally_after_all old.tally xs) ys =
      ap (λ f. shown_lines f mid.tally ys) first.detail ∙ ap (λ t. shown_lines old.detail t ys) first.tally in
      subst (Appends a c) (sym (shown_lines-append old.detail old.tally xs ys))
      (Appends-trans a b c (shown_lines old.detail old.tally xs) (shown_lines old.detail (tally_after_all old.tally xs) ys)
      first.lines (subst (Appends b c) here second.lines));
}

-- two facts of a call that went well make a third
pub on_ok_both : {T E : Type 0} {A B C : Type 0} (r : Result T E) → (A → B → C) → OnOk r A → OnOk r B → OnOk r C
on_ok_both (Ok x) f a b = f a b
on_ok_both (Err e) f a b = tt

pub if_ok_map : {T E : Type 0} (P Q : T → Type 0) (r : Result T E) → ((x : T) → P x → Q x) → IfOk r P → IfOk r Q
if_ok_map P Q (Ok x) f p = f x p
if_ok_map P Q (Err e) f p = tt
