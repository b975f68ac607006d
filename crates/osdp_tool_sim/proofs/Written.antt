-- Lines as they are written, and lists of lines one by one.
use Rattle.osdp_tool_sim.proofs.Common.{◌≡◌, ◌<◌, ℕ, Bool, true, false, List, [], ◌∷◌, ◌++◌, arith, codes, drop, length, map, refl, subst, sym, ap, ◌∙◌, append_assoc, append-nil, Result, Ok, Err, OnOk, Some, None, decimal, flat_map, Command, Event, Reply, event_text, event_words, Account, Word, plain, printed, text_of, AddsNext, command_line, counts_line, line_text, lines_text, named}
use Rattle.std.specs.Prelude.{slice_get}
use Rattle.osdp_msg.specs.CommandText.{command_text, command_words}
use Rattle.osdp_msg.specs.ReplyText.{reply_text, reply_words}

pub command_is : (name : List ℕ) (c : Command) → line_text (command_line name c) ≡ name ++ (codes " " ++ (command_text c ++ codes "\n"))
unfolding command_text
command_is name c = append_assoc name (codes " " ++ text_of (command_words c)) (codes "\n")

pub event_is : (name : List ℕ) (e : Event) → line_text (plain name ∷ event_words e) ≡ name ++ (codes " " ++ (event_text e ++ codes "\n"))
unfolding reply_text
event_is name e = append_assoc name (codes " " ++ text_of (event_words e)) (codes "\n")

both_lists : (xs ys : List Word) → flat_map (λ word. codes " " ++ printed word) (xs ++ ys)
    ≡ flat_map (λ word. codes " " ++ printed word) xs ++ flat_map (λ word. codes " " ++ printed word) ys
both_lists [] ys = refl
both_lists (x ∷ xs) ys =
    ap (λ l. (codes " " ++ printed x) ++ l) (both_lists xs ys)
    ∙ sym (append_assoc (codes " " ++ printed x) (flat_map (λ word. codes " " ++ printed word) xs) (flat_map (λ word. codes " " ++ printed word) ys))

pub settled_is : (name : List ℕ) (c : Command) (r : Reply) → line_text (plain name ∷ (command_words c ++ plain (codes "=") ∷ reply_words r))
    ≡ name ++ (codes " " ++ (command_text c ++ (codes " = " ++ (reply_text r ++ codes "\n"))))
unfolding command_text reply_text
settled_is name c r =
    ap (λ l. (name ++ l) ++ codes "\n") (both_lists (command_words c) (plain (codes "=") ∷ reply_words r))
    ∙ append_assoc name ((codes " " ++ text_of (command_words c)) ++ (codes " = " ++ text_of (reply_words r))) (codes "\n")
    ∙ ap (λ l. name ++ (codes " " ++ l)) (append_assoc (text_of (command_words c)) (codes " = " ++ text_of (reply_words r)) (codes "\n"))

pub end_is : (name word : List ℕ) → line_text (plain name ∷ plain word ∷ []) ≡ name ++ (codes " " ++ (word ++ codes "\n"))
end_is name word = append_assoc name (codes " " ++ (word ++ [])) (codes "\n") ∙ ap (λ l. name ++ (codes " " ++ (l ++ codes "\n"))) (append-nil word)

-- a list of which nothing, or a string, comes next
pub no_next : {A B : Type 0} (words : B → List Word) (kept : A → B) (left rest : List A) (name text : List ℕ) → None ≡ slice_get left 0 → rest ≡ drop 1 left
    → AddsNext (map words (map kept left)) (map words (map kept rest)) name text text false
no_next words kept [] rest name text none others = (refl, ap (λ l. map words (map kept l)) others, refl)
no_next words kept (x ∷ left) rest name text none others = absurd cc

pub one_next : {A B : Type 0} (words : B → List Word) (kept : A → B) (left rest : List A) (item : A) (name text new : List ℕ) → Some item ≡ slice_get left 0
    → rest ≡ drop 1 left → new ≡ text ++ line_text (plain name ∷ words (kept item))
    → AddsNext (map words (map kept left)) (map words (map kept rest)) name text new true
one_next words kept [] rest item name text new first others written = absurd cc
one_next words kept (x ∷ left) rest item name text new first others written =
    let same : item ≡ x = cc in
    (refl, ap (λ l. map words (map kept l)) others, written ∙ ap (λ y. text ++ line_text (plain name ∷ words (kept y))) same)

-- .. or of which this was split off
pub none_split : {A : Type 0} (words : A → List Word) (left : List A) (name text : List ℕ) → left ≡ []
    → AddsNext (map words left) (map words left) name text text false
none_split words [] name text none = (refl, refl, refl)
none_split words (x ∷ left) name text none = absurd cc

pub one_split : {A : Type 0} (words : A → List Word) (left rest : List A) (item : A) (name text new : List ℕ) → left ≡ item ∷ rest
    → new ≡ text ++ line_text (plain name ∷ words item) → AddsNext (map words left) (map words rest) name text new true
one_split words left rest item name text new cut written =
    subst (λ l. AddsNext (map words l) (map words rest) name text new true) (sym cut) (refl, refl, written)

-- the lines that are added and those that are left are the whole
pub next_more : (left rest : List (List Word)) (name text new whole : List ℕ) (added : Bool) → added ≡ true → AddsNext left rest name text new added
    → text ++ lines_text (named name left) ≡ whole → new ++ lines_text (named name rest) ≡ whole
next_more [] rest name text new whole added more adds all = absurd (let e = sym more ∙ adds.0 in cc)
next_more (words ∷ left) rest name text new whole added more adds all =
    ap (λ l. l ++ lines_text (named name rest)) adds.2
    ∙ append_assoc text (line_text (plain name ∷ words)) (lines_text (named name rest))
    ∙ ap (λ l. text ++ (line_text (plain name ∷ words) ++ lines_text (named name l))) adds.1
    ∙ all

pub next_fewer : (left rest : List (List Word)) (name text new : List ℕ) (added : Bool) → added ≡ true → AddsNext left rest name text new added
    → length rest < length left
next_fewer [] rest name text new added more adds = absurd (let e = sym more ∙ adds.0 in cc)
next_fewer (words ∷ left) rest name text new added more adds = omega (arith, ap length adds.1)

pub next_done : (left rest : List (List Word)) (name text new whole : List ℕ) (added : Bool) → added ≡ false → AddsNext left rest name text new added
    → text ++ lines_text (named name left) ≡ whole → new ≡ whole
next_done [] rest name text new whole added none adds all = adds.2 ∙ sym (append-nil text) ∙ all
next_done (words ∷ left) rest name text new whole added none adds all = absurd (let e = sym none ∙ adds.0 in cc)

-- the lines of items
pub named_map : {A : Type 0} (name : List ℕ) (words : A → List Word) (items : List A) → named name (map words items) ≡ map (λ item. plain name ∷ words item) items
named_map name words [] = refl
named_map name words (x ∷ items) = ap (λ l. (plain name ∷ words x) ∷ l) (named_map name words items)

-- .. as they are told of a list of an account
pub told_items : {A : Type 0} (name : List ℕ) (words : A → List Word) (items given : List A) (text new : List ℕ) → given ≡ items
    → new ≡ text ++ lines_text (named name (map words given)) → new ≡ text ++ lines_text (map (λ item. plain name ∷ words item) items)
told_items {A} name words items given text new same written =
    written ∙ ap (λ (l : List A). text ++ lines_text (named name (map words l))) same ∙ ap (λ l. text ++ lines_text l) (named_map name words items)

pub told_list : {A B : Type 0} (name : List ℕ) (words : B → List Word) (kept : A → B) (strings given : List A) (text new : List ℕ) → given ≡ strings
    → new ≡ text ++ lines_text (named name (map words (map kept given)))
    → new ≡ text ++ lines_text (map (λ item. plain name ∷ words item) (map kept strings))
told_list name words kept strings given text new same written =
    told_items name words (map kept strings) (map kept given) text new (ap (map kept) same) written

-- the two halves of the line of counts, which are written one after the other
halves : (old mid new n i t s u q r : List ℕ)
    → mid ≡ old ++ (codes "reader " ++ (n ++ (codes " issued " ++ (i ++ (codes " taken " ++ (t ++ (codes " settled " ++ (s ++ (codes " unsettled " ++ u)))))))))
    → new ≡ mid ++ (codes " queued " ++ (q ++ (codes " reported " ++ (r ++ codes "\n"))))
    → new ≡ old ++ ((codes "reader " ++ (n ++ (codes " issued " ++ (i ++ (codes " taken " ++ (t ++ (codes " settled " ++ (s ++ (codes " unsettled " ++ (u ++ (codes " queued " ++ (q ++ (codes " reported " ++ (r ++ []))))))))))))))
    ++ codes "\n")
halves old mid new n i t s u q r first second = second ∙ ap (λ l. l ++ (codes " queued " ++ (q ++ (codes " reported " ++ (r ++ codes "\n"))))) first ∙ simp (append_assoc, append-nil)

pub counts_are : (a : Account) (reader i t s u q r : ℕ) (old mid new : List ℕ)
    → i ≡ length a.issued → t ≡ length a.taken → s ≡ length a.settled → u ≡ length a.unsettled → q ≡ length a.queued → r ≡ length a.reported
    → mid ≡ old ++ (codes "reader " ++ (decimal reader ++ (codes " issued " ++ (decimal i ++ (codes " taken " ++ (decimal t ++ (codes " settled " ++ (decimal s ++ (codes " unsettled " ++ decimal u)))))))))
    → new ≡ mid ++ (codes " queued " ++ (decimal q ++ (codes " reported " ++ (decimal r ++ codes "\n"))))
    → new ≡ old ++ line_text (counts_line reader a)
counts_are a reader i t s u q r old mid new ei et es eu eq er first second =
    rw (← ei, ← et, ← es, ← eu, ← eq, ← er)
    (halves old mid new (decimal reader) (decimal i) (decimal t) (decimal s) (decimal u) (decimal q) (decimal r) first second)

pub lines_both : (xs ys : List (List Word)) → lines_text (xs ++ ys) ≡ lines_text xs ++ lines_text ys
lines_both [] ys = refl
lines_both (x ∷ xs) ys =
    ap (λ l. line_text x ++ l) (lines_both xs ys) ∙ sym (append_assoc (line_text x) (lines_text xs) (lines_text ys))

-- one list after the other
pub five_lists : (head : List Word) (va vb vc vd ve : List (List Word)) (t0 t1 t2 t3 t4 t5 : List ℕ)
    → t0 ≡ line_text head → t1 ≡ t0 ++ lines_text va → t2 ≡ t1 ++ lines_text vb → t3 ≡ t2 ++ lines_text vc
    → t4 ≡ t3 ++ lines_text vd → t5 ≡ t4 ++ lines_text ve
    → t5 ≡ lines_text (head ∷ (va ++ (vb ++ (vc ++ (vd ++ ve)))))
five_lists head va vb vc vd ve t0 t1 t2 t3 t4 t5 h0 h1 h2 h3 h4 h5 =
    h5 ∙ ap (λ l. l ++ lines_text ve) h4
    ∙ ap (λ l. (l ++ lines_text vd) ++ lines_text ve) h3
    ∙ ap (λ l. ((l ++ lines_text vc) ++ lines_text vd) ++ lines_text ve) h2
    ∙ ap (λ l. (((l ++ lines_text vb) ++ lines_text vc) ++ lines_text vd) ++ lines_text ve) h1
    ∙ ap (λ l. ((((l ++ lines_text va) ++ lines_text vb) ++ lines_text vc) ++ lines_text vd) ++ lines_text ve) h0
    ∙ regroup (line_text head) (lines_text va) (lines_text vb) (lines_text vc) (lines_text vd) (lines_text ve)
    ∙ ap (λ l. line_text head ++ l) (sym (
    lines_both va (vb ++ (vc ++ (vd ++ ve)))
    ∙ ap (λ l. lines_text va ++ l) (lines_both vb (vc ++ (vd ++ ve))
    ∙ ap (λ l. lines_text vb ++ l) (lines_both vc (vd ++ ve)
    ∙ ap (λ l. lines_text vc ++ l) (lines_both vd ve)))))
  where
    regroup : (l a b c d e : List ℕ) → ((((l ++ a) ++ b) ++ c) ++ d) ++ e ≡ l ++ (a ++ (b ++ (c ++ (d ++ e))))
    regroup l a b c d e = simp append_assoc

pub on_ok : {T E : Type 0} {P Q : Type 0} (r : Result T E) → (P → Q) → OnOk r P → OnOk r Q
on_ok (Ok x) f p = f p
on_ok (Err e) f p = p
