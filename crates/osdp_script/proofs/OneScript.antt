-- Lines say one thing at most.
use Rattle.osdp_script.proofs.Common.{◌≡◌, ℕ, suc, ◌+◌, List, [], ◌∷◌, ◌++◌, length, inl, inr, refl, sym, ap, subst, ◌∙◌, both_ways, Crc, lines_of, Script, ScriptLine, AreRead, IsBad, IsBadLine, IsFirstBad, IsRead, IsScriptOf, IsTold, Plan, no_plan, with_line, characters, is_passed_over, words_in}
use Rattle.std.specs.Option.{unwrap_or}
use Rattle.osdp_script.proofs.InTurn.{read_in_turn}
use Rattle.osdp_script.specs.Meaning.{HasOneMeaning, SaySame}
use Rattle.osdp_script.proofs.OneLine.{one_line}

one_told : (p : Plan) (text : List ℕ) (q r : Plan) → IsTold p text q → IsTold p text r → q ≡ r
one_told p text q r a b =
    let same = one_line (length p.readers) (words_in text) a.line b.line a.says.fits b.says.fits a.says.words b.says.words in
    a.plan ∙ ap (λ (l : ScriptLine). with_line l p) same ∙ sym b.plan

one_read : (p : Plan) (line : List ℕ) (q r : Plan) → IsRead p line q → IsRead p line r → q ≡ r
one_read p line q r (inl a) (inl b) = a.1 ∙ sym b.1
one_read p line q r (inl a) (inr b) = absurd (both_ways (is_passed_over (characters line)) b.0 a.0)
one_read p line q r (inr a) (inl b) = absurd (both_ways (is_passed_over (characters line)) a.0 b.0)
one_read p line q r (inr a) (inr b) = one_told p (characters line) q r a.1 b.1

good_or_bad : (p : Plan) (line : List ℕ) (q : Plan) → IsRead p line q → IsBad p line → ⊥
good_or_bad p line q (inl a) bad = both_ways (is_passed_over (characters line)) bad.0 a.0
good_or_bad p line q (inr a) bad = bad.1 a.1.line a.1.says

all_one : (p : Plan) (lines : List (List ℕ)) (q r : Plan) → AreRead p lines q → AreRead p lines r → q ≡ r
all_one p [] q r a b = a ∙ sym b
all_one p (line ∷ lines) q r a b =
    let mid = one_read p line b.0 a.0 b.1 a.1 in
    all_one a.0 lines q r a.2 (subst (λ (m : Plan). AreRead m lines r) mid b.2)

-- ---- the first bad line

not_above : (p : Plan) (above below : List (List ℕ)) (line : List ℕ) (q r : Plan) → AreRead p above q → IsBad q line
    → AreRead p (above ++ line ∷ below) r → ⊥
not_above p above below line q r good bad all =
    let cut = (read_in_turn above (line ∷ below) p r).0 all in
    let same = all_one p above cut.0 q cut.1 good in
    good_or_bad q line cut.2.0 (subst (λ (x : Plan). IsRead x line cut.2.0) same cut.2.1) bad

head_same : (a b : List ℕ) (others more : List (List ℕ)) → a ∷ others ≡ b ∷ more → a ≡ b
head_same a b others more e = cc e

tail_same : (a b : List ℕ) (others more : List (List ℕ)) → a ∷ others ≡ b ∷ more → others ≡ more
tail_same a b others more e = cc e

one_place : (p : Plan) (above others below others_below : List (List ℕ)) (line other : List ℕ) (q r : Plan)
    → above ++ line ∷ below ≡ others ++ other ∷ others_below
    → AreRead p above q → IsBad q line → AreRead p others r → IsBad r other → length above ≡ length others
one_place p [] [] below others_below line other q r e good bad well worse = refl
one_place p [] (o ∷ others) below others_below line other q r e good bad well worse =
    let same = head_same line o below (others ++ other ∷ others_below) e in
    absurd (good_or_bad p o well.0 well.1 (subst (λ (l : List ℕ). IsBad p l) same (subst (λ (x : Plan). IsBad x line) good bad)))
one_place p (a ∷ above) [] below others_below line other q r e good bad well worse =
    let same = head_same a other (above ++ line ∷ below) others_below e in
    absurd (good_or_bad p a good.0 good.1 (subst (λ (l : List ℕ). IsBad p l) (sym same) (subst (λ (x : Plan). IsBad x other) well worse)))
one_place p (a ∷ above) (o ∷ others) below others_below line other q r e good bad well worse =
    let same = head_same a o (above ++ line ∷ below) (others ++ other ∷ others_below) e in
    let rest = tail_same a o (above ++ line ∷ below) (others ++ other ∷ others_below) e in
    let mid = one_read p o well.0 good.0 well.1 (subst (λ (l : List ℕ). IsRead p l good.0) same good.1) in
    ap suc (one_place good.0 above others below others_below line other q r rest good.2 bad (subst (λ (m : Plan). AreRead m others r) mid well.2) worse)

one_first : (lines : List (List ℕ)) (n m : ℕ) → IsFirstBad lines n → IsFirstBad lines m → n ≡ m
one_first lines n m a b =
    let same = one_place no_plan a.above b.above a.below b.below a.line b.line a.plan b.plan (sym a.whole ∙ b.whole) a.good a.bad b.good b.bad in
    a.place ∙ ap (λ k. k + 1) same ∙ sym b.place

not_both : (lines : List (List ℕ)) (n : ℕ) (p : Plan) → IsFirstBad lines n → AreRead no_plan lines p → ⊥
not_both lines n p a good =
    not_above no_plan a.above a.below a.line a.plan p a.good a.bad (subst (λ (l : List (List ℕ)). AreRead no_plan l p) a.whole good)

one_bad : (bytes : List ℕ) (n m : ℕ) → IsBadLine bytes n → IsBadLine bytes m → n ≡ m
one_bad bytes n m (inl a) (inl b) = one_first (lines_of bytes) n m a b
one_bad bytes n m (inl a) (inr b) = absurd (not_both (lines_of bytes) n b.plan a b.good)
one_bad bytes n m (inr a) (inl b) = absurd (not_both (lines_of bytes) m a.plan b a.good)
one_bad bytes n m (inr a) (inr b) = a.place ∙ sym b.place

-- ---- all of it

script_or_bad : (bytes : List ℕ) (script : Script) (n : ℕ) → IsScriptOf bytes script → IsBadLine bytes n → ⊥
script_or_bad bytes script n (p, means, is) (inl bad) = not_both (lines_of bytes) n p bad means.good
script_or_bad bytes script n (p, means, is) (inr lacks) =
    means.some (subst (λ (q : Plan). q.readers ≡ []) (all_one no_plan (lines_of bytes) lacks.plan p lacks.good means.good) lacks.none)

one_script : (bytes : List ℕ) (a b : Script) → IsScriptOf bytes a → IsScriptOf bytes b → SaySame a b
one_script bytes a b (p, means, is) (q, says, so) =
    let same = all_one no_plan (lines_of bytes) p q means.good says.good in
    record {
      check = is.check ∙ ap (λ (r : Plan). unwrap_or r.check Crc) same ∙ sym so.check;
      readers = is.readers ∙ ap (λ (r : Plan). r.readers) same ∙ sym so.readers;
      below = is.below ∙ ap (λ (r : Plan). r.below) same ∙ sym so.below;
    }

pub one_meaning : HasOneMeaning
one_meaning bytes = record { script = one_script bytes; bad = one_bad bytes; either = script_or_bad bytes }
