-- Comments that are read where they stand.
use Rattle.osdp_tool_times.proofs.Common.{◌≡◌, ℕ, ◌+◌, ◌-◌, ◌≤◌, ◌==◌, inl, inr, Bool, true, false, cond, List, [], ◌∷◌, ◌++◌, codes, Option, None, Some, length, take, drop, refl, sym, ap, ◌∙◌, arith, length-append, cases_Bool, drop_all, take_all, kept, kept-append, Heard, after_line, from_start, item_told, line_told, moment_or, run_after, start_in, Times, Nothing, TellsEachWay, before_way, ends_so, moment_in, stamp_in, way_length}
use Rattle.std.proofs.Math.Seq.{drop-append-add, take-append_seam}
use Rattle.std.specs.Cmp.Lexicographic.{pointwise}
use Rattle.std.proofs.lemmas.Bool.Decides.{Decides-eqb}
use Rattle.std.proofs.lemmas.Slice.Eq.{ends_is}
use Rattle.osdp_frame.specs.Held.{decided}
use Rattle.osdp_tool_times.specs.Captures.{begun_after, item_at}
use Rattle.osdp_tool_times.proofs.Further.{begun_nothing}

-- what the last of some characters are tells whether all of them end so
ends_last : (front last end : List ℕ) → length end ≤ length last → ends_so (front ++ last) end ≡ ends_so last end
ends_last front last end h =
    let place : length (front ++ last) - length end ≡ length front + (length last - length end) = omega (arith, length-append front last) in
    ap (λ l. pointwise (λ a b. a == b) end l) (ap (λ n. drop n (front ++ last)) place ∙ drop-append-add front last (length last - length end))

way_in : (front : List ℕ) → way_length (front ++ codes "in") ≡ 2
way_in front =
    let t = front ++ codes "in" in
    ap (λ b. cond b 2 (cond (ends_so t (codes "out")) 3 (cond (ends_so t (codes "trace")) 5 0))) (ends_last front (codes "in") (codes "in") (omega arith))

way_out : (front : List ℕ) → way_length (front ++ codes "out") ≡ 3
way_out front =
    let t = front ++ codes "out" in
    ap (λ b. cond b 2 (cond (ends_so t (codes "out")) 3 (cond (ends_so t (codes "trace")) 5 0))) (ends_last front (codes "out") (codes "in") (omega arith))
    ∙ ap (λ b. cond b 3 (cond (ends_so t (codes "trace")) 5 0)) (ends_last front (codes "out") (codes "out") (omega arith))

way_trace : (front : List ℕ) → way_length (front ++ codes "trace") ≡ 5
way_trace front =
    let t = front ++ codes "trace" in
    ap (λ b. cond b 2 (cond (ends_so t (codes "out")) 3 (cond (ends_so t (codes "trace")) 5 0))) (ends_last front (codes "trace") (codes "in") (omega arith))
    ∙ ap (λ b. cond b 3 (cond (ends_so t (codes "trace")) 5 0)) (ends_last front (codes "trace") (codes "out") (omega arith))
    ∙ ap (λ b. cond b 5 0) (ends_last front (codes "trace") (codes "trace") (omega arith))

pub each_way : TellsEachWay
each_way stamp = (by (codes "in") 2 (way_in stamp) refl refl, by (codes "out") 3 (way_out stamp) refl refl, by (codes "trace") 5 (way_trace stamp) refl refl, refl)
  where
    by : (end : List ℕ) (way : ℕ) → way_length (stamp ++ end) ≡ way → length end ≡ way → (way == 0) ≡ false → moment_in (stamp ++ end) ≡ stamp_in stamp
    by end way is size some =
        let place : length (stamp ++ end) - way ≡ length stamp = omega (arith, length-append stamp end) in
        ap (λ n. before_way n (stamp ++ end)) is
        ∙ ap (λ b. cond b None (stamp_in (take (length (stamp ++ end) - way) (stamp ++ end)))) some
        ∙ ap (λ n. stamp_in (take n (stamp ++ end))) place ∙ ap stamp_in (take-append_seam stamp end)

-- the characters that count end in the same way
module _ (text stamp end : List ℕ) (way : ℕ) where
  one_way : ends_so text end ≡ true → kept end ≡ end → ((front : List ℕ) → way_length (front ++ end) ≡ way) → length end ≡ way → (way == 0) ≡ false
      → kept stamp ≡ kept (take (length text - way) text) → moment_in (kept text) ≡ stamp_in (kept stamp)
  one_way ends counts is size some same =
      let front = kept (take (length text - way) text) in
      let cut : text ≡ take (length text - way) text ++ end =
      (ends_is Decides-eqb text end (ends_so text end) refl).0 ends ∙ ap (λ n. take (length text - n) text ++ end) size in
      let whole : kept text ≡ front ++ end = ap kept cut ∙ kept-append (take (length text - way) text) end ∙ ap (λ l. front ++ l) counts in
      let place : length (front ++ end) - way ≡ length front = omega (arith, length-append front end) in
      ap moment_in whole ∙ ap (λ n. before_way n (front ++ end)) (is front)
      ∙ ap (λ b. cond b None (stamp_in (take (length (front ++ end) - way) (front ++ end)))) some
      ∙ ap (λ n. stamp_in (take n (front ++ end))) place ∙ ap stamp_in (take-append_seam front end ∙ sym same)

pub moment_of_comment : (text stamp : List ℕ) (way : ℕ) → way ≡ way_length text → (way == 0) ≡ false → kept stamp ≡ kept (take (length text - way) text)
    → moment_in (kept text) ≡ stamp_in (kept stamp)
moment_of_comment text stamp way is some same =
    elim (cases_Bool (ends_so text (codes "in"))) [
      | inl h ↦ by (codes "in") 2 (is ∙ ap (λ b. cond b 2 (cond out 3 (cond trace 5 0))) h) h refl way_in refl refl
      | inr hardly ↦ elim (cases_Bool (ends_so text (codes "out"))) [
        | inl h ↦ by (codes "out") 3 (is ∙ ap (λ b. cond b 2 (cond out 3 (cond trace 5 0))) hardly ∙ ap (λ b. cond b 3 (cond trace 5 0)) h) h refl way_out refl refl
        | inr other ↦ elim (cases_Bool (ends_so text (codes "trace"))) [
          | inl h ↦ by (codes "trace") 5
              (is ∙ ap (λ b. cond b 2 (cond out 3 (cond trace 5 0))) hardly ∙ ap (λ b. cond b 3 (cond trace 5 0)) other ∙ ap (λ b. cond b 5 0) h) h refl way_trace refl refl
          | inr none ↦ absurd (clash
              (is ∙ ap (λ b. cond b 2 (cond out 3 (cond trace 5 0))) hardly ∙ ap (λ b. cond b 3 (cond trace 5 0)) other ∙ ap (λ b. cond b 5 0) none))
        ]
      ]
    ]
  where
    out : Bool
    out = ends_so text (codes "out")

    trace : Bool
    trace = ends_so text (codes "trace")

    by : (end : List ℕ) (n : ℕ) → way ≡ n → ends_so text end ≡ true → kept end ≡ end → ((front : List ℕ) → way_length (front ++ end) ≡ n) → length end ≡ n
        → (n == 0) ≡ false → moment_in (kept text) ≡ stamp_in (kept stamp)
    by end n at ends counts ways size n_some =
        one_way text stamp end n ends counts ways size n_some (same ∙ ap (λ m. kept (take (length text - m) text)) at)

    clash : way ≡ 0 → ⊥
    clash none = let zero = ap (λ n. n == 0) none in absurd (differ (way == 0) some zero)
      where
        differ : (b : Bool) → b ≡ false → b ≡ true → ⊥
        differ b e f = cc

-- where the way isn't told, all of them are looked at
pub moment_of_all : (text stamp : List ℕ) (way : ℕ) → way ≡ 0 → kept stamp ≡ kept (take (length text - way) text) → moment_in (kept text) ≡ moment_in (kept stamp)
moment_of_all text stamp way none same =
    ap (λ l. moment_in (kept l)) (sym (take_all (length text - way) text (omega arith))) ∙ ap moment_in (sym same)

-- a comment says nothing, and nothing comes of it
start_none : (start : Option ℕ) → from_start start [] ≡ []
start_none None = refl
start_none (Some place) = drop_all place [] (omega arith)

run_none : (moment : Option ℕ) (times : List Times) → run_after [] moment times ≡ times
run_none moment times = ap (λ l. begun_after l moment times) (start_none (start_in [])) ∙ begun_nothing moment times

pub told_of_comment : (h : Heard) (text : List ℕ) → Nothing ≡ line_told h (35 ∷ text)
unfolding decided
told_of_comment h text = sym (ap (λ l. item_told (item_at l) h.moment h.times) (start_none (start_in [])))

abbrev heard : Option ℕ → List Times → Heard
heard moment times = record { moment = moment; times = times }

-- but its moment
pub after_comment : (h : Heard) (text : List ℕ) (told moment : Option ℕ) → moment ≡ moment_or told h.moment → told ≡ moment_in (kept text)
    → heard moment h.times ≡ after_line h (35 ∷ text)
after_comment h text told moment is told_is =
    ap (λ m. heard m h.times) (is ∙ ap (λ t. moment_or t h.moment) told_is) ∙ ap (λ t. heard (moment_or (moment_in (kept text)) h.moment) t) (sym (run_none h.moment h.times))
