-- What holds of the times that are printed.
use Rattle.osdp_tool_inputs.proofs.Common.{◌≡◌, ◌≤◌, ◌<◌, ◌==◌, ◌+◌, ◌-◌, ◌*◌, ◌&&◌, ℕ, nat_le, Bool, true, cond, List, [], ◌∷◌, ◌++◌, Some, drop, drop-append-add, eqb-true, get_or, length, length-append, run_of, refl, sym, subst, ap, ◌∙◌, arith, le-leb, is_decimal, StampsOneRun, TellsInOrder, TimesByRuns, AreInOrder}
use Rattle.std.specs.Fmt.{decimal}
use Rattle.std.specs.Char.{digit_value}
use Rattle.std.specs.Str.Parse.{AllDigits, digits_value_after}
use Rattle.std.proofs.lemmas.Str.{digit_value_digit}
use Rattle.osdp_tool_inputs.proofs.Stamps.{a_run, a_stamp, at_run}
use Rattle.std.proofs.lemmas.Str.Parse.{digit_from_value}
use Rattle.std.proofs.lemmas.Fmt.{decimal_is_IsNumeral}
use Rattle.std.specs.Prelude.{zero, suc}
use Rattle.std.proofs.lemmas.List.{get_or_append_left}
use Rattle.std.proofs.Math.Seq.{get_or-append_seam}
use Rattle.memchr.specs.Find.{first_of, is_byte, places}
use Rattle.memchr.proofs.lemmas.ValueLemmas.{IsFirstByte-value}
use Rattle.osdp_tool_inputs.specs.Heard.{after_colon}
use Rattle.osdp_tool_inputs.specs.Laws.{NamesPlaces}
use Rattle.osdp_tool_inputs.specs.Times.{number_after, stamp_at}

pub tells_in_order : TellsInOrder
tells_in_order start end [] told = tt
tells_in_order start end (moment ∷ moments) (next, tells, told) =
    (tells.not_before, subst (λ last. AreInOrder last moments) tells.last (tells_in_order next end moments told))

pub stamps_one_run : StampsOneRun
stamps_one_run stamp comment line lines comments goes digits = a_stamp stamp comment (line ∷ lines) comments ∙ a_run (drop 2 comment) line lines goes digits

-- digits, and then a space, are read as their number
digits_go : (n : ℕ) (ds rest : List ℕ) → AllDigits 10 ds → number_after n (ds ++ 32 ∷ rest) ≡ digits_value_after 10 n ds
unfolding number_after
digits_go n [] rest h = refl
digits_go n (c ∷ cs) rest h =
    let range = digit_from_value c h.0 in
    let value = digit_value_digit c range in
    let low = range.0 in
    let high = range.1 in
    let is : is_decimal c ≡ true = and_is (nat_le 48 c) (nat_le c 57) (le-leb 48 c low) (le-leb c 57 high) in
    let same : c - 48 ≡ digit_value c = omega arith in
    ap (λ t. cond t (number_after (n * 10 + (c - 48)) (cs ++ 32 ∷ rest)) n) is ∙ ap (λ d. number_after (n * 10 + d) (cs ++ 32 ∷ rest)) same
    ∙ digits_go (n * 10 + digit_value c) cs rest h.1
  where
    and_is : (a b : Bool) → a ≡ true → b ≡ true → (a && b) ≡ true
    and_is a b e f = cc

pub times_by_runs : TimesByRuns
times_by_runs run rest stamps h =
    let d = decimal_is_IsNumeral (run + 1) h in
    ap (λ n. stamp_at n stamps) (digits_go 0 (decimal (run + 1)) rest d.0.1 ∙ d.1) ∙ at_run run stamps

-- no digit is a colon
digits_low : (ds : List ℕ) (k : ℕ) → AllDigits 10 ds → k < length ds → get_or ds k 0 ≤ 57
digits_low [] k h below = absurd (omega arith)
digits_low (c ∷ cs) zero h below = (digit_from_value c h.0).1
digits_low (c ∷ cs) (suc k) h below = digits_low cs k h.1 (omega arith)

pub names_places : NamesPlaces
names_places run place rest few below =
    let number = decimal_is_IsNumeral run few in
    let named = decimal_is_IsNumeral place below in
    let after = decimal place ++ 32 ∷ rest in
    let line = decimal run ++ 58 ∷ after in
    let size = length-append (decimal run) (58 ∷ after) in
    let first : Some (length (decimal run)) ≡ first_of (places (is_byte 58) line) =
    IsFirstByte-value (is_byte 58) line (Some (length (decimal run))) (
      record {
        low = omega arith;
        high = omega (arith, size);
        before = λ k low under passes.
            let here = get_or_append_left (decimal run) (58 ∷ after) 0 k under in
            let colon = eqb-true (get_or line k 0) 58 passes in
            let digit = digits_low (decimal run) k number.0.1 under in
            omega (arith, here, colon, digit);
      },
      ap (λ b. b == 58) (get_or-append_seam (decimal run) 58 after 0),
    ) in
    ap (λ o. run_of (after_colon o line)) (sym first) ∙ ap run_of (drop-append-add (decimal run) (58 ∷ after) 1)
    ∙ digits_go 0 (decimal place) rest named.0.1 ∙ named.1
