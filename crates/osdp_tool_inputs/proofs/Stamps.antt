-- The stamps of runs, and the numbers of runs.
use Rattle.osdp_tool_inputs.proofs.Common.{◌≡◌, ℕ, ◌+◌, ◌-◌, ◌*◌, ◌≤◌, ◌<◌, ◌==◌, true, false, cond, List, [], ◌∷◌, ◌++◌, Bor, length, drop, refl, sym, ap, ◌∙◌, arith, append_assoc, append-nil, ne_eqb, at_drop_more, drop_all, get_or_past, map-append, is_decimal}
use Rattle.std.specs.Prelude.{get_or}
use Rattle.osdp_tool_inputs.specs.Times.{has_digits, is_stamp, no_stamp, number_after, parts, stamp_at, stamps_below}

-- ---- the number of a run

pub goes : (n b : ℕ) (line : List ℕ) → is_decimal b ≡ true → number_after n (b ∷ line) ≡ number_after (n * 10 + (b - 48)) line
unfolding number_after
goes n b line h = ap (λ t. cond t (number_after (n * 10 + (b - 48)) line) n) h

pub stops : (n b : ℕ) (line : List ℕ) → is_decimal b ≡ false → number_after n (b ∷ line) ≡ n
unfolding number_after
stops n b line h = ap (λ t. cond t (number_after (n * 10 + (b - 48)) line) n) h

pub ends : (n : ℕ) → number_after n [] ≡ n
unfolding number_after
ends n = refl

-- a number that goes on with digits grows
pub number_grows : (n : ℕ) (line : List ℕ) → n ≤ number_after n line
unfolding number_after
number_grows n [] = omega arith
number_grows n (b ∷ line) =
    let more = number_grows (n * 10 + (b - 48)) line in
    elim (is_decimal b) as (λ t. n ≤ cond t (number_after (n * 10 + (b - 48)) line) n)
    [ true ↦ omega arith | false ↦ omega arith ]

-- ---- the stamp of a run

pub at_run : (run : ℕ) (stamps : List (List ℕ)) → stamp_at (run + 1) stamps ≡ get_or stamps run no_stamp
at_run run stamps =
    let some : (run + 1 == 0) ≡ false = ne_eqb (run + 1) 0 (λ e. omega arith) in
    let place : run + 1 - 1 ≡ run = omega arith in
    ap (λ t. cond t no_stamp (get_or stamps (run + 1 - 1) no_stamp)) some ∙ ap (λ n. get_or stamps n no_stamp) place

-- no run has a number beyond the stamps
pub beyond : (run : ℕ) (stamps : List (List ℕ)) → length stamps < run → stamp_at run stamps ≡ no_stamp
beyond run stamps h =
    elim (run == 0) as (λ t. cond t no_stamp (get_or stamps (run - 1) no_stamp) ≡ no_stamp)
    [ true ↦ refl | false ↦ get_or_past stamps (run - 1) no_stamp (omega arith) ]

-- a number that goes on from here is greater too
pub too_great : (n b : ℕ) (line : List ℕ) (most : ℕ) → is_decimal b ≡ true → most < n * 10 + (b - 48) → most < number_after n (b ∷ line)
too_great n b line most h more =
    let grows = number_grows (n * 10 + (b - 48)) line in
    let same = goes n b line h in
    omega arith

-- ---- line by line

pub a_stamp : (stamp line : List ℕ) (lines : List (List ℕ)) → is_stamp line ≡ true → stamps_below stamp (line ∷ lines) ≡ stamps_below (drop 2 line) lines
unfolding stamps_below
a_stamp stamp line lines h =
    ap (λ t. cond t (stamps_below (drop 2 line) lines) (cond (has_digits line) (stamp ∷ stamps_below no_stamp lines) (stamps_below stamp lines))) h

pub no_digits : (stamp line : List ℕ) (lines : List (List ℕ)) → is_stamp line ≡ false → has_digits line ≡ false
    → stamps_below stamp (line ∷ lines) ≡ stamps_below stamp lines
unfolding stamps_below
no_digits stamp line lines h none =
    ap (λ t. cond t (stamps_below (drop 2 line) lines) (cond (has_digits line) (stamp ∷ stamps_below no_stamp lines) (stamps_below stamp lines))) h
    ∙ ap (λ t. cond t (stamp ∷ stamps_below no_stamp lines) (stamps_below stamp lines)) none

pub a_run : (stamp line : List ℕ) (lines : List (List ℕ)) → is_stamp line ≡ false → has_digits line ≡ true
    → stamps_below stamp (line ∷ lines) ≡ stamp ∷ stamps_below no_stamp lines
unfolding stamps_below
a_run stamp line lines h some =
    ap (λ t. cond t (stamps_below (drop 2 line) lines) (cond (has_digits line) (stamp ∷ stamps_below no_stamp lines) (stamps_below stamp lines))) h
    ∙ ap (λ t. cond t (stamp ∷ stamps_below no_stamp lines) (stamps_below stamp lines)) some

-- a stamp is added to those before it
pub added : (found new : List (Bor (List ℕ))) (held : Bor (List ℕ)) (line : List ℕ) (lines : List (List ℕ)) → new ≡ found ++ held ∷ []
    → is_stamp line ≡ false → has_digits line ≡ true
    → parts new ++ stamps_below no_stamp lines ≡ parts found ++ stamps_below held.now (line ∷ lines)
added found new held line lines e h some =
    ap (λ l. parts l ++ stamps_below no_stamp lines) e
    ∙ ap (λ l. l ++ stamps_below no_stamp lines) (map-append (λ (part : Bor (List ℕ)). part.now) found (held ∷ []))
    ∙ append_assoc (parts found) (held.now ∷ []) (stamps_below no_stamp lines)
    ∙ ap (λ l. parts found ++ l) (sym (a_run held.now line lines h some))

-- at the end nothing is to come
pub none_left : (found : List (Bor (List ℕ))) (stamp : List ℕ) (all : List (List ℕ)) → parts found ++ stamps_below stamp [] ≡ all → parts found ≡ all
unfolding stamps_below
none_left found stamp all e = sym (append-nil (parts found)) ∙ e

pub past_all : (found : List (Bor (List ℕ))) (stamp : List ℕ) (lines : List (Bor (List ℕ))) (at : ℕ) (all : List (List ℕ))
    → parts found ++ stamps_below stamp (parts (drop at lines)) ≡ all → length lines ≤ at → parts found ≡ all
past_all found stamp lines at all e h =
    none_left found stamp all (ap (λ l. parts found ++ stamps_below stamp (parts l)) (sym (drop_past lines at h)) ∙ e)
  where
    drop_past : (l : List (Bor (List ℕ))) (n : ℕ) → length l ≤ n → drop n l ≡ []
    drop_past l n h = drop_all n l h

-- ---- digit by digit

module _ (n at : ℕ) (line : List ℕ) (total : ℕ) (so_far : number_after n (drop at line) ≡ total) where
  pub step_end : length line ≤ at → n ≡ total
  step_end h = sym (ap (number_after n) (drop_all at line h) ∙ ends n) ∙ so_far

  module _ (below : at < length line) where
    head : number_after n (get_or line at 0 ∷ drop (at + 1) line) ≡ total
    head = sym (at_drop_more (number_after n) line at 0 below) ∙ so_far

    pub step_stops : is_decimal (get_or line at 0) ≡ false → n ≡ total
    step_stops h = sym (stops n (get_or line at 0) (drop (at + 1) line) h) ∙ head

    pub step_goes : (next : ℕ) → is_decimal (get_or line at 0) ≡ true → next ≡ n * 10 + (get_or line at 0 - 48) → number_after next (drop (at + 1) line) ≡ total
    step_goes next h e = ap (λ m. number_after m (drop (at + 1) line)) e ∙ sym (goes n (get_or line at 0) (drop (at + 1) line) h) ∙ head

    pub step_great : (most : ℕ) → is_decimal (get_or line at 0) ≡ true → most < n * 10 + (get_or line at 0 - 48) → most < total
    step_great most h more =
        let great = too_great n (get_or line at 0) (drop (at + 1) line) most h more in
        let same = head in
        omega arith
