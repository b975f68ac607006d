-- The rows of the table, one after the other.
use Rattle.osdp_tool_monitor.proofs.Common.{◌≡◌, ℕ, ◌+◌, ◌<◌, ◌≤◌, List, [], ◌∷◌, ◌++◌, length, get_or, drop, refl, sym, ◌∙◌, ap, append_assoc, append-nil, drop_all, drop_more, flat_map_more, Counts}
use Rattle.osdp_tool_monitor.specs.Counts.{column, columns, row_if, rows_from}

rows_cons : (k : ℕ) (c : Counts) (counts : List Counts) → rows_from k (c ∷ counts) ≡ row_if k c ++ rows_from (k + 1) counts
unfolding rows_from
rows_cons k c counts = refl

rows_nil : (k : ℕ) → rows_from k [] ≡ []
unfolding rows_from
rows_nil k = refl

pub rows_step : (before after all : List ℕ) (counts : List Counts) (k : ℕ) (c : Counts) → k < length counts → c ≡ get_or counts k c
    → after ≡ before ++ row_if k c → before ++ rows_from k (drop k counts) ≡ all → after ++ rows_from (k + 1) (drop (k + 1) counts) ≡ all
rows_step before after all counts k c within is wrote so_far =
    let split : drop k counts ≡ c ∷ drop (k + 1) counts = drop_more counts k c within ∙ ap (λ (x : Counts). x ∷ drop (k + 1) counts) (sym is) in
    let rest : rows_from k (drop k counts) ≡ row_if k c ++ rows_from (k + 1) (drop (k + 1) counts) = ap (rows_from k) split ∙ rows_cons k c (drop (k + 1) counts) in
    ap (λ x. x ++ rows_from (k + 1) (drop (k + 1) counts)) wrote ∙ append_assoc before (row_if k c) (rows_from (k + 1) (drop (k + 1) counts))
    ∙ ap (λ x. before ++ x) (sym rest) ∙ so_far

pub rows_end : (before all : List ℕ) (counts : List Counts) (k : ℕ) → length counts ≤ k → before ++ rows_from k (drop k counts) ≡ all → before ≡ all
rows_end before all counts k past so_far =
    sym (append-nil before) ∙ ap (λ x. before ++ x) (sym (ap (rows_from k) (drop_all k counts past) ∙ rows_nil k)) ∙ so_far

pub columns_more : (before : List ℕ) (numbers : List (ℕ × ℕ)) (x : ℕ × ℕ) → (before ++ columns numbers) ++ column x.0 x.1 ≡ before ++ columns (numbers ++ x ∷ [])
unfolding columns
columns_more before numbers x = flat_map_more (λ (y : ℕ × ℕ). column y.0 y.1) before numbers x
