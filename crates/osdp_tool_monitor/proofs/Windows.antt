-- The rows of a window, one after the other.
use Rattle.osdp_tool_monitor.proofs.Common.{◌≡◌, ℕ, ◌+◌, ◌<◌, ◌≤◌, List, [], ◌∷◌, ◌++◌, length, get_or, drop, refl, sym, ◌∙◌, ap, append_assoc, append-nil, drop_all, drop_more, Counts}
use Rattle.osdp_tool_monitor.specs.Windows.{window_row_if, window_rows}

rows_cons : (k : ℕ) (b c : Counts) (befores nows : List Counts)
    → window_rows k (b ∷ befores) (c ∷ nows) ≡ window_row_if k b c ++ window_rows (k + 1) befores nows
unfolding window_rows
rows_cons k b c befores nows = refl

rows_nil : (k : ℕ) (nows : List Counts) → window_rows k [] nows ≡ []
unfolding window_rows
rows_nil k nows = refl

pub rows_step : (before after all : List ℕ) (befores nows : List Counts) (k : ℕ) (b c : Counts) → k < length befores → k < length nows
    → b ≡ get_or befores k b → c ≡ get_or nows k c → after ≡ before ++ window_row_if k b c
    → before ++ window_rows k (drop k befores) (drop k nows) ≡ all → after ++ window_rows (k + 1) (drop (k + 1) befores) (drop (k + 1) nows) ≡ all
rows_step before after all befores nows k b c within_b within_c b_is c_is wrote so_far =
    let split_b : drop k befores ≡ b ∷ drop (k + 1) befores = drop_more befores k b within_b ∙ ap (λ (x : Counts). x ∷ drop (k + 1) befores) (sym b_is) in
    let split_c : drop k nows ≡ c ∷ drop (k + 1) nows = drop_more nows k c within_c ∙ ap (λ (x : Counts). x ∷ drop (k + 1) nows) (sym c_is) in
    let rest : window_rows k (drop k befores) (drop k nows) ≡ window_row_if k b c ++ window_rows (k + 1) (drop (k + 1) befores) (drop (k + 1) nows) =
    ap (λ l. window_rows k l (drop k nows)) split_b ∙ ap (λ l. window_rows k (b ∷ drop (k + 1) befores) l) split_c
    ∙ rows_cons k b c (drop (k + 1) befores) (drop (k + 1) nows) in
    ap (λ x. x ++ window_rows (k + 1) (drop (k + 1) befores) (drop (k + 1) nows)) wrote
    ∙ append_assoc before (window_row_if k b c) (window_rows (k + 1) (drop (k + 1) befores) (drop (k + 1) nows))
    ∙ ap (λ x. before ++ x) (sym rest) ∙ so_far

pub rows_end : (before all : List ℕ) (befores nows : List Counts) (k : ℕ) → length befores ≤ k
    → before ++ window_rows k (drop k befores) (drop k nows) ≡ all → before ≡ all
rows_end before all befores nows k past so_far =
    sym (append-nil before) ∙ ap (λ x. before ++ x) (sym (ap (λ l. window_rows k l (drop k nows)) (drop_all k befores past) ∙ rows_nil k (drop k nows))) ∙ so_far
